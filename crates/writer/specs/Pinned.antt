-- What pins the writer of a draw sheet: sentences that tell its definitions from other definitions of their shape. What it promises, and what
-- is read from its sheets, stands in promises/specs.
--
--   sheet52        document 01's sheet: header 2, 24, 3, 40, 1, 1; words 0, 1; records 101, 205, 309
--   WritePinned    the statement: that sheet; how long a sheet is; the answer, field by field
use Rattle.std.specs.Prelude.{◌≡◌, List, [], ◌∷◌, ℕ, ◌+◌, ◌*◌, length}
use Rattle.rules.specs.Run.{Taken}
use Rattle.answers.specs.Outcome.{refused, done}
use Rattle.writer.specs.WriteSheet.{written, shown_written}

abbrev pub sheet52 : List ℕ
sheet52 =
    2 ∷ 0 ∷ 0 ∷ 0 ∷ 24 ∷ 0 ∷ 0 ∷ 0 ∷ 3 ∷ 0 ∷ 0 ∷ 0 ∷ 40 ∷ 0 ∷ 0 ∷ 0 ∷ 1 ∷ 0 ∷ 0 ∷ 0 ∷ 1 ∷ 0 ∷ 0 ∷ 0 ∷ 0 ∷ 0 ∷ 0 ∷ 0 ∷ 0 ∷ 0 ∷ 0 ∷ 0 ∷ 1 ∷ 0
    ∷ 0 ∷ 0 ∷ 0 ∷ 0 ∷ 0 ∷ 0 ∷ 101 ∷ 0 ∷ 0 ∷ 0 ∷ 205 ∷ 0 ∷ 0 ∷ 0 ∷ 53 ∷ 1 ∷ 0 ∷ 0 ∷ []

pub record WritePinned : Type 0 where
  pub example : written (0 ∷ 1 ∷ []) (101 ∷ 205 ∷ 309 ∷ []) 1 1 ≡ sheet52
  -- "24 + 8 x words + 4 x records"
  pub long : (ws xs : List ℕ) (k w : ℕ) → length (written ws xs k w) ≡ 24 + 8 * length ws + 4 * length xs
  pub none : (n batch : ℕ) → shown_written (refused n batch) ≡ record { no = n; next = 0; rejected = 0; length = 0 }
  pub whole : (values : List ℕ) (ts : List Taken) → shown_written (done values ts) ≡ record { no = 0; next = 0; rejected = 0; length = length values }
