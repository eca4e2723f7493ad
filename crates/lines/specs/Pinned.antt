-- What pins the text that is printed: sentences that tell its definitions from other definitions of their shape.
--
--   sheet52          the sheet of 52 bytes of document 01: header 2, 24, 3, 40, 1, 1; words 0, 1; records 101, 205, 309
--   text52           `draw 3 1 2 1`, line feed, `1 309 early`, line feed
--   sheet64          a sheet of 64 bytes: header 3, 24, 4, 48, 3, 2; words 2^64 - 1, 1, 2^64 - 1; records 4294967295, 0, 1000000000, 7
--   text64           `draw 4 3 2 0`, `1 0 early`, `2 1000000000 early`, `3 4294967295 late`, with a line feed after each
--   text0            `refused 1 0`, line feed
--   SlotsPinned      each slot has its line, one behind the other
--   OutputPinned     of the output: the three examples, of which the first has no bytes; a draw prints its first line and the lines of its
--                    k slots; a refusal prints its line and nothing else; number 6 is never printed; input longer than 65,535 bytes is
--                    refused 1; of input longer than 65,536 bytes the first 65,536 decide
use Rattle.std.specs.Prelude.{◌≡◌, List, [], ◌∷◌, ◌++◌, ℕ, ◌+◌, ◌<◌, length, take, replicate}
use Rattle.rules.specs.Width.{w64}
use Rattle.rules.specs.Run.{Taken, next, rejected}
use Rattle.answers.specs.Outcome.{refused, done, left}
use Rattle.sheet.specs.Sheet.{numbers}
use Rattle.sheet.specs.RunSheet.{run_sheet}
use Rattle.lines.specs.Text.{draw_line_of, slot_line_of, refused_line_of, slot_lines, room, output}

abbrev pub sheet52 : List ℕ
sheet52 =
    2 ∷ 0 ∷ 0 ∷ 0 ∷ 24 ∷ 0 ∷ 0 ∷ 0 ∷ 3 ∷ 0 ∷ 0 ∷ 0 ∷ 40 ∷ 0 ∷ 0 ∷ 0 ∷ 1 ∷ 0 ∷ 0 ∷ 0 ∷ 1 ∷ 0 ∷ 0 ∷ 0
    ∷ 0 ∷ 0 ∷ 0 ∷ 0 ∷ 0 ∷ 0 ∷ 0 ∷ 0 ∷ 1 ∷ 0 ∷ 0 ∷ 0 ∷ 0 ∷ 0 ∷ 0 ∷ 0
    ∷ 101 ∷ 0 ∷ 0 ∷ 0 ∷ 205 ∷ 0 ∷ 0 ∷ 0 ∷ 53 ∷ 1 ∷ 0 ∷ 0 ∷ []

abbrev pub text52 : List ℕ
text52 =
    100 ∷ 114 ∷ 97 ∷ 119 ∷ 32 ∷ 51 ∷ 32 ∷ 49 ∷ 32 ∷ 50 ∷ 32 ∷ 49 ∷ 10
    ∷ 49 ∷ 32 ∷ 51 ∷ 48 ∷ 57 ∷ 32 ∷ 101 ∷ 97 ∷ 114 ∷ 108 ∷ 121 ∷ 10 ∷ []

-- The first word, the last that there is, leaves the first records in their slots; word 1 shuffles the slots 0, 1, 2 to 1, 2, 0; the third is not
-- used.
abbrev pub sheet64 : List ℕ
sheet64 =
    3 ∷ 0 ∷ 0 ∷ 0 ∷ 24 ∷ 0 ∷ 0 ∷ 0 ∷ 4 ∷ 0 ∷ 0 ∷ 0 ∷ 48 ∷ 0 ∷ 0 ∷ 0 ∷ 3 ∷ 0 ∷ 0 ∷ 0 ∷ 2 ∷ 0 ∷ 0 ∷ 0
    ∷ replicate 8 255
    ++ 1
    ∷ replicate 7 0
    ++ replicate 8 255
    ++ 255 ∷ 255 ∷ 255 ∷ 255 ∷ 0 ∷ 0 ∷ 0 ∷ 0 ∷ 0 ∷ 202 ∷ 154 ∷ 59 ∷ 7 ∷ 0 ∷ 0 ∷ 0 ∷ []

abbrev pub text64 : List ℕ
text64 =
    100 ∷ 114 ∷ 97 ∷ 119 ∷ 32 ∷ 52 ∷ 32 ∷ 51 ∷ 32 ∷ 50 ∷ 32 ∷ 48 ∷ 10
    ∷ 49 ∷ 32 ∷ 48 ∷ 32 ∷ 101 ∷ 97 ∷ 114 ∷ 108 ∷ 121 ∷ 10
    ∷ 50 ∷ 32 ∷ 49 ∷ 48 ∷ 48 ∷ 48 ∷ 48 ∷ 48 ∷ 48 ∷ 48 ∷ 48 ∷ 48 ∷ 32 ∷ 101 ∷ 97 ∷ 114 ∷ 108 ∷ 121 ∷ 10
    ∷ 51 ∷ 32 ∷ 52 ∷ 50 ∷ 57 ∷ 52 ∷ 57 ∷ 54 ∷ 55 ∷ 50 ∷ 57 ∷ 53 ∷ 32 ∷ 108 ∷ 97 ∷ 116 ∷ 101 ∷ 10 ∷ []

abbrev pub text0 : List ℕ
text0 = 114 ∷ 101 ∷ 102 ∷ 117 ∷ 115 ∷ 101 ∷ 100 ∷ 32 ∷ 49 ∷ 32 ∷ 48 ∷ 10 ∷ []

pub record SlotsPinned : Type 0 where
  pub one : (w slot x : ℕ) → slot_lines w slot (x ∷ []) ≡ slot_line_of w slot x
  pub behind : (w slot : ℕ) (xs ys : List ℕ) → slot_lines w slot (xs ++ ys) ≡ slot_lines w slot xs ++ slot_lines w (slot + length xs) ys

pub record OutputPinned : Type 0 where
  pub example0 : output [] ≡ text0
  pub example52 : output sheet52 ≡ text52
  pub example64 : output sheet64 ≡ text64
  pub draw : (s values : List ℕ) (ts : List Taken) → run_sheet w64 s room ≡ done values ts
      → output s
      ≡ draw_line_of (numbers s).records (numbers s).k (next 0 ts) (rejected 0 ts)
      ++ slot_lines (numbers s).w 0 (take (numbers s).k (left (replicate room 0) (done values ts)))
  pub refusal : (s : List ℕ) (number batch : ℕ) → run_sheet w64 s room ≡ refused number batch → output s ≡ refused_line_of number batch
  pub never6 : (s : List ℕ) (batch : ℕ) → run_sheet w64 s room ≡ refused 6 batch → ⊥
  pub too_long : (s : List ℕ) → 65535 < length s → output s ≡ refused_line_of 1 0
  pub long : (s : List ℕ) → output (take 65536 s) ≡ output s
