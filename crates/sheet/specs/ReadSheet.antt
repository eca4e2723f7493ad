-- Reading a draw sheet: its refusals in their order, what it holds, and what its caller sees. Whether the words suffice for a draw is not
-- looked at.
--
--   unreadable s                           numbers 1 and 3, which any operation on a sheet can meet before all others
--   read_refusals s wordRoom recordRoom    the numbers that reading can meet, each with its test
--   drawn_by s next rejected               the answer of an operation on a sheet: where its words end, how many it rejected, and the six numbers
--   shown_drawn s outcome                  the answer that the caller gets
--   seen_read s words records              what its caller sees: the answer, and the two lent lists as they are left, of words and of records;
--                                          the contract of the code is the equation with this
use Rattle.std.specs.Prelude.{not, ◌||◌, List, [], ◌∷◌, ◌++◌, ℕ, ltb, length}
use Rattle.rules.specs.Run.{next, rejected}
use Rattle.answers.specs.Outcome.{Outcome, refused, done, Refusal, no, decide, left}
use Rattle.sheet.specs.Sheet.{numbers, words_of, records_of, is_sound_sheet, is_wrong_size}
use Rattle.sheet.specs.declared.drawn.Drawn.{Drawn}

abbrev pub unreadable : List ℕ → List Refusal
unreadable s = no 1 (not (is_sound_sheet s)) ∷ no 3 (is_wrong_size (numbers s).records (numbers s).k (numbers s).w) ∷ []

abbrev pub read_refusals : List ℕ → ℕ → ℕ → List Refusal
read_refusals s wordRoom recordRoom = unreadable s ++ no 6 (ltb wordRoom (numbers s).words || ltb recordRoom (numbers s).records) ∷ []

abbrev pub drawn_by : List ℕ → ℕ → ℕ → Drawn
drawn_by s next rejected = record {
  no = 0;
  next = next;
  rejected = rejected;
  batch = 0;
  words = (numbers s).words;
  words_at = (numbers s).words_at;
  records = (numbers s).records;
  records_at = (numbers s).records_at;
  k = (numbers s).k;
  w = (numbers s).w;
}

-- On a refusal the six numbers are zeros too.
abbrev pub shown_drawn : List ℕ → Outcome → Drawn
shown_drawn s (refused n batch) =
    record { no = n; next = 0; rejected = 0; batch = batch; words = 0; words_at = 0; records = 0; records_at = 0; k = 0; w = 0 }
shown_drawn s (done values ts) = drawn_by s (next 0 ts) (rejected 0 ts)

abbrev pub seen_read : List ℕ → List ℕ → List ℕ → Drawn × (List ℕ × List ℕ)
seen_read s words records =
    let of : List ℕ → Outcome = λ values. decide (read_refusals s (length words) (length records)) (done values []) in
    (shown_drawn s (of []), (left words (of (words_of s)), left records (of (records_of s))))
