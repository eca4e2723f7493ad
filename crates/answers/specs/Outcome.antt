-- What comes of an operation, for every operation alike: a refusal, or its values; and what the caller then sees.
--
--   Outcome                                refused by a number, with the batch that got no word (0 for numbers other than 10); or done: the
--                                          values, and the trace, which is the word that each batch took and its place
--   Refusal                                a number, the batch that it names, and whether it applies
--   no n test                              the number n, which applies where the test holds
--   no_word ran                            number 10, which applies where the words ended before some batch had an accepted word
--   decide refusals outcome                the first refusal that applies; where none does, the outcome
--   outside low high n                     whether n is below low or above high
--   of_bounds W bs                         numbers 2, 4 and 5, of an operation on the bounds of one batch
--   of_words L plan words start            numbers 9 and 10, of an operation that takes words from the start on for the batches of a plan
--   from_run L plan words start reading    what comes of the run of a plan: its rolls by their reading, and its trace
--   shown start outcome                    the answer that the caller gets
--   shown_batch start outcome              the same, of one batch
--   shown_behind outcome                   the same, of the words behind rolls
--   left before outcome                    what a lent list then holds, which held before
--   seen start lent outcome                the answer, and beside it the lent list as it is left
use Rattle.std.specs.Prelude.{Bool, true, false, ◌||◌, List, [], ◌∷◌, ◌++◌, ℕ, ◌-◌, ◌^◌, ltb, length, drop, get_or, replicate}
use Rattle.rules.specs.Limits.{max_batch}
use Rattle.rules.specs.Width.{Width}
use Rattle.rules.specs.Rolls.{product, holds_zero}
use Rattle.rules.specs.Run.{Taken, Run, ran, short, run, trace, rolls_of, next, rejected}
use Rattle.answers.specs.declared.answer.Answer.{Answer}
use Rattle.answers.specs.declared.answer.Batch.{Batch}
use Rattle.answers.specs.declared.answer.Behind.{Behind}

pub data Outcome : Type 0 where
  refused : ℕ → ℕ → Outcome
  done : List ℕ → List Taken → Outcome

pub record Refusal : Type 0 where
  pub number : ℕ
  pub batch : ℕ
  pub applies : Bool

abbrev pub no : ℕ → Bool → Refusal
no n test = record { number = n; batch = 0; applies = test }

abbrev pub no_word : Run → Refusal
no_word (ran ts) = no 10 false
no_word (short batch) = record { number = 10; batch = batch; applies = true }

-- The lowest number that applies is given, and none is given otherwise.
unfoldable pub decide : List Refusal → Outcome → Outcome
decide [] o = o
decide (r ∷ rs) o = elim r.applies [ true ↦ refused r.number r.batch | false ↦ decide rs o ]

abbrev pub outside : ℕ → ℕ → ℕ → Bool
outside low high n = ltb n low || ltb high n

abbrev pub of_bounds : Width → List ℕ → List Refusal
of_bounds W bs = no 2 (outside 1 max_batch (length bs)) ∷ no 4 (holds_zero bs) ∷ no 5 (ltb (2 ^ W.bits) (product bs)) ∷ []

abbrev pub of_words : ℕ → List (List ℕ) → List ℕ → ℕ → List Refusal
of_words L plan words start = no 9 (ltb (length words) start) ∷ no_word (run L plan words start) ∷ []

abbrev pub from_run : ℕ → List (List ℕ) → List ℕ → ℕ → (List ℕ → List ℕ) → Outcome
from_run L plan words start reading = let ts : List Taken = trace (run L plan words start) in done (reading (rolls_of L plan ts)) ts

-- ---- what the caller sees

-- A refusal returns its number, the start place as given, and zeros elsewhere, except that 10 also names the batch. Success returns the
-- place after the last word used (the start where none was) and the count of rejected words.
abbrev pub shown : ℕ → Outcome → Answer
shown start (refused n batch) = record { no = n; next = start; rejected = 0; batch = batch }
shown start (done values ts) = record { no = 0; next = next start ts; rejected = rejected start ts; batch = 0 }

-- sixteen rolls by value, places past the count 0
abbrev pub shown_batch : ℕ → Outcome → Batch
shown_batch start (refused n batch) = record { no = n; next = start; rejected = 0; count = 0; rolls = replicate max_batch 0 }
shown_batch start (done values ts) = record {
  no = 0;
  next = next start ts;
  rejected = rejected start ts;
  count = length values;
  rolls = values ++ replicate (max_batch - length values) 0;
}

-- the values are the first and the last word; the operation uses no words, and gives 0 for next and rejected
abbrev pub shown_behind : Outcome → Behind
shown_behind (refused n batch) = record { no = n; next = 0; rejected = 0; first = 0; last = 0 }
shown_behind (done values ts) = record { no = 0; next = 0; rejected = 0; first = get_or values 0 0; last = get_or values 1 0 }

-- On refusal the list is exactly what it was; else the values stand in front and the rest is as it was.
abbrev pub left : List ℕ → Outcome → List ℕ
left before (refused n batch) = before
left before (done values ts) = values ++ drop (length values) before

abbrev pub seen : ℕ → List ℕ → Outcome → Answer × List ℕ
seen start lent o = (shown start o, left lent o)
