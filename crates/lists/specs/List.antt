-- A list of bounds: its refusals in the order of document 01, its plan, its reading, and what its caller sees.
--
--   list_refusals W words start bs room    the numbers that it can meet, each with its test
--   roll_list W words start bs room        what comes of it, with room for so many rolls
--   seen_list W words start bs lent        what its caller sees: the answer, and the lent list of rolls as it is left; the contract of the
--                                          code is the equation with this
use Rattle.std.specs.Prelude.{List, ◌∷◌, ℕ, ltb, length}
use Rattle.rules.specs.Cut.{cut}
use Rattle.rules.specs.Limits.{max_bounds}
use Rattle.rules.specs.Rolls.{holds_zero}
use Rattle.rules.specs.Width.{Width}
use Rattle.answers.specs.Outcome.{Outcome, Refusal, no, decide, outside, of_words, from_run, seen}
use Rattle.answers.specs.declared.answer.Answer.{Answer}

abbrev pub list_refusals : Width → List ℕ → ℕ → List ℕ → ℕ → List Refusal
list_refusals W words start bs room =
    no 2 (outside 0 max_bounds (length bs)) ∷ no 4 (holds_zero bs) ∷ no 6 (ltb room (length bs)) ∷ of_words W.bits (cut W.limit bs) words start

unfoldable pub roll_list : Width → List ℕ → ℕ → List ℕ → ℕ → Outcome
roll_list W words start bs room = decide (list_refusals W words start bs room) (from_run W.bits (cut W.limit bs) words start (λ rs. rs))

abbrev pub seen_list : Width → List ℕ → ℕ → List ℕ → List ℕ → Answer × List ℕ
seen_list W words start bs lent = seen start lent (roll_list W words start bs (length lent))
