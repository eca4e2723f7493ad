-- The shuffle: its refusals in the order of document 01, its plan, its reading, and what its caller sees.
--
--   shuffle_refusals W words start n    the numbers that it can meet, each with its test
--   shuffle W words start xs            what comes of it: the records xs in a drawn order
--   seen_shuffle W words start xs       what its caller sees: the answer, and the lent list of records as it is left; the contract of the
--                                       code is the equation with this
use Rattle.std.specs.Prelude.{List, ◌∷◌, ℕ, length}
use Rattle.rules.specs.Limits.{max_records}
use Rattle.rules.specs.Shuffle.{shuffle_with, shuffle_plan}
use Rattle.rules.specs.Width.{Width}
use Rattle.answers.specs.Outcome.{Outcome, Refusal, no, decide, outside, of_words, from_run, seen}
use Rattle.answers.specs.declared.answer.Answer.{Answer}

abbrev pub shuffle_refusals : Width → List ℕ → ℕ → ℕ → List Refusal
shuffle_refusals W words start n = no 2 (outside 0 max_records n) ∷ of_words W.bits (shuffle_plan W.size n) words start

unfoldable pub shuffle : Width → List ℕ → ℕ → List ℕ → Outcome
shuffle W words start xs =
    let n : ℕ = length xs in
    decide (shuffle_refusals W words start n) (from_run W.bits (shuffle_plan W.size n) words start (λ rs. shuffle_with n rs xs))

abbrev pub seen_shuffle : Width → List ℕ → ℕ → List ℕ → Answer × List ℕ
seen_shuffle W words start xs = seen start xs (shuffle W words start xs)
