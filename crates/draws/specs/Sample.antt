-- The sample: its refusals in the order of document 01, its plan, its reading, and what its caller sees.
--
--   sample_plan W n k                         the batches of a sample of k from n records
--   sample_refusals W words start n k room    the numbers that it can meet, each with its test
--   sampled W words start xs k                the sample, where nothing is refused
--   sample W words start xs k room            what comes of it: k of the records xs, with room for so many
--   seen_sample W words start xs k lent       what its caller sees: the answer, and the lent list of slots as it is left; the contract of
--                                             the code is the equation with this
use Rattle.std.specs.Prelude.{List, ◌∷◌, ◌++◌, ℕ, ◌+◌, ◌-◌, ltb, length}
use Rattle.rules.specs.Cut.{cut}
use Rattle.rules.specs.Limits.{max_records}
use Rattle.rules.specs.Reservoir.{countup}
use Rattle.rules.specs.Sample.{sample_with}
use Rattle.rules.specs.Shuffle.{shuffle_plan}
use Rattle.rules.specs.Width.{Width}
use Rattle.answers.specs.Outcome.{Outcome, Refusal, no, decide, outside, of_words, from_run, seen}
use Rattle.answers.specs.declared.answer.Answer.{Answer}

-- The bounds k + 1, .., n are cut as a list of bounds; then come the batches of a shuffle of k records. No batch has bounds of both.
abbrev pub sample_plan : Width → ℕ → ℕ → List (List ℕ)
sample_plan W n k = cut W.limit (countup (n - k) (k + 1)) ++ shuffle_plan W.size k

abbrev pub sample_refusals : Width → List ℕ → ℕ → ℕ → ℕ → ℕ → List Refusal
sample_refusals W words start n k room =
    no 2 (outside 0 max_records n) ∷ no 3 (outside 1 n k) ∷ no 6 (ltb room k) ∷ of_words W.bits (sample_plan W n k) words start

abbrev pub sampled : Width → List ℕ → ℕ → List ℕ → ℕ → Outcome
sampled W words start xs k = from_run W.bits (sample_plan W (length xs) k) words start (λ rs. sample_with k rs xs)

unfoldable pub sample : Width → List ℕ → ℕ → List ℕ → ℕ → ℕ → Outcome
sample W words start xs k room = decide (sample_refusals W words start (length xs) k room) (sampled W words start xs k)

abbrev pub seen_sample : Width → List ℕ → ℕ → List ℕ → ℕ → List ℕ → Answer × List ℕ
seen_sample W words start xs k lent = seen start lent (sample W words start xs k (length lent))
