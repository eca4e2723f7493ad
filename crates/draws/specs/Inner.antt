-- The batches of a sample by places, and what rolling it comes to, which its reading then makes records of. No contract of a public operation
-- cites them.
--
--   batches_from bs k at               the batches from a place on, where a place counts the bounds before it: with the bounds bs of the reservoir
--                                      first, and then those of a shuffle of k
--   rolled_sample W words start n k    the rolls of a sample of k from n records, one for each place from k on, then those of the final shuffle;
--                                      refused by 10 where a batch gets no word
use Rattle.std.specs.Prelude.{List, [], ◌∷◌, ◌++◌, ℕ, ◌-◌, ◌^◌, length, drop}
use Rattle.rules.specs.Cut.{cut}
use Rattle.rules.specs.Run.{run}
use Rattle.rules.specs.Shuffle.{shuffle_plan}
use Rattle.rules.specs.Width.{Width, size64}
use Rattle.answers.specs.Outcome.{Outcome, no_word, decide, from_run}
use Rattle.draws.specs.Sample.{sample_plan}

abbrev pub batches_from : List ℕ → ℕ → ℕ → List (List ℕ)
batches_from bs k at = cut (2 ^ 56) (drop at bs) ++ shuffle_plan size64 (k - (at - length bs))

abbrev pub rolled_sample : Width → List ℕ → ℕ → ℕ → ℕ → Outcome
rolled_sample W words start n k =
    let plan : List (List ℕ) = sample_plan W n k in
    decide (no_word (run W.bits plan words start) ∷ []) (from_run W.bits plan words start (λ rolls. rolls))
