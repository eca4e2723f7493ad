-- One batch: its refusals in the order of document 01, its plan, its reading, and what its caller sees.
--
--   batch_refusals W words start bs    the numbers that it can meet, each with its test
--   roll_batch W words start bs        what comes of it
--   seen_batch W words start bs        what its caller sees; the contract of the code is the equation with this
use Rattle.std.specs.Prelude.{List, [], ◌∷◌, ◌++◌, ℕ}
use Rattle.rules.specs.Width.{Width}
use Rattle.answers.specs.Outcome.{Outcome, Refusal, decide, of_bounds, of_words, from_run, shown_batch}
use Rattle.answers.specs.declared.answer.Batch.{Batch}

abbrev pub batch_refusals : Width → List ℕ → ℕ → List ℕ → List Refusal
batch_refusals W words start bs = of_bounds W bs ++ of_words W.bits (bs ∷ []) words start

unfoldable pub roll_batch : Width → List ℕ → ℕ → List ℕ → Outcome
roll_batch W words start bs = decide (batch_refusals W words start bs) (from_run W.bits (bs ∷ []) words start (λ rs. rs))

abbrev pub seen_batch : Width → List ℕ → ℕ → List ℕ → Batch
seen_batch W words start bs = shown_batch start (roll_batch W words start bs)
