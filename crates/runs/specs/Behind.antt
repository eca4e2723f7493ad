-- The words behind rolls: its refusals in the order of document 01, its answer, and what its caller sees.
--
--   behind_refusals W bs rs    the numbers that it can meet, each with its test
--   words_behind W bs rs       what comes of it: the first and the last word
--   seen_behind W bs rs        what its caller sees; the contract of the code is the equation with this
use Rattle.std.specs.Prelude.{ℕ, not, List, [], ◌∷◌, ◌++◌}
use Rattle.rules.specs.Rolls.{in_range, first_word, last_word}
use Rattle.rules.specs.Width.{Width}
use Rattle.answers.specs.Outcome.{Outcome, done, Refusal, no, decide, of_bounds, shown_behind}
use Rattle.answers.specs.declared.answer.Behind.{Behind}

abbrev pub behind_refusals : Width → List ℕ → List ℕ → List Refusal
behind_refusals W bs rs = of_bounds W bs ++ no 7 (not (in_range bs rs)) ∷ []

unfoldable pub words_behind : Width → List ℕ → List ℕ → Outcome
words_behind W bs rs = decide (behind_refusals W bs rs) (done (first_word W.bits bs rs ∷ last_word W.bits bs rs ∷ []) [])

abbrev pub seen_behind : Width → List ℕ → List ℕ → Behind
seen_behind W bs rs = shown_behind (words_behind W bs rs)
