-- The words behind rolls, by what is found of them. Assumes nothing.
--
--   behind-refused    bounds that are refused
--   behind_misfit     number 7
--   behind_found      the run of words, where none of them applies
use Rattle.std.specs.Prelude.{Ok}
use Rattle.std.proofs.Common.{◌≡◌, ℕ, true, false, not, List, [], ◌∷◌, sym, ap, ◌∙◌}
use Rattle.rules.specs.Rolls.{product, value, in_range, first_word, last_word}
use Rattle.rules.specs.Width.{Width}
use Rattle.answers.specs.Outcome.{Outcome, refused, done, no, decide, of_bounds, shown_behind}
use Rattle.answers.specs.Results.{behind_of}
use Rattle.answers.specs.declared.answer.Behind.{Behind}
use Rattle.answers.proofs.Deciding.{decide-append, decide_here, decide_past, decide_none}
use Rattle.runs.specs.Behind.{words_behind}
use Rattle.runs.specs.Inner.{run_behind_rolls}

module _ (W : Width) (bs rs : List ℕ) where
  abbrev answer : Outcome
  answer = done (first_word W.bits bs rs ∷ last_word W.bits bs rs ∷ []) []

  past_bounds : words_behind W bs rs ≡ decide (of_bounds W bs) (decide (no 7 (not (in_range bs rs)) ∷ []) answer)
  unfolding words_behind
  past_bounds = decide-append (of_bounds W bs) _ _

  pub behind-refused : (n k : ℕ) → ((o : Outcome) → decide (of_bounds W bs) o ≡ refused n k) → (a : Behind) → a ≡ shown_behind (refused n 0)
      → a ≡ shown_behind (words_behind W bs rs)
  behind-refused n k r a e = e ∙ ap shown_behind (sym (past_bounds ∙ r _))

  module _ (p : (o : Outcome) → decide (of_bounds W bs) o ≡ o) where
    pub behind_misfit : in_range bs rs ≡ false → words_behind W bs rs ≡ refused 7 0
    behind_misfit e = past_bounds ∙ p _ ∙ decide_here _ _ _ (ap not e)

    pub behind_found : in_range bs rs ≡ true → shown_behind (words_behind W bs rs) ≡ behind_of (Ok (run_behind_rolls W.bits (product bs) (value bs rs)))
    behind_found e = ap shown_behind (past_bounds ∙ p _ ∙ decide_past _ _ _ (ap not e) ∙ decide_none answer)
