-- The first word of each run behind a given series of rolls, one for each batch of a plan: a list of words that gives these rolls. Over
-- every width L. Assumes nothing.
--
--   firsts          the words
--   firsts_count    one for each batch
--   firsts_in       each lies in its batch's run
--   firsts_below    a call can hold them, where the rolls are in range
--   firsts_give     with these words each batch gets its word, and the rolls are the given ones
use mathlib.Core.Path.{◌≡◌, refl, ap}
use mathlib.Core.List.{List, [], ◌∷◌}
use Prim.Native.Nat.{ℕ, zero, suc, ◌^◌}
use native.Mathlib.Nat.{le_refl, lt_of_le_of_lt, not-suc-le-zero, le_of_suc-le-suc}
use lib.Dec.{T}
use lib.ListN.{length, take, drop}
use Rattle.rules.specs.Order.{AllBelow}
use Rattle.rules.specs.Plan.{joined, RollablePlan}
use Rattle.rules.specs.Rolls.{in_range, first_word}
use Rattle.rules.specs.Run.{run}
use Rattle.rules.proofs.Range.{range_split}
use Rattle.rules.proofs.Reach.{words_in_runs}
use Rattle.rules.proofs.Runs.{InRuns, Rolled}
use Rattle.rules.proofs.Words.{first-last, last_fits}

module _ (L : ℕ) where
  pub firsts : List (List ℕ) → List ℕ → List ℕ
  firsts [] rs = []
  firsts (bs ∷ plan) rs = first_word L bs (take (length bs) rs) ∷ firsts plan (drop (length bs) rs)

  pub firsts_count : (plan : List (List ℕ)) (rs : List ℕ) → length (firsts plan rs) ≡ length plan
  unfolding firsts
  firsts_count [] rs = refl
  firsts_count (bs ∷ plan) rs = ap suc (firsts_count plan (drop (length bs) rs))

  pub firsts_in : (plan : List (List ℕ)) (rs : List ℕ) → RollablePlan (2 ^ L) plan → InRuns L plan rs (firsts plan rs)
  unfolding firsts
  firsts_in [] rs g = tt
  firsts_in (bs ∷ plan) rs (b, g) =
      (le_refl _, first-last L bs (take (length bs) rs) b.positive b.fits, firsts_in plan (drop (length bs) rs) g)

  pub firsts_below : (plan : List (List ℕ)) (rs : List ℕ) → RollablePlan (2 ^ L) plan → T (in_range (joined plan) rs) → AllBelow (2 ^ L) (firsts plan rs)
  unfolding firsts joined
  firsts_below [] rs g r i h = absurd (not-suc-le-zero h)
  firsts_below (bs ∷ plan) rs (b, g) r zero h =
      let part : List ℕ = take (length bs) rs in
      lt_of_le_of_lt (first-last L bs part b.positive b.fits)
      (last_fits L bs part b.positive b.fits (range_split bs (joined plan) rs r).0)
  firsts_below (bs ∷ plan) rs (b, g) r (suc i) h =
      firsts_below plan (drop (length bs) rs) g (range_split bs (joined plan) rs r).1 i (le_of_suc-le-suc h)

  pub firsts_give : (plan : List (List ℕ)) (rs : List ℕ) → RollablePlan (2 ^ L) plan → T (in_range (joined plan) rs)
      → Rolled L plan rs (run L plan (firsts plan rs) 0)
  firsts_give plan rs g r =
      (words_in_runs L plan rs (firsts plan rs) g r (firsts_count plan rs) (firsts_below plan rs g r)).1 (firsts_in plan rs g)
