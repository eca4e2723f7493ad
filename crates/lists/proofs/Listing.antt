-- A list of bounds as a plan: the batches from each of its places on. Assumes nothing.
--
--   batch_within, batch_part   the batch from a place on lies within the list, from its place on
--   batch_rest                 the plan from a place on is its batch and the plan behind it
--   unfolded_part              the rolls of its bounds, as they stand in the list
--   list_cut                   the cut that the code makes is the plan's
--   length_list                a list has as many rolls as bounds
--   none_behind                behind the last bound no batch is left
use mathlib.Core.Path.{◌≡◌, sym, ap, ◌∙◌}
use mathlib.Core.Bool.{true, false}
use mathlib.Core.List.{List, [], ◌∷◌, ◌++◌}
use Prim.Native.Nat.{ℕ, ◌+◌, ◌-◌, ◌^◌, ◌<◌, ◌≤◌}
use native.Mathlib.Omega.{arith}
use lib.ListN.{length, drop, get_or, length-drop, drop_of_length-le}
use lib.Seq.{drop-drop, get_or-drop}
use Rattle.rules.specs.Rolls.{rolls, holds_zero}
use Rattle.rules.specs.Run.{run, suffices}
use Rattle.rules.specs.Cut.{cut}
use Rattle.rules.specs.Plan.{Rollable}
use Rattle.rules.specs.Width.{w64}
use Rattle.rules.proofs.CutPlans.{Bounded, cut-plan}
use Rattle.rules.proofs.Joining.{length_run}
use Rattle.rules.proofs.PinnedCut.{cut_pinned}
use Rattle.rules.proofs.Products.{zero_nowhere}
use Rattle.rules.proofs.Running.{rolled_by}
use Rattle.arithmetic.specs.Products.{unwrap}
use Rattle.arithmetic.proofs.Limits.{unwrap_wrapped}
use Rattle.rolls.specs.Plan.{begins, BatchAt}
use Rattle.rolls.specs.declared.plan.Cut.{Cut}
use Rattle.lists.specs.Inner.{cut_at}
use Rattle.lists.proofs.Cutting.{part, Begun, begun}

-- the batches from a place on
abbrev batches : List ℕ → ℕ → List (List ℕ)
batches bs at = cut (2 ^ 56) (drop at bs)

module _ (bs : List ℕ) (at : ℕ) (h : at < length bs) where
  starts : Begun (2 ^ 56) (drop at bs) (begins (batches bs at))
  starts = begun (2 ^ 56) (drop at bs) (rw length-drop (omega arith))

  pub batch_within : at + length (begins (batches bs at)) ≤ length bs
  batch_within = omega (arith, rw length-drop at starts.within)

  pub batch_rest : batches bs at ≡ begins (batches bs at) ∷ batches bs (at + length (begins (batches bs at)))
  batch_rest = starts.rest ∙ ap (λ (l : List ℕ). begins (batches bs at) ∷ cut (2 ^ 56) l) (drop-drop (length (begins (batches bs at))) at bs)

  module _ (end : ℕ) (e : end ≡ at + length (begins (batches bs at))) where
    batch_size : end - at ≡ length (begins (batches bs at))
    batch_size = omega (arith, e)

    pub batch_part : part bs at end ≡ begins (batches bs at)
    batch_part = rw batch_size (sym starts.front)

    -- the rolls of the bounds from the place up to its end, in front of what stood there
    pub unfolded_part : (word : ℕ) (lent out : List ℕ) → out ≡ rolls 64 (part bs at end) word ++ drop (length (part bs at end)) lent
        → out ≡ rolls 64 (begins (batches bs at)) word ++ drop (end - at) lent
    unfolded_part word lent out f = rw batch_size (rw batch_part at f)

  -- where no bound is 0 and each is a word, the batch can be rolled
  rollable : holds_zero bs ≡ false → ((i : ℕ) → i < length bs → get_or bs i 0 < 2 ^ 64) → Rollable (2 ^ 64) (begins (batches bs at))
  rollable z fits = (rw batch_rest at (cut-plan (2 ^ 56) (2 ^ 64) (omega arith) (drop at bs) each).rollable).0
    where
      each : Bounded (2 ^ 64) (drop at bs)
      each i k =
          let j : at + i < length bs = omega (arith, rw length-drop at k) in
          rw get_or-drop (zero_nowhere bs (at + i) z j, omega (arith, fits (at + i) j))

  pub list_cut : holds_zero bs ≡ false → ((i : ℕ) → i < length bs → get_or bs i 0 < 2 ^ 64) → (c : Cut) → c ≡ cut_at w64 bs at
      → BatchAt (λ (place : ℕ). cut (2 ^ 56) (drop place bs)) (length bs) at c
  list_cut z fits c e =
      let end : c.end ≡ at + length (begins (batches bs at)) = ap (λ (x : Cut). x.end) e in
      let r = rollable z fits in
      record {
        rest = rw end batch_rest;
        end = end;
        some = starts.some;
        within = rw end batch_within;
        product = ap (λ (x : Cut). unwrap 64 x.product.wrapped) e ∙ unwrap_wrapped 64 _ r.positive r.fits;
      }

pub length_list : (L limit : ℕ) (bs words : List ℕ) (start : ℕ) → suffices (run L (cut limit bs) words start) ≡ true
    → length (rolled_by L (cut limit bs) (run L (cut limit bs) words start)) ≡ length bs
length_list L limit bs words start e = length_run L (cut limit bs) words start e ∙ ap length (cut_pinned.holds limit bs).same

-- behind the last bound no batch is left
pub none_behind : (limit : ℕ) (bs : List ℕ) (at : ℕ) → length bs ≤ at → cut limit (drop at bs) ≡ []
unfolding cut
none_behind limit bs at h = rw (drop_of_length-le bs h)
