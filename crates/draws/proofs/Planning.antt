-- The batches of a sample by places: those of the reservoir, and then those of the final shuffle. Assumes nothing.
--
--   is_cut        a batch and the place where it ends, of a plan by places
--   plan_whole    from the front on they are the plan of the sample
--   cut_first     the batch that begins at a place of the reservoir
--   cut_later     the batch that begins at a place of the final shuffle
--   begins_first, begins_later   and what it is
use mathlib.Core.Path.{◌≡◌, sym, ap, ◌∙◌}
use mathlib.Core.List.{List, ◌∷◌, ◌++◌}
use Prim.Native.Nat.{ℕ, ◌+◌, ◌-◌, ◌^◌, ◌<◌, ◌≤◌}
use native.Mathlib.Omega.{arith}
use lib.ListN.{length, drop, length-drop, drop_of_length-le}
use Rattle.rules.specs.Cut.{cut}
use Rattle.rules.specs.Rolls.{product}
use Rattle.rules.specs.Reservoir.{countup}
use Rattle.rules.specs.Shuffle.{shuffle_plan}
use Rattle.rules.specs.Width.{size64, w64}
use Rattle.arithmetic.specs.Products.{unwrap}
use Rattle.rolls.specs.Plan.{begins, BatchAt}
use Rattle.rolls.specs.declared.plan.Cut.{Cut}
use Rattle.lists.proofs.Cutting.{begun}
use Rattle.draws.specs.Inner.{batches_from}
use Rattle.draws.specs.Sample.{sample_plan}

pub is_cut : (batches : ℕ → List (List ℕ)) (bounds at : ℕ) (c : Cut) (b : List ℕ) → batches at ≡ b ∷ batches c.end → c.end ≡ at + length b → 0 < length b
    → c.end ≤ bounds → unwrap 64 c.product.wrapped ≡ product b → BatchAt batches bounds at c
is_cut batches bounds at c b e f some within p =
    let same : begins (batches at) ≡ b = ap begins e in
    record {
      rest = e ∙ ap (λ (l : List ℕ). l ∷ batches c.end) (sym same);
      end = f ∙ ap (λ (l : List ℕ). at + length l) (sym same);
      some = rw same some;
      within = within;
      product = p ∙ ap product (sym same);
    }

module _ (bs : List ℕ) (k : ℕ) where
  abbrev final : List (List ℕ)
  final = shuffle_plan size64 k

  later : (at : ℕ) → length bs ≤ at → batches_from bs k at ≡ shuffle_plan size64 (k - (at - length bs))
  unfolding cut
  later at h = ap (λ (l : List ℕ). cut (2 ^ 56) l ++ shuffle_plan size64 (k - (at - length bs))) (drop_of_length-le bs {i = at} h)

  upto : (at : ℕ) → at ≤ length bs → batches_from bs k at ≡ cut (2 ^ 56) (drop at bs) ++ final
  upto at h = let all : k - (at - length bs) ≡ k = omega arith in ap (λ (n : ℕ). cut (2 ^ 56) (drop at bs) ++ shuffle_plan size64 n) all

  pub cut_first : (at : ℕ) → at < length bs → (c : Cut) → BatchAt (λ i. cut (2 ^ 56) (drop i bs)) (length bs) at c → BatchAt (batches_from bs k) (length bs + (k - 1)) at c
  cut_first at h c v =
      is_cut (batches_from bs k) (length bs + (k - 1)) at c (begins (cut (2 ^ 56) (drop at bs)))
      (upto at (omega arith) ∙ ap (λ (l : List (List ℕ)). l ++ final) v.rest ∙ ap (λ (l : List (List ℕ)). begins (cut (2 ^ 56) (drop at bs)) ∷ l) (sym (upto c.end v.within)))
      v.end v.some (omega (arith, v.within)) v.product

  module _ (n : ℕ) (count : n ≡ length bs) where
    -- of the final shuffle, by places counted from its first bound on
    shifted : (at : ℕ) → n ≤ at → batches_from bs k at ≡ shuffle_plan size64 (k - (at - n))
    shifted at h = rw count (later at (rw (← count) h))

    pub cut_later : (at : ℕ) → n ≤ at → (c : Cut) → BatchAt (λ i. shuffle_plan size64 (k - i)) (k - 1) (at - n) c
        → BatchAt (batches_from bs k) (length bs + (k - 1)) at (record { end = n + c.end; product = c.product })
    cut_later at h c v =
        let back : n + c.end - n ≡ c.end = omega arith in
        is_cut (batches_from bs k) (length bs + (k - 1)) at (record { end = n + c.end; product = c.product }) (begins (shuffle_plan size64 (k - (at - n))))
        (shifted at h ∙ v.rest
        ∙ ap (λ (m : ℕ). begins (shuffle_plan size64 (k - (at - n))) ∷ shuffle_plan size64 (k - m)) (sym back)
        ∙ ap (λ (l : List (List ℕ)). begins (shuffle_plan size64 (k - (at - n))) ∷ l) (sym (shifted (n + c.end) (omega arith))))
        (omega (arith, v.end, h)) v.some (omega (arith, v.within, count)) v.product

    pub begins_later : (at : ℕ) → n ≤ at → begins (batches_from bs k at) ≡ begins (shuffle_plan size64 (k - (at - n)))
    begins_later at h = ap begins (shifted at h)

  pub begins_first : (at : ℕ) → at < length bs → begins (batches_from bs k at) ≡ begins (cut (2 ^ 56) (drop at bs))
  begins_first at h =
      let some : 0 < length (drop at bs) = rw length-drop (omega arith) in
      ap begins (upto at (omega arith) ∙ ap (λ (l : List (List ℕ)). l ++ final) (begun (2 ^ 56) (drop at bs) some).rest)

pub plan_whole : (bs : List ℕ) (n k : ℕ) → bs ≡ countup (n - k) (k + 1) → batches_from bs k 0 ≡ sample_plan w64 n k
plan_whole bs n k e = upto bs k 0 (omega arith) ∙ ap (λ (l : List ℕ). cut (2 ^ 56) l ++ shuffle_plan size64 k) e
