-- The cut by induction on the bounds that are left: a batch ends where the next bound does not join. That it is the only such plan: of a
-- batch that is within, each bound joins those before it, since a product of bounds from 1 on is no smaller than that of the first of them.
-- Assumes nothing.
--
--   cut_pinned    the pin of the cut
use mathlib.Core.Path.{◌≡◌, refl, sym, ap, ◌∙◌}
use mathlib.Core.Logic.{◌↔◌, inl, inr}
use mathlib.Core.Bool.{Bool, true, false, ◌&&◌, and-eq-true_iff, and-false}
use mathlib.Core.List.{List, [], ◌∷◌, ◌++◌, append-nil}
use Prim.Native.Nat.{ℕ, zero, suc, suc-le-suc, zero-le, ◌+◌, ◌*◌, ◌<◌, ◌≤◌}
use native.Mathlib.Nat.{not-suc-le-zero, le_of_suc-le-suc, le_trans, le-mul_of_pos_right}
use native.Mathlib.Numerals.{add-one}
use native.Mathlib.Omega.{arith}
use lib.Dec.{leb, ltb}
use lib.ListN.{length, get_or, length-append}
use lib.Seq.{append_snoc}
use borrow.Author.Tests.{ltb-true, ltb-false, leb-true, leb-false, lt-ltb, le-ltb, le-leb, lt-leb}
use Rattle.rules.specs.Rolls.{product}
use Rattle.rules.specs.Plan.{joined}
use Rattle.rules.specs.Cut.{joins, cut_from, cut}
use Rattle.rules.specs.Pinned.{BatchWithin, CannotJoin, IsCut, CutPinned}
use Rattle.rules.proofs.Facts.{clash}
use Rattle.rules.proofs.Products.{product_snoc, product_some, product_pos_head, product_pos_tail}

-- ---- whether a bound joins

module _ (limit : ℕ) (batch : List ℕ) (b : ℕ) where
  joins_iff : (joins limit batch b ≡ true) ↔ ((length batch < 16) × (product batch * b ≤ limit))
  joins_iff =
      let t = and-eq-true_iff (ltb (length batch) 16) (leb (product batch * b) limit) in
      (λ e. (ltb-true _ _ (t.0 e).0, leb-true _ _ (t.0 e).1), λ (h, k). t.1 (lt-ltb _ _ h, le-leb _ _ k))

  cannot : joins limit batch b ≡ false → CannotJoin limit batch b
  cannot e = go (ltb (length batch) 16) refl (leb (product batch * b) limit) refl e
    where
      go : (t : Bool) → ltb (length batch) 16 ≡ t → (u : Bool) → leb (product batch * b) limit ≡ u → (t && u) ≡ false → CannotJoin limit batch b
      go false f u g e = inl (ltb-false (length batch) 16 f)
      go true f false g e = inr (leb-false (product batch * b) limit g)
      go true f true g e = clash cc

  joins_not : CannotJoin limit batch b → joins limit batch b ≡ false
  joins_not (inl h) = rw (le-ltb (length batch) 16 h)
  joins_not (inr h) = rw (lt-leb (product batch * b) limit h) (and-false (ltb (length batch) 16))

-- ---- a batch that is within

within_some : (limit : ℕ) (batch : List ℕ) → BatchWithin limit batch → 0 < length batch
within_some limit batch (inl e) = omega arith
within_some limit batch (inr (some, few, fits)) = omega arith

product-append : (d e : List ℕ) → product (d ++ e) ≡ product d * product e
unfolding product
product-append [] e = omega arith
product-append (c ∷ d) e = omega (arith, ap (λ (x : ℕ). c * x) (product-append d e))

-- where no bound of a batch is 0, what it began with has no larger a product
begun_small : (d e : List ℕ) → 0 < product e → product d ≤ product (d ++ e)
begun_small d e q = rw product-append (le-mul_of_pos_right (product d) q)

-- of a batch that is within, each bound joins those before it
within_joins : (limit : ℕ) (d : List ℕ) (x : ℕ) (e : List ℕ) → 0 < length d → 0 < product e → BatchWithin limit (d ++ x ∷ e) → joins limit d x ≡ true
within_joins limit d x e p q w = go w
  where
    n : length (d ++ x ∷ e) ≡ length d + length (x ∷ e)
    n = length-append d (x ∷ e)

    small : product d * x ≤ product (d ++ x ∷ e)
    small = rw (product_snoc d x, append_snoc) at (begun_small (d ++ x ∷ []) e q)

    go : BatchWithin limit (d ++ x ∷ e) → joins limit d x ≡ true
    go (inl h) = absurd (let z : ⊥ = omega (arith, n) in z)
    go (inr (some, few, fits)) = (joins_iff limit d x).1 (omega (arith, n), le_trans small fits)

-- ---- the cut is such a plan

module _ (limit : ℕ) where
  -- the first bound of the next batch is the bound that did not join
  first_bound : (b : ℕ) (cs bs : List ℕ) → get_or (get_or (cut_from limit (b ∷ cs) bs) 0 []) 0 0 ≡ b
  unfolding cut_from
  first_bound b cs [] = refl
  first_bound b cs (x ∷ bs) = go (joins limit (b ∷ cs) x) refl (first_bound b (cs ++ x ∷ []) bs)
    where
      go : (t : Bool) → joins limit (b ∷ cs) x ≡ t → get_or (get_or (cut_from limit (b ∷ (cs ++ x ∷ [])) bs) 0 []) 0 0 ≡ b
          → get_or (get_or (cut_from limit (b ∷ cs) (x ∷ bs)) 0 []) 0 0 ≡ b
      go true e ih = rw (e, cut_from) ih
      go false e ih = rw (e, cut_from)

  -- one batch in front of a plan
  is_cut_cons : (batch : List ℕ) (bs : List ℕ) (plan : List (List ℕ)) → BatchWithin limit batch
      → (0 < length plan → CannotJoin limit batch (get_or (get_or plan 0 []) 0 0)) → IsCut limit bs plan → IsCut limit (batch ++ bs) (batch ∷ plan)
  unfolding joined
  is_cut_cons batch bs plan w s c = record {
    same = ap (λ (l : List ℕ). batch ++ l) c.same;
    within = within;
    next = λ i h. rw (add-one i) (next i (rw (add-one i) at h));
  }
    where
      within : (i : ℕ) → i < length (batch ∷ plan) → BatchWithin limit (get_or (batch ∷ plan) i [])
      within zero h = w
      within (suc i) h = c.within i (le_of_suc-le-suc h)

      next : (i : ℕ) → suc i < length (batch ∷ plan) → CannotJoin limit (get_or (batch ∷ plan) i []) (get_or (get_or plan i []) 0 0)
      next zero h = s (le_of_suc-le-suc h)
      next (suc i) h = rw (add-one i) at (c.next i (rw (add-one i) (le_of_suc-le-suc h)))

  is_cut_none : IsCut limit [] []
  unfolding joined
  is_cut_none = record { same = refl; within = λ i h. absurd (not-suc-le-zero h); next = λ i h. absurd (not-suc-le-zero h) }

  cut-from : (batch bs : List ℕ) → BatchWithin limit batch → IsCut limit (batch ++ bs) (cut_from limit batch bs)
  unfolding cut_from
  cut-from batch [] w = is_cut_cons batch [] [] w (λ h. absurd (not-suc-le-zero h)) is_cut_none
  cut-from batch (b ∷ bs) w = go (joins limit batch b) refl (cut-from (batch ++ b ∷ []) bs) (cut-from (b ∷ []) bs (inl refl))
    where
      go : (t : Bool) → joins limit batch b ≡ t
          → (BatchWithin limit (batch ++ b ∷ []) → IsCut limit ((batch ++ b ∷ []) ++ bs) (cut_from limit (batch ++ b ∷ []) bs))
          → IsCut limit (b ∷ bs) (cut_from limit (b ∷ []) bs) → IsCut limit (batch ++ b ∷ bs) (cut_from limit batch (b ∷ bs))
      go true e more new =
          let (n, f) = (joins_iff limit batch b).0 e in
          let some = within_some limit batch w in
          let l = length-append batch (b ∷ []) in
          rw (e, cut_from) (rw append_snoc at (more (inr (omega arith, omega arith, rw (product_snoc batch b) f))))
      go false e more new =
          rw (e, cut_from)
          (is_cut_cons batch (b ∷ bs) (cut_from limit (b ∷ []) bs) w (λ h. rw (first_bound b [] bs) (cannot limit batch b e)) new)

  holds : (bs : List ℕ) → IsCut limit bs (cut limit bs)
  unfolding cut
  holds [] = is_cut_none
  holds (b ∷ bs) = cut-from (b ∷ []) bs (inl refl)

-- ---- and the only one

module _ (limit : ℕ) where
  is_cut_tail : {bs batch : List ℕ} {plan : List (List ℕ)} → IsCut limit bs (batch ∷ plan) → IsCut limit (joined plan) plan
  is_cut_tail c = record {
    same = refl;
    within = λ i h. c.within (suc i) (suc-le-suc h);
    next = λ i h. rw add-one (rw add-one at (c.next (suc i) (rw add-one (suc-le-suc (rw add-one at h)))));
  }

  -- a batch that is begun with d, and has e besides, is taken whole
  taken_whole : (d e later : List ℕ) → 0 < length d → 0 < product e → BatchWithin limit (d ++ e) → cut_from limit d (e ++ later) ≡ cut_from limit (d ++ e) later
  unfolding cut_from product
  taken_whole d [] later p q w = rw append-nil
  taken_whole d (x ∷ e) later p q w =
      let r : 0 < product e = product_pos_tail x (product e) q in
      rw (within_joins limit d x e p r w, cut_from)
      (rw append_snoc at (taken_whole (d ++ x ∷ []) e later (omega (arith, length-append d (x ∷ []))) r (rw append_snoc w)))

  -- and the next bound begins a batch
  then_next : {bs : List ℕ} (batch : List ℕ) (plan : List (List ℕ)) → IsCut limit bs (batch ∷ plan)
      → cut_from limit batch (joined plan) ≡ batch ∷ cut limit (joined plan)
  unfolding cut cut_from joined
  then_next batch [] c = refl
  then_next batch ([] ∷ plan) c = absurd (not-suc-le-zero (within_some limit [] (c.within 1 (omega arith))))
  then_next batch ((y ∷ ys) ∷ plan) c = rw (joins_not limit batch y (c.next 0 (omega arith)), cut_from)

  cut_again : {bs : List ℕ} (plan : List (List ℕ)) → 0 < product (joined plan) → IsCut limit bs plan → cut limit (joined plan) ≡ plan
  unfolding cut joined product
  cut_again [] q c = refl
  cut_again ([] ∷ plan) q c = absurd (not-suc-le-zero (within_some limit [] (c.within 0 (omega arith))))
  cut_again ((b ∷ bs) ∷ plan) q c =
      let f : 0 < product (b ∷ bs) * product (joined plan) = rw product-append at q in
      let g = product_pos_tail b (product bs) (product_pos_head (product (b ∷ bs)) (product (joined plan)) f) in
      taken_whole (b ∷ []) bs (joined plan) (suc-le-suc zero-le) g (c.within 0 (omega arith)) ∙ then_next (b ∷ bs) plan c
      ∙ ap (λ (l : List (List ℕ)). (b ∷ bs) ∷ l) (cut_again plan (product_pos_tail (product (b ∷ bs)) (product (joined plan)) f) (is_cut_tail c))

  only : (bs : List ℕ) → ((i : ℕ) → i < length bs → 0 < get_or bs i 0) → (plan : List (List ℕ)) → IsCut limit bs plan → plan ≡ cut limit bs
  only bs p plan c = sym (rw c.same at (cut_again plan (rw c.same (product_some bs p)) c))

pub cut_pinned : CutPinned
unfolding cut cut_from product
cut_pinned = record { holds = holds; only = only; three_and_one = refl; sixteen_and_one = refl; alone = refl }
