-- The batches of a list of bounds, and of a reservoir, are its bounds in their order, and each can be rolled. Over every limit. Assumes nothing.
--
--   Bounded           each bound is 1 or more, and at most so much
--   cut-plan          the batches of a list of bounds
--   reservoir-plan and those of a reservoir
use mathlib.Core.Path.{◌≡◌, refl, ap, ◌∙◌}
use mathlib.Core.Bool.{Bool, true, false, and-eq-true_iff}
use mathlib.Core.List.{List, [], ◌∷◌, ◌++◌}
use Prim.Native.Nat.{ℕ, suc, suc-le-suc, zero-le, ◌+◌, ◌-◌, ◌*◌, ◌<◌, ◌≤◌}
use native.Mathlib.Nat.{mul-pos, mul-one}
use native.Mathlib.Omega.{arith}
use lib.Dec.{leb, ltb}
use lib.ListN.{length, get_or, length-append}
use lib.Seq.{append_snoc}
use borrow.Author.Tests.{leb-true, ltb-true}
use Rattle.rules.specs.Rolls.{product}
use Rattle.rules.proofs.Products.{product_snoc}
use Rattle.rules.specs.Cut.{joins, cut_from, cut}
use Rattle.rules.specs.Reservoir.{countup}
use Rattle.rules.specs.Plan.{joined, Rollable, PlanOf}
use Rattle.rules.proofs.Rows.{get_or-countup, length-countup}

abbrev pub Bounded : ℕ → List ℕ → Type 0
Bounded most bs = (i : ℕ) → i < length bs → (0 < get_or bs i 0) × (get_or bs i 0 ≤ most)

-- ---- a list of bounds, cut

one_bound : {most : ℕ} (b : ℕ) → 0 < b → b ≤ most → Rollable most (b ∷ [])
one_bound b p l =
    let e : product (b ∷ []) ≡ b = unfold product in mul-one b in
    record { some = omega arith; few = omega arith; positive = rw e p; fits = rw e l }

one_more : (limit most : ℕ) → limit ≤ most → (batch : List ℕ) (b : ℕ) → Rollable most batch → 0 < b → joins limit batch b ≡ true
    → Rollable most (batch ++ b ∷ [])
one_more limit most l batch b r p e =
    let t = (and-eq-true_iff (ltb (length batch) 16) (leb (product batch * b) limit)).0 e in
    let n = length-append batch (b ∷ []) in
    record {
      some = omega (arith, n);
      few = omega (arith, n, ltb-true (length batch) 16 t.0);
      positive = rw product_snoc (mul-pos r.positive p);
      fits = rw product_snoc (omega (arith, leb-true (product batch * b) limit t.1));
    }

module _ (limit most : ℕ) (l : limit ≤ most) where
  -- behind a batch that is begun
  cut-from : (batch bs : List ℕ) → Rollable most batch → Bounded most bs → PlanOf most (batch ++ bs) (cut_from limit batch bs)
  unfolding joined cut_from
  cut-from batch [] r g = record { same = refl; rollable = (r, tt) }
  cut-from batch (b ∷ bs) r g = go (joins limit batch b) refl (cut-from (batch ++ b ∷ []) bs) (cut-from (b ∷ []) bs)
    where
      here : (0 < b) × (b ≤ most)
      here = g 0 (suc-le-suc zero-le)

      later : Bounded most bs
      later i h = g (suc i) (suc-le-suc h)

      go : (t : Bool) → joins limit batch b ≡ t
          → (Rollable most (batch ++ b ∷ []) → Bounded most bs → PlanOf most ((batch ++ b ∷ []) ++ bs) (cut_from limit (batch ++ b ∷ []) bs))
          → (Rollable most (b ∷ []) → Bounded most bs → PlanOf most (b ∷ bs) (cut_from limit (b ∷ []) bs))
          → PlanOf most (batch ++ b ∷ bs) (cut_from limit batch (b ∷ bs))
      go true e more new =
          let p = more (one_more limit most l batch b r here.0 e) later in
          rw (e, cut_from) (record { same = p.same ∙ append_snoc batch b bs; rollable = p.rollable })
      go false e more new =
          let p = new (one_bound b here.0 here.1) later in
          rw (e, cut_from) (record { same = ap (λ (k : List ℕ). batch ++ k) p.same; rollable = (r, p.rollable) })

  pub cut-plan : (bs : List ℕ) → Bounded most bs → PlanOf most bs (cut limit bs)
  unfolding cut joined
  cut-plan [] g = record { same = refl; rollable = tt }
  cut-plan (b ∷ bs) g =
      let h = g 0 (suc-le-suc zero-le) in
      cut-from (b ∷ []) bs (one_bound b h.0 h.1) (λ i k. g (suc i) (suc-le-suc k))

  -- the bounds k + 1, .., n of a reservoir of k from n records
  pub reservoir-plan : (n k : ℕ) → n ≤ most → PlanOf most (countup (n - k) (k + 1)) (cut limit (countup (n - k) (k + 1)))
  reservoir-plan n k h = cut-plan (countup (n - k) (k + 1)) each
    where
      each : Bounded most (countup (n - k) (k + 1))
      each i f =
          let j : i < n - k = rw length-countup at f in
          rw (get_or-countup (n - k) (k + 1) i j) (omega arith, omega arith)
