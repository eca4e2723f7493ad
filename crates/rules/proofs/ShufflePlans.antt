-- The batches of a shuffle, joined, are its bounds n, n - 1, .., 2, and each can be rolled. Over every choice of sizes; then at 64 bits.
-- Assumes nothing.
--
--   GoodSize size most m       with m records still to place the next batch leaves one or more and can be rolled
--   GoodSizes size most top    so it is for every m from 2 up to top
--   size_some                  a batch places a record or more
--   sizes_more                 sizes that serve a limit serve a larger one
--   shuffle-plan               the batches of a shuffle are n, n - 1, .., 2
--   plan_end, plan_step        its first batch, and the batches of the records that are left
--   sizes64, shuffle_plan64    at 64 bits, for up to 16,384 records; no product is above 2^56
use mathlib.Core.Path.{◌≡◌, refl, sym, ap, ◌∙◌}
use mathlib.Core.Bool.{Bool, true, false}
use mathlib.Core.List.{List, [], ◌∷◌, ◌++◌}
use Prim.Native.Nat.{ℕ, zero, suc, ◌+◌, ◌-◌, ◌^◌, ◌<◌, ◌≤◌}
use native.Mathlib.Nat.{not-suc-le-zero, le_refl, le_trans, pow-le-pow_right}
use native.Mathlib.Decide.{dec_lt}
use native.Mathlib.Omega.{arith}
use lib.Dec.{leb, lit<, lit≤}
use borrow.Author.Tests.{leb-true, leb-false, le-leb, lt-leb}
use Rattle.rules.specs.Width.{size64}
use Rattle.rules.specs.Shuffle.{countdown, shuffle_bounds, shuffle_plan_from, shuffle_plan}
use Rattle.rules.specs.Plan.{joined, Rollable, PlanOf}
use Rattle.rules.proofs.Rows.{no_bounds, product-countdown, length-countdown, countdown_add}

pub record GoodSize (size : ℕ → ℕ) (most m : ℕ) : Type 0 where
  pub less : size m < m
  pub rollable : Rollable most (countdown (size m) m)

abbrev pub GoodSizes : (ℕ → ℕ) → ℕ → ℕ → Type 0
GoodSizes size most top = (m : ℕ) → 1 < m → m ≤ top → GoodSize size most m

-- ---- the sizes of a shuffle's batches

pub size_some : {size : ℕ → ℕ} {most m : ℕ} → GoodSize size most m → 0 < size m
size_some s = rw length-countdown at s.rollable.some

rollable_more : {most more : ℕ} {bs : List ℕ} → most ≤ more → Rollable most bs → Rollable more bs
rollable_more l b = record { some = b.some; few = b.few; positive = b.positive; fits = le_trans b.fits l }

pub sizes_more : {size : ℕ → ℕ} {most more top : ℕ} → most ≤ more → GoodSizes size most top → GoodSizes size more top
sizes_more l z m h k = let s = z m h k in record { less = s.less; rollable = rollable_more l s.rollable }

module _ {size : ℕ → ℕ} {most top : ℕ} (z : GoodSizes size most top) where
  plan-from : (fuel m : ℕ) → m ≤ fuel → m ≤ top → PlanOf most (shuffle_bounds m) (shuffle_plan_from size fuel m)
  unfolding joined shuffle_plan_from
  plan-from zero m h t = record { same = sym (no_bounds m (omega arith)); rollable = tt }
  plan-from (suc fuel) m h t = go (leb m 1) refl (plan-from fuel (m - size m))
    where
      go : (b : Bool) → leb m 1 ≡ b
          → (m - size m ≤ fuel → m - size m ≤ top → PlanOf most (shuffle_bounds (m - size m)) (shuffle_plan_from size fuel (m - size m)))
          → PlanOf most (shuffle_bounds m) (shuffle_plan_from size (suc fuel) m)
      go true e ih = rw (e, shuffle_plan_from) (record { same = sym (no_bounds m (leb-true m 1 e)); rollable = tt })
      go false e ih =
          let s = z m (leb-false m 1 e) t in
          let some = size_some s in
          let g = ih (omega (arith, s.less)) (omega arith) in
          let all : size m + (m - size m - 1) ≡ m - 1 = omega (arith, s.less) in
          rw (e, shuffle_plan_from) (record {
            same =
                ap (λ (l : List ℕ). countdown (size m) m ++ l) g.same ∙ countdown_add (size m) (m - size m - 1) m
                ∙ ap (λ (k : ℕ). countdown k m) all;
            rollable = (s.rollable, g.rollable);
          })

  pub shuffle-plan : (n : ℕ) → n ≤ top → PlanOf most (shuffle_bounds n) (shuffle_plan size n)
  shuffle-plan n h = plan-from n n (le_refl n) h

-- ---- the plan, batch by batch: what fuel it was made with plays no part

module _ {size : ℕ → ℕ} {most top : ℕ} (z : GoodSizes size most top) where
  finished : (fuel m : ℕ) → m ≤ 1 → shuffle_plan_from size fuel m ≡ []
  unfolding shuffle_plan_from
  finished zero m h = refl
  finished (suc fuel) m h = rw (le-leb m 1 h, shuffle_plan_from)

  next_batch : (fuel m : ℕ) → 1 < m → shuffle_plan_from size (suc fuel) m ≡ countdown (size m) m ∷ shuffle_plan_from size fuel (m - size m)
  unfolding shuffle_plan_from
  next_batch fuel m h = rw (lt-leb m 1 h, shuffle_plan_from)

  same_fuel : (f g m : ℕ) → m ≤ f → m ≤ g → m ≤ top → shuffle_plan_from size f m ≡ shuffle_plan_from size g m
  same_fuel zero g m h k t = finished zero m (omega arith) ∙ sym (finished g m (omega arith))
  same_fuel (suc f) zero m h k t = finished (suc f) m (omega arith) ∙ sym (finished zero m (omega arith))
  same_fuel (suc f) (suc g) m h k t = go (dec_lt 1 m) (same_fuel f g (m - size m))
    where
      go : Dec (1 < m) → (m - size m ≤ f → m - size m ≤ g → m - size m ≤ top → shuffle_plan_from size f (m - size m) ≡ shuffle_plan_from size g (m - size m))
          → shuffle_plan_from size (suc f) m ≡ shuffle_plan_from size (suc g) m
      go (yes l) ih =
          let s = size_some (z m l t) in
          next_batch f m l ∙ ap (λ (p : List (List ℕ)). countdown (size m) m ∷ p) (ih (omega arith) (omega arith) (omega arith)) ∙ sym (next_batch g m l)
      go (no n) ih = finished (suc f) m (omega arith) ∙ sym (finished (suc g) m (omega arith))

  pub plan_end : (m : ℕ) → m ≤ 1 → shuffle_plan size m ≡ []
  plan_end m h = finished m m h

  pub plan_step : (m : ℕ) → 1 < m → m ≤ top → shuffle_plan size m ≡ countdown (size m) m ∷ shuffle_plan size (m - size m)
  plan_step zero h t = absurd (not-suc-le-zero h)
  plan_step (suc m) h t =
      let s = size_some (z (suc m) h t) in
      next_batch m (suc m) h
      ∙ ap (λ (p : List (List ℕ)). countdown (size (suc m)) (suc m) ∷ p) (same_fuel m (suc m - size (suc m)) (suc m - size (suc m)) (omega arith) (omega arith) (omega arith))

-- s bounds from m down, for up to top records
size_good : (m s top : ℕ) → size64 m ≡ s → 0 < s → s ≤ 6 → s < m → m ≤ top → top ^ s ≤ 2 ^ 56 → GoodSize size64 (2 ^ 56) m
size_good m s top e p few l t f =
    let b = product-countdown s m top (omega arith) t in
    let n = length-countdown s m in
    let r : Rollable (2 ^ 56) (countdown s m) =
    record { some = omega (arith, n); few = omega (arith, n); positive = b.0; fits = le_trans b.1 f } in
    record { less = rw e l; rollable = rw e r }

pub sizes64 : GoodSizes size64 (2 ^ 56) 16384
unfolding size64
sizes64 m h k = go (leb m 6) refl (leb m 512) refl (leb m 2048) refl
  where
    go : (a : Bool) → leb m 6 ≡ a → (b : Bool) → leb m 512 ≡ b → (c : Bool) → leb m 2048 ≡ c → GoodSize size64 (2 ^ 56) m
    go true e b f c g =
        let l : m ≤ 6 = leb-true m 6 e in
        size_good m (m - 1) 6 (rw (e, size64)) (omega arith) (omega arith) (omega arith) l
        (le_trans (pow-le-pow_right (lit< tt) {j = 5} (omega arith)) (lit≤ tt))
    go false e true f c g =
        let l : 6 < m = leb-false m 6 e in
        size_good m 6 512 (rw (e, f, size64)) (lit< tt) (lit≤ tt) l (leb-true m 512 f) (lit≤ tt)
    go false e false f true g =
        let l : 6 < m = leb-false m 6 e in
        size_good m 5 2048 (rw (e, f, g, size64)) (lit< tt) (lit≤ tt) (omega arith) (leb-true m 2048 g) (lit≤ tt)
    go false e false f false g =
        let l : 6 < m = leb-false m 6 e in
        size_good m 4 16384 (rw (e, f, g, size64)) (lit< tt) (lit≤ tt) (omega arith) k (lit≤ tt)

pub shuffle_plan64 : (n : ℕ) → n ≤ 16384 → PlanOf (2 ^ 56) (shuffle_bounds n) (shuffle_plan size64 n)
shuffle_plan64 = shuffle-plan sizes64
