-- A list of n numbers holds each of 0 .. n - 1 once exactly when all are below n and no two are alike. The reason is one count: how
-- often 0, .., n - 1 stand in the list, added up, is how many of its numbers are below n. Assumes nothing.
--
--   order_iff           each once, exactly when all below and no two alike
--   order_among         such a list has each of 0 .. n - 1 among its numbers
--   order_reorders      such a list is an order of 0, 1, .., n - 1
--   countup_distinct    which are different
--   rolls_behind_lem    so its rolls, looked up, and no others in range shuffle 0, 1, .., n - 1 into it
use mathlib.Core.Path.{◌≡◌, refl, sym, ◌∙◌}
use mathlib.Core.Logic.{◌↔◌}
use mathlib.Core.List.{List}
use Prim.Native.Nat.{ℕ, zero, suc, ◌<◌, ◌≤◌}
use native.Mathlib.Nat.{not-suc-le-zero, le_refl}
use native.Mathlib.Decide.{ℕ_discrete, dec_lt}
use native.Mathlib.Omega.{arith}
use lib.Dec.{T, eqb, eqb→eq}
use lib.ListN.{length}
use Rattle.rules.proofs.Facts.{both}
use Rattle.rules.specs.Reservoir.{countup}
use Rattle.rules.specs.Order.{count, each_once, is_order, rolls_into, AllBelow, Distinct, Reorders, Only}
use Rattle.rules.proofs.Rows.{length-countup, get_or-countup}
use Rattle.rules.proofs.Orders.{one_series}
use Rattle.rules.proofs.Counting.{Among, count_among, distinct_once, once_distinct, total, total-all, total_below}

-- ---- each once

each_cons : (i : ℕ) (ys : List ℕ) → T (each_once (suc i) ys) ↔ ((count i ys ≡ 1) × T (each_once i ys))
unfolding each_once
each_cons i ys =
    let b = both (eqb (count i ys) 1) (each_once i ys) in
    (λ t. (eqb→eq (count i ys) 1 (b.0 t).0, (b.0 t).1), λ (e, t). b.1 (rw e tt, t))

each_count : (n : ℕ) (ys : List ℕ) → T (each_once n ys) → (x : ℕ) → x < n → count x ys ≡ 1
each_count zero ys t x h = absurd (not-suc-le-zero h)
each_count (suc i) ys t x h = let c = (each_cons i ys).0 t in go (ℕ_discrete x i) c.0 (each_count i ys c.1 x)
  where
    go : Dec (x ≡ i) → count i ys ≡ 1 → (x < i → count x ys ≡ 1) → count x ys ≡ 1
    go (yes e) one ih = rw e one
    go (no n) one ih = ih (omega arith)

each_total : (n : ℕ) (ys : List ℕ) → T (each_once n ys) → total n ys ≡ n
unfolding total
each_total zero ys t = refl
each_total (suc i) ys t = let c = (each_cons i ys).0 t in omega (arith, c.0, each_total i ys c.1)

-- n counts of at most 1 come to at most n; where they come to n, each is 1
module _ (ys : List ℕ) (o : (x : ℕ) → count x ys ≤ 1) where
  total_few : (n : ℕ) → total n ys ≤ n
  unfolding total
  total_few zero = le_refl 0
  total_few (suc i) = omega (arith, o i, total_few i)

  full_each : (n : ℕ) → n ≤ total n ys → T (each_once n ys)
  unfolding total
  full_each zero h = unfold each_once in tt
  full_each (suc i) h =
      (each_cons i ys).1 (omega (arith, o i, total_few i), full_each i (omega (arith, o i)))

-- ---- an order of 0, 1, .., n - 1

pub order_iff : (ys : List ℕ) → T (is_order ys) ↔ (AllBelow (length ys) ys × Distinct ys)
order_iff ys = (to, λ (b, d). full_each ys (distinct_once ys d) (length ys) (omega (arith, total-all (length ys) ys b)))
  where
    to : T (is_order ys) → AllBelow (length ys) ys × Distinct ys
    to t = (below, once_distinct ys (λ x. go x (dec_lt x (length ys)) (dec_lt 0 (count x ys))))
      where
        below : AllBelow (length ys) ys
        below = total_below (length ys) ys (omega (arith, each_total (length ys) ys t))

        go : (x : ℕ) → Dec (x < length ys) → Dec (0 < count x ys) → count x ys ≤ 1
        go x (yes h) k = omega (arith, each_count (length ys) ys t x h)
        go x (no h) (yes k) = let a = count_among x ys k in absurd (h (rw a.2 at (below a.0 a.1)))
        go x (no h) (no k) = omega arith

pub order_among : (ys : List ℕ) → T (is_order ys) → (x : ℕ) → x < length ys → Among x ys
order_among ys t x h = count_among x ys (omega (arith, each_count (length ys) ys t x h))

pub countup_distinct : (n : ℕ) → Distinct (countup n 0)
countup_distinct n i j hi hj e =
    let ki : i < n = rw length-countup at hi in
    let kj : j < n = rw length-countup at hj in
    omega (arith, sym (get_or-countup n 0 i ki) ∙ e ∙ get_or-countup n 0 j kj)

-- a number from n on stands in neither
pub order_reorders : (ys : List ℕ) → T (is_order ys) → Reorders (countup (length ys) 0) ys
order_reorders ys t x = go (dec_lt x n)
  where
    n : ℕ
    n = length ys

    row : List ℕ
    row = countup n 0

    row_order : T (is_order row)
    row_order = (order_iff row).1 (λ i h. rw (get_or-countup n 0 i (rw length-countup at h), length-countup) (omega (arith, length-countup n 0)), countup_distinct n)

    none : (zs : List ℕ) → AllBelow n zs → n ≤ x → count x zs ≡ 0
    none zs b h = clear (dec_lt 0 (count x zs))
      where
        clear : Dec (0 < count x zs) → count x zs ≡ 0
        clear (yes k) = let a = count_among x zs k in absurd (let z : ⊥ = omega (arith, b a.0 a.1, a.2) in z)
        clear (no k) = omega arith

    go : Dec (x < n) → count x ys ≡ count x row
    go (yes h) = each_count n ys t x h ∙ sym (each_count (length row) row row_order x (omega (arith, length-countup n 0)))
    go (no h) =
        none ys ((order_iff ys).0 t).0 (omega arith)
        ∙ sym (none row (λ i k. omega (arith, ((order_iff row).0 row_order).0 i k, length-countup n 0)) (omega arith))

pub rolls_behind_lem : (ys : List ℕ) → T (is_order ys) → Only (length ys) (countup (length ys) 0) ys (rolls_into (length ys) (countup (length ys) 0) ys)
rolls_behind_lem ys t =
    let n : ℕ = length ys in
    rw (length-countup n 0) at (one_series (countup n 0) ys (countup_distinct n) (order_reorders ys t))
