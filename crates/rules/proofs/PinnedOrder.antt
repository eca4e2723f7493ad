-- Where each of 0 .. n - 1 stands at a place of a list of n numbers, nothing else has room there; so all are below n, and no two are alike.
-- Assumes nothing.
--
--   order_pinned    the pin of an order
use mathlib.Core.Path.{refl, sym, ◌∙◌}
use mathlib.Core.List.{List}
use Prim.Native.Nat.{ℕ, zero, suc, ◌<◌, ◌≤◌}
use native.Mathlib.Nat.{le_refl}
use native.Mathlib.Omega.{arith}
use lib.Dec.{T}
use lib.ListN.{length, get_or}
use Rattle.rules.specs.Reservoir.{countup}
use Rattle.rules.specs.Order.{count, is_order, AllBelow, Distinct, Reorders}
use Rattle.rules.specs.Pinned.{OnePlace, OrderPinned}
use Rattle.rules.proofs.Rows.{length-countup, get_or-countup}
use Rattle.rules.proofs.Orders.{place_first, Reordered, reordered}
use Rattle.rules.proofs.Counting.{counted, total, total_below}
use Rattle.rules.proofs.Each.{order_iff, order_among, order_reorders, countup_distinct, rolls_behind_lem}

-- ---- each at one place

one_place : (ys : List ℕ) → T (is_order ys) → (x : ℕ) → x < length ys → OnePlace x ys
one_place ys t x h =
    let (p, k, e) = order_among ys t x h in
    (p, k, e, λ q l f. ((order_iff ys).0 t).1 q p l k (f ∙ sym e))

-- n numbers that are each counted are n or more
all-counted : (ys : List ℕ) (n : ℕ) → ((x : ℕ) → x < n → 0 < count x ys) → n ≤ total n ys
unfolding total
all-counted ys zero c = le_refl 0
all-counted ys (suc i) c = omega (arith, c i (le_refl (suc i)), all-counted ys i (λ x h. c x (omega arith)))

module _ (ys : List ℕ) (each : (x : ℕ) → x < length ys → OnePlace x ys) where
  below : AllBelow (length ys) ys
  below = total_below (length ys) ys (all-counted ys (length ys) (λ x h. let (p, k, e, one) = each x h in counted x ys p k e))

  distinct : Distinct ys
  distinct i j hi hj e =
      let (p, k, f, one) = each (get_or ys j 0) (below j hj) in
      one i hi e ∙ sym (one j hj refl)

-- ---- an order of the records 0, 1, .., n - 1

of_row : (ys : List ℕ) → Reorders (countup (length ys) 0) ys → T (is_order ys)
of_row ys r = (order_iff ys).1 (low, w.distinct)
  where
    n : ℕ
    n = length ys

    w : Reordered (countup n 0) ys
    w = reordered (countup n 0) ys (countup_distinct n) r

    low : AllBelow n ys
    low i h =
        let (p, k, e) = w.among i h in
        let l : p < n = rw length-countup at k in
        omega (arith, sym e ∙ get_or-countup n 0 p l)

pub order_pinned : OrderPinned
order_pinned = record {
  each = λ ys. (one_place ys, λ each. (order_iff ys).1 (below ys each, distinct ys each));
  row = λ ys. (order_reorders ys, of_row ys);
  place = place_first;
  behind = rolls_behind_lem;
}
