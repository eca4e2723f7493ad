-- Marks that test whether a list is an order: the loop of `mark_places`. The mark of a number is 0 until it is met, and from then on its
-- place in 0, 1, .., n - 1, counted from 1. Assumes nothing.
--
--   Marking                       the first i numbers of the list are below n, different and marked, and no other number is marked
--   unmarked                      a table of zeros has no mark
--   mark_large, mark_twice        a number that is too large, or marked already: not an order
--   mark_done, mark_places_lem    all marked: an order, and the mark of each of 0 .. n - 1 is its place, counted from 1
use mathlib.Core.Path.{◌≡◌, refl, sym}
use mathlib.Core.Logic.{◌≢◌}
use mathlib.Core.Bool.{Bool, true, false}
use mathlib.Core.List.{List}
use Prim.Native.Nat.{ℕ, zero, suc, ◌+◌, ◌<◌, ◌≤◌}
use native.Mathlib.Decide.{dec_lt}
use native.Mathlib.Omega.{arith}
use lib.Dec.{T}
use lib.ListN.{length, get_or, replicate}
use Rattle.rules.specs.Order.{is_order, Distinct}
use Rattle.rules.proofs.Each.{order_iff, order_among}

-- ---- the test, as the contract has it

is_true : (b : Bool) → T b → b ≡ true
is_true true t = refl
is_true false t = absurd t

is_false : (b : Bool) → (T b → ⊥) → b ≡ false
is_false true n = absurd (n tt)
is_false false n = refl

-- ---- the marks

-- the first i numbers of the list are below n, different and marked, and no other number is marked
pub record Marking (ys marks : List ℕ) (i : ℕ) : Type 0 where
  pub marked : (k : ℕ) → k < i → get_or marks (get_or ys k 0) 0 ≡ get_or ys k 0 + 1
  pub met : (v : ℕ) → get_or marks v 0 ≢ 0 → (k : ℕ) × (k < i) × (get_or ys k 0 ≡ v)
  pub below : (k : ℕ) → k < i → get_or ys k 0 < length ys
  pub different : (k : ℕ) → k < i → (j : ℕ) → j < k → get_or ys j 0 ≢ get_or ys k 0

pub unmarked : (n v : ℕ) → get_or {A = ℕ} (replicate n 0) v 0 ≡ 0
unmarked zero v = refl
unmarked (suc n) zero = refl
unmarked (suc n) (suc v) = unmarked n v

module _ {ys marks : List ℕ} {i : ℕ} (w : Marking ys marks i) where
  module _ (h : i < length ys) where
    pub mark_large : length ys ≤ get_or ys i 0 → is_order ys ≡ false
    mark_large l = is_false (is_order ys) (λ t. omega (arith, ((order_iff ys).0 t).0 i h))

    pub mark_twice : get_or marks (get_or ys i 0) 0 ≢ 0 → is_order ys ≡ false
    mark_twice n =
        let (k, l, e) = w.met (get_or ys i 0) n in
        is_false (is_order ys) (λ t. omega (arith, ((order_iff ys).0 t).1 k i (omega arith) h e))

  module _ (h : length ys ≤ i) where
    distinct : Distinct ys
    distinct j k hj hk e = go (dec_lt j k) (dec_lt k j)
      where
        go : Dec (j < k) → Dec (k < j) → j ≡ k
        go (yes l) d = absurd (w.different k (omega arith) j l e)
        go (no m) (yes l) = absurd (w.different j (omega arith) k l (sym e))
        go (no m) (no n) = omega arith

    order : T (is_order ys)
    order = (order_iff ys).1 (λ k l. w.below k (omega arith), distinct)

    pub mark_done : is_order ys ≡ true
    mark_done = is_true (is_order ys) order

    pub mark_places_lem : (v : ℕ) → v < length ys → get_or marks v 0 ≡ v + 1
    mark_places_lem v l = let (k, m, e) = order_among ys order v l in rw e at (w.marked k (omega arith))

-- what each way out of the loop tells
pub ruleset ways_out = (mark_large, mark_twice, mark_done, mark_places_lem)
