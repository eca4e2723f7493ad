-- The product of bounds, and bounds that are 0. Assumes nothing.
--
--   product_pos_head, product_pos_tail   where a product is 1 or more, so is each factor
--   product_snoc, product-more           a product with one bound more
--   zero_nowhere                         where no bound is 0, each is 1 or more
--   zero_here, zero-later, zero_none     whether some bound from a place on is 0
--   product_some, product_pos            the product of bounds that are all 1 or more is 1 or more
use mathlib.Core.Path.{◌≡◌, ap}
use mathlib.Core.Bool.{true, false}
use mathlib.Core.List.{List, [], ◌∷◌, ◌++◌}
use Prim.Native.Nat.{ℕ, zero, suc, ◌+◌, ◌*◌, ◌<◌, ◌≤◌, suc-le-suc, zero-le}
use native.Mathlib.Nat.{mul-pos, not-suc-le-zero, le_of_suc-le-suc, pos_of_ne-zero}
use native.Mathlib.Omega.{arith}
use lib.Dec.{eqb}
use lib.ListN.{length, take, drop, get_or, drop_of_length-le}
use Rattle.rules.specs.Rolls.{product, holds_zero}
use native.Mathlib.Numerals.{add-one}
use lib.Seq.{take-suc, drop-cons}
use borrow.Author.Tests.{ne_eqb, eqb-false}
use Rattle.rules.proofs.Facts.{or_right, or_left}

-- every bound is at least 1 where the product is
pub product_pos_head : (b m : ℕ) → 0 < b * m → 0 < b
product_pos_head zero m h = omega arith
product_pos_head (suc b) m h = omega arith

pub product_pos_tail : (b m : ℕ) → 0 < b * m → 0 < m
product_pos_tail b zero h = omega arith
product_pos_tail b (suc m) h = omega arith

pub product_snoc : (bs : List ℕ) (b : ℕ) → product (bs ++ b ∷ []) ≡ product bs * b
unfolding product
product_snoc [] b = omega arith
product_snoc (c ∷ bs) b = omega (arith, ap (λ (x : ℕ). c * x) (product_snoc bs b))

pub product-more : (bs : List ℕ) (i : ℕ) → i < length bs → product (take (i + 1) bs) ≡ product (take i bs) * get_or bs i 0
product-more bs i h = rw (add-one i, take-suc bs i 0 h) (product_snoc (take i bs) (get_or bs i 0))

pub zero_nowhere : (bs : List ℕ) (i : ℕ) → holds_zero bs ≡ false → i < length bs → 0 < get_or bs i 0
unfolding holds_zero
zero_nowhere [] i e h = absurd (not-suc-le-zero h)
zero_nowhere (b ∷ bs) zero e h = pos_of_ne-zero (eqb-false b 0 (or_left (eqb b 0) (holds_zero bs) e))
zero_nowhere (b ∷ bs) (suc i) e h = zero_nowhere bs i (or_right (eqb b 0) (holds_zero bs) e) (le_of_suc-le-suc h)

module _ (bs : List ℕ) (i : ℕ) (h : i < length bs) where
  pub zero_here : get_or bs i 0 ≡ 0 → holds_zero (drop i bs) ≡ true
  unfolding holds_zero
  zero_here e = rw (drop-cons bs i 0 h, e)

  pub zero-later : (get_or bs i 0 ≡ 0 → ⊥) → holds_zero (drop (i + 1) bs) ≡ holds_zero (drop i bs)
  unfolding holds_zero
  zero-later n = rw (add-one i, drop-cons bs i 0 h, ne_eqb (get_or bs i 0) 0 n)

pub zero_none : (bs : List ℕ) (i : ℕ) → length bs ≤ i → holds_zero (drop i bs) ≡ false
unfolding holds_zero
zero_none bs i h = rw (drop_of_length-le bs h)

-- ---- the product of bounds that are all at least 1

pub product_some : (bs : List ℕ) → ((i : ℕ) → i < length bs → 0 < get_or bs i 0) → 0 < product bs
unfolding product
product_some [] h = omega arith
product_some (b ∷ bs) h = mul-pos (h 0 (suc-le-suc zero-le)) (product_some bs (λ i k. h (suc i) (suc-le-suc k)))

pub product_pos : (bs : List ℕ) → holds_zero bs ≡ false → 0 < product bs
product_pos bs z = product_some bs (λ i h. zero_nowhere bs i z h)
