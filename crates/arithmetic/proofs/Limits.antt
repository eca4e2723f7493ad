-- Products held against a limit, and products that wrap. Assumes nothing.
--
--   against_fits, against_large                   a product is held where it is at most 2^64
--   held_fits, held_large                         and what that says of it
--   beyond_words, within_word                     whether a number is at most a limit that is a word, by its halves
--   half_fits, whole_fits, halves_large           whether a number is at most 2^64, by its halves
--   is_below, is_whole, is_above                  and what that says of the number
--   unwrap_whole, unwrap_some, unwrap_wrapped     the product that a word stands for, where products up to 2^L wrap
--   zero_any                                      whether some bound is 0
--   Grown, grown_none, grown_turn,                the loop that finds the product of bounds
--     grown_past, grown_whole that finds the product of bounds
use Rattle.std.proofs.Common.{◌≡◌, ℕ, ◌*◌, ◌/◌, ◌%◌, ◌^◌, ◌<◌, ◌≤◌, Bool, true, false, ◌||◌, ◌==◌, Option, Some, None, List, [], ◌∷◌, zero, suc, ◌+◌, length, take, take_all, get_or, eqb, leb, sym, refl, ap, ◌∙◌, mod-eq_of_lt, arith, eq-eqb, ne_eqb}
use Rattle.std.specs.List.{list_any}
use Rattle.std.proofs.Math.Seq.{take-nil}
use Rattle.std.proofs.Math.Nat.{mul-le-mul_left}
use native.Mathlib.Nat.{mod_self}
use native.Mathlib.Decide.{dec_lt}
use lib.Arith.{lt_of_le-ne}
use borrow.Author.Tests.{lt-leb, le-leb, leb-true, leb-false}
use Rattle.arithmetic.specs.Products.{wrap, against, unwrap}
use Rattle.arithmetic.specs.declared.bounds.Product.{Product}
use native.Mathlib.Nat.{mul-pos}
use Rattle.rules.specs.Rolls.{product, holds_zero}
use Rattle.rules.proofs.Facts.{clash, or_right}
use Rattle.rules.proofs.Products.{product_pos, product-more, zero_nowhere}

-- ---- what is held of a product

pub against_fits : (n : ℕ) → n ≤ 2 ^ 64 → against n ≡ Some (wrap n)
unfolding against
against_fits n h = rw (le-leb n (2 ^ 64) h, against)

pub against_large : (n : ℕ) → 2 ^ 64 < n → against n ≡ None
unfolding against
against_large n h = rw (lt-leb n (2 ^ 64) h, against)

-- and what it says of the number

pub held_large : (n : ℕ) → against n ≡ None → 2 ^ 64 < n
held_large n e = go (leb n (2 ^ 64)) refl
  where
    go : (t : Bool) → leb n (2 ^ 64) ≡ t → 2 ^ 64 < n
    go true f = let x = against_fits n (leb-true n (2 ^ 64) f) in clash cc
    go false f = omega (arith, leb-false n (2 ^ 64) f)

pub held_fits : (n : ℕ) (p : Product) → against n ≡ Some p → (n ≤ 2 ^ 64) × (p ≡ wrap n)
held_fits n p e = go (leb n (2 ^ 64)) refl
  where
    go : (t : Bool) → leb n (2 ^ 64) ≡ t → (n ≤ 2 ^ 64) × (p ≡ wrap n)
    go true f = let h = leb-true n (2 ^ 64) f in let x = against_fits n h in (h, cc)
    go false f = let x = against_large n (omega (arith, leb-false n (2 ^ 64) f)) in clash cc

-- 2^64 is held by the word 0
pub whole_held : (p : Product) → p.wrapped ≡ 0 → against (2 ^ 64) ≡ Some p
whole_held p e = against_fits (2 ^ 64) (omega arith) ∙ ap (λ (x : ℕ). Some (record { wrapped = x })) (sym e)

-- ---- a number by its halves

pub beyond_words : (n high limit : ℕ) → high ≡ n / 2 ^ 64 → (high ≡ 0 → ⊥) → limit < 2 ^ 64 → eqb high 0 ≡ leb n limit
beyond_words n high limit h k f = ne_eqb high 0 k ∙ sym (lt-leb n limit (omega arith))

module _ (n high low : ℕ) (h : high ≡ n / 2 ^ 64) (l : low ≡ n % 2 ^ 64) where
  pub within_word : high ≡ 0 → (limit : ℕ) → leb low limit ≡ leb n limit
  within_word e limit = let same : low ≡ n = omega arith in ap (λ (x : ℕ). leb x limit) same

  -- the low half is the word that the product wraps to
  low_wraps : record { wrapped = low } ≡ wrap n
  low_wraps = ap (λ (x : ℕ). record { wrapped = x }) l

  pub half_fits : high ≡ 0 → Some (record { wrapped = low }) ≡ against n
  half_fits e = ap Some low_wraps ∙ sym (against_fits n (omega arith))

  pub whole_fits : high ≡ 1 → low ≡ 0 → Some (record { wrapped = low }) ≡ against n
  whole_fits e f = ap Some low_wraps ∙ sym (against_fits n (omega arith))

  pub is_below : high ≡ 0 → (n < 2 ^ 64) × (low ≡ n) × (Some (record { wrapped = low }) ≡ against n)
  is_below e = (omega arith, omega arith, half_fits e)

  pub is_whole : high ≡ 1 → low ≡ 0 → (n ≡ 2 ^ 64) × (Some (record { wrapped = low }) ≡ against n)
  is_whole e f = (omega arith, whole_fits e f)

  pub halves_large : (high ≡ 0 → ⊥) → (high ≡ 1 → low ≡ 0 → ⊥) → None ≡ against n
  halves_large k m = sym (against_large n (lt_of_le-ne (omega arith) (λ e. m (omega arith) (omega arith))))

  pub is_above : (high ≡ 0 → ⊥) → (high ≡ 1 → low ≡ 0 → ⊥) → (2 ^ 64 < n) × (None ≡ against n)
  is_above k m = (lt_of_le-ne (omega arith) (λ e. m (omega arith) (omega arith)), halves_large k m)

-- ---- products that wrap

pub unwrap_whole : (L b : ℕ) → b ≡ 0 → unwrap L b ≡ 2 ^ L
unwrap_whole L b e = rw (eq-eqb b 0 e, unwrap)

pub unwrap_some : (L b : ℕ) → (b ≡ 0 → ⊥) → unwrap L b ≡ b
unwrap_some L b n = rw (ne_eqb b 0 n, unwrap)

-- a product from 1 to 2^L is known by what is left of it when it wraps
pub unwrap_wrapped : (L p : ℕ) → 0 < p → p ≤ 2 ^ L → unwrap L (p % 2 ^ L) ≡ p
unwrap_wrapped L p h l = go (dec_lt p (2 ^ L))
  where
    go : Dec (p < 2 ^ L) → unwrap L (p % 2 ^ L) ≡ p
    go (yes k) = let e : p % 2 ^ L ≡ p = mod-eq_of_lt k in rw e (unwrap_some L p (λ z. omega arith))
    go (no k) =
        let w : p ≡ 2 ^ L = omega arith in
        let e : p % 2 ^ L ≡ 0 = ap (λ (n : ℕ). n % 2 ^ L) w ∙ mod_self (2 ^ L) in
        unwrap_whole L (p % 2 ^ L) e ∙ sym w

-- ---- the bounds of a batch

pub zero_any : (bs : List ℕ) → list_any (λ b. b == 0) bs ≡ holds_zero bs
unfolding holds_zero
zero_any [] = refl
zero_any (b ∷ bs) = ap (λ t. (b == 0) || t) (zero_any bs)

-- where no bound is 0, the product of the first few is at most that of all
front_at_most : (bs : List ℕ) (i : ℕ) → holds_zero bs ≡ false → product (take i bs) ≤ product bs
unfolding product holds_zero
front_at_most [] i z = rw (take-nil) (omega arith)
front_at_most (b ∷ bs) zero z = product_pos (b ∷ bs) z
front_at_most (b ∷ bs) (suc i) z = mul-le-mul_left b (front_at_most bs i (or_right (eqb b 0) (holds_zero bs) z))

-- the product of the first i bounds is held
abbrev pub Grown : List ℕ → ℕ → Product → Type 0
Grown bs i p = (0 < product (take i bs)) × (product (take i bs) ≤ 2 ^ 64) × (p ≡ wrap (product (take i bs)))

pub grown_none : (bs : List ℕ) → Grown bs 0 (record { wrapped = 1 })
unfolding product
grown_none bs = (omega arith, omega arith, refl)

module _ (bs : List ℕ) (z : holds_zero bs ≡ false) (i : ℕ) (h : i < length bs) (p : Product) (v : Grown bs i p) (r : Option Product) (e : r ≡ against (unwrap 64 p.wrapped * get_or bs i 0)) where
  more : product (take (i + 1) bs) ≡ product (take i bs) * get_or bs i 0
  more = product-more bs i h

  same : r ≡ against (product (take (i + 1) bs))
  same = e ∙ ap (λ (q : Product). against (unwrap 64 q.wrapped * get_or bs i 0)) v.2 ∙ ap (λ (n : ℕ). against (n * get_or bs i 0)) (unwrap_wrapped 64 (product (take i bs)) v.0 v.1) ∙ ap against (sym more)

  pub grown_turn : (q : Product) → r ≡ Some q → Grown bs (i + 1) q
  grown_turn q f =
      let held = held_fits (product (take (i + 1) bs)) q (sym same ∙ f) in
      (rw more (mul-pos v.0 (zero_nowhere bs i z h)), held.0, held.1)

  pub grown_past : r ≡ None → None ≡ against (product bs)
  grown_past f = sym (against_large (product bs) (omega (arith, held_large (product (take (i + 1) bs)) (sym same ∙ f), front_at_most bs (i + 1) z)))

pub grown_whole : (bs : List ℕ) (i : ℕ) → length bs ≤ i → (p : Product) → Grown bs i p → Some p ≡ against (product bs)
grown_whole bs i h p v =
    let all : product (take i bs) ≡ product bs = ap product (take_all i bs h) in
    ap Some (v.2 ∙ ap wrap all) ∙ sym (against_fits (product bs) (rw all at v.1))
