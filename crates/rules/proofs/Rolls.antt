-- The laws of rolls, over every width L: the whole-number part of Theorem 1 of source document 000. Assumes nothing.
--
--   key_law                              product times word = 2^L times the value of the rolls + the last r
--   rest_below                           the last r is below 2^L
--   rest_low                             the last r is the low half of product times word: no unfolding is needed to test a word
--   length-rolls                         as many rolls as bounds
--   roll_below, rolls_in_range           each roll is below its bound
--   value_below                          rolls in range have a value below the product
--   value_one                            and no two of them have the same
--   threshold_wraps                      t is zero less b, taken with wrap, mod b
--   threshold_whole                      t is 0 for b = 2^L
use mathlib.Core.Path.{◌≡◌, refl, sym, ap, ap₂, ◌∙◌}
use mathlib.Core.List.{List, [], ◌∷◌}
use Prim.Native.Nat.{ℕ, suc, ◌+◌, ◌-◌, ◌*◌, ◌/◌, ◌%◌, ◌^◌, ◌<◌, ◌≤◌}
use native.Mathlib.Nat.{div-add-mod, mod-lt, mod_self, mod-eq-sub-mod, div-lt_iff_lt-mul, mul-lt-mul_of_pos_left, mul-add-mod_self_left, mod-eq_of_lt}
use native.Mathlib.Omega.{arith}
use lib.Arith.{digits_lt, digits_div, digits_mod}
use lib.Dec.{T}
use lib.ListN.{length}
use lib.Pow.{pow_pos}
use Rattle.rules.specs.Rolls.{rolls, rest, product, value, threshold, in_range}
use Rattle.rules.proofs.Products.{product_pos_head, product_pos_tail}
use Rattle.rules.proofs.Range.{in_range_cons}

-- ---- the last r

pub key_law : (L : ℕ) (bs : List ℕ) (r : ℕ) → product bs * r ≡ 2 ^ L * value bs (rolls L bs r) + rest L bs r
unfolding rolls rest product value
key_law L [] r = omega arith
key_law L (b ∷ bs) r =
    let m : ℕ = product bs in
    omega (arith, key_law L bs (b * r % 2 ^ L), ap (λ (x : ℕ). m * x) (div-add-mod (b * r) (2 ^ L)))

pub rest_below : (L : ℕ) (bs : List ℕ) (r : ℕ) → r < 2 ^ L → rest L bs r < 2 ^ L
unfolding rest
rest_below L [] r h = h
rest_below L (b ∷ bs) r h = rest_below L bs (b * r % 2 ^ L) (mod-lt (b * r) (pow_pos L))

-- with a bound or more this holds of every number r, a word or not
pub rest_low : (L b : ℕ) (bs : List ℕ) (r : ℕ) → rest L (b ∷ bs) r ≡ product (b ∷ bs) * r % 2 ^ L
rest_low L b bs r =
    let l : rest L (b ∷ bs) r < 2 ^ L = unfold rest in rest_below L bs (b * r % 2 ^ L) (mod-lt (b * r) (pow_pos L)) in
    sym (ap (λ (x : ℕ). x % 2 ^ L) (key_law L (b ∷ bs) r) ∙ mul-add-mod_self_left (2 ^ L) _ _ ∙ mod-eq_of_lt l)

-- ---- the rolls

pub length-rolls : (L : ℕ) (bs : List ℕ) (r : ℕ) → length (rolls L bs r) ≡ length bs
unfolding rolls
length-rolls L [] r = refl
length-rolls L (b ∷ bs) r = ap suc (length-rolls L bs (b * r % 2 ^ L))

pub roll_below : (L b r : ℕ) → 0 < b → r < 2 ^ L → b * r / 2 ^ L < b
roll_below L b r p h = (div-lt_iff_lt-mul (pow_pos L)).1 (mul-lt-mul_of_pos_left h p)

pub rolls_in_range : (L : ℕ) (bs : List ℕ) (r : ℕ) → 0 < product bs → r < 2 ^ L → T (in_range bs (rolls L bs r))
unfolding rolls product in_range
rolls_in_range L [] r p h = tt
rolls_in_range L (b ∷ bs) r p h =
    (in_range_cons b bs (b * r / 2 ^ L) (rolls L bs (b * r % 2 ^ L))).1 (
      roll_below L b r (product_pos_head b (product bs) p) h,
      rolls_in_range L bs (b * r % 2 ^ L) (product_pos_tail b (product bs) p) (mod-lt (b * r) (pow_pos L)),
    )

-- ---- mixed radix

pub value_below : (bs rs : List ℕ) → T (in_range bs rs) → value bs rs < product bs
unfolding value product in_range
value_below [] [] h = omega arith
value_below [] (r ∷ rs) h = absurd h
value_below (b ∷ bs) [] h = absurd h
value_below (b ∷ bs) (r ∷ rs) h =
    let i = (in_range_cons b bs r rs).0 h in
    digits_lt i.0 (value_below bs rs i.1)

pub value_one : (bs rs ss : List ℕ) → T (in_range bs rs) → T (in_range bs ss) → value bs rs ≡ value bs ss → rs ≡ ss
unfolding value product in_range
value_one [] [] [] h k e = refl
value_one [] [] (s ∷ ss) h k e = absurd k
value_one [] (r ∷ rs) ss h k e = absurd h
value_one (b ∷ bs) [] ss h k e = absurd h
value_one (b ∷ bs) (r ∷ rs) [] h k e = absurd k
value_one (b ∷ bs) (r ∷ rs) (s ∷ ss) h k e =
    let i = (in_range_cons b bs r rs).0 h in
    let j = (in_range_cons b bs s ss).0 k in
    let p : value bs rs < product bs = value_below bs rs i.1 in
    let q : value bs ss < product bs = value_below bs ss j.1 in
    ap₂ ◌∷◌
    (sym (digits_div r p) ∙ ap (λ (x : ℕ). x / product bs) e ∙ digits_div s q)
    (value_one bs rs ss i.1 j.1 (sym (digits_mod r p) ∙ ap (λ (x : ℕ). x % product bs) e ∙ digits_mod s q))

-- ---- the threshold

pub threshold_wraps : (L b : ℕ) → b ≤ 2 ^ L → (2 ^ L - b) % b ≡ threshold L b
threshold_wraps L b h = sym (mod-eq-sub-mod h)

pub threshold_whole : (L : ℕ) → threshold L (2 ^ L) ≡ 0
threshold_whole L = mod_self (2 ^ L)
