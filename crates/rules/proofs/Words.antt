-- The run of words behind rolls, over every width L. Assumes nothing.
--
--   words_behind_lem    the words that give the rolls, accepted, are exactly those from the first to the last
--   first-last          the first is at most the last
--   last_fits           and the last is a word
--   run_length          the run has 2^L / product words, whichever the rolls are
--   window_fits         that the last is a word, as numbers
use mathlib.Core.Path.{◌≡◌, ap, subst}
use mathlib.Core.Logic.{◌↔◌}
use mathlib.Core.List.{List}
use Prim.Native.Nat.{ℕ, suc, suc-le-suc, ◌+◌, ◌-◌, ◌*◌, ◌/◌, ◌%◌, ◌^◌, ◌<◌, ◌≤◌}
use native.Mathlib.Nat.{div-add-mod, div-lt_iff_lt-mul, le-div_iff_mul-le, mul-le-mul_left, le_of_suc-le-suc, le_refl, div-mul-le_self, lt_of_not-le, lt_of_mul-lt-mul_left}
use native.Mathlib.Omega.{arith}
use lib.Dec.{T, leb→le, le→leb}
use Rattle.rules.specs.Rolls.{rolls, rest, product, value, threshold, accepted, in_range, up, first_word, last_word}
use Rattle.rules.proofs.Rolls.{key_law, rest_below, rolls_in_range, value_below, value_one}

up_le : (x w : ℕ) {b : ℕ} → 0 < b → (up x b ≤ w) ↔ (x ≤ b * w)
up_le x w {b} p = (
  λ h. let f : x + (b - 1) < suc w * b = (div-lt_iff_lt-mul p).0 (suc-le-suc h) in omega arith,
  λ h. let f : x + (b - 1) < suc w * b = omega arith in le_of_suc-le-suc ((div-lt_iff_lt-mul p).1 f),
)

-- one word in one run, as numbers: W stands for 2^L, b for the product, x for the value of the word's rolls, r for its last r
window : (W b a x r w : ℕ) → 0 < b → b ≤ W → r < W → b * w ≡ W * x + r
    → ((W % b ≤ r) × (x ≡ a)) ↔ ((up (W * a + W % b) b ≤ w) × (w ≤ up (W * a + W % b) b + W / b - 1))
window W b a x r w p l h e = (to, from)
  where
    f : ℕ
    f = up (W * a + W % b) b

    q : ℕ
    q = W / b

    q_pos : 0 < q
    q_pos = (le-div_iff_mul-le p).1 (omega arith)

    whole : b * q + W % b ≡ W
    whole = div-add-mod W b

    low : W * a + W % b ≤ b * f
    low = (up_le (W * a + W % b) f p).0 (le_refl f)

    high : f * b ≤ W * a + W % b + (b - 1)
    high = div-mul-le_self (W * a + W % b + (b - 1)) b

    to : (W % b ≤ r) × (x ≡ a) → (f ≤ w) × (w ≤ f + q - 1)
    to (t, s) =
        let wx : W * x ≡ W * a = ap (λ (n : ℕ). W * n) s in (
          (up_le (W * a + W % b) w p).1 (omega arith),
          (let lt : w < f + q = lt_of_not-le (λ k. omega (arith, mul-le-mul_left b k, low, whole)) in omega (arith, q_pos)),
        )

    from : (f ≤ w) × (w ≤ f + q - 1) → (W % b ≤ r) × (x ≡ a)
    from (t, s) =
        let at_least : W * a + W % b ≤ W * x + r = subst (λ (n : ℕ). W * a + W % b ≤ n) e ((up_le (W * a + W % b) w p).0 t) in
        let up_to : suc w ≤ f + q = omega (arith, q_pos) in
        let below : W * x + r < W * a + W = omega (arith, mul-le-mul_left b up_to, high, whole) in
        let x≤a : x < suc a = lt_of_mul-lt-mul_left W (omega arith) in
        let a≤x : a < suc x = lt_of_mul-lt-mul_left W (omega arith) in
        let same : x ≡ a = omega arith in
        let wx : W * x ≡ W * a = ap (λ (n : ℕ). W * n) same in
        (omega arith, same)

pub window_fits : (W b a : ℕ) → 0 < b → b ≤ W → a < b → up (W * a + W % b) b + W / b - 1 < W
window_fits W b a p l h =
    let f : ℕ = up (W * a + W % b) b in
    let q : ℕ = W / b in
    let q_pos : 0 < q = (le-div_iff_mul-le p).1 (omega arith) in
    let high : f * b ≤ W * a + W % b + (b - 1) = div-mul-le_self (W * a + W % b + (b - 1)) b in
    let most : W * suc a ≤ W * b = mul-le-mul_left W h in
    let lt : b * (f + q) < b * suc W = omega (arith, high, most, div-add-mod W b) in
    let done : f + q < suc W = lt_of_mul-lt-mul_left b lt in
    omega (arith, done)

module _ (L : ℕ) (bs rs : List ℕ) (p : 0 < product bs) (l : product bs ≤ 2 ^ L) where
  some_words : 0 < 2 ^ L / product bs
  some_words = (le-div_iff_mul-le p).1 (omega arith)

  pub first-last : first_word L bs rs ≤ last_word L bs rs
  first-last = omega (arith, some_words)

  pub run_length : last_word L bs rs - first_word L bs rs + 1 ≡ 2 ^ L / product bs
  run_length = omega (arith, some_words)

  module _ (i : T (in_range bs rs)) where
    pub last_fits : last_word L bs rs < 2 ^ L
    last_fits = window_fits (2 ^ L) (product bs) (value bs rs) p l (value_below bs rs i)

    pub words_behind_lem : (w : ℕ) → w < 2 ^ L
        → (T (accepted L bs w) × (rolls L bs w ≡ rs)) ↔ ((first_word L bs rs ≤ w) × (w ≤ last_word L bs rs))
    words_behind_lem w h = (λ (t, e). run.0 (leb→le _ _ t, ap (value bs) e), back)
      where
        run : ((threshold L (product bs) ≤ rest L bs w) × (value bs (rolls L bs w) ≡ value bs rs))
            ↔ ((first_word L bs rs ≤ w) × (w ≤ last_word L bs rs))
        run = window (2 ^ L) (product bs) (value bs rs) (value bs (rolls L bs w)) (rest L bs w) w p l (rest_below L bs w h) (key_law L bs w)

        back : (first_word L bs rs ≤ w) × (w ≤ last_word L bs rs) → T (accepted L bs w) × (rolls L bs w ≡ rs)
        back k =
            (le→leb _ _ (run.1 k).0, value_one bs (rolls L bs w) rs (rolls_in_range L bs w p h) i (run.1 k).1)
