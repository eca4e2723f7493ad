-- Long division in base 2, one bit a turn, and the quotient rounded up. Assumes nothing.
--
--   Dividing                       with so many bits left: the quotient and the remainder so far
--   divide_below, divide_reached   one turn, where the remainder stays below the divisor, and where it reaches it
--   divide_fits                    the quotient of a turn is a word
--   divide_done                    with no bit left they are the quotient and the remainder
--   up_exact, up_more              x / b rounded up is the quotient, or one more
use Rattle.std.proofs.Common.{◌≡◌, ℕ, zero, suc, ◌+◌, ◌-◌, ◌*◌, ◌/◌, ◌%◌, ◌^◌, ◌<◌, ◌≤◌, sym, ap, ◌∙◌, not-suc-le-zero, mod-lt, pos_of_ne-zero, mul-le-mul_left, pow-suc, div-add-mod', arith, pow_pos}
use native.Mathlib.Nat.{mod-one}
use lib.Arith.{digits_div, digits_mod}
use lib.Pow.{mod-pow-add}
use Rattle.rules.specs.Rolls.{up}

-- with so many bits of low left: those above them, divided by b, are the quotient and the remainder so far
abbrev pub Dividing : ℕ → ℕ → ℕ → ℕ → ℕ → ℕ → Type 0
Dividing high low b quotient remainder left =
    (remainder < b) × (left ≤ 64) × ((quotient + 1) * 2 ^ left ≤ 2 ^ 64)
    × (high * 2 ^ 64 + low ≡ (quotient * b + remainder) * 2 ^ left + low % 2 ^ left)

double : (left : ℕ) → 0 < left → 2 ^ left ≡ 2 ^ (left - 1) * 2
double zero h = absurd (let z : ⊥ = omega arith in z)
double (suc k) h = pow-suc 2 k ∙ ap (λ (n : ℕ). 2 ^ n * 2) (omega arith)

-- the bit above the others that are left
next_bit : (low left : ℕ) → 0 < left → low % 2 ^ left ≡ low / 2 ^ (left - 1) % 2 * 2 ^ (left - 1) + low % 2 ^ (left - 1)
next_bit low left h = ap (λ (n : ℕ). low % 2 ^ n) (omega arith) ∙ mod-pow-add low 1 (left - 1)

-- the numbers of a turn: p for 2^(left - 1), m for the bits that are left after it
module _ (n q b r p bit m : ℕ) (e : n ≡ (q * b + r) * (p * 2) + (bit * p + m)) where
  below : n ≡ (q * 2 * b + (r * 2 + bit)) * p + m
  below = omega arith

  reached : (s : ℕ) → s + b ≡ r * 2 + bit → n ≡ ((q * 2 + 1) * b + s) * p + m
  reached s f = omega (arith, ap (λ (x : ℕ). x * p) f)

module _ (high low b q r left : ℕ) (v : Dividing high low b q r left) (h : 0 < left) where
  turned : high * 2 ^ 64 + low ≡ (q * b + r) * (2 ^ (left - 1) * 2) + (low / 2 ^ (left - 1) % 2 * 2 ^ (left - 1) + low % 2 ^ (left - 1))
  turned = rw (next_bit low left h, double left h) at v.3

  -- the quotient has room for one bit more
  pub divide_fits : q * 2 + 1 < 2 ^ 64
  divide_fits = omega (arith, v.2, rw (double left h) at v.2, mul-le-mul_left (q + 1) (pow_pos (left - 1)))

  pub divide_below : r + low / 2 ^ (left - 1) % 2 < b - r → Dividing high low b (q * 2) (r * 2 + low / 2 ^ (left - 1) % 2) (left - 1)
  divide_below k = (
    omega (arith, k),
    omega (arith, v.1),
    omega (arith, rw (double left h) at v.2),
    below (high * 2 ^ 64 + low) q b r (2 ^ (left - 1)) (low / 2 ^ (left - 1) % 2) (low % 2 ^ (left - 1)) turned,
  )

  pub divide_reached : b - r ≤ r + low / 2 ^ (left - 1) % 2
      → Dividing high low b (q * 2 + 1) (r + low / 2 ^ (left - 1) % 2 - (b - r)) (left - 1)
  divide_reached k = (
    omega (arith, k),
    omega (arith, v.1),
    omega (arith, rw (double left h) at v.2),
    reached (high * 2 ^ 64 + low) q b r (2 ^ (left - 1)) (low / 2 ^ (left - 1) % 2) (low % 2 ^ (left - 1)) turned
        (r + low / 2 ^ (left - 1) % 2 - (b - r)) (omega (arith, k, v.0)),
  )

pub divide_done : (high low b q r left : ℕ) → left ≤ 0 → Dividing high low b q r left
    → (q ≡ (high * 2 ^ 64 + low) / b) × (r ≡ (high * 2 ^ 64 + low) % b)
divide_done high low b q r zero z (l, k, m, e) =
    let f : high * 2 ^ 64 + low ≡ q * b + r = e ∙ omega (arith, mod-one low) in
    (sym (ap (λ (n : ℕ). n / b) f ∙ digits_div q l), sym (ap (λ (n : ℕ). n % b) f ∙ digits_mod q l))
divide_done high low b q r (suc left) z v = absurd (not-suc-le-zero z)

-- ---- rounded up

-- x / b, rounded up, from the quotient and the remainder
module _ (x b : ℕ) (h : 0 < b) where
  pub up_exact : x % b ≡ 0 → x / b ≡ up x b
  up_exact e =
      let f : x + (b - 1) ≡ x / b * b + (b - 1) = omega (arith, div-add-mod' x b) in
      sym (ap (λ (n : ℕ). n / b) f ∙ digits_div (x / b) (omega arith))

  pub up_more : (x % b ≡ 0 → ⊥) → x / b + 1 ≡ up x b
  up_more e =
      let s : 0 < x % b = pos_of_ne-zero e in
      let f : x + (b - 1) ≡ (x / b + 1) * b + (x % b - 1) = omega (arith, div-add-mod' x b) in
      sym (ap (λ (n : ℕ). n / b) f ∙ digits_div (x / b + 1) (omega (arith, mod-lt x h)))
