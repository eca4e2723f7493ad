-- The product of two words by halves of 32 bits. Assumes nothing.
--
--   four_halves                 each product of two halves is at most (2^32 - 1)^2
--   high_columns, low_columns   the columns added with their carries are the high and the low half of the product
use Rattle.std.proofs.Common.{◌≡◌, ℕ, ◌+◌, ◌*◌, ◌/◌, ◌%◌, ◌^◌, ◌<◌, ◌≤◌, sym, ap, ◌∙◌, ap₂, mul-le-mul, div-add-mod', arith}
use lib.Arith.{digits_div}

-- (2^32 - 1)^2, the largest product of two halves
abbrev most : ℕ
most = 18446744065119617025

halves : {x y : ℕ} → x < 2 ^ 32 → y < 2 ^ 32 → x * y ≤ most
halves {x} {y} h k = mul-le-mul {n₁ = x} {m₁ = y} {n₂ = 4294967295} {m₂ = 4294967295} (omega arith) (omega arith)

pub four_halves : (a b : ℕ) → a < 2 ^ 64 → b < 2 ^ 64
    → (a % 2 ^ 32 * (b % 2 ^ 32) ≤ most) × (a / 2 ^ 32 * (b % 2 ^ 32) ≤ most)
    × (a % 2 ^ 32 * (b / 2 ^ 32) ≤ most) × (a / 2 ^ 32 * (b / 2 ^ 32) ≤ most)
four_halves a b h k =
    (halves (omega arith) (omega arith), halves (omega arith) (omega arith), halves (omega arith) (omega arith), halves (omega arith) (omega arith))

-- the four products of halves
columns : (a b : ℕ)
    → a * b
    ≡ a / 2 ^ 32 * (b / 2 ^ 32) * 2 ^ 64 + (a / 2 ^ 32 * (b % 2 ^ 32) + a % 2 ^ 32 * (b / 2 ^ 32)) * 2 ^ 32 + a % 2 ^ 32 * (b % 2 ^ 32)
columns a b = omega (arith, ap₂ (λ (x y : ℕ). x * y) (div-add-mod' a (2 ^ 32)) (div-add-mod' b (2 ^ 32)))

-- the columns added with their carries: x, y, z, u stand for the products of halves
module _ (x y z u : ℕ) where
  -- the middle column and the one above it, each with the carry from below
  abbrev middle : ℕ
  middle = y + x / 2 ^ 32

  abbrev upper : ℕ
  upper = z + middle % 2 ^ 32

  abbrev high_of : ℕ
  high_of = u + middle / 2 ^ 32 + upper / 2 ^ 32

  carried : u * 2 ^ 64 + (y + z) * 2 ^ 32 + x ≡ high_of * 2 ^ 64 + (upper % 2 ^ 32 * 2 ^ 32 + x % 2 ^ 32)
  carried = omega arith

  carried_high : (u * 2 ^ 64 + (y + z) * 2 ^ 32 + x) / 2 ^ 64 ≡ high_of
  carried_high = ap (λ (n : ℕ). n / 2 ^ 64) carried ∙ digits_div high_of (omega arith)

  -- the low half needs the columns' lower parts alone
  abbrev low_of : ℕ
  low_of = (y % 2 ^ 32 + z % 2 ^ 32 + x / 2 ^ 32) % 2 ^ 32 * 2 ^ 32 + x % 2 ^ 32

  carried_low : (u * 2 ^ 64 + (y + z) * 2 ^ 32 + x) % 2 ^ 64 ≡ low_of
  carried_low = omega arith

pub high_columns : (a b : ℕ) → high_of (a % 2 ^ 32 * (b % 2 ^ 32)) (a / 2 ^ 32 * (b % 2 ^ 32)) (a % 2 ^ 32 * (b / 2 ^ 32)) (a / 2 ^ 32 * (b / 2 ^ 32)) ≡ a * b / 2 ^ 64
high_columns a b =
    sym (ap (λ (n : ℕ). n / 2 ^ 64) (columns a b) ∙ carried_high (a % 2 ^ 32 * (b % 2 ^ 32)) (a / 2 ^ 32 * (b % 2 ^ 32)) (a % 2 ^ 32 * (b / 2 ^ 32)) (a / 2 ^ 32 * (b / 2 ^ 32)))

pub low_columns : (a b : ℕ) → low_of (a % 2 ^ 32 * (b % 2 ^ 32)) (a / 2 ^ 32 * (b % 2 ^ 32)) (a % 2 ^ 32 * (b / 2 ^ 32)) (a / 2 ^ 32 * (b / 2 ^ 32)) ≡ a * b % 2 ^ 64
low_columns a b =
    sym (ap (λ (n : ℕ). n % 2 ^ 64) (columns a b) ∙ carried_low (a % 2 ^ 32 * (b % 2 ^ 32)) (a / 2 ^ 32 * (b % 2 ^ 32)) (a % 2 ^ 32 * (b / 2 ^ 32)) (a / 2 ^ 32 * (b / 2 ^ 32)))
