-- The library's bytes of a number, and the number of its bytes, are those of the area. Assumes nothing.
--
--   number_of_bytes    the number that the library makes of bytes
--   bytes_of_number    the bytes that the library makes of a number
use mathlib.Core.Path.{◌≡◌, refl, sym, ap, ap₂, ◌∙◌}
use mathlib.Core.List.{List, [], ◌∷◌}
use Prim.Native.Nat.{ℕ, zero, suc, ◌+◌, ◌*◌, ◌/◌, ◌%◌, ◌^◌}
use native.Mathlib.Nat.{div-one, pow-suc, mul_comm, mul_assoc, div-div-eq-div-mul}
use native.Mathlib.Omega.{arith}
use lib.ListN.{length}
use Rattle.std.specs.Prelude.{slice_index}
use Rattle.std.specs.Int.{byte_at, byte_worth, bytes_low_first, sum_through}
use Rattle.areas.specs.Area.{little, bytes_of}

-- what byte i of a number is worth
abbrev pub worth : List ℕ → ℕ → ℕ
worth bs i = byte_worth i (slice_index bs i)

worth_up : (b k : ℕ) → b * 256 ^ suc k ≡ 256 * (b * 256 ^ k)
worth_up b k = ap (λ (m : ℕ). b * m) (pow-suc 256 k) ∙ sym (mul_assoc b (256 ^ k) 256) ∙ mul_comm (b * 256 ^ k) 256

-- by the first byte and the rest
worth_step : (b : ℕ) (bs : List ℕ) (n : ℕ) → sum_through (worth (b ∷ bs)) (suc n) ≡ b + 256 * sum_through (worth bs) n
worth_step b bs zero = omega arith
worth_step b bs (suc n) = omega (arith, worth_step b bs n, worth_up (slice_index bs (suc n)) (suc n))

pub number_of_bytes : (n : ℕ) (bs : List ℕ) → length bs ≡ suc n → sum_through (worth bs) n ≡ little bs
unfolding little
number_of_bytes n [] e = absurd (omega arith)
number_of_bytes zero (b ∷ []) e = omega arith
number_of_bytes zero (b ∷ c ∷ bs) e = absurd (omega arith)
number_of_bytes (suc n) (b ∷ bs) e = worth_step b bs n ∙ ap (λ (m : ℕ). b + 256 * m) (number_of_bytes n bs (omega arith))

-- ---- the bytes from byte i of n on

byte_known : (i n : ℕ) → byte_at i n ≡ n / 256 ^ i % 256
byte_known zero n = ap (λ (m : ℕ). m % 256) (sym (div-one n))
byte_known (suc i) n = refl

bytes_from : (size i n : ℕ) → bytes_low_first i size n ≡ bytes_of size (n / 256 ^ i)
unfolding bytes_of
bytes_from zero i n = refl
bytes_from (suc size) i n =
    let up : n / 256 ^ suc i ≡ n / 256 ^ i / 256 = ap (λ (m : ℕ). n / m) (pow-suc 256 i) ∙ sym (div-div-eq-div-mul n (256 ^ i) 256) in
    ap₂ ◌∷◌ (byte_known i n) (bytes_from size (suc i) n ∙ ap (bytes_of size) up)

pub bytes_of_number : (size n : ℕ) → bytes_low_first 0 size n ≡ bytes_of size n
bytes_of_number size n = bytes_from size 0 n ∙ ap (bytes_of size) (div-one n)
