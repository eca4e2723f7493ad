-- Numbers read from bytes, and those of an area. Assumes nothing.
--
--   number_none, number_step    a number of no bytes; a number by its first byte and the rest of it
--   number_read                 a number as the library makes it of its bytes
--   length-entries              an area has as many numbers as its count
--   get_or-entries              the i-th number of an area
use mathlib.Core.Path.{◌≡◌, refl, ap, ◌∙◌}
use mathlib.Core.List.{List}
use Prim.Native.Nat.{ℕ, zero, suc, ◌+◌, ◌-◌, ◌*◌, ◌<◌, ◌≤◌}
use native.Mathlib.Nat.{not-suc-le-zero, le_of_suc-le-suc}
use native.Mathlib.Numerals.{add-one}
use native.Mathlib.Omega.{arith}
use lib.ListN.{length, take, drop, get_or, length-drop}
use lib.Seq.{drop-cons, length-take-le}
use Rattle.std.specs.Int.{sum_through}
use Rattle.areas.specs.Area.{little, number, entries}
use Rattle.areas.proofs.Bytes.{worth, number_of_bytes}

-- ---- a number

pub number_none : (at : ℕ) (s : List ℕ) → number 0 at s ≡ 0
unfolding little
number_none at s = refl

pub number_step : (size at next : ℕ) (s : List ℕ) → next ≡ at + 1 → at < length s → number (suc size) at s ≡ get_or s at 0 + 256 * number size next s
unfolding little
number_step size at next s e h = rw (e, add-one at, drop-cons s at 0 h)

-- the number that the library makes of the bytes of a part
pub number_read : (size at : ℕ) (s bytes : List ℕ) (n : ℕ) → bytes ≡ take (at + size - at) (drop at s) → 0 < size → at + size ≤ length s → n ≡ sum_through (worth bytes) (size - 1)
    → n ≡ number size at s
number_read zero at s bytes n e some h k = absurd (omega arith)
number_read (suc size) at s bytes n e some h k =
    let long : at + suc size - at ≡ suc size = omega arith in
    let last : suc size - 1 ≡ size = omega arith in
    let part : bytes ≡ take (suc size) (drop at s) = e ∙ ap (λ (m : ℕ). take m (drop at s)) long in
    k ∙ ap (sum_through (worth bytes)) last ∙ number_of_bytes size bytes (ap length part ∙ length-take-le (suc size) (drop at s) (rw length-drop (omega arith))) ∙ ap little part

-- ---- the numbers of an area

pub length-entries : (size c at : ℕ) (s : List ℕ) → length (entries size c at s) ≡ c
unfolding entries
length-entries size zero at s = refl
length-entries size (suc c) at s = ap suc (length-entries size c (at + size) s)

pub get_or-entries : (size count at : ℕ) (s : List ℕ) (i : ℕ) → i < count → get_or (entries size count at s) i 0 ≡ number size (at + size * i) s
unfolding entries
get_or-entries size zero at s i h = absurd (not-suc-le-zero h)
get_or-entries size (suc count) at s zero h = let e : at ≡ at + size * 0 = omega arith in ap (λ (k : ℕ). number size k s) e
get_or-entries size (suc count) at s (suc i) h =
    let e : at + size + size * i ≡ at + size * suc i = omega arith in
    get_or-entries size count (at + size) s i (le_of_suc-le-suc h) ∙ ap (λ (k : ℕ). number size k s) e
