-- Numbers in bytes are as they are pinned: a number byte by byte, an area number by number. Assumes nothing.
--
--   area_pinned    the statement
use mathlib.Core.Path.{◌≡◌, refl, sym, ap, subst, ◌∙◌}
use mathlib.Core.List.{List, [], append-nil}
use Prim.Native.Nat.{ℕ, zero, suc, suc-le-suc, ◌+◌, ◌*◌, ◌/◌, ◌%◌, ◌^◌, ◌<◌, ◌≤◌}
use native.Mathlib.Nat.{zero-lt-suc, add-zero, div-one, pow-suc, mul-le-mul_left, div-lt_iff_lt-mul}
use native.Mathlib.Omega.{arith}
use lib.ListN.{length, get_or}
use lib.Seq.{ext_get_or}
use Rattle.areas.specs.Area.{number, entries, bytes_of, area}
use Rattle.areas.specs.Pinned.{Stands, Area, AreaPinned}
use Rattle.areas.proofs.Laying.{byte_up, length_bytes, length-area, stands_at, laid_at}
use Rattle.areas.proofs.Reading.{number_none, number_step, length-entries, get_or-entries}

-- ---- a number

read_back : (size n at : ℕ) (s : List ℕ) → at + size ≤ length s → Stands size n at s → number size at s ≡ n
read_back zero n at s h v = omega (arith, number_none at s, v.0)
read_back (suc size) n at s h v =
    let low : get_or s at 0 ≡ n % 256 = first (v.1 0 (zero-lt-suc size)) in
    let high : number size (at + 1) s ≡ n / 256 = read_back size (n / 256) (at + 1) s (omega arith) (fits, later) in
    number_step size at (at + 1) s refl (omega arith) ∙ omega (arith, low, high)
  where
    first : get_or s (at + 0) 0 ≡ n / 256 ^ 0 % 256 → get_or s at 0 ≡ n % 256
    first e = ap (λ (p : ℕ). get_or s p 0) (sym (add-zero at)) ∙ e ∙ ap (λ (x : ℕ). x % 256) (div-one n)

    fits : n / 256 < 256 ^ size
    fits = (div-lt_iff_lt-mul (zero-lt-suc 255)).1 (subst (λ (x : ℕ). n < x) (pow-suc 256 size) v.0)

    later : (i : ℕ) → i < size → get_or s (at + 1 + i) 0 ≡ n / 256 / 256 ^ i % 256
    later i k =
        let e : at + 1 + i ≡ at + suc i = omega arith in
        ap (λ (p : ℕ). get_or s p 0) e ∙ v.1 (suc i) (suc-le-suc k) ∙ byte_up n i

-- ---- an area

area_back : (size at : ℕ) (s xs : List ℕ) → Area size at xs s → entries size (length xs) at s ≡ xs
area_back size at s xs v = ext_get_or 0 (entries size (length xs) at s) xs (length-entries size (length xs) at s) each
  where
    each : (i : ℕ) → i < length (entries size (length xs) at s) → get_or (entries size (length xs) at s) i 0 ≡ get_or xs i 0
    each i k =
        let l : i < length xs = subst (λ (m : ℕ). i < m) (length-entries size (length xs) at s) k in
        let within : at + size * i + size ≤ length s = omega (arith, v.0, mul-le-mul_left size l) in
        get_or-entries size (length xs) at s i l ∙ read_back size (get_or xs i 0) (at + size * i) s within (v.1 i l)

-- ---- the statement

pub area_pinned : AreaPinned
area_pinned = record {
  one = read_back;
  all = area_back;
  bytes = λ size n. (length_bytes size n, λ h. stands_at size n 0 (bytes_of size n) [] [] h refl (sym (append-nil (bytes_of size n))));
  laid = λ size xs. (length-area size xs, λ b. laid_at size xs 0 (area size xs) [] [] b refl (sym (append-nil (area size xs))));
}
