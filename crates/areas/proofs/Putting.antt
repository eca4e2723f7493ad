-- Bytes of numbers put at a place of a list, one number behind the other. Assumes nothing.
--
--   number_put                                the bytes of a number put over a part of the bytes
--   Laid, laid_none, laid_turn, laid_whole    the loop that puts the numbers of an area, of any size
use mathlib.Core.Path.{◌≡◌, refl, sym, ap, ◌∙◌}
use mathlib.Core.List.{List, ◌++◌, append-nil}
use Prim.Native.Nat.{ℕ, ◌+◌, ◌-◌, ◌*◌, ◌<◌, ◌≤◌}
use native.Mathlib.Nat.{mul-le-mul_left}
use native.Mathlib.Numerals.{add-one}
use native.Mathlib.Omega.{arith}
use borrow.Rule.Slice.PartMut.{put_mid}
use lib.ListN.{length, take, get_or}
use lib.Seq.{take-suc, take_all, drop-drop, length-take-le}
use Rattle.std.specs.Int.{bytes_low_first}
use Rattle.rules.specs.Put.{put}
use Rattle.rules.proofs.Writing.{length-put, put_none, put-put}
use Rattle.areas.specs.Area.{bytes_of, area}
use Rattle.areas.proofs.Bytes.{bytes_of_number}
use Rattle.areas.proofs.Laying.{length_bytes, length-area, area-append}

-- ---- a number

-- the bytes of a part, as a function that it was lent on to left them
pub number_put : (size n at : ℕ) (out bytes : List ℕ) → bytes ≡ bytes_low_first 0 size n → put_mid at (at + size - at) out bytes ≡ put out at (bytes_of size n)
number_put size n at out bytes e =
    let long : at + size - at ≡ length (bytes_of size n) = omega (arith, length_bytes size n) in
    rw (e, bytes_of_number size n, long, drop-drop (length (bytes_of size n)) at out)

-- ---- the numbers of an area

-- the bytes of the first i numbers are put, and all else is as it was
pub record Laid (size : ℕ) (before : List ℕ) (at : ℕ) (xs out : List ℕ) (i : ℕ) : Type 0 where
  pub within : i ≤ length xs
  pub same : length out ≡ length before
  pub laid : out ≡ put before at (area size (take i xs))

area-next : (size i : ℕ) (xs : List ℕ) → i < length xs → area size (take (i + 1) xs) ≡ area size (take i xs) ++ bytes_of size (get_or xs i 0)
unfolding area
area-next size i xs h = rw (add-one, take-suc xs i 0, area-append, append-nil)

module _ {size : ℕ} {before : List ℕ} {at : ℕ} {xs : List ℕ} where
  pub laid_none : Laid size before at xs before 0
  unfolding area
  laid_none = record { within = omega arith; same = refl; laid = sym (put_none before at) }

  module _ {out : List ℕ} {i : ℕ} (v : Laid size before at xs out i) where
    pub laid_turn : {last : List ℕ} → i < length xs → at + size * length xs ≤ length before → last ≡ put out (at + size * i) (bytes_of size (get_or xs i 0))
        → Laid size before at xs last (i + 1)
    laid_turn h room e =
        let front = area size (take i xs) in
        let next = bytes_of size (get_or xs i 0) in
        let long : length front ≡ size * i = length-area size (take i xs) ∙ ap (λ (n : ℕ). size * n) (length-take-le i xs v.within) in
        let more : size * i + size ≤ size * length xs = omega (arith, mul-le-mul_left size h) in
        record {
          within = omega arith;
          same = ap length e ∙ length-put out next (at + size * i) (omega (arith, length_bytes size (get_or xs i 0))) ∙ v.same;
          laid =
              e ∙ ap (λ (l : List ℕ). put l (at + size * i) next) v.laid ∙ put-put before at (at + size * i) front next (omega arith) (omega arith)
              ∙ ap (put before at) (sym (area-next size i xs h));
        }

    pub laid_whole : length xs ≤ i → out ≡ put before at (area size xs)
    laid_whole h = v.laid ∙ ap (λ (l : List ℕ). put before at (area size l)) (take_all i xs h)
