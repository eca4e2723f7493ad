-- A number in decimal is as it is pinned, by going down to its tenth. Assumes nothing.
--
--   decimal_pinned   decimal n is n in decimal
use mathlib.Core.Path.{◌≡◌, refl, sym, ap, ◌∙◌}
use mathlib.Core.Logic.{◌⊎◌, inl, inr}
use mathlib.Core.Bool.{Bool, true, false}
use mathlib.Core.List.{List, [], ◌∷◌, ◌++◌}
use Prim.Native.Nat.{ℕ, zero, suc, ◌+◌, ◌*◌, ◌-◌, ◌/◌, ◌%◌, ◌<◌, ◌≤◌}
use native.Mathlib.Omega.{arith}
use lib.Dec.{ltb}
use lib.ListN.{length, get_or, length-append, get_or-append}
use lib.Seq.{get_or-append_seam}
use borrow.Author.Tests.{ltb-true, ltb-false}
use Rattle.spelling.specs.Decimal.{digit, decimal}
use Rattle.spelling.specs.Pinned.{spelled, spelled_from, Spells, DecimalPinned}
use Rattle.spelling.proofs.Spelling.{decimal_one, decimal-more}

spelled-more : (a : ℕ) (bs : List ℕ) (b : ℕ) → spelled_from a (bs ++ b ∷ []) ≡ 10 * spelled_from a bs + (b - 48)
unfolding spelled_from
spelled-more a [] b = refl
spelled-more a (c ∷ bs) b = spelled-more (10 * a + (c - 48)) bs b

spells_one : (n : ℕ) → n < 10 → Spells n (digit n ∷ [])
unfolding spelled_from
spells_one n h = record { number = omega arith; digit = inside; front = front n }
  where
    inside : (i : ℕ) → i < 1 → (48 ≤ get_or (digit n ∷ []) i 0) × (get_or (digit n ∷ []) i 0 ≤ 57)
    inside zero k = (omega arith, omega arith)
    inside (suc i) k = absurd (omega arith)

    front : (m : ℕ) → (digit m ∷ [] ≡ 48 ∷ []) ⊎ (48 < digit m)
    front zero = inl refl
    front (suc m) = inr (omega arith)

-- what spells a number that is not 0 has a digit in front that is not `0`
front-spelled : (n : ℕ) (ds : List ℕ) → 0 < n → Spells n ds → 48 < get_or ds 0 0
unfolding spelled_from
front-spelled n ds h v = go v.front
  where
    go : (ds ≡ 48 ∷ []) ⊎ (48 < get_or ds 0 0) → 48 < get_or ds 0 0
    go (inl e) = absurd (omega (arith, sym v.number ∙ ap spelled e))
    go (inr l) = l

-- a digit behind it changes nothing in front
front_kept : (ds : List ℕ) (d : ℕ) → 48 < get_or ds 0 0 → 48 < get_or (ds ++ d ∷ []) 0 0
front_kept [] d h = absurd (omega arith)
front_kept (c ∷ ds) d h = h

module _ (n : ℕ) (ds : List ℕ) (h : 10 ≤ n) (v : Spells (n / 10) ds) where
  abbrev more : List ℕ
  more = ds ++ digit (n % 10) ∷ []

  digit-more : (i : ℕ) → i < length more → (48 ≤ get_or more i 0) × (get_or more i 0 ≤ 57)
  digit-more i k = go (ltb i (length ds)) refl
    where
      go : (b : Bool) → ltb i (length ds) ≡ b → (48 ≤ get_or more i 0) × (get_or more i 0 ≤ 57)
      go true e = let l : i < length ds = ltb-true _ _ e in rw (get_or-append ds (digit (n % 10) ∷ []) 0 i l) (v.digit i l)
      go false e =
          let l : length ds ≤ i = ltb-false _ _ e in
          let m : i ≡ length ds = omega (arith, k, length-append ds (digit (n % 10) ∷ [])) in
          rw (m, get_or-append_seam ds (digit (n % 10)) [] 0) (omega arith, omega arith)

  spells_more : Spells n more
  spells_more = record {
    number = spelled-more 0 ds (digit (n % 10)) ∙ omega (arith, v.number);
    digit = digit-more;
    front = inr (front_kept ds (digit (n % 10)) (front-spelled (n / 10) ds (omega arith) v));
  }

spells_decimal : (c n : ℕ) → n ≤ c → Spells n (decimal n)
spells_decimal zero n h = rw (decimal_one n (omega arith)) (spells_one n (omega arith))
spells_decimal (suc c) n h = go (ltb n 10) refl (spells_decimal c (n / 10))
  where
    go : (b : Bool) → ltb n 10 ≡ b → (n / 10 ≤ c → Spells (n / 10) (decimal (n / 10))) → Spells n (decimal n)
    go true e f = let l : n < 10 = ltb-true _ _ e in rw (decimal_one n l) (spells_one n l)
    go false e f = let l : 10 ≤ n = ltb-false _ _ e in rw (decimal-more n l) (spells_more n (decimal (n / 10)) l (f (omega arith)))

pub decimal_pinned : DecimalPinned
decimal_pinned n = spells_decimal n n (omega arith)
