-- Orders of records, and the rolls behind an order.
--
--   count x ys            how often x stands in ys
--   each_once n ys        whether each of 0 .. n - 1 stands exactly once in ys
--   is_order ys           whether ys, of length n, holds each of 0 .. n - 1 once
--   place_of x xs         the place of the first x in xs; the length where there is none
--   rolls_into m xs ys    the rolls that shuffle xs into ys, an order of the same records, with m records still to place
--   AllBelow top xs       every element of xs is below top
--   Distinct xs           no record stands at two places
--   Reorders xs ys        ys is an order of the records of xs
--   Only m xs ys rs       of the rolls in range, rs and no others shuffle xs into ys, with m records still to place
use Rattle.std.specs.Prelude.{◌≡◌, Bool, true, false, ◌&&◌, List, [], ◌∷◌, ℕ, zero, suc, ◌+◌, ◌<◌, T, eqb, length, get_or}
use Rattle.rules.specs.Rolls.{in_range}
use Rattle.rules.specs.Shuffle.{exchange, shuffle_with, shuffle_bounds}

unfoldable pub count : ℕ → List ℕ → ℕ
count x [] = 0
count x (y ∷ ys) = elim (eqb x y) [ true ↦ count x ys + 1 | false ↦ count x ys ]

unfoldable pub each_once : ℕ → List ℕ → Bool
each_once zero ys = true
each_once (suc i) ys = eqb (count i ys) 1 && each_once i ys

abbrev pub is_order : List ℕ → Bool
is_order ys = each_once (length ys) ys

unfoldable pub place_of : ℕ → List ℕ → ℕ
place_of x [] = 0
place_of x (y ∷ ys) = elim (eqb x y) [ true ↦ 0 | false ↦ place_of x ys + 1 ]

-- Look up, in the list as it stands, the record that place m - 1 is to get; 0 or 1 record needs no roll.
unfoldable pub rolls_into : ℕ → List ℕ → List ℕ → List ℕ
rolls_into zero xs ys = []
rolls_into (suc zero) xs ys = []
rolls_into (suc (suc m)) xs ys =
    let r : ℕ = place_of (get_or ys (suc m) 0) xs in
    r ∷ rolls_into (suc m) (exchange xs r (suc m)) ys

abbrev pub AllBelow : ℕ → List ℕ → Type 0
AllBelow top xs = (i : ℕ) → i < length xs → get_or xs i 0 < top

abbrev pub Distinct : List ℕ → Type 0
Distinct xs = (i j : ℕ) → i < length xs → j < length xs → get_or xs i 0 ≡ get_or xs j 0 → i ≡ j

-- Every record stands in the one as often as in the other.
abbrev pub Reorders : List ℕ → List ℕ → Type 0
Reorders xs ys = (x : ℕ) → count x ys ≡ count x xs

pub record Only (m : ℕ) (xs ys rs : List ℕ) : Type 0 where
  pub is_in_range : T (in_range (shuffle_bounds m) rs)
  pub gives : shuffle_with m rs xs ≡ ys
  pub unique : (ss : List ℕ) → T (in_range (shuffle_bounds m) ss) → shuffle_with m ss xs ≡ ys → ss ≡ rs
