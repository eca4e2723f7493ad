-- A shuffle by given rolls, one roll at a time. Assumes nothing.
--
--   Turned                      the first i rolls are done, and the others bring the list as it stands to what all of them give
--   turned_none, turned_turn    before the first roll, and one roll
--   turned_range                the next roll, and the last place that is open, are places of the list
--   turned_done                 no roll is left
use mathlib.Core.Path.{◌≡◌, refl, sym, ap, ◌∙◌}
use mathlib.Core.List.{List}
use Prim.Native.Nat.{ℕ, ◌+◌, ◌-◌, ◌<◌, ◌≤◌}
use native.Mathlib.Omega.{arith}
use lib.Dec.{T}
use lib.ListN.{length, drop, get_or, drop_of_length-le}
use Rattle.rules.specs.Rolls.{in_range}
use Rattle.rules.specs.Shuffle.{exchange, shuffle_with, shuffle_bounds}
use Rattle.rules.proofs.Exchanging.{length-exchange}
use Rattle.rules.proofs.Orders.{range_cons}
use Rattle.rules.proofs.Writing.{drop-next}

abbrev pub Turned : List ℕ → List ℕ → List ℕ → ℕ → Type 0
Turned xs₀ rs xs i =
    (i ≤ length rs) × (length xs ≡ length xs₀) × T (in_range (shuffle_bounds (length xs₀ - i)) (drop i rs))
    × (shuffle_with (length xs₀ - i) (drop i rs) xs ≡ shuffle_with (length xs₀) rs xs₀)

pub turned_none : (xs rs : List ℕ) → T (in_range (shuffle_bounds (length xs)) rs) → Turned xs rs xs 0
turned_none xs rs t = let e : length xs - 0 ≡ length xs = omega arith in (omega arith, refl, rw e t, rw e)

module _ (xs₀ rs xs : List ℕ) (i : ℕ) (v : Turned xs₀ rs xs i) where
  module _ (h : i < length rs) where
    abbrev m : ℕ
    m = length xs₀ - i

    here : (1 < m) × (get_or rs i 0 < m) × T (in_range (shuffle_bounds (m - 1)) (drop (i + 1) rs))
    here = (range_cons m (get_or rs i 0) (drop (i + 1) rs)).0 (rw (drop-next rs i h) at v.2)

    pub turned_range : (get_or rs i 0 < length xs) × (i + 1 < length xs)
    turned_range = (omega (arith, here.1, v.1), omega (arith, here.0, v.1))

    pub turned_turn : Turned xs₀ rs (exchange xs (get_or rs i 0) (length xs - 1 - i)) (i + 1)
    unfolding shuffle_with
    turned_turn =
        let left : length xs₀ - (i + 1) ≡ m - 1 = omega arith in
        let last : length xs - 1 - i ≡ m - 1 = omega (arith, v.1) in (
          omega arith,
          length-exchange xs (get_or rs i 0) (length xs - 1 - i) ∙ v.1,
          rw left here.2,
          rw (left, last) (rw (drop-next rs i h) at v.3),
        )

  pub turned_done : length rs ≤ i → xs ≡ shuffle_with (length xs₀) rs xs₀
  unfolding shuffle_with
  turned_done h = sym (ap (λ (l : List ℕ). shuffle_with (length xs₀ - i) l xs) (drop_of_length-le rs h)) ∙ v.3
