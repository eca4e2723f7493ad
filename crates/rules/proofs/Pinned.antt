-- The pins, each from the laws of its definition. Assumes nothing.
--
--   pinned    the statement
use mathlib.Core.Path.{◌≡◌, refl, sym}
use mathlib.Core.Bool.{Bool, true, false, ◌||◌}
use mathlib.Core.List.{List, [], ◌∷◌}
use Prim.Native.Nat.{ℕ, zero, suc, suc-le-suc, zero-le, ◌<◌}
use native.Mathlib.Nat.{le_of_suc-le-suc, not-suc-le-zero}
use native.Mathlib.Decide.{ℕ_discrete}
use native.Mathlib.Omega.{arith}
use lib.Dec.{T, eqb}
use lib.ListN.{length, get_or}
use borrow.Author.Tests.{eqb-true}
use Rattle.rules.specs.Rolls.{holds_zero, in_range}
use Rattle.rules.specs.Pinned.{Pinned}
use Rattle.rules.proofs.Range.{in_range_cons, range_count}
use Rattle.rules.proofs.Rolls.{key_law, rest_below, rolls_in_range}
use Rattle.rules.proofs.Words.{words_behind_lem, last_fits, run_length}
use Rattle.rules.proofs.Rows.{length-countdown, get_or-countdown, length-countup, get_or-countup}
use Rattle.rules.proofs.PinnedCut.{cut_pinned}
use Rattle.rules.proofs.PinnedSizes.{sizes_pinned}
use Rattle.rules.proofs.PinnedShuffle.{shuffle_pinned}
use Rattle.rules.proofs.PinnedReservoir.{reservoir_pinned}
use Rattle.rules.proofs.Samples.{sample_bounds_lem, sample_pinned}
use Rattle.rules.proofs.PinnedOrder.{order_pinned}

-- ---- some bound is 0

zero_at : (bs : List ℕ) → T (holds_zero bs) → (i : ℕ) × (i < length bs) × (get_or bs i 0 ≡ 0)
unfolding holds_zero
zero_at [] t = absurd t
zero_at (b ∷ bs) t = go (eqb b 0) refl t (zero_at bs)
  where
    go : (e : Bool) → eqb b 0 ≡ e → T (e || holds_zero bs) → (T (holds_zero bs) → (i : ℕ) × (i < length bs) × (get_or bs i 0 ≡ 0))
        → (i : ℕ) × (i < length (b ∷ bs)) × (get_or (b ∷ bs) i 0 ≡ 0)
    go true e t ih = (0, suc-le-suc zero-le, eqb-true b 0 e)
    go false e t ih = let (i, h, f) = ih t in (suc i, suc-le-suc h, f)

at_zero : (bs : List ℕ) (i : ℕ) → i < length bs → get_or bs i 0 ≡ 0 → T (holds_zero bs)
unfolding holds_zero
at_zero [] i h e = absurd (not-suc-le-zero h)
at_zero (b ∷ bs) zero h e = rw e tt
at_zero (b ∷ bs) (suc i) h e = go (eqb b 0) (at_zero bs i (le_of_suc-le-suc h) e)
  where
    go : (e : Bool) → T (holds_zero bs) → T (e || holds_zero bs)
    go true t = tt
    go false t = t

-- ---- rolls in range, place by place

as_many : (bs rs : List ℕ) → T (in_range bs rs) → length rs ≡ length bs
as_many bs rs t = go (ℕ_discrete (length bs) (length rs))
  where
    go : Dec (length bs ≡ length rs) → length rs ≡ length bs
    go (yes e) = sym e
    go (no n) = absurd (rw (range_count bs rs n) at t)

below_at : (bs rs : List ℕ) → T (in_range bs rs) → (i : ℕ) → i < length bs → get_or rs i 0 < get_or bs i 0
unfolding in_range
below_at [] rs t i h = absurd (not-suc-le-zero h)
below_at (b ∷ bs) [] t i h = absurd t
below_at (b ∷ bs) (r ∷ rs) t zero h = ((in_range_cons b bs r rs).0 t).0
below_at (b ∷ bs) (r ∷ rs) t (suc i) h = below_at bs rs ((in_range_cons b bs r rs).0 t).1 i (le_of_suc-le-suc h)

at_range : (bs rs : List ℕ) → length rs ≡ length bs → ((i : ℕ) → i < length bs → get_or rs i 0 < get_or bs i 0) → T (in_range bs rs)
unfolding in_range
at_range [] [] e h = tt
at_range [] (r ∷ rs) e h = let z : ⊥ = omega arith in z
at_range (b ∷ bs) [] e h = let z : ⊥ = omega arith in z
at_range (b ∷ bs) (r ∷ rs) e h =
    (in_range_cons b bs r rs).1 (h 0 (suc-le-suc zero-le), at_range bs rs (omega arith) (λ i k. h (suc i) (suc-le-suc k)))

-- ---- the statement

pub pinned : Pinned
pinned = record {
  of_limits = (refl, refl, refl);
  of_words = refl;
  of_rolls = λ L bs p l. record {
    law = key_law L bs;
    last = rest_below L bs;
    rolled = λ word. rolls_in_range L bs word p;
    behind = λ rs. words_behind_lem L bs rs p l;
    as_many = λ rs i. (last_fits L bs rs p l i, run_length L bs rs p l);
  };
  of_tests = record {
    zero = λ bs. (zero_at bs, λ (i, h, e). at_zero bs i h e);
    range = λ bs rs. (λ t. (as_many bs rs t, below_at bs rs t), λ (e, h). at_range bs rs e h);
  };
  of_cuts = cut_pinned;
  of_rows = record { down = λ s m. (length-countdown s m, get_or-countdown s m); up = λ s m. (length-countup s m, get_or-countup s m) };
  of_sizes = sizes_pinned;
  of_shuffles = shuffle_pinned;
  of_reservoirs = reservoir_pinned;
  of_sample_bounds = sample_bounds_lem;
  of_samples = sample_pinned;
  of_orders = order_pinned;
}
