-- A sample: its bounds in a row, the later records after the first, and the arrays that are lent in part. Assumes nothing.
--
--   count_turn                                       the loop of `count_up`: one number more
--   Later, later_taken, later_passed, later_done     the loop of `take_later`: the later records, each with its roll
--   lent_count, back_fits, back_front, back_count    a local array, its first n places lent, and as it comes back
--   later_fits, later-count, others, others_range    the rolls of the reservoir, and those of the final shuffle
--   front_range, slots_filled                        the slots after the reservoir, and in the end
--   bounds_no_zero                                   none of the bounds of a sample is 0
use mathlib.Core.Path.{◌≡◌, refl, sym, ap, ap₂, ◌∙◌}
use mathlib.Core.Bool.{true, false, ◌||◌}
use mathlib.Core.List.{List, ◌∷◌, ◌++◌, append_assoc}
use Prim.Native.Nat.{ℕ, zero, suc, ◌+◌, ◌-◌, ◌<◌, ◌≤◌}
use native.Mathlib.Omega.{arith}
use lib.ListN.{length, take, drop, set, get_or, replicate, length-replicate, length-append, length-drop, drop_of_length-le}
use lib.Seq.{set_at, take_at, take_all, length-take-le, length_front}
use borrow.Author.Tests.{ne_eqb}
use Rattle.rules.specs.Rolls.{holds_zero, in_range}
use Rattle.rules.specs.Sample.{sample_bounds, sample_with}
use Rattle.rules.specs.Shuffle.{shuffle_with, shuffle_bounds}
use Rattle.rules.proofs.Facts.{truth}
use Rattle.rules.proofs.Range.{range_true, length_in_range}
use Rattle.rules.proofs.Rows.{length-countup, countup_snoc}
use Rattle.rules.proofs.Samples.{range_parts}
use Rattle.rules.proofs.Writing.{drop-next}
use Rattle.rules.specs.Reservoir.{countup, reservoir}
use Rattle.rules.proofs.Reservoir.{reservoir_taken, reservoir_none, reservoir_passed}

-- the first i numbers of a row are written, and one more
pub count_turn : (before : List ℕ) (from i : ℕ) → i < length before → set (countup i from ++ drop i before) i (from + i) ≡ countup (i + 1) from ++ drop (i + 1) before
count_turn before from i h =
    rw (drop-next before i h, countup_snoc, append_assoc)
    (set_at (countup i from) (get_or before i 0) (drop (i + 1) before) (from + i) i (length-countup i from))

-- the records before place k + i have had their turn: those from there on make the slots what all of them make
abbrev pub Later : List ℕ → ℕ → List ℕ → List ℕ → List ℕ → ℕ → Type 0
Later xs k js slots₀ slots i = reservoir slots (drop (k + i) xs) (drop i js) ≡ reservoir slots₀ (drop k xs) js

module _ (xs : List ℕ) (k : ℕ) (js slots₀ slots : List ℕ) (i : ℕ) (v : Later xs k js slots₀ slots i) where
  module _ (h : i < length js) (n : k + length js ≡ length xs) (l : length slots ≡ k) where
    abbrev x : ℕ
    x = get_or xs (k + i) 0

    abbrev j : ℕ
    j = get_or js i 0

    records : drop (k + i) xs ≡ x ∷ drop (k + (i + 1)) xs
    records =
        let e : k + i + 1 ≡ k + (i + 1) = omega arith in
        drop-next xs (k + i) (omega arith) ∙ ap (λ (m : ℕ). x ∷ drop m xs) e

    turn : reservoir slots (x ∷ drop (k + (i + 1)) xs) (j ∷ drop (i + 1) js) ≡ reservoir slots₀ (drop k xs) js
    turn = rw (records, drop-next js i h) at v

    pub later_taken : get_or js i 0 < k → Later xs k js slots₀ (set slots (get_or js i 0) (get_or xs (k + i) 0)) (i + 1)
    later_taken t = rw (reservoir_taken slots x (drop (k + (i + 1)) xs) j (drop (i + 1) js) (rw l t)) at turn

    pub later_passed : k ≤ get_or js i 0 → Later xs k js slots₀ slots (i + 1)
    later_passed t = rw (reservoir_passed slots x (drop (k + (i + 1)) xs) j (drop (i + 1) js) (rw l t)) at turn

  pub later_done : length js ≤ i → slots ≡ reservoir slots₀ (drop k xs) js
  later_done h = rw (drop_of_length-le js h, reservoir_none) at v

-- ---- a local array of zeros, its first n places lent: over its size, so that no proof looks at its 16,384 zeros

module _ (size n : ℕ) (h : n ≤ size) where
  abbrev zeros : List ℕ
  zeros = replicate size 0

  fits : n ≤ length zeros
  fits = rw (length-replicate {A = ℕ} size 0) h

  pub lent_count : n ≡ length (take n zeros)
  lent_count = sym (length-take-le n zeros fits)

  -- what was lent is last when it comes back
  module _ (last : List ℕ) (e : length last ≡ length (take n zeros)) where
    pub back_fits : n ≤ length (last ++ drop n zeros)
    back_fits = rw (length_front zeros last n e) fits

    pub back_front : take n (last ++ drop n zeros) ≡ last
    back_front = take_at last (drop n zeros) n (e ∙ sym lent_count)

    pub back_count : n ≡ length (take n (last ++ drop n zeros))
    back_count = lent_count ∙ sym e ∙ ap length (sym back_front)

-- ---- the rolls in two parts, as they are lent

module _ (n k : ℕ) (rolls : List ℕ) (t : in_range (sample_bounds n k) rolls ≡ true) where
  pub later_fits : n - k ≤ length rolls
  later_fits =
      omega (arith, length_in_range (sample_bounds n k) rolls t, length-append (countup (n - k) (k + 1)) (shuffle_bounds k), length-countup (n - k) (k + 1))

  pub later-count : n - k ≡ length (take (n - k) rolls)
  later-count = sym (length-take-le (n - k) rolls later_fits)

  pub others : take (length rolls - (n - k)) (drop (n - k) rolls) ≡ drop (n - k) rolls
  others = take_all (length rolls - (n - k)) (drop (n - k) rolls) (rw length-drop (omega arith))

  pub others_range : in_range (shuffle_bounds k) (take (length rolls - (n - k)) (drop (n - k) rolls)) ≡ true
  others_range = rw others (truth _ (range_parts n k rolls (range_true _ _ t)).1)

-- ---- the slots in the end

module _ (xs rolls filled : List ℕ) (k : ℕ) (count : length filled ≡ k) (t : in_range (sample_bounds (length xs) k) rolls ≡ true) where
  abbrev later : ℕ
  later = length xs - k

  pub front_range : in_range (shuffle_bounds (length filled)) (take (length rolls - later) (drop later rolls)) ≡ true
  front_range = rw count (others_range (length xs) k rolls t)

  pub slots_filled : filled ≡ reservoir (take k xs) (drop k xs) (take later rolls) → (last : List ℕ)
      → last ≡ shuffle_with (length filled) (take (length rolls - later) (drop later rolls)) filled → last ≡ sample_with k rolls xs
  unfolding sample_with
  slots_filled f last l =
      l ∙ ap₂ (λ (m : ℕ) (rs : List ℕ). shuffle_with m rs filled) count (others (length xs) k rolls t) ∙ ap (shuffle_with k (drop later rolls)) f

-- ---- the bounds of a sample

no_zero : (s i : ℕ) → 0 < i → holds_zero (countup s i) ≡ false
unfolding countup holds_zero
no_zero zero i h = refl
no_zero (suc s) i h = ap₂ ◌||◌ (ne_eqb i 0 (λ e. omega arith)) (no_zero s (i + 1) (omega arith))

pub bounds_no_zero : (bs : List ℕ) (n k : ℕ) → bs ≡ countup (n - k) (k + 1) → holds_zero bs ≡ false
bounds_no_zero bs n k e = ap holds_zero e ∙ no_zero (n - k) (k + 1) (omega arith)
