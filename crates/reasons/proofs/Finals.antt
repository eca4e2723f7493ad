-- Where the final shuffle puts what a slot holds: the loop that follows one slot, and that a place ends there and nowhere else. Assumes nothing.
--
--   Following, follow_none           after the first i exchanges the slot's own number stands at a place
--   follow_roll, follow_last,        one exchange more: at the roll's place, at the last that is open, or elsewhere
--     follow_other, follow_range
--   follow_done                      all exchanges are done
--   roll_count                       how many of the rolls are the reservoir's
--   drawn_places                     the places drawn are the slots of the reservoir, shuffled
--   final_ends, final_only           a place that a slot holds ends in its final slot, and in no other
--   final-from                       a place that ends in a slot was held by one when the reservoir was done
--   fate_within                      the slot of a place that was drawn is one of the k
use mathlib.Core.Path.{◌≡◌, refl, sym, ap, ◌∙◌}
use mathlib.Core.Logic.{◌⊎◌, inl, inr, ◌≢◌}
use mathlib.Core.List.{List}
use Prim.Native.Nat.{ℕ, ◌+◌, ◌-◌, ◌<◌, ◌≤◌}
use native.Mathlib.Omega.{arith}
use lib.Dec.{T}
use lib.ListN.{length, take, drop, get_or}
use Rattle.rules.specs.Order.{place_of}
use Rattle.rules.specs.Reservoir.{countup, reservoir}
use Rattle.rules.specs.Rolls.{in_range}
use Rattle.rules.specs.Sample.{sample_bounds, sample_with}
use Rattle.rules.specs.Shuffle.{exchange, shuffle_with, shuffle_bounds}
use Rattle.rules.proofs.Exchanging.{exchange-first, exchange-last, exchange_other}
use Rattle.rules.proofs.Facts.{clash, truth}
use Rattle.rules.proofs.Orders.{place_of_lem}
use Rattle.rules.proofs.Range.{length_in_range}
use Rattle.rules.proofs.Rows.{length-countup, get_or-countup}
use Rattle.rules.proofs.Samples.{range_parts, shuffle-places, shuffle-row, row_among, row_place}
use Rattle.rules.proofs.Turns.{Turned, turned_none, turned_turn, turned_range, turned_done}
use Rattle.reasons.specs.Fate.{fate_of_place, Within, final_slot_of}
use Rattle.reasons.specs.Happened.{slots_after, Holds, EndsIn}
use Rattle.reasons.specs.declared.fate.Fate.{Fate}
use Rattle.reasons.specs.declared.fate.Fate.TheVariants.{Stayed, RolledIn, Taken, PassedOver}
use Rattle.reasons.proofs.Fates.{fate_drawn}
use Rattle.reasons.proofs.Slots.{length-slots, slots-last}

-- ---- the loop

-- after the first i exchanges of 0, 1, .., k - 1 the slot's number stands at the place at
abbrev pub Following : ℕ → List ℕ → ℕ → ℕ → ℕ → Type 0
Following k rs slot at i = (xs : List ℕ) × Turned (countup k 0) rs xs i × (at < k) × (get_or xs at 0 ≡ slot)

pub follow_none : (k : ℕ) (rs : List ℕ) (slot : ℕ) → slot < k → T (in_range (shuffle_bounds k) rs) → Following k rs slot slot 0
follow_none k rs slot h t =
    (countup k 0, turned_none (countup k 0) rs (rw length-countup t), h, get_or-countup k 0 slot h ∙ omega arith)

module _ (k : ℕ) (rs : List ℕ) (slot at i : ℕ) (v : Following k rs slot at i) where
  abbrev xs : List ℕ
  xs = v.0

  long : length xs ≡ k
  long = v.1.1 ∙ length-countup k 0

  module _ (h : i < length rs) where
    pub follow_range : (get_or rs i 0 < k) × (i + 1 < k)
    follow_range = rw long at (turned_range (countup k 0) rs xs i v.1 h)

    next : Turned (countup k 0) rs (exchange xs (get_or rs i 0) (k - 1 - i)) (i + 1)
    next = rw long at (turned_turn (countup k 0) rs xs i v.1 h)

    abbrev last : ℕ
    last = k - 1 - i

    pub follow_roll : at ≡ get_or rs i 0 → Following k rs slot last (i + 1)
    follow_roll e = (
      exchange xs (get_or rs i 0) last,
      next,
      omega (arith, follow_range),
      exchange-last xs (get_or rs i 0) last (rw long (omega (arith, follow_range))) ∙ rw (← e) v.3,
    )

    pub follow_last : at ≡ last → Following k rs slot (get_or rs i 0) (i + 1)
    follow_last e = (
      exchange xs (get_or rs i 0) last,
      next,
      follow_range.0,
      exchange-first xs (get_or rs i 0) last (rw long follow_range.0) ∙ rw (← e) v.3,
    )

    pub follow_other : at ≢ get_or rs i 0 → at ≢ last → Following k rs slot at (i + 1)
    follow_other a b = (exchange xs (get_or rs i 0) last, next, v.2, exchange_other xs (get_or rs i 0) last at a b ∙ v.3)

  pub follow_done : length rs ≤ i → T (in_range (shuffle_bounds k) rs) → at ≡ final_slot_of k rs slot
  follow_done h t =
      let whole : xs ≡ shuffle_with k rs (countup k 0) = turned_done (countup k 0) rs xs i v.1 h ∙ rw (length-countup k 0) in
      let row = shuffle-row k rs t in
      let here : get_or (shuffle_with k rs (countup k 0)) at 0 ≡ slot = ap (λ (l : List ℕ). get_or l at 0) (sym whole) ∙ v.3 in
      let fits : at < length (shuffle_with k rs (countup k 0)) = rw (row.same_length, length-countup k 0) v.2 in
      sym (place_of_lem (shuffle_with k rs (countup k 0)) at row.distinct fits) ∙ ap (λ (x : ℕ). place_of x (shuffle_with k rs (countup k 0))) here

-- ---- the slots in the end

module _ (n k : ℕ) (rolls : List ℕ) (size : k ≤ n) (t : T (in_range (sample_bounds n k) rolls)) where
  abbrev js : List ℕ
  js = take (n - k) rolls

  abbrev rs : List ℕ
  rs = drop (n - k) rolls

  abbrev slots : List ℕ
  slots = slots_after k js (n - k)

  pub roll_count : length js ≡ n - k
  roll_count = length_in_range (countup (n - k) (k + 1)) js (truth _ (range_parts n k rolls t).0) ∙ length-countup (n - k) (k + 1)

  pub drawn_places : sample_with k rolls (countup n 0) ≡ shuffle_with k rs slots
  unfolding sample_with
  drawn_places =
      let e : k + length js ≡ n = omega (arith, roll_count) in
      let filled : slots ≡ reservoir (take k (countup n 0)) (drop k (countup n 0)) js
      = ap (slots_after k js) (sym roll_count) ∙ slots-last k js ∙ ap (λ (m : ℕ). reservoir (take k (countup m 0)) (drop k (countup m 0)) js) e in
      rw (length-countup n 0) (ap (shuffle_with k rs) (sym filled))

  -- what a slot holds in the end is what a slot held before the shuffle
  ended : (final : ℕ) → final < k
      → get_or (sample_with k rolls (countup n 0)) final 0 ≡ get_or slots (get_or (shuffle_with k rs (countup k 0)) final 0) 0
  ended final h =
      let c : length slots ≡ k = length-slots k js (n - k) in
      ap (λ (l : List ℕ). get_or l final 0) drawn_places ∙ (rw c at (shuffle-places slots rs final (rw c (range_parts n k rolls t).1) (rw c h)))

  pub final_ends : (p slot : ℕ) → Holds k js slot p (n - k) → EndsIn n k rolls p (final_slot_of k rs slot)
  final_ends p slot (h, e) =
      let (l, f) = row_place k rs slot (range_parts n k rolls t).1 h in
      (l, ended (final_slot_of k rs slot) l ∙ ap (λ (j : ℕ). get_or slots j 0) f ∙ e)

  -- a place is in one slot
  one_slot : (p i j : ℕ) → p < n → Holds k js i p (n - k) → Holds k js j p (n - k) → i ≡ j
  one_slot p i j h a b =
      let m : p < k + length js = omega (arith, roll_count) in
      let x = (fate_drawn k js p i m).1 (rw roll_count a) in
      let y = (fate_drawn k js p j m).1 (rw roll_count b) in
      go x y
    where
      go : (fate_of_place k js p ≡ Stayed i) ⊎ (fate_of_place k js p ≡ RolledIn i) → (fate_of_place k js p ≡ Stayed j) ⊎ (fate_of_place k js p ≡ RolledIn j) → i ≡ j
      go (inl e) (inl f) = cc
      go (inl e) (inr f) = clash cc
      go (inr e) (inl f) = clash cc
      go (inr e) (inr f) = cc

  pub final-from : (p final : ℕ) → EndsIn n k rolls p final → (slot : ℕ) × Holds k js slot p (n - k)
  final-from p final (l, e) =
      (get_or (shuffle_with k rs (countup k 0)) final 0, (row_among k rs final (range_parts n k rolls t).1 l, sym (ended final l) ∙ e))

  pub final_only : (p slot final : ℕ) → p < n → Holds k js slot p (n - k) → EndsIn n k rolls p final → final ≡ final_slot_of k rs slot
  unfolding final-from
  final_only p slot final h a (l, e) =
      let row = shuffle-row k rs (range_parts n k rolls t).1 in
      let (j, b) = final-from p final (l, e) in
      let same : j ≡ slot = one_slot p j slot h b a in
      sym (place_of_lem (shuffle_with k rs (countup k 0)) final row.distinct (rw (row.same_length, length-countup k 0) l))
      ∙ ap (λ (x : ℕ). place_of x (shuffle_with k rs (countup k 0))) same

-- ---- the slot of a place that was drawn

pub fate_within : (k : ℕ) (rolls : List ℕ) (p : ℕ) → p < k + length rolls → Within k (fate_of_place k rolls p)
fate_within k rolls p h = go (fate_of_place k rolls p) refl
  where
    held : (slot : ℕ) → (fate_of_place k rolls p ≡ Stayed slot) ⊎ (fate_of_place k rolls p ≡ RolledIn slot) → slot < k
    held slot f = ((fate_drawn k rolls p slot h).0 f).0

    go : (fate : Fate) → fate_of_place k rolls p ≡ fate → Within k fate
    go (Stayed slot) e = held slot (inl e)
    go (RolledIn slot) e = held slot (inr e)
    go (Taken slot by step) e = tt
    go (PassedOver roll) e = tt
