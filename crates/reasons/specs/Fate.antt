-- What became of a place, read off the rolls of the reservoir in a draw of k: roll i is that of place k + i. That it is what happened is said in
-- Pinned.
--
--   first_from slot rolls from        the first step, from a step on, whose roll is the slot; the number of steps where there is none
--   first_step slot rolls from        the same step, where there is one
--   held_from stays k rolls slot from what became of a place that held the slot when so many steps were done
--   fate_of_place k rolls p                 what became of place p
--   drawn fate                       whether the place was drawn
--   Within k fate                    the slot of a place that was drawn is one of the k
--   final_slot_of k rs slot              where the final shuffle, by the rolls rs, puts what a slot holds: the place of the slot's own number when
--                                    0, 1, .., k - 1 are shuffled
use Rattle.std.specs.Prelude.{Bool, true, false, List, ℕ, ◌+◌, ◌-◌, ◌<◌, ltb, length, drop, get_or, Option, Some, None}
use Rattle.rules.specs.Order.{place_of}
use Rattle.rules.specs.Reservoir.{countup}
use Rattle.rules.specs.Shuffle.{shuffle_with}
use Rattle.reasons.specs.declared.fate.Fate.{Fate}
use Rattle.reasons.specs.declared.fate.Fate.TheVariants.{Stayed, RolledIn, Taken, PassedOver}

abbrev pub first_from : ℕ → List ℕ → ℕ → ℕ
first_from slot rolls from = from + place_of slot (drop from rolls)

abbrev pub first_step : ℕ → List ℕ → ℕ → Option ℕ
first_step slot rolls from =
    let i : ℕ = first_from slot rolls from in
    elim (ltb i (length rolls)) [ true ↦ Some i | false ↦ None ]

-- The first later roll that is the slot took it.
abbrev pub held_from : (ℕ → Fate) → ℕ → List ℕ → ℕ → ℕ → Fate
held_from stays k rolls slot from =
    let i : ℕ = first_from slot rolls from in
    elim (ltb i (length rolls)) [ true ↦ Taken slot (k + i) i | false ↦ stays slot ]

-- Each of the first k places holds its own slot at first; a later one holds the slot that its roll names, or none where its roll is k or more.
-- Never met: a place past the last roll's. The value there is arbitrary.
unfoldable pub fate_of_place : ℕ → List ℕ → ℕ → Fate
fate_of_place k rolls p =
    let j : ℕ = get_or rolls (p - k) 0 in
    elim (ltb p k)
    [ true ↦ held_from Stayed k rolls p 0 | false ↦ elim (ltb j k) [ true ↦ held_from RolledIn k rolls j (p - k + 1) | false ↦ PassedOver j ] ]

abbrev pub drawn : Fate → Bool
drawn (Stayed slot) = true
drawn (RolledIn slot) = true
drawn (Taken slot by step) = false
drawn (PassedOver roll) = false

abbrev pub Within : ℕ → Fate → Type 0
Within k (Stayed slot) = slot < k
Within k (RolledIn slot) = slot < k
Within k (Taken slot by step) = Unit
Within k (PassedOver roll) = Unit

abbrev pub final_slot_of : ℕ → List ℕ → ℕ → ℕ
final_slot_of k rs slot = place_of slot (shuffle_with k rs (countup k 0))
