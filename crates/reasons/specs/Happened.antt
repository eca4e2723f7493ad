-- What happened to a place in a draw of k from n records. The slots hold places: at first slot j holds place j, and at step i the slot that roll i of
-- the reservoir names, if it is below k, gets place k + i. Then the slots are shuffled. Below, js are the rolls of the reservoir alone, and rolls all
-- those of the draw: the first n - k are the reservoir's.
--
--   slots_after k js t          the places that the slots hold when the first t steps are done, by the reservoir of the sample itself
--   Holds k js slot p t         the slot holds place p when t steps are done
--   turn k p                    how many steps are done when place p has had its turn: none for the first k; for a later place its own is
--                               the last
--   HeldUntil k js slot p t     the slot holds place p from its turn until t steps are done
--   Rolled k js p roll          place p has a roll, at its step p - k, and it is this one
--   Happened k js p fate        this became of place p: the four reasons of document 02, as propositions about the slots and the rolls
--   EndsIn n k rolls p slot     the slot holds place p when the slots are shuffled: the sample of the places 0, .., n - 1 has it there
--   Tells n k rolls p answer    the answer tells what happened to place p: the number of the reason, what it names, and 0 in the fields that do
--                               not apply
use Rattle.std.specs.Prelude.{◌≡◌, ◌⊎◌, List, ℕ, ◌+◌, ◌-◌, ◌<◌, ◌≤◌, length, take, get_or}
use Rattle.rules.specs.Reservoir.{countup, reservoir}
use Rattle.rules.specs.Sample.{sample_with}
use Rattle.reasons.specs.declared.fate.Fate.{Fate}
use Rattle.reasons.specs.declared.fate.Fate.TheVariants.{Stayed, RolledIn, Taken, PassedOver}
use Rattle.reasons.specs.declared.reason.Reason.{Reason}

abbrev pub slots_after : ℕ → List ℕ → ℕ → List ℕ
slots_after k js t = reservoir (countup k 0) (countup t k) (take t js)

abbrev pub Holds : ℕ → List ℕ → ℕ → ℕ → ℕ → Type 0
Holds k js slot p t = (slot < k) × (get_or (slots_after k js t) slot 0 ≡ p)

abbrev pub turn : ℕ → ℕ → ℕ
turn k p = p + 1 - k

abbrev pub HeldUntil : ℕ → List ℕ → ℕ → ℕ → ℕ → Type 0
HeldUntil k js slot p t = (u : ℕ) → turn k p ≤ u → u ≤ t → Holds k js slot p u

abbrev pub Rolled : ℕ → List ℕ → ℕ → ℕ → Type 0
Rolled k js p roll = (k ≤ p) × (p < k + length js) × (get_or js (p - k) 0 ≡ roll)

abbrev pub Happened : ℕ → List ℕ → ℕ → Fate → Type 0
-- "it was among the first k and stayed"
Happened k js p (Stayed slot) = (p < k) × HeldUntil k js slot p (length js)
-- "it was rolled into a slot at its step and stayed"
Happened k js p (RolledIn slot) = Rolled k js p slot × HeldUntil k js slot p (length js)
-- "it held a slot until a later record, named by place and step (place i has step i - k), took that slot"
Happened k js p (Taken slot by step) =
    (p < by) × (by ≡ k + step) × (step < length js) × HeldUntil k js slot p step × Holds k js slot by (step + 1)
-- "its own roll was k or more, with the roll"
Happened k js p (PassedOver roll) = Rolled k js p roll × (k ≤ roll)

abbrev pub EndsIn : ℕ → ℕ → List ℕ → ℕ → ℕ → Type 0
EndsIn n k rolls p slot = (slot < k) × (get_or (sample_with k rolls (countup n 0)) slot 0 ≡ p)

abbrev pub Tells : ℕ → ℕ → List ℕ → ℕ → Reason → Type 0
Tells n k rolls p r =
    let js : List ℕ = take (n - k) rolls in
    ((r.reason ≡ 1) × Happened k js p (Stayed r.slot) × EndsIn n k rolls p r.final_slot × (r.by_place ≡ 0) × (r.by_step ≡ 0) × (r.roll ≡ 0))
    ⊎ (((r.reason ≡ 2) × Happened k js p (RolledIn r.slot) × EndsIn n k rolls p r.final_slot × (r.by_place ≡ 0) × (r.by_step ≡ 0) × (r.roll ≡ 0))
    ⊎ (((r.reason ≡ 3) × Happened k js p (Taken r.slot r.by_place r.by_step) × (r.final_slot ≡ 0) × (r.roll ≡ 0))
    ⊎ ((r.reason ≡ 4) × Happened k js p (PassedOver r.roll) × (r.slot ≡ 0) × (r.final_slot ≡ 0) × (r.by_place ≡ 0) × (r.by_step ≡ 0))))
