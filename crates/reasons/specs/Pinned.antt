-- What pins the reasons: the slots step by step, and that the reason told is what happened.
--
--   SlotsPinned      the slots that hold places, step by step; after the last step they hold what the reservoir of the places 0, 1, .., n - 1
--                    gives
--   FinalPinned      of the rolls of a draw: a place that a slot holds when the reservoir is done ends in the slot's final slot, and in no other
--   AnswerPinned     the answer that tells what became of a place, field by field; and that of a refusal
--   ReasonsPinned    the statement: all of these; of every place below n the reason told is true, and no other is, with no other values
use Rattle.std.specs.Prelude.{◌≡◌, ◌≢◌, ◌⊎◌, List, ℕ, ◌+◌, ◌-◌, ◌<◌, ◌≤◌, T, length, take, drop, get_or}
use Rattle.rules.specs.Reservoir.{countup, reservoir}
use Rattle.rules.specs.Rolls.{in_range}
use Rattle.rules.specs.Sample.{sample_bounds}
use Rattle.rules.specs.Run.{Taken}
use Rattle.answers.specs.Outcome.{refused, done}
use Rattle.reasons.specs.Fate.{fate_of_place, final_slot_of}
use Rattle.reasons.specs.Happened.{slots_after, Holds, Happened, EndsIn, Tells}
use Rattle.reasons.specs.Why.{told, shown_why}
use Rattle.reasons.specs.declared.fate.Fate.{Fate}
use Rattle.reasons.specs.declared.fate.Fate.TheVariants.{Stayed, RolledIn}
use Rattle.reasons.specs.declared.reason.Reason.{Reason}

pub record SlotsPinned (k : ℕ) (rolls : List ℕ) : Type 0 where
  -- "Put the first k records in slots 0..k - 1."
  pub first : (slot : ℕ) → slot < k → get_or (slots_after k rolls 0) slot 0 ≡ slot
  -- "For each place i from k to n - 1, roll j with bound i + 1; if j is below k, slot j gets record i." Step t is that of place k + t.
  pub gets : (t slot : ℕ) → t < length rolls → slot < k → get_or rolls t 0 ≡ slot → get_or (slots_after k rolls (t + 1)) slot 0 ≡ k + t
  pub stays : (t slot : ℕ) → t < length rolls → slot < k → get_or rolls t 0 ≢ slot
      → get_or (slots_after k rolls (t + 1)) slot 0 ≡ get_or (slots_after k rolls t) slot 0
  pub last : let places : List ℕ = countup (k + length rolls) 0 in
      slots_after k rolls (length rolls) ≡ reservoir (take k places) (drop k places) rolls

-- "M-101's first two reasons add the final slot."
pub record FinalPinned (n k : ℕ) (rolls : List ℕ) : Type 0 where
  pub ends : (p slot : ℕ) → Holds k (take (n - k) rolls) slot p (n - k) → EndsIn n k rolls p (final_slot_of k (drop (n - k) rolls) slot)
  pub only : (p slot final : ℕ) → p < n → Holds k (take (n - k) rolls) slot p (n - k) → EndsIn n k rolls p final → final ≡ final_slot_of k (drop (n - k) rolls) slot

pub record AnswerPinned : Type 0 where
  pub tells : (n k : ℕ) (rolls : List ℕ) (p next rejected : ℕ) (final : ℕ → ℕ) (fate : Fate) → Happened k (take (n - k) rolls) p fate
      → ((slot : ℕ) → (fate ≡ Stayed slot) ⊎ (fate ≡ RolledIn slot) → EndsIn n k rolls p (final slot)) → Tells n k rolls p (told next rejected final fate)
  -- of the rolls of a draw, in range, it tells what happened to the place
  pub shows : (n k p : ℕ) (rolls : List ℕ) (ts : List Taken) → k ≤ n → p < n → T (in_range (sample_bounds n k) rolls)
      → Tells n k rolls p (shown_why n k p (done rolls ts))
  pub used : (next rejected : ℕ) (final : ℕ → ℕ) (fate : Fate) → let r : Reason = told next rejected final fate in
      (r.no ≡ 0) × (r.next ≡ next) × (r.rejected ≡ rejected) × (r.batch ≡ 0)
  pub none : (n k p number batch : ℕ) → shown_why n k p (refused number batch)
      ≡ record { no = number; next = 0; rejected = 0; batch = batch; reason = 0; slot = 0; final_slot = 0; by_place = 0; by_step = 0; roll = 0 }

pub record ReasonsPinned : Type 0 where
  pub slots : (k : ℕ) (rolls : List ℕ) → SlotsPinned k rolls
  pub final : (n k : ℕ) (rolls : List ℕ) → k ≤ n → T (in_range (sample_bounds n k) rolls) → FinalPinned n k rolls
  pub answers : AnswerPinned
  -- "The reason given must be what happened in this draw"
  pub happened : (k : ℕ) (rolls : List ℕ) (p : ℕ) → p < k + length rolls → Happened k rolls p (fate_of_place k rolls p)
  -- "exactly one applies"
  pub only : (k : ℕ) (rolls : List ℕ) (p : ℕ) (fate : Fate) → Happened k rolls p fate → fate ≡ fate_of_place k rolls p
