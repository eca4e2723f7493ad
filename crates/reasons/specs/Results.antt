-- What a result of the code says, of why.
--
--   named fate reason     the reason with the number of the fate, and with what it names but for the final slot; other fields as they are
--   slot_or_0 slot        the slot, and 0 for none
--   reason_of outcome     the answer: the number of the reason and what it names where nothing is refused; else the number of the refusal, the batch,
--                         and zeros elsewhere
use Rattle.std.specs.Prelude.{ℕ, Option, Some, None, Result, Ok, Err}
use Rattle.answers.specs.Results.{number_of, batch_of}
use Rattle.answers.specs.declared.refusal.Refusal.{Refusal}
use Rattle.reasons.specs.declared.fate.Fate.{Fate}
use Rattle.reasons.specs.declared.fate.Fate.TheVariants.{Stayed, RolledIn, Taken, PassedOver}
use Rattle.reasons.specs.declared.reason.Reason.{Reason}
use Rattle.reasons.specs.declared.told.Told.{Told}

abbrev pub named : Fate → Reason → Reason
named (Stayed slot) r = record r { reason = 1; slot = slot }
named (RolledIn slot) r = record r { reason = 2; slot = slot }
named (Taken slot by step) r = record r { reason = 3; slot = slot; by_place = by; by_step = step }
named (PassedOver roll) r = record r { reason = 4; roll = roll }

abbrev pub slot_or_0 : Option ℕ → ℕ
slot_or_0 (Some slot) = slot
slot_or_0 None = 0

abbrev pub reason_of : Result Told Refusal → Reason
reason_of (Ok told) = named told.fate (record {
  no = 0;
  next = told.used.next;
  rejected = told.used.rejected;
  batch = 0;
  reason = 0;
  slot = 0;
  final_slot = slot_or_0 told.final_slot;
  by_place = 0;
  by_step = 0;
  roll = 0;
})
reason_of (Err refusal) = record {
  no = number_of refusal;
  next = 0;
  rejected = 0;
  batch = batch_of refusal;
  reason = 0;
  slot = 0;
  final_slot = 0;
  by_place = 0;
  by_step = 0;
  roll = 0;
}
