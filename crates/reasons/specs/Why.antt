-- Why a record of a draw sheet was drawn or not: the refusals in the order of document 02, and what the caller sees.
--
--   why_refusals W s place           the numbers that it can meet, each with its test
--   why W s place                    what comes of it: the rolls of the draw of the sheet s
--   told next rejected final fate    the answer that tells what became of a place, where final tells the final slot of what a slot holds
--   shown_why n k place outcome      the answer that the caller gets
--   seen_why W s place               what its caller sees; the contract of the code is the equation with this
use Rattle.std.specs.Prelude.{List, [], ◌∷◌, ◌++◌, ℕ, ◌-◌, leb, take, drop}
use Rattle.rules.specs.Run.{run, next, rejected}
use Rattle.rules.specs.Width.{Width}
use Rattle.answers.specs.Outcome.{Outcome, refused, done, Refusal, no, no_word, decide, from_run}
use Rattle.draws.specs.Sample.{sample_plan}
use Rattle.sheet.specs.ReadSheet.{unreadable}
use Rattle.sheet.specs.Sheet.{numbers, words_of}
use Rattle.reasons.specs.Fate.{fate_of_place, final_slot_of}
use Rattle.reasons.specs.declared.fate.Fate.{Fate}
use Rattle.reasons.specs.declared.fate.Fate.TheVariants.{Stayed, RolledIn, Taken, PassedOver}
use Rattle.reasons.specs.declared.reason.Reason.{Reason}

-- "Refusals: 1, 3 and 10 as on a sheet, and 7 when the place isn't below n, the lowest first."
abbrev pub why_refusals : Width → List ℕ → ℕ → List Refusal
why_refusals W s place =
    unreadable s ++ no 7 (leb (numbers s).records place) ∷ no_word (run W.bits (sample_plan W (numbers s).records (numbers s).k) (words_of s) 0) ∷ []

unfoldable pub why : Width → List ℕ → ℕ → Outcome
why W s place =
    decide (why_refusals W s place) (from_run W.bits (sample_plan W (numbers s).records (numbers s).k) (words_of s) 0 (λ rolls. rolls))

-- Fields that do not apply are 0.
abbrev pub told : ℕ → ℕ → (ℕ → ℕ) → Fate → Reason
told next rejected final (Stayed slot) =
    record { no = 0; next = next; rejected = rejected; batch = 0; reason = 1; slot = slot; final_slot = final slot; by_place = 0; by_step = 0; roll = 0 }
told next rejected final (RolledIn slot) =
    record { no = 0; next = next; rejected = rejected; batch = 0; reason = 2; slot = slot; final_slot = final slot; by_place = 0; by_step = 0; roll = 0 }
told next rejected final (Taken slot by step) =
    record { no = 0; next = next; rejected = rejected; batch = 0; reason = 3; slot = slot; final_slot = 0; by_place = by; by_step = step; roll = 0 }
told next rejected final (PassedOver roll) =
    record { no = 0; next = next; rejected = rejected; batch = 0; reason = 4; slot = 0; final_slot = 0; by_place = 0; by_step = 0; roll = roll }

-- The first n - k rolls are those of the reservoir, the others those of the final shuffle.
abbrev pub shown_why : ℕ → ℕ → ℕ → Outcome → Reason
shown_why n k place (refused number batch) =
    record { no = number; next = 0; rejected = 0; batch = batch; reason = 0; slot = 0; final_slot = 0; by_place = 0; by_step = 0; roll = 0 }
shown_why n k place (done rolls ts) =
    told (next 0 ts) (rejected 0 ts) (final_slot_of k (drop (n - k) rolls)) (fate_of_place k (take (n - k) rolls) place)

abbrev pub seen_why : Width → List ℕ → ℕ → Reason
seen_why W s place = shown_why (numbers s).records (numbers s).k place (why W s place)
