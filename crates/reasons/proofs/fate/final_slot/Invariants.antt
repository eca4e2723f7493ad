-- `reasons::fate::final_slot` meets its contract. The loop's invariant: after the first i exchanges of 0, 1, .., k - 1 the slot's own number stands
-- at the place `at` (Following). Assumes nothing.
use Rattle.reasons.proofs.Finals.{Following}
use Rattle.reasons.proofs.fate.final_slot.Given as goal

abbrev pub invariant-loop-i : goal.invariant-loop-i
invariant-loop-i l = Following l.k l.rolls l.slot l.at l.i
