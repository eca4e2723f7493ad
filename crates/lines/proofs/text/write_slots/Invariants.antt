-- `lines::text::write_slots` meets its contract. The loop's invariant: the lines of the slots passed are written. Assumes nothing.
use lib.ListN.{take}
use Rattle.lines.specs.Text.{slot_lines}
use Rattle.spelling.specs.Inner.{Written}
use Rattle.lines.proofs.text.write_slots.Given as goal

abbrev pub invariant-loop-slot : goal.invariant-loop-slot
invariant-loop-slot l = Written l.initial.page (slot_lines l.w 0 (take l.slot l.slots)) l.page
