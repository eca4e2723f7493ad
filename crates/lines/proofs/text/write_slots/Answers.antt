-- `lines::text::write_slots` meets its contract. The loop's invariant: the lines of the slots passed are written. Assumes nothing.
use native.Mathlib.Omega.{arith}
use lib.ListN.{get_or}
use Rattle.lines.specs.Text.{slot_lines}
use Rattle.spelling.proofs.Spelling.{as_long, joined, none_written, same_bytes}
use Rattle.lines.proofs.Printing.{slot_short, slots-short, slots_next}
use Rattle.lines.proofs.text.write_slots.Goals as goal

pub loop-slot-init : goal.loop-slot-init
unfolding slot_lines
loop-slot-init c = none_written (omega arith)

pub slot_line-requires : goal.slot_line-requires
slot_line-requires c =
    let a = c.args in
    let l = c.loop-slot in
    let passed = slots-short a.w 0 l.slot a.slots.now (λ i. (c.type_inv.slots i).fits) (omega arith) in
    let this = slot_short a.w l.slot (get_or a.slots.now l.slot 0) (omega arith) c.type_inv.record.fits in
    (omega arith, omega (arith, as_long l.invariant, passed, this))

pub loop-slot-preserved : goal.loop-slot-preserved
loop-slot-preserved c =
    let l = c.loop-slot in
    same_bytes (slots_next c.args.w l.slot c.args.slots.now c.loop-slot-test.true) (joined l.invariant c.slot_line.ensures)
