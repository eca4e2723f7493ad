-- `lines::text::write_output` meets its contract. It turns on two laws: the k that comes back is within the slots that were lent, and the
-- first line with those of the slots behind it is the output; on a refusal k is 0, and no slot has a line. Assumes nothing.
use mathlib.Core.Path.{◌≡◌, refl, sym}
use Prim.Native.Nat.{ℕ}
use native.Mathlib.Omega.{arith}
use lib.ListN.{length-replicate, take}
use lib.Seq.{length-take-le}
use borrow.Author.Rules.{rules}
use Rattle.sheet.specs.Results.{drawn_of}
use Rattle.sheet.proofs.Running.{drawn_room}
use Rattle.lines.specs.Text.{told, room, output, slot_lines}
use Rattle.spelling.specs.Inner.{Written}
use Rattle.spelling.proofs.Spelling.{as_long, none_written}
use Rattle.lines.proofs.Printing.{told-written, output-told}
use Rattle.lines.proofs.text.write_output.Goals as goal
use Rattle.lines.proofs.text.write_output.Goals.{in-Ok, in_default}

pub slice_bounds-slots-end : goal.slice_bounds-slots-end
slice_bounds-slots-end c =
    let r = c.run_sheet-drawn in
    omega (arith, drawn_room _ _ _ c.in-Ok.ensures.answer, r.auto.slots)

pub slice_bounds-write_slots-end : goal.slice_bounds-write_slots-end
slice_bounds-write_slots-end c =
    let r = c.run_sheet-drawn in
    sym (length-take-le c.in-Ok.field-0.header.k r.new.slots (omega (arith, drawn_room _ _ _ c.in-Ok.ensures.answer, r.auto.slots)))

pub returns : goal.returns
unfolding slot_lines
returns c =
    let r = c.run_sheet-drawn in
    let d = drawn_of r.result in
    let first = c.first_line.ensures.written in
    let rest : Written c.first_line.new.page (slot_lines d.w 0 (take d.k r.new.slots)) c.match-drawn.page
    = elim c.match-drawn.branch [
      | in-Ok w ↦ rw (w.in-Ok.is, w.page-is) w.write_slots.ensures
      | in_default w ↦ rw (w.in_default.is, w.page-is) (none_written (omega (arith, as_long first, first.within)))
    ] in
    let v = told-written d r.new.slots c.new-page.ensures.place first rest in
    let e : told d r.new.slots ≡ output c.args.sheet.now
    = output-told c.args.sheet.now _ _ _ refl (length-replicate {A = ℕ} room 0) r.ensures.answer r.ensures.slots in
    record { length = cc (v.0, e); bytes = search (rules, v.1, e) }
