-- `lines::text::slot_line` meets its contract: its texts and fields, one behind the other, are the line. Assumes nothing.
use native.Mathlib.Omega.{arith}
use borrow.Author.Tests.{lt-ltb, le-ltb}
use Rattle.lines.specs.Text.{line}
use Rattle.spelling.proofs.Spelling.{joined}
use Rattle.lines.proofs.text.slot_line.Goals as goal

pub returns-then-slot-w : goal.returns-then-slot-w
unfolding line
returns-then-slot-w c =
    let a = c.args in
    rw (lt-ltb a.slot a.w (omega arith)) (joined c.decimal.ensures (joined c.field.ensures c.text.ensures))

pub returns-else-slot-w : goal.returns-else-slot-w
unfolding line
returns-else-slot-w c =
    let a = c.args in
    rw (le-ltb a.slot a.w (omega arith)) (joined c.decimal.ensures (joined c.field.ensures c.text-else-slot-w.ensures))
