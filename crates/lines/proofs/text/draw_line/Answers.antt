-- `lines::text::draw_line` meets its contract: its texts and fields, one behind the other, are the line. Assumes nothing.
use Rattle.lines.specs.Text.{line}
use Rattle.spelling.proofs.Spelling.{joined}
use Rattle.lines.proofs.text.draw_line.Goals as goal

pub returns : goal.returns
unfolding line
returns c =
    joined c.text.ensures
    (joined c.field.ensures (joined c.field-2.ensures (joined c.field-3.ensures (joined c.field-4.ensures c.text-2.ensures))))
