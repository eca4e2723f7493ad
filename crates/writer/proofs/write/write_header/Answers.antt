-- `writer::write::write_header` meets its contract. It turns on one law, number by number: the bytes of those so far are put, and the next are
-- put behind them. Assumes nothing.
use lib.Dec.{lit<, lit≤}
use Rattle.areas.proofs.Putting.{laid_none, laid_turn, laid_whole}
use Rattle.writer.specs.Results.{six}
use Rattle.writer.proofs.write.write_header.Goals as goal

pub returns : goal.returns
returns c =
    let a = c.args in
    let room = c.requires in
    let one = laid_turn (laid_none {size = 4} {before = a.sheet.now} {at = 0} {xs = six a.header}) (lit< tt) room c.write.ensures in
    let two = laid_turn one (lit< tt) room c.write-2.ensures in
    let three = laid_turn two (lit< tt) room c.write-3.ensures in
    let four = laid_turn three (lit< tt) room c.write-4.ensures in
    let five = laid_turn four (lit< tt) room c.write-5.ensures in
    laid_whole (laid_turn five (lit< tt) room c.write-6.ensures) (lit≤ tt)
