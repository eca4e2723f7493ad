-- `writer::write::write_sheet` meets its contract. The refusals are found by the check, which unfolds what decides; a sheet that is written is
-- its three parts, put one behind the other. Assumes nothing.
use mathlib.Core.Path.{sym, ◌∙◌}
use Prim.Native.Nat.{◌≤◌}
use native.Mathlib.Omega.{arith}
use lib.ListN.{length}
use Rattle.writer.specs.WriteSheet.{length_of}
use Rattle.writer.proofs.Writing.{write_done, done_write}
use Rattle.writer.proofs.write.write_sheet.Goals as goal

pub returns : goal.returns
returns c =
    let a = c.args in
    let long = sym c.too_long.ensures ∙ c.if-too_long.false in
    let room : length_of a.words.now a.records.now ≤ length a.sheet.now = omega arith in
    let written = write_done a.words.now a.records.now a.k a.w (length a.sheet.now) long c.in_ok-check_size.ensures room in
    let seen = done_write a.words.now a.records.now a.k a.w a.sheet.now written room
    c.write_header.new.sheet c.write_numbers.new.bytes c.write_numbers-2.new.bytes c.write_header.ensures c.write_numbers.ensures c.write_numbers-2.ensures in
    record { answer = seen.0; sheet = seen.1 }
