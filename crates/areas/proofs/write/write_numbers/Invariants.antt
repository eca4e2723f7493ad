-- `areas::write::write_numbers` meets its contract. The loop's invariant: the bytes of the first i numbers are put, and all other bytes
-- are as they were. Assumes nothing.
use Rattle.areas.proofs.Putting.{Laid}
use Rattle.areas.proofs.write.write_numbers.Given as goal

abbrev pub invariant-loop-i : goal.invariant-loop-i
invariant-loop-i g l = let n = g.N.Number in Laid n.SIZE l.initial.bytes l.at (n.values l.numbers) l.bytes l.i
