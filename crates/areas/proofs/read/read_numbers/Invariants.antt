-- `areas::read::read_numbers` meets its contract. The loop's invariant: the first i numbers are in the list, and the rest of it is as
-- it was. Assumes nothing.
use Rattle.rules.proofs.Writing.{Written}
use Rattle.areas.specs.Area.{entries}
use Rattle.areas.proofs.read.read_numbers.Given as goal

abbrev pub invariant-loop-i : goal.invariant-loop-i
invariant-loop-i g l = let n = g.N.Number in Written (entries n.SIZE l.count l.at l.bytes) l.count (n.values l.initial.out) (n.values l.out) l.i
