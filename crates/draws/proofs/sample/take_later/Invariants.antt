-- `draws::sample::take_later` meets its contract. The loop's invariant: the first i of the later records have had their turn, and the
-- others make the slots what all of them make (Later); a record takes a slot or passes. Assumes nothing.
use Rattle.draws.proofs.Sampling.{Later}
use Rattle.draws.proofs.sample.take_later.Given as goal

abbrev pub invariant-loop-i : goal.invariant-loop-i
invariant-loop-i l = Later l.records l.k l.rolls l.initial.slots l.slots l.i
