-- `rolls::unfold::write_rolls` meets its contract. The loop's invariant: the rolls of the first i bounds are written, and r is what
-- they left (Unfolding). Assumes nothing.
use Rattle.rolls.proofs.Unfolding.{Unfolding}
use Rattle.rolls.proofs.unfold.write_rolls.Given as goal

abbrev pub invariant-loop-i : goal.invariant-loop-i
invariant-loop-i l = Unfolding 64 l.initial.out l.bounds l.word l.out l.unfolding.r l.i
