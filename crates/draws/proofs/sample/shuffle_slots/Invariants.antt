-- `draws::sample::shuffle_slots` meets its contract. The loop's invariant: the first i rolls are done, and the others bring the slots as they
-- stand to what all of them give (Turned). Assumes nothing.
use Rattle.rules.proofs.Turns.{Turned}
use Rattle.draws.proofs.sample.shuffle_slots.Given as goal

abbrev pub invariant-loop-i : goal.invariant-loop-i
invariant-loop-i l = Turned l.initial.slots l.rolls l.slots l.i
