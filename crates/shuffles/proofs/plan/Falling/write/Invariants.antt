-- `shuffles::plan::Falling::write` meets its contract. The loop's invariant: the rolls of the bounds passed are written, and r is what they left
-- (Writing). Assumes nothing.
use Rattle.shuffles.proofs.Placing.{Writing}
use Rattle.shuffles.proofs.plan.Falling.write.Given as goal

abbrev pub invariant-loop-i : goal.invariant-loop-i
invariant-loop-i l = Writing 64 l.initial.out l.self.m l.self.s l.word l.out l.unfolding.r l.i
