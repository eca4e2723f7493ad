-- `shuffles::plan::Falling::product` meets its contract. The loop's invariant: the product so far, times that of the bounds left, is the
-- whole (Growing); so no product on the way passes it. Assumes nothing.
use Rattle.shuffles.proofs.Placing.{Growing}
use Rattle.shuffles.proofs.plan.Falling.product.Given as goal

abbrev pub invariant-loop-i : goal.invariant-loop-i
invariant-loop-i l = Growing l.self.m l.self.s l.p l.i
