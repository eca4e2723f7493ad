-- `rolls::unfold::write_rolls` meets its contract. The loop's invariant: the rolls of the first i bounds are written, and r is what
-- they left (Unfolding). Assumes nothing.
use borrow.Author.Rules.{rules}
use Rattle.rolls.proofs.Unfolding.{unfold_turn, unfold_done}
use Rattle.rolls.proofs.unfold.write_rolls.Goals as goal

pub loop-i-preserved : goal.loop-i-preserved
loop-i-preserved c = unfold_turn _ _ _ _ _ _ _ c.loop-i.invariant _ _ (search rules) c.requires c.roll.ensures.roll c.roll.ensures.rest

pub returns : goal.returns
returns c = unfold_done _ _ _ _ _ _ _ c.loop-i.invariant (search rules)
