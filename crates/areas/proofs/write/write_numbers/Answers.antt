-- `areas::write::write_numbers` meets its contract. The loop's invariant: the bytes of the first i numbers are put, and all other bytes
-- are as they were. Assumes nothing.
use borrow.Author.Rules.{rules}
use Rattle.areas.proofs.Putting.{laid_none}
use Rattle.areas.proofs.Values.{write_turn}
use Rattle.areas.proofs.write.write_numbers.Goals as goal

pub loop-i-init : goal.loop-i-init
loop-i-init g c = laid_none

pub loop-i-preserved : goal.loop-i-preserved
loop-i-preserved g c =
    write_turn g.met.N.Number.each g.N.Number.SIZE c.args.at c.args.numbers.now _ _ _ _ _ _ c.loop-i.invariant c.loop-i-test.true c.requires c.index-numbers-i.is
    c.write.ensures (search rules)
