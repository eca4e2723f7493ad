-- `areas::read::read_numbers` meets its contract. The loop's invariant: the first i numbers are in the list, and the rest of it is as
-- it was. Assumes nothing.
use borrow.Author.Rules.{rules}
use Rattle.rules.proofs.Writing.{written_whole}
use Rattle.areas.proofs.Reading.{length-entries}
use Rattle.areas.proofs.Values.{read_turn}
use Rattle.areas.proofs.read.read_numbers.Goals as goal

pub loop-i-preserved : goal.loop-i-preserved
loop-i-preserved g c =
    read_turn g.met.N.Number.each g.N.Number.SIZE c.args.count c.args.at c.args.bytes.now c.args.out.now _ _ _ _ c.loop-i.invariant c.loop-i-test.true c.requires.1
    c.read.ensures (search rules)

pub returns : goal.returns
returns g c = written_whole _ _ (length-entries g.N.Number.SIZE _ _ _) _ _ _ c.loop-i.invariant (search rules)
