-- `draws::sample::shuffle_slots` meets its contract. The loop's invariant: the first i rolls are done, and the others bring the slots as they
-- stand to what all of them give (Turned). Assumes nothing.
use Rattle.rules.proofs.Turns.{turned_turn}
use Rattle.draws.proofs.sample.shuffle_slots.Goals as goal

pub loop-i-preserved : goal.loop-i-preserved
loop-i-preserved c = rw c.exchange_records.ensures (turned_turn _ _ _ _ c.loop-i.invariant c.loop-i-test.true)
