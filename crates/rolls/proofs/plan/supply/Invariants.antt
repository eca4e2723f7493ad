-- `rolls::plan::supply` meets its contract. The loop's invariant: the batches before the place at have their words, and those from there on
-- are left (Supplying). The measure is the bounds that are left. Assumes nothing.
use Prim.Native.Nat.{◌-◌, ◌≤◌}
use Rattle.rolls.proofs.Supplying.{Supplying}
use Rattle.rolls.proofs.plan.supply.Given as goal

abbrev pub invariant-loop-at : goal.invariant-loop-at
invariant-loop-at g l =
    let p = g.P.Plan in
    let start = l.words.next in
    (l.at ≤ p.bounds l.plan) × (l.batch ≤ l.at) × Supplying 64 (p.batches l.plan 0) l.words.list.now start (p.batches l.plan l.at) l.next l.rejected l.batch

abbrev pub decreases-loop-at : goal.decreases-loop-at
decreases-loop-at g l = g.P.Plan.bounds l.plan - l.at
