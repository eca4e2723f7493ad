-- `rolls::plan::write` meets its contract. The loop's invariant: the rolls of the bounds before `at` are written, and the rest of
-- the run suffices (Filling); so no word is missing. The measure is the bounds that are left. Assumes nothing.
use Prim.Native.Nat.{◌-◌, ◌≤◌}
use Rattle.rolls.proofs.Filling.{Filling}
use Rattle.rolls.proofs.plan.write.Given as goal

abbrev pub invariant-loop-at : goal.invariant-loop-at
invariant-loop-at g l =
    let p = g.P.Plan in
    (l.at ≤ p.bounds l.plan) × Filling 64 (p.batches l.plan 0) l.words.list.now l.words.next (p.batches l.plan l.at) l.initial.rolls l.rolls l.next l.at

abbrev pub decreases-loop-at : goal.decreases-loop-at
decreases-loop-at g l = g.P.Plan.bounds l.plan - l.at
