-- `draws::rolling::count_up` meets its contract. The loop's invariant: the first i numbers are written, and the rest of the list is as it was.
-- Assumes nothing.
use Rattle.std.proofs.Common.{◌≡◌, ◌++◌, drop}
use Rattle.rules.specs.Reservoir.{countup}
use Rattle.draws.proofs.rolling.count_up.Given as goal

abbrev pub invariant-loop-i : goal.invariant-loop-i
invariant-loop-i l = l.bounds ≡ countup l.i l.from ++ drop l.i l.initial.bounds
