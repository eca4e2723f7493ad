-- `orders::order::write_countdown` meets its contract. The loop's invariant: the first i - 1 of n - 1, .., 1 are written (Written).
-- Assumes nothing.
use Prim.Native.Nat.{◌-◌}
use Rattle.rules.proofs.Writing.{Written}
use Rattle.rules.specs.Shuffle.{countdown}
use Rattle.orders.proofs.order.write_countdown.Given as goal

abbrev pub invariant-loop-i : goal.invariant-loop-i
invariant-loop-i l = Written (countdown (l.n - 1) (l.n - 1)) (l.n - 1) l.initial.rolls l.rolls (l.i - 1)
