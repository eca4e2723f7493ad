-- `orders::order::write_behind` meets its contract. The loop's invariant: with m records still to place the marks are the inverse of the
-- list as it stands, and the lent list holds the rolls so far, then that list from place m - 1 down to 1 (Inverting). Assumes nothing.
use mathlib.Core.Path.{◌≡◌}
use lib.ListN.{length}
use Rattle.orders.proofs.Inverse.{Inverting}
use Rattle.orders.proofs.order.write_behind.Given as goal

abbrev pub invariant-loop-place : goal.invariant-loop-place
invariant-loop-place l = (length l.marks ≡ length l.initial.marks) × Inverting l.order l.initial.rolls l.marks l.rolls l.place
