-- `orders::order::mark_places` meets its contract. The loop's invariant: the numbers before the place of the record are below n,
-- different and marked, and no other number is marked (Marking). A number that is too large or marked already stands in no order; a
-- list without one is an order. Assumes nothing.
use mathlib.Core.Path.{◌≡◌}
use lib.ListN.{length}
use Rattle.orders.proofs.Marking.{Marking}
use Rattle.orders.proofs.order.mark_places.Given as goal

abbrev pub invariant-loop-record : goal.invariant-loop-record
invariant-loop-record l = (length l.marks ≡ length l.initial.marks) × Marking l.order l.marks l.record-index
