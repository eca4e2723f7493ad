-- `arithmetic::bounds::product_of` meets its contract. The loop's invariant: the product of the bounds passed is at most 2^64, and is held.
-- Assumes nothing.
use Rattle.std.proofs.Common.{◌≤◌, length}
use Rattle.arithmetic.proofs.Limits.{Grown}
use Rattle.arithmetic.proofs.bounds.product_of.Given as goal

abbrev pub invariant-loop-b : goal.invariant-loop-b
invariant-loop-b l = (l.b-index ≤ length l.bounds) × Grown l.bounds l.b-index l.product
