-- `lists::cut::cut_at` meets its contract. The loop's invariant: the bounds from `at` up to `end` have joined one batch (Cutting); it
-- ends with the list, at sixteen bounds, or where the product passes the limit. Assumes nothing.
use Prim.Native.Nat.{◌^◌}
use Rattle.lists.proofs.Cutting.{Cutting}
use Rattle.lists.proofs.cut.cut_at.Given as goal

abbrev pub invariant-loop-end : goal.invariant-loop-end
invariant-loop-end l = Cutting (2 ^ 56) l.bounds l.at l.product l.end
