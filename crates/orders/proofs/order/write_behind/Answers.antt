-- `orders::order::write_behind` meets its contract. The loop's invariant: with m records still to place the marks are the inverse of the
-- list as it stands, and the lent list holds the rolls so far, then that list from place m - 1 down to 1 (Inverting). Assumes nothing.
use mathlib.Core.Path.{refl}
use native.Mathlib.Omega.{arith}
use lib.ListN.{length-set}
use borrow.Author.Rules.{rules}
use Rattle.orders.proofs.Inverse.{inside, look_record, look_some, look_most, invert_start, move_none, move_one, invert_turn, invert_done}
use Rattle.orders.proofs.order.write_behind.Goals as goal
use Rattle.orders.proofs.order.write_behind.Goals.{then-r-gt0, else-r-gt0}

pub loop-place-init : goal.loop-place-init
loop-place-init c = (refl, invert_start _ _ _ c.requires.order_and_room.3 c.requires.order_and_room.2 c.requires.marked c.requires.counted_down)

pub bounds-marks-order : goal.bounds-marks-order
bounds-marks-order c = look_record c.loop-place.invariant.1 c.loop-place-test.true

pub overflow_sub-r : goal.overflow_sub-r
overflow_sub-r c = look_some c.loop-place.invariant.1 c.loop-place-test.true

pub overflow_sub-rolls-then-r-gt0 : goal.overflow_sub-rolls-then-r-gt0
overflow_sub-rolls-then-r-gt0 c = omega (arith, inside c.loop-place.invariant.1 c.loop-place-test.true, look_most c.loop-place.invariant.1 c.loop-place-test.true)

pub loop-place-preserved : goal.loop-place-preserved
loop-place-preserved c = let k = look_most c.loop-place.invariant.1 c.loop-place-test.true in (
  simp length-set c.loop-place.invariant.0,
  invert_turn c.loop-place.invariant.1 c.loop-place-test.true _ _ refl refl c.if-r-gt0.rolls
      (elim c.if-r-gt0.branch [
        | then-r-gt0 w ↦ rw w.rolls-is (move_one _ _ _ _ _ (search rules) (omega arith) (search rules) (search rules))
        | else-r-gt0 w ↦ rw w.rolls-is (move_none _ _ _ _ _ (search rules))
      ]),
)

pub returns : goal.returns
returns c = invert_done c.loop-place.invariant.1 (search rules)
