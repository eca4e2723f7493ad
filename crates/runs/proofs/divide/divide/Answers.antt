-- `runs::divide::divide` meets its contract. The loop's invariant: the bits of the dividend that are passed, divided by b, are
-- the quotient and the remainder so far (Dividing). Assumes nothing.
use Rattle.runs.proofs.LongDivision.{divide_fits, divide_below, divide_reached, divide_done}
use Rattle.std.proofs.Common.{le-add_right, lt_of_le_of_lt, rules}
use Rattle.runs.proofs.divide.divide.Goals as goal

pub overflow_mul-quotient : goal.overflow_mul-quotient
overflow_mul-quotient c = record { fits = lt_of_le_of_lt (le-add_right _ 1) (divide_fits _ _ _ _ _ _ c.loop-left.invariant c.loop-left-test.true) }

pub loop-left-preserved-then-remainder-bit : goal.loop-left-preserved-then-remainder-bit
loop-left-preserved-then-remainder-bit c = divide_below _ _ _ _ _ _ c.loop-left.invariant c.loop-left-test.true (search rules)

pub overflow_mul-quotient-else-remainder-bit : goal.overflow_mul-quotient-else-remainder-bit
overflow_mul-quotient-else-remainder-bit c = record { fits = lt_of_le_of_lt (le-add_right _ 1) (divide_fits _ _ _ _ _ _ c.loop-left.invariant c.loop-left-test.true) }

pub overflow_add-quotient : goal.overflow_add-quotient
overflow_add-quotient c = record { fits = divide_fits _ _ _ _ _ _ c.loop-left.invariant c.loop-left-test.true }

pub loop-left-preserved : goal.loop-left-preserved
loop-left-preserved c = divide_reached _ _ _ _ _ _ c.loop-left.invariant c.loop-left-test.true (search rules)

pub returns : goal.returns
returns c = divide_done _ _ _ _ _ _ c.loop-left-test.false c.loop-left.invariant
