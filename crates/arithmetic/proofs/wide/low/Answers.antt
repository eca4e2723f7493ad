-- `arithmetic::wide::low` meets its contract: the lower halves of the columns. Assumes nothing.
use Rattle.std.proofs.Common.{arith}
use Rattle.arithmetic.proofs.Halves.{four_halves, low_columns}
use Rattle.arithmetic.proofs.wide.low.Goals as goal

pub overflow_mul-bottom : goal.overflow_mul-bottom
overflow_mul-bottom c = omega (arith, four_halves c.args.a c.args.b c.ranges.a.fits c.ranges.b.fits)

pub overflow_mul-middle : goal.overflow_mul-middle
overflow_mul-middle c = omega (arith, four_halves c.args.a c.args.b c.ranges.a.fits c.ranges.b.fits)

pub overflow_mul-middle-2 : goal.overflow_mul-middle-2
overflow_mul-middle-2 c = omega (arith, four_halves c.args.a c.args.b c.ranges.a.fits c.ranges.b.fits)

pub overflow_add-middle-2 : goal.overflow_add-middle-2
overflow_add-middle-2 c = omega (arith, four_halves c.args.a c.args.b c.ranges.a.fits c.ranges.b.fits)

pub returns : goal.returns
returns c = low_columns c.args.a c.args.b
