-- `arithmetic::wide::high` meets its contract: the columns of the product by hand, each sum within a word. Assumes nothing.
use Rattle.std.proofs.Common.{arith}
use Rattle.arithmetic.proofs.Halves.{four_halves, high_columns}
use Rattle.arithmetic.proofs.wide.high.Goals as goal

pub overflow_mul-middle : goal.overflow_mul-middle
overflow_mul-middle c = omega (arith, four_halves c.args.a c.args.b c.ranges.a.fits c.ranges.b.fits)

pub overflow_mul-middle-2 : goal.overflow_mul-middle-2
overflow_mul-middle-2 c = omega (arith, four_halves c.args.a c.args.b c.ranges.a.fits c.ranges.b.fits)

pub overflow_add-middle : goal.overflow_add-middle
overflow_add-middle c = omega (arith, four_halves c.args.a c.args.b c.ranges.a.fits c.ranges.b.fits)

pub overflow_mul-upper : goal.overflow_mul-upper
overflow_mul-upper c = omega (arith, four_halves c.args.a c.args.b c.ranges.a.fits c.ranges.b.fits)

pub overflow_add-upper : goal.overflow_add-upper
overflow_add-upper c = omega (arith, four_halves c.args.a c.args.b c.ranges.a.fits c.ranges.b.fits)

pub overflow_mul-result : goal.overflow_mul-result
overflow_mul-result c = omega (arith, four_halves c.args.a c.args.b c.ranges.a.fits c.ranges.b.fits)

pub overflow_add-result : goal.overflow_add-result
overflow_add-result c = omega (arith, four_halves c.args.a c.args.b c.ranges.a.fits c.ranges.b.fits)

pub overflow_add-result-2 : goal.overflow_add-result-2
overflow_add-result-2 c = omega (arith, four_halves c.args.a c.args.b c.ranges.a.fits c.ranges.b.fits)

pub returns : goal.returns
returns c = high_columns c.args.a c.args.b
