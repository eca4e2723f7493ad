-- `runs::behind::value_of` meets its contract. The loop's invariant: a is the value of the rolls read so far, and with the rolls that
-- are left it comes to the value of all (Reading), which nothing on the way passes. Assumes nothing.
use Rattle.std.specs.Iterator.Adapters.{zip_first, zip_second}
use Rattle.std.specs.Slice.Iter.{iter_rest}
use Rattle.rules.specs.Rolls.{value}
use Rattle.runs.proofs.Radix.{Reading}
use Rattle.runs.proofs.behind.value_of.Given as goal

abbrev pub invariant-loop-bound : goal.invariant-loop-bound
invariant-loop-bound l = Reading (value l.bounds l.rolls) l.a (iter_rest (zip_first l.bound-iterator)) (iter_rest (zip_second l.bound-iterator))
