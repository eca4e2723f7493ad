-- `runs::behind::value_of` meets its contract. The loop's invariant: a is the value of the rolls read so far, and with the rolls that
-- are left it comes to the value of all (Reading), which nothing on the way passes. Assumes nothing.
use Rattle.std.proofs.Common.{arith}
use Rattle.std.proofs.lemmas.Slice.Zip.{either_empty_from_Zip}
use Rattle.runs.proofs.Radix.{reading_turn, reading_fits, reading_done, value_fits}
use Rattle.runs.proofs.behind.value_of.Goals as goal

pub overflow_mul-a : goal.overflow_mul-a
overflow_mul-a c =
    let s = c.in-Some.ensures.steps in
    let h = reading_fits c.loop-bound.invariant s.0 s.1 (value_fits _ _ c.requires.0 c.requires.1) in
    omega arith

pub overflow_add-a : goal.overflow_add-a
overflow_add-a c =
    let s = c.in-Some.ensures.steps in
    record { fits = reading_fits c.loop-bound.invariant s.0 s.1 (value_fits _ _ c.requires.0 c.requires.1) }

pub loop-bound-preserved : goal.loop-bound-preserved
loop-bound-preserved c = reading_turn c.loop-bound.invariant c.in-Some.ensures.steps.0 c.in-Some.ensures.steps.1

pub returns : goal.returns
returns c = reading_done _ _ c.loop-bound.invariant (either_empty_from_Zip _ c.next.new.self _ c.in-None.is c.next.ensures.steps)
