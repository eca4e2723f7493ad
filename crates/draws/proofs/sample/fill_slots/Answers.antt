-- `draws::sample::fill_slots` meets its contract: the reservoir by the first n - k rolls, then the shuffle of its slots by the others. Assumes
-- nothing.
use native.Mathlib.Omega.{arith}
use lib.ListN.{length}
use Rattle.draws.proofs.Sampling.{later-count}
use Rattle.draws.proofs.sample.fill_slots.Goals as goal

pub slice_bounds-take_later-end : goal.slice_bounds-take_later-end
slice_bounds-take_later-end c = let a = c.args in later-count (length a.records.now) (length a.slots.now) a.rolls.now c.requires.1

pub take_later-requires : goal.take_later-requires
take_later-requires c = let a = c.args in
    let n = later-count (length a.records.now) (length a.slots.now) a.rolls.now c.requires.1 in
    omega (arith, n, c.requires.0, c.take_first.auto.slots)
