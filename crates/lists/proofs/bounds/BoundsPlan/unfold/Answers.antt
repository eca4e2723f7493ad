-- `lists::bounds::Bounds::unfold` meets its contract: the bounds of the batch stand in the list from the place on (Listing). Assumes nothing.
use native.Mathlib.Omega.{arith}
use Rattle.lists.proofs.Listing.{batch_within, unfolded_part}
use Rattle.lists.proofs.bounds.BoundsPlan.unfold.Goals as goal

pub slice_bounds-write_rolls-end : goal.slice_bounds-write_rolls-end
slice_bounds-write_rolls-end c = let within = batch_within c.args.self.now.list.now c.args.at c.requires.begun in omega (arith, within, c.requires.ended)

pub returns : goal.returns
returns c = unfolded_part c.args.self.now.list.now c.args.at c.requires.begun c.args.end c.requires.ended c.args.word c.args.out.now c.write_rolls.new.out c.write_rolls.ensures
