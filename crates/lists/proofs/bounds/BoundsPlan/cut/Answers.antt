-- `lists::bounds::Bounds::cut` meets its contract: the cut that the code makes is the plan's (Listing). Assumes nothing.
use Rattle.lists.proofs.Listing.{list_cut}
use Rattle.lists.proofs.bounds.BoundsPlan.cut.Goals as goal

pub returns : goal.returns
returns c = let b = c.args.self.now in list_cut b.list.now c.args.at c.requires b.no_zero b.fits c.cut_at.result c.cut_at.ensures
