-- `draws::plan::SamplePlan::cut` meets its contract: the batch is one of the reservoir, or one of the final shuffle (Planning). Assumes nothing.
use native.Mathlib.Omega.{arith}
use Rattle.draws.proofs.Planning.{cut_first, cut_later}
use Rattle.draws.proofs.plan.SamplePlanPlan.cut.Goals as goal

pub returns-then-at-later : goal.returns-then-at-later
returns-then-at-later c = let p = c.args.self.now in
    cut_first p.reservoir.list.now p.shuffle.records c.args.at (omega (arith, c.count-later.ensures, c.if-at-later.true)) c.cut.result c.cut.ensures

pub returns : goal.returns
returns c = let p = c.args.self.now in
    cut_later p.reservoir.list.now p.shuffle.records c.count-later.result c.count-later.ensures c.args.at c.if-at-later.false c.cut-cut.result c.cut-cut.ensures
