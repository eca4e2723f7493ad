-- `shuffles::plan::CountdownPlan::cut` meets its contract: the batch that begins at a place (Shuffling). Assumes nothing.
use native.Mathlib.Omega.{arith}
use Rattle.shuffles.proofs.Shuffling.{size_less, product_less, down_cut}
use Rattle.shuffles.proofs.plan.CountdownPlan.cut.Goals as goal

pub overflow_add-result : goal.overflow_add-result
overflow_add-result c =
    let l = size_less _ _ c.args.self.now.few c.requires _ c.batch_size.ensures in
    record { fits = omega (arith, l.1, c.args.self.now.few) }

pub invariant_of-batch : goal.invariant_of-batch
invariant_of-batch c = let l = size_less _ _ c.args.self.now.few c.requires _ c.batch_size.ensures in record { within = omega (arith, l.1) }

pub product-requires : goal.product-requires
product-requires c = product_less _ _ c.args.self.now.few c.requires _ c.batch_size.ensures

pub returns : goal.returns
returns c = down_cut _ _ c.args.self.now.few c.requires _ c.batch_size.ensures _ c.product.ensures
