-- `arithmetic::bounds::product_of` meets its contract. The loop's invariant: the product of the bounds passed is at most 2^64, and is held.
-- Assumes nothing.
use Rattle.std.proofs.Common.{◌∙◌, rules}
use Rattle.rules.proofs.Products.{zero_nowhere}
use Rattle.arithmetic.proofs.Limits.{grown_none, grown_turn, grown_past, grown_whole}
use Rattle.arithmetic.proofs.bounds.product_of.Goals as goal

pub loop-b-init : goal.loop-b-init
loop-b-init c = (search rules, grown_none c.args.bounds.now)

pub times-requires : goal.times-requires
times-requires c = zero_nowhere c.args.bounds.now c.loop-b.b-index c.requires (search rules)

pub returns-in_err-product : goal.returns-in_err-product
returns-in_err-product c = let i = c.loop-b.b-index in
    c.from_residual.ensures ∙ grown_past c.args.bounds.now c.requires i (search rules) c.loop-b.product c.loop-b.invariant.1 c.times.result c.times.ensures c.in_err-product.was

pub loop-b-preserved : goal.loop-b-preserved
loop-b-preserved c = let i = c.loop-b.b-index in
    (search rules, grown_turn c.args.bounds.now c.requires i (search rules) c.loop-b.product c.loop-b.invariant.1 c.times.result c.times.ensures _ c.in_ok-product.was)

pub returns : goal.returns
returns c = let bs = c.args.bounds.now in grown_whole bs c.loop-b.b-index (search rules) c.loop-b.product c.loop-b.invariant.1
