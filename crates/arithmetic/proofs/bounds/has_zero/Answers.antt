-- `arithmetic::bounds::has_zero` meets its contract: some bound is 0 where one passes the test. Assumes nothing.
use Rattle.std.proofs.Common.{◌==◌, ◌∙◌, rules, tests}
use Rattle.std.proofs.lemmas.Iterator.{YieldsList-from_slice}
use Rattle.std.proofs.lemmas.Iterator.Search.{any_from_yields_List}
use Rattle.arithmetic.proofs.Limits.{zero_any}
use Rattle.arithmetic.proofs.bounds.has_zero.Goals as goal

pub returns : goal.returns
returns c =
    any_from_yields_List (λ b. b == 0) c.any.new.self _ _ c.any.ensures.ran (YieldsList-from_slice c.args.bounds.now cc) (λ x b q k. search (rules, tests))
    ∙ zero_any c.args.bounds.now
