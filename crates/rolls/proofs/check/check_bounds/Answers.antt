-- `rolls::check::check_bounds` meets its contract, test by test (Checking). Assumes nothing.
use mathlib.Core.Path.{◌∙◌, sym, ap}
use lib.ListN.{length}
use Rattle.answers.proofs.Deciding.{in_count, above_count}
use Rattle.answers.specs.Results.{numbered}
use Rattle.rolls.proofs.Checking.{checked-count, checked_zero, checked-held}
use borrow.Author.Rules.{rules}
use Rattle.rolls.proofs.check.check_bounds.Goals as goal

pub returns-then-bounds-gt-MAX_BATCH-clause-bounds : goal.returns-then-bounds-gt-MAX_BATCH-clause-bounds
returns-then-bounds-gt-MAX_BATCH-clause-bounds c = let bs = c.args.bounds.now in checked-count bs (above_count 1 16 (length bs) c.if-bounds-gt-MAX_BATCH.true)

pub returns-then-has_zero-clause-bounds : goal.returns-then-has_zero-clause-bounds
returns-then-has_zero-clause-bounds c = let bs = c.args.bounds.now in
    checked_zero bs (in_count 1 16 (length bs) (search rules) (search rules)) (sym c.has_zero.ensures ∙ c.if-has_zero.true)

pub product_of-requires : goal.product_of-requires
product_of-requires c = sym c.has_zero.ensures ∙ c.if-has_zero.false

pub returns-clause-bounds : goal.returns-clause-bounds
returns-clause-bounds c = let bs = c.args.bounds.now in
    let count = in_count 1 16 (length bs) (search rules) (search rules) in
    let zeros = sym c.has_zero.ensures ∙ c.if-has_zero.false in
    ap numbered c.ok_or.ensures.value ∙ checked-held bs count zeros c.product_of.result c.product_of.ensures
