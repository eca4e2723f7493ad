-- `arithmetic::bounds::within` meets its contract: with high half 0 the low half is p * b, and otherwise p * b is above every word.
-- Assumes nothing.
use Rattle.std.proofs.Common.{◌*◌}
use Rattle.arithmetic.proofs.Limits.{beyond_words, within_word}
use Rattle.arithmetic.proofs.bounds.within.Goals as goal

pub returns-then-high-eq0 : goal.returns-then-high-eq0
returns-then-high-eq0 c = let a = c.args in
    within_word (a.p * a.b) _ _ c.high.ensures c.low.ensures c.if-high-eq0.true a.limit

pub returns-else-high-eq0 : goal.returns-else-high-eq0
returns-else-high-eq0 c = let start = c in
    beyond_words (start.args.p * start.args.b) _ start.args.limit c.high.ensures c.if-high-eq0.false start.ranges.limit.fits
