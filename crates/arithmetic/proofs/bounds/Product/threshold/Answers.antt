-- `arithmetic::bounds::Product::threshold` meets its contract: zero less b, taken with wrap, is 2^64 less b, which leaves the same remainder
-- as 2^64; and 2^64 leaves none by itself. Assumes nothing.
use Rattle.std.proofs.Common.{◌≡◌, ℕ, ◌+◌, ◌-◌, ◌%◌, ◌^◌, sym, ap, ◌∙◌, arith}
use Rattle.rules.specs.Rolls.{threshold}
use Rattle.rules.proofs.Rolls.{threshold_wraps, threshold_whole}
use Rattle.arithmetic.proofs.Limits.{unwrap_whole, unwrap_some}
use Rattle.arithmetic.proofs.bounds.Product.threshold.Goals as goal

pub returns-then-b-eq0 : goal.returns-then-b-eq0
returns-then-b-eq0 c = sym (ap (threshold 64) (unwrap_whole 64 c.args.self.wrapped c.if-b-eq0.true) ∙ threshold_whole 64)

pub returns : goal.returns
returns c = let b = c.args.self.wrapped in
    let e : (0 + (2 ^ 64 - b)) % 2 ^ 64 ≡ 2 ^ 64 - b = omega arith in
    ap (λ (n : ℕ). n % b) e ∙ threshold_wraps 64 b (omega arith) ∙ ap (threshold 64) (sym (unwrap_some 64 b c.if-b-eq0.false))
