-- `runs::behind::run_behind` meets its contract: for 2^64 each value is its own word; else the first word by a division rounded up, and
-- the last by the number of words less one. Assumes nothing.
use Rattle.std.proofs.Common.{◌≡◌, ◌≢◌, ℕ, ◌+◌, ◌-◌, ◌%◌, ◌^◌, ◌<◌, sym, ap, ◌∙◌, arith, rules}
use Rattle.rules.specs.Rolls.{threshold}
use Rattle.arithmetic.specs.Products.{unwrap}
use Rattle.arithmetic.proofs.Limits.{unwrap_some}
use Rattle.runs.specs.Inner.{run_behind_rolls}
use Rattle.runs.proofs.Radix.{run-last, run_found}
use Rattle.runs.proofs.behind.run_behind.Goals as goal

-- for a product below 2^64: the value is below it, and the threshold is its own
module _ (b : ℕ) (some : b ≢ 0) where
  same : unwrap 64 b ≡ b
  same = unwrap_some 64 b some

  below : (a : ℕ) → a < unwrap 64 b → a < b
  below a h = rw same at h

  least : (t : ℕ) → t ≡ threshold 64 (unwrap 64 b) → t ≡ threshold 64 b
  least t e = e ∙ ap (threshold 64) same

pub overflow_add-result : goal.overflow_add-result
overflow_add-result c = let a = c.args in
    let some = c.if-b-eq0.false in
    let r : (0 + (2 ^ 64 - a.product.wrapped)) % 2 ^ 64 ≡ 2 ^ 64 - a.product.wrapped = omega arith in
    record { fits = run-last _ _ _ (below a.product.wrapped some _ c.requires) (search rules) (least a.product.wrapped some _ c.threshold.ensures) _ c.divide_up-first.ensures _ r }

pub returns : goal.returns
returns c = let a = c.args in
    let some = c.if-b-eq0.false in
    let r : (0 + (2 ^ 64 - a.product.wrapped)) % 2 ^ 64 ≡ 2 ^ 64 - a.product.wrapped = omega arith in
    run_found _ _ _ (below a.product.wrapped some _ c.requires) (search rules) (least a.product.wrapped some _ c.threshold.ensures) _ c.divide_up-first.ensures _ r
    ∙ ap (λ (n : ℕ). run_behind_rolls 64 n a.a) (sym (same a.product.wrapped some))
