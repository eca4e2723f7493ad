-- `arithmetic::bounds::Product::times` meets its contract: a product of 2^64 takes a bound of 1 alone. Assumes nothing.
use Rattle.std.proofs.Common.{◌∙◌, sym, ap, ap₂, ◌*◌, ◌^◌, ◌<◌, ℕ, arith}
use lib.Arith.{lt_of_le-ne}
use Rattle.arithmetic.specs.Products.{against}
use Rattle.arithmetic.proofs.Limits.{unwrap_whole, unwrap_some, against_large, whole_held}
use Rattle.arithmetic.proofs.bounds.Product.times.Goals as goal

pub returns-then-b-eq1 : goal.returns-then-b-eq1
returns-then-b-eq1 c = let a = c.args in
    sym (ap against (ap₂ ◌*◌ (unwrap_whole 64 a.self.wrapped c.if-self-ne0.false) c.if-b-eq1.true) ∙ whole_held a.self c.if-self-ne0.false)

pub returns-then-self-ne0 : goal.returns-then-self-ne0
returns-then-self-ne0 c = let a = c.args in
    c.product_of_two.ensures ∙ ap (λ (n : ℕ). against (n * a.b)) (sym (unwrap_some 64 a.self.wrapped c.if-self-ne0.true))

pub returns : goal.returns
returns c = let a = c.args in
    let b : 1 < a.b = lt_of_le-ne c.requires (λ e. c.if-b-eq1.false (sym e)) in
    sym (ap (λ (n : ℕ). against (n * a.b)) (unwrap_whole 64 a.self.wrapped c.if-self-ne0.false) ∙ against_large (2 ^ 64 * a.b) (omega arith))
