-- `runs::behind::words_behind` meets its contract: the bounds are refused; or they are held, and the rolls are a misfit or have their
-- run (WayBack). Assumes nothing.
use Rattle.std.specs.Prelude.{Ok, Err}
use Rattle.std.proofs.Common.{◌≡◌, refl, sym, ap, ◌∙◌, ap₂, rules}
use Rattle.rules.specs.Width.{w64}
use Rattle.rules.proofs.Range.{range_true}
use Rattle.rules.proofs.Rolls.{value_below}
use Rattle.answers.specs.Outcome.{shown_behind}
use Rattle.answers.specs.Results.{numbered, behind_of}
use Rattle.answers.specs.declared.results.WordRun.{WordRun}
use Rattle.rolls.proofs.Checking.{told-refused, told_held, fit_product}
use Rattle.runs.specs.Inner.{run_behind_rolls}
use Rattle.runs.proofs.WayBack.{behind-refused, behind_misfit, behind_found}
use Rattle.runs.proofs.behind.words_behind.Goals as goal

pub returns-in_err-product : goal.returns-in_err-product
returns-in_err-product c = let a = c.args in
    let refusal = c.in_err-product.field-0.0 in
    let e : c.from_residual.result ≡ Err refusal = search rules in
    let why = told-refused a.bounds.now refusal (ap numbered (sym c.in_err-product.was) ∙ c.check_bounds.ensures.bounds) in
    ap behind_of e ∙ behind-refused w64 a.bounds.now a.rolls.now _ _ why.refuses _ refl

pub returns-then-not-in_range : goal.returns-then-not-in_range
returns-then-not-in_range c = let a = c.args in
    let held = told_held a.bounds.now c.in_ok-product.product (ap numbered (sym c.in_ok-product.was) ∙ c.check_bounds.ensures.bounds) in
    ap shown_behind (sym (behind_misfit w64 a.bounds.now a.rolls.now held.passes (sym c.in_range.ensures ∙ c.if-not-in_range.true)))

pub value_of-requires : goal.value_of-requires
value_of-requires c = let a = c.args in
    let held = told_held a.bounds.now c.in_ok-product.product (ap numbered (sym c.in_ok-product.was) ∙ c.check_bounds.ensures.bounds) in
    (sym c.in_range.ensures ∙ c.if-not-in_range.false, fit_product a.bounds.now held.fit)

pub run_behind-requires : goal.run_behind-requires
run_behind-requires c = let a = c.args in
    let held = told_held a.bounds.now c.in_ok-product.product (ap numbered (sym c.in_ok-product.was) ∙ c.check_bounds.ensures.bounds) in
    let r = range_true a.bounds.now a.rolls.now (sym c.in_range.ensures ∙ c.if-not-in_range.false) in
    rw (c.value_of.ensures, held.held) (value_below a.bounds.now a.rolls.now r)

pub returns : goal.returns
returns c = let a = c.args in
    let held = told_held a.bounds.now c.in_ok-product.product (ap numbered (sym c.in_ok-product.was) ∙ c.check_bounds.ensures.bounds) in
    ap (λ (run : WordRun). behind_of (Ok run)) (c.run_behind.ensures ∙ ap₂ (run_behind_rolls 64) held.held c.value_of.ensures)
    ∙ sym (behind_found w64 a.bounds.now a.rolls.now held.passes (sym c.in_range.ensures ∙ c.if-not-in_range.false))
