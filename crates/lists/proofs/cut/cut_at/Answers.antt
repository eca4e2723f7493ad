-- `lists::cut::cut_at` meets its contract. The loop's invariant: the bounds from `at` up to `end` have joined one batch (Cutting); it
-- ends with the list, at sixteen bounds, or where the product passes the limit. Assumes nothing.
use native.Mathlib.Omega.{arith}
use borrow.Author.Tests.{leb-true, leb-false, le-leb, lt-leb}
use mathlib.Core.Path.{◌∙◌, sym}
use borrow.Author.Rules.{rules}
use Rattle.lists.proofs.Cutting.{cut-first, cut-turn, cut-passes, cut_found, cut_ended}
use Rattle.lists.proofs.cut.cut_at.Goals as goal

pub loop-end-init : goal.loop-end-init
loop-end-init c = cut-first _ _ _ c.requires

pub loop-end-preserved : goal.loop-end-preserved
loop-end-preserved c =
    cut-turn _ _ _ _ _ c.loop-end.invariant (search rules) (search rules)
    (le-leb _ _ (omega (arith, leb-true _ _ (sym c.within.ensures ∙ c.if-not-within.false))))

pub returns-then-not-within : goal.returns-then-not-within
returns-then-not-within c = let v = c.loop-end.invariant in
    cut_found _ _ _ _ (omega (arith, c.loop-end.auto.product-fits)) v
    (cut-passes _ _ _ _ _ v (search rules) (lt-leb _ _ (omega (arith, leb-false _ _ (sym c.within.ensures ∙ c.if-not-within.true)))))

pub returns : goal.returns
returns c = cut_ended _ _ _ _ (omega (arith, c.loop-end.auto.product-fits)) c.loop-end.invariant (search rules)
