-- `draws::plan::SamplePlan::unfold` meets its contract: the batch is one of the reservoir, or one of the final shuffle (Planning). Assumes nothing.
use mathlib.Core.Path.{◌≡◌, ◌∙◌, sym, ap, ap₂}
use mathlib.Core.List.{List, ◌++◌}
use Prim.Native.Nat.{ℕ, ◌+◌, ◌-◌}
use native.Mathlib.Omega.{arith}
use lib.ListN.{length, drop}
use Rattle.rules.specs.Rolls.{rolls}
use Rattle.draws.proofs.Planning.{begins_first, begins_later}
use Rattle.draws.proofs.plan.SamplePlanPlan.unfold.Goals as goal

pub unfold-requires-clause-ended : goal.unfold-requires-clause-ended
unfold-requires-clause-ended c =
    let p = c.args.self.now in
    let a = c.args in
    let here = begins_first p.reservoir.list.now p.shuffle.records a.at (omega (arith, c.count-later.ensures, c.if-at-later.true)) in
    c.requires.ended ∙ ap (λ (b : List ℕ). a.at + length b) here

pub unfold-requires-else-at-later-clause-ended : goal.unfold-requires-else-at-later-clause-ended
unfold-requires-else-at-later-clause-ended c =
    let p = c.args.self.now in
    let a = c.args in
    let here = begins_later p.reservoir.list.now p.shuffle.records c.count-later.result c.count-later.ensures a.at c.if-at-later.false in
    omega (arith, c.requires.ended ∙ ap (λ (b : List ℕ). a.at + length b) here, c.if-at-later.false)

pub returns-then-at-later : goal.returns-then-at-later
returns-then-at-later c =
    let p = c.args.self.now in
    let a = c.args in
    let here = begins_first p.reservoir.list.now p.shuffle.records a.at (omega (arith, c.count-later.ensures, c.if-at-later.true)) in
    c.unfold.ensures ∙ ap (λ (b : List ℕ). rolls 64 b a.word ++ drop (a.end - a.at) a.out.now) (sym here)

pub returns-else-at-later : goal.returns-else-at-later
returns-else-at-later c =
    let p = c.args.self.now in
    let a = c.args in
    let n = c.count-later.result in
    let here = begins_later p.reservoir.list.now p.shuffle.records n c.count-later.ensures a.at c.if-at-later.false in
    let size : a.end - n - (a.at - n) ≡ a.end - a.at = omega (arith, c.if-at-later.false) in
    c.unfold-else-at-later.ensures ∙ ap₂ (λ (b : List ℕ) (m : ℕ). rolls 64 b a.word ++ drop m a.out.now) (sym here) size
