-- `hildrasp::hildrasp_rolls_behind` meets its contract: that of the operation, of which demands 1 and 2 are promised.
-- Assumes nothing.
use mathlib.Core.Path.{◌∙◌}
use mathlib.Core.List.{List}
use Prim.Native.Nat.{ℕ}
use Rattle.answers.specs.declared.answer.Answer.{Answer}
use Rattle.promises.specs.Order.{Refuses, Gives}
use Rattle.promises.proofs.Order.{promise}
use Rattle.hildrasp.proofs.Facing.{beside}
use Rattle.hildrasp.proofs.hildrasp_rolls_behind.Goals as goal

pub returns : goal.returns
returns c = let a = c.args in
    let made = c.rolls_behind.ensures in
    let answer = c.of.ensures ∙ made.answer in
    let demands = beside (λ (r : Answer × List ℕ). Refuses a.order.now a.rolls.now r × Gives a.order.now a.rolls.now r) _ _ _ answer made.rolls
    (promise.demand1 a.order.now a.rolls.now, promise.demand2 a.order.now a.rolls.now) in
    record { answer = answer; rolls = made.rolls; demands = demands }
