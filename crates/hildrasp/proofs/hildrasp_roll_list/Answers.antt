-- `hildrasp::hildrasp_roll_list` meets its contract: that of the operation, of which demands 1 and 2 are promised; the words and bounds of a call are 64-bit numbers.
-- Assumes nothing.
use mathlib.Core.Path.{◌∙◌}
use mathlib.Core.List.{List}
use Prim.Native.Nat.{ℕ}
use Rattle.rules.specs.Width.{w64}
use Rattle.answers.specs.declared.answer.Answer.{Answer}
use Rattle.promises.specs.Demand1.{Callable}
use Rattle.promises.specs.List.{Refuses, Gives}
use Rattle.promises.proofs.List.{promise}
use Rattle.hildrasp.proofs.Facing.{beside}
use Rattle.hildrasp.proofs.hildrasp_roll_list.Goals as goal

pub returns : goal.returns
returns c = let a = c.args in
    let words : Callable 64 a.words.now = λ i h. (c.type_inv.words i).fits in
    let bounds : Callable 64 a.bounds.now = λ i h. (c.type_inv.bounds i).fits in
    let made = c.roll_list.ensures in
    let answer = c.of.ensures ∙ made.answer in
    let demands = beside (λ (r : Answer × List ℕ). Refuses w64 a.words.now a.start a.bounds.now a.rolls.now r × Gives w64 a.words.now a.start a.bounds.now a.rolls.now r) _ _ _ answer made.rolls
    (promise.demand1 a.words.now a.start a.bounds.now a.rolls.now words bounds, promise.demand2 a.words.now a.start a.bounds.now a.rolls.now words bounds) in
    record { answer = answer; rolls = made.rolls; demands = demands }
