-- `hildrasp::hildrasp_words_behind` meets its contract: that of the operation, of which demands 1 and 2 are promised; the bounds and rolls of a call are 64-bit numbers.
-- Assumes nothing.
use mathlib.Core.Path.{◌∙◌}
use Rattle.rules.specs.Width.{w64}
use Rattle.answers.specs.declared.answer.Behind.{Behind}
use Rattle.promises.specs.Demand1.{Callable}
use Rattle.promises.specs.Behind.{Refuses, Gives}
use Rattle.promises.proofs.Behind.{promise}
use Rattle.hildrasp.proofs.Facing.{alone}
use Rattle.hildrasp.proofs.hildrasp_words_behind.Goals as goal

pub returns : goal.returns
returns c = let a = c.args in
    let bounds : Callable 64 a.bounds.now = λ i h. (c.type_inv.bounds i).fits in
    let rolls : Callable 64 a.rolls.now = λ i h. (c.type_inv.rolls i).fits in
    let made = c.from.ensures ∙ c.words_behind.ensures in
    let demands = alone (λ (r : Behind). Refuses w64 a.bounds.now a.rolls.now r × Gives w64 a.bounds.now a.rolls.now r) _ _ made
    (promise.demand1 a.bounds.now a.rolls.now bounds rolls, promise.demand2 a.bounds.now a.rolls.now bounds rolls) in
    record { answer = made; demands = demands }
