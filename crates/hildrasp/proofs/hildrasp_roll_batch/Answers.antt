-- `hildrasp::hildrasp_roll_batch` meets its contract: that of the operation, of which demands 1 and 2 are promised; the words and bounds of a call are 64-bit numbers.
-- Assumes nothing.
use mathlib.Core.Path.{◌∙◌}
use Rattle.rules.specs.Width.{w64}
use Rattle.answers.specs.declared.answer.Batch.{Batch}
use Rattle.promises.specs.Demand1.{Callable}
use Rattle.promises.specs.Batch.{Refuses, Gives}
use Rattle.promises.proofs.Batch.{promise}
use Rattle.hildrasp.proofs.Facing.{alone}
use Rattle.hildrasp.proofs.hildrasp_roll_batch.Goals as goal

pub returns : goal.returns
returns c = let a = c.args in
    let words : Callable 64 a.words.now = λ i h. (c.type_inv.words i).fits in
    let bounds : Callable 64 a.bounds.now = λ i h. (c.type_inv.bounds i).fits in
    let made = c.of.ensures ∙ c.roll_batch.ensures.answer in
    let demands = alone (λ (r : Batch). Refuses w64 a.words.now a.start a.bounds.now r × Gives w64 a.words.now a.start a.bounds.now r) _ _ made
    (promise.demand1 a.words.now a.start a.bounds.now words bounds, promise.demand2 a.words.now a.start a.bounds.now words bounds) in
    record { answer = made; demands = demands }
