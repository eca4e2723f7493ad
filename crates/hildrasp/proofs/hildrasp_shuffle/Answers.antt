-- `hildrasp::hildrasp_shuffle` meets its contract: that of the operation, of which demands 1 and 2 are promised; the words of a call are 64-bit numbers.
-- Assumes nothing.
use mathlib.Core.Path.{◌∙◌}
use mathlib.Core.List.{List}
use Prim.Native.Nat.{ℕ}
use Rattle.rules.specs.Width.{w64}
use Rattle.answers.specs.declared.answer.Answer.{Answer}
use Rattle.promises.specs.Demand1.{Callable}
use Rattle.promises.specs.Shuffle.{Refuses, Gives}
use Rattle.promises.proofs.Shuffle.{promise}
use Rattle.hildrasp.proofs.Facing.{beside}
use Rattle.hildrasp.proofs.hildrasp_shuffle.Goals as goal

pub returns : goal.returns
returns c = let a = c.args in
    let words : Callable 64 a.words.now = λ i h. (c.type_inv.words i).fits in
    let made = c.shuffle_records.ensures in
    let answer = c.of.ensures ∙ made.answer in
    let demands = beside (λ (r : Answer × List ℕ). Refuses w64 a.words.now a.start a.records.now r × Gives w64 a.words.now a.start a.records.now r) _ _ _ answer made.records
    (promise.demand1 a.words.now a.start a.records.now words, promise.demand2 a.words.now a.start a.records.now words) in
    record { answer = answer; records = made.records; demands = demands }
