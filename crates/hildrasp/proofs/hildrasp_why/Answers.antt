-- `hildrasp::hildrasp_why` meets its contract: that of the operation, of which demands 1 and 2 are promised; the bytes of a call are below 256.
-- Assumes nothing.
use mathlib.Core.Path.{◌∙◌}
use Rattle.rules.specs.Width.{w64}
use Rattle.reasons.specs.declared.reason.Reason.{Reason}
use Rattle.promises.specs.Sheet.{Bytes}
use Rattle.promises.specs.Why.{Refuses, Gives}
use Rattle.promises.proofs.ThisDraw.{promise}
use Rattle.hildrasp.proofs.Facing.{alone}
use Rattle.hildrasp.proofs.hildrasp_why.Goals as goal

pub returns : goal.returns
returns c = let a = c.args in
    let sheet : Bytes a.sheet.now = λ i h. (c.type_inv.sheet i).fits in
    let made = c.from.ensures ∙ c.why.ensures in
    let demands = alone (λ (r : Reason). Refuses w64 a.sheet.now a.place r × Gives w64 a.sheet.now a.place r) _ _ made
    (promise.demand1 a.sheet.now a.place sheet, promise.demand2 a.sheet.now a.place sheet) in
    record { answer = made; demands = demands }
