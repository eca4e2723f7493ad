-- `hildrasp::hildrasp_run_sheet` meets its contract: that of the operation, of which demands 1 and 2 are promised; the bytes of a call are below 256.
-- Assumes nothing.
use mathlib.Core.Path.{◌∙◌}
use mathlib.Core.List.{List}
use Prim.Native.Nat.{ℕ}
use Rattle.rules.specs.Width.{w64}
use Rattle.sheet.specs.declared.drawn.Drawn.{Drawn}
use Rattle.promises.specs.Sheet.{Bytes, Refuses, Gives}
use Rattle.promises.proofs.Sheet.{promise}
use Rattle.hildrasp.proofs.Facing.{beside}
use Rattle.hildrasp.proofs.hildrasp_run_sheet.Goals as goal

pub returns : goal.returns
returns c = let a = c.args in
    let sheet : Bytes a.sheet.now = λ i h. (c.type_inv.sheet i).fits in
    let made = c.run_sheet.ensures in
    let answer = c.from.ensures ∙ made.answer in
    let demands = beside (λ (r : Drawn × List ℕ). Refuses w64 a.sheet.now a.slots.now r × Gives w64 a.sheet.now a.slots.now r) _ _ _ answer made.slots
    (promise.demand1 a.sheet.now a.slots.now sheet, promise.demand2 a.sheet.now a.slots.now sheet) in
    record { answer = answer; slots = made.slots; demands = demands }
