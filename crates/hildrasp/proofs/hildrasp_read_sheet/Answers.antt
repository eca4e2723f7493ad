-- `hildrasp::hildrasp_read_sheet` meets its contract: that of the operation, of which demands 1 and 2 are promised. Assumes nothing.
use mathlib.Core.Path.{◌∙◌}
use mathlib.Core.List.{List}
use Prim.Native.Nat.{ℕ}
use Rattle.sheet.specs.declared.drawn.Drawn.{Drawn}
use Rattle.promises.specs.Read.{Refuses, Gives}
use Rattle.promises.proofs.Read.{promise}
use Rattle.hildrasp.proofs.Facing.{beside_both}
use Rattle.hildrasp.proofs.hildrasp_read_sheet.Goals as goal

pub returns : goal.returns
returns c = let a = c.args in
    let made = c.read_sheet.ensures in
    let answer = c.from.ensures ∙ made.answer in
    let demands = beside_both (λ (r : Drawn × (List ℕ × List ℕ)). Refuses a.sheet.now a.words.now a.records.now r × Gives a.sheet.now a.words.now a.records.now r) _ _ _ _ answer made.words made.records
    (promise.demand1 a.sheet.now a.words.now a.records.now, promise.demand2 a.sheet.now a.words.now a.records.now) in
    record { answer = answer; words = made.words; records = made.records; demands = demands }
