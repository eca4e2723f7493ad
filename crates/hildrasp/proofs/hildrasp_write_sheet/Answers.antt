-- `hildrasp::hildrasp_write_sheet` meets its contract: that of the operation, of which demands 1 and 2 are promised; the words of a call are
-- 64-bit numbers, its records 32-bit numbers. Assumes nothing.
use mathlib.Core.Path.{◌∙◌}
use mathlib.Core.List.{List}
use Prim.Native.Nat.{ℕ, ◌^◌}
use Rattle.rules.specs.Order.{AllBelow}
use Rattle.writer.specs.declared.written.Written.{Written}
use Rattle.promises.specs.Write.{Refuses, Gives}
use Rattle.promises.proofs.Write.{promise}
use Rattle.hildrasp.proofs.Facing.{beside}
use Rattle.hildrasp.proofs.hildrasp_write_sheet.Goals as goal

pub returns : goal.returns
returns c = let a = c.args in
    let words : AllBelow (2 ^ 64) a.words.now = λ i h. (c.type_inv.words i).fits in
    let records : AllBelow (2 ^ 32) a.records.now = λ i h. (c.type_inv.records i).fits in
    let made = c.write_sheet.ensures in
    let answer = c.from.ensures ∙ made.answer in
    let demands = beside (λ (r : Written × List ℕ). Refuses a.words.now a.records.now a.k a.w a.sheet.now r × Gives a.words.now a.records.now a.k a.w a.sheet.now r) _ _ _ answer made.sheet
    (promise.demand1 a.words.now a.records.now a.k a.w a.sheet.now (words, records), promise.demand2 a.words.now a.records.now a.k a.w a.sheet.now (words, records)) in
    record { answer = answer; sheet = made.sheet; demands = demands }
