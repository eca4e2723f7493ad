-- `reasons::fate::first_roll` meets its contract: the first roll that is the slot, from the start on, is the definition's (Firsts). Assumes nothing.
use Rattle.std.proofs.Common.{◌≡◌, ◌≢◌, ◌∙◌, rules, tests, arith, drop, ◌-◌, length, length-drop}
use Rattle.std.proofs.lemmas.Iterator.{YieldsList-from_slice, IsFirst-from_position}
use lib.Seq.{take_all}
use Rattle.reasons.proofs.Firsts.{step_at, step_nowhere}
use Rattle.reasons.proofs.fate.first_roll.Goals as goal

pub returns-in_err-later : goal.returns-in_err-later
returns-in_err-later c =
    let a = c.args in
    let first = IsFirst-from_position c.position.new.self _ c.position.result (λ x. x ≡ a.slot) (λ x. x ≢ a.slot) c.position.ensures.ran
    (YieldsList-from_slice _ c.iter.ensures.rest) (λ x q k. search (rules, tests)) (λ x q k. search (rules, tests)) in
    let whole = take_all (length a.rolls.now - a.from) (drop a.from a.rolls.now) (rw length-drop (omega arith)) in
    c.from_residual.ensures ∙ step_nowhere a.slot a.rolls.now a.from c.requires _ whole c.position.result first c.in_err-later.was

pub returns : goal.returns
returns c =
    let a = c.args in
    let first = IsFirst-from_position c.position.new.self _ c.position.result (λ x. x ≡ a.slot) (λ x. x ≢ a.slot) c.position.ensures.ran
    (YieldsList-from_slice _ c.iter.ensures.rest) (λ x q k. search (rules, tests)) (λ x q k. search (rules, tests)) in
    let whole = take_all (length a.rolls.now - a.from) (drop a.from a.rolls.now) (rw length-drop (omega arith)) in
    step_at a.slot a.rolls.now a.from c.requires _ whole c.position.result first c.in_ok-later.later c.in_ok-later.was
