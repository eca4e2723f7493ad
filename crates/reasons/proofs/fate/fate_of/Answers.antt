-- `reasons::fate::fate_of` meets its contract, return by return (Firsts). Assumes nothing.
use mathlib.Core.Path.{refl, ◌∙◌, sym}
use borrow.Author.Rules.{rules}
use Rattle.reasons.proofs.Firsts.{some_step, no_step, held_stayed, held_taken, fate_first, fate_rolled, fate_passed}
use Rattle.reasons.specs.declared.fate.Fate.TheVariants.{Stayed, RolledIn}
use Rattle.reasons.proofs.fate.fate_of.Goals as goal

pub returns-in-Some : goal.returns-in-Some
returns-in-Some c =
    let a = c.args in
    let step = some_step a.place a.rolls.now 0 c.in-Some.step (sym c.first_roll.ensures ∙ c.in-Some.is) in
    sym (fate_first a.k a.rolls.now a.place (search rules) ∙ held_taken Stayed a.k a.rolls.now a.place 0 _ step.0 step.1)

pub returns-in-None : goal.returns-in-None
returns-in-None c =
    let a = c.args in
    let none = no_step a.place a.rolls.now 0 (sym c.first_roll.ensures ∙ c.in-None.is) in
    sym (fate_first a.k a.rolls.now a.place (search rules) ∙ held_stayed Stayed a.k a.rolls.now a.place 0 _ refl none)

pub returns-then-k-roll : goal.returns-then-k-roll
returns-then-k-roll c =
    let a = c.args in
    sym (fate_passed a.k a.rolls.now a.place (search rules) (search rules))

pub returns-in-Some-first_roll : goal.returns-in-Some-first_roll
returns-in-Some-first_roll c =
    let a = c.args in
    let step = some_step _ a.rolls.now _ c.in-Some-first_roll.step (sym c.first_roll-2.ensures ∙ c.in-Some-first_roll.is) in
    sym (fate_rolled a.k a.rolls.now a.place (search rules) (search rules) ∙ held_taken RolledIn a.k a.rolls.now _ _ _ step.0 step.1)

pub returns-in-None-first_roll : goal.returns-in-None-first_roll
returns-in-None-first_roll c =
    let a = c.args in
    let none = no_step _ a.rolls.now _ (sym c.first_roll-2.ensures ∙ c.in-None-first_roll.is) in
    sym (fate_rolled a.k a.rolls.now a.place (search rules) (search rules) ∙ held_stayed RolledIn a.k a.rolls.now _ _ _ refl none)
