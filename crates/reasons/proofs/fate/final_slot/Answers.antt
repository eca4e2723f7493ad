-- `reasons::fate::final_slot` meets its contract: each exchange moves the slot's number, or leaves it where it stands (Finals). Assumes nothing.
use native.Mathlib.Omega.{arith}
use borrow.Author.Rules.{rules}
use Rattle.rules.proofs.Range.{range_true}
use Rattle.reasons.proofs.Finals.{follow_none, follow_range, follow_roll, follow_last, follow_other, follow_done}
use Rattle.reasons.proofs.fate.final_slot.Goals as goal
use Rattle.reasons.proofs.fate.final_slot.Goals.{then-at-roll, else-at-roll+then-at-last, else-at-roll+else-at-last}

pub loop-i-init : goal.loop-i-init
loop-i-init c = follow_none c.args.k c.args.rolls.now c.args.slot c.requires.0 (range_true _ _ c.requires.1)

pub overflow_sub-last-in-loop-i : goal.overflow_sub-last-in-loop-i
overflow_sub-last-in-loop-i c =
    let a = c.args in
    omega (arith, follow_range a.k a.rolls.now a.slot c.loop-i.at c.loop-i.i c.loop-i.invariant c.loop-i-test.true)

pub loop-i-preserved : goal.loop-i-preserved
loop-i-preserved c =
    let a = c.args in
    let at = c.loop-i.at in
    let i = c.loop-i.i in
    let v = c.loop-i.invariant in
    let h = c.loop-i-test.true in
    elim c.if-at-roll.branch [
      | then-at-roll w ↦ rw w.at-is (follow_roll a.k a.rolls.now a.slot at i v h w.if-at-roll.true)
      | else-at-roll+then-at-last w ↦ rw w.at-is (follow_last a.k a.rolls.now a.slot at i v h w.if-at-last.true)
      | else-at-roll+else-at-last w ↦ rw w.at-is (follow_other a.k a.rolls.now a.slot at i v h w.if-at-roll.false w.if-at-last.false)
    ]

pub returns : goal.returns
returns c =
    let a = c.args in
    follow_done a.k a.rolls.now a.slot c.loop-i.at c.loop-i.i c.loop-i.invariant (search rules) (range_true _ _ c.requires.1)
