-- `rolls::plan::supply` meets its contract. The loop's invariant: the batches before the place at have their words, and those from there on
-- are left (Supplying). The measure is the bounds that are left. Assumes nothing.
use mathlib.Core.Path.{◌≡◌, refl, ◌∙◌, sym, ap}
use native.Mathlib.Omega.{arith}
use Rattle.std.specs.Prelude.{Err}
use Rattle.std.specs.Result.{result_ok}
use Rattle.answers.specs.declared.refusal.Refusal.TheVariants.{Words}
use Rattle.rolls.proofs.Supplying.{supply_hit, supply_short, supply_done}
use Rattle.rolls.proofs.Cutting.{found_cut, cut_ends}
use Rattle.rolls.proofs.Searching.{hit_before}
use borrow.Author.Rules.{rules}
use Rattle.rolls.proofs.plan.supply.Goals as goal

pub loop-at-preserved : goal.loop-at-preserved
loop-at-preserved g c =
    let v = c.cut-cut.ensures in (
      v.within,
      omega (arith, v.end, v.some, c.loop-at.invariant.1),
      supply_hit 64 _ _ _ _ _ _ _ c.loop-at.invariant.2 _ _ v.rest _ refl _ _ _
          (sym (found_cut _ _ _ _ v c.args.words.list.now _ c.loop-at.next _ _ c.find_word.ensures c.at.ensures.list c.at.ensures.next) ∙ c.ok_or.ensures.ok_part ∙ ap result_ok c.in_ok-hit.was),
    )

pub overflow_add-next : goal.overflow_add-next
overflow_add-next g c = let b = hit_before _ c.args.words.list.now _ _ (sym (found_cut _ _ _ _ c.cut-cut.ensures c.args.words.list.now _ c.loop-at.next _ _ c.find_word.ensures c.at.ensures.list c.at.ensures.next) ∙ c.ok_or.ensures.ok_part ∙ ap result_ok c.in_ok-hit.was) in
    record { fits = omega (arith, b, c.args.words.counted) }

pub returns-in_err-hit : goal.returns-in_err-hit
returns-in_err-hit g c =
    let v = c.cut-cut.ensures in
    let e : c.from_residual.result ≡ Err (Words c.loop-at.batch) = search rules in
    e ∙ supply_short 64 _ _ _ _ _ _ _ c.loop-at.invariant.2 _ _ v.rest _ refl
    (sym (found_cut _ _ _ _ v c.args.words.list.now _ c.loop-at.next _ _ c.find_word.ensures c.at.ensures.list c.at.ensures.next) ∙ c.ok_or.ensures.ok_part ∙ ap result_ok c.in_err-hit.was)

pub returns : goal.returns
returns g c = supply_done 64 _ _ _ _ _ _ _ c.loop-at.invariant.2 (cut_ends (g.P.Plan.batches c.args.plan.now) _ _ c.loop-at.invariant.0 (search rules) (g.met.P.Plan.ends c.args.plan.now))
