-- `rolls::plan::write` meets its contract. The loop's invariant: the rolls of the bounds before `at` are written, and the rest of
-- the run suffices (Filling); so no word is missing. The measure is the bounds that are left. Assumes nothing.
use mathlib.Core.Path.{refl, ◌∙◌, sym}
use native.Mathlib.Omega.{arith}
use Rattle.rolls.proofs.Filling.{fill_cut, fill_never, fill_all}
use Rattle.rolls.proofs.Cutting.{found_cut, cut_ends}
use Rattle.rolls.proofs.Searching.{hit_before}
use borrow.Author.Rules.{rules}
use Rattle.rolls.proofs.plan.write.Goals as goal

pub loop-at-preserved : goal.loop-at-preserved
loop-at-preserved g c =
    let v = c.cut-cut.ensures in (
      v.within,
      fill_cut 64 _ _ _ _ _ _ _ _ c.loop-at.invariant.1 _ _ v.rest _ refl _ _ _
          (sym (found_cut _ _ _ _ v c.args.words.list.now _ c.loop-at.next _ _ c.find_word.ensures c.at.ensures.list c.at.ensures.next) ∙ c.in-Some.is)
          _ v.end (omega (arith, v.within, c.requires.room)) c.unfold.new.out c.unfold.ensures,
    )

pub overflow_add-next : goal.overflow_add-next
overflow_add-next g c = let b = hit_before _ c.args.words.list.now _ _ (sym (found_cut _ _ _ _ c.cut-cut.ensures c.args.words.list.now _ c.loop-at.next _ _ c.find_word.ensures c.at.ensures.list c.at.ensures.next) ∙ c.in-Some.is) in
    record { fits = omega (arith, b, c.args.words.counted) }

pub unreachable-requires : goal.unreachable-requires
unreachable-requires g c =
    let v = c.cut-cut.ensures in
    fill_never 64 _ _ _ _ _ _ _ _ c.loop-at.invariant.1 _ _ v.rest _ refl (sym (found_cut _ _ _ _ v c.args.words.list.now _ c.loop-at.next _ _ c.find_word.ensures c.at.ensures.list c.at.ensures.next) ∙ c.in_default.is)

pub returns : goal.returns
returns g c =
    let p = g.P.Plan in
    let plan = c.args.plan.now in
    let last = cut_ends (p.batches plan) _ _ c.loop-at.invariant.0 (search rules) (g.met.P.Plan.ends plan) in
    fill_all 64 _ _ _ _ _ _ _ _ c.loop-at.invariant.1 last _ (omega (arith, c.loop-at.invariant.0, c.count.ensures, c.loop-at-test.false))
