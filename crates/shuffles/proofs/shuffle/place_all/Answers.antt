-- `shuffles::shuffle::place_all` meets its contract. The loop's invariant: with the records behind the place `at` still to place the rest of
-- the run suffices, and its rolls bring the list as it stands to what the whole shuffle gives (Shuffling); so no word is missing. The measure
-- is the bounds that are left. Assumes nothing.
use mathlib.Core.Path.{refl, ◌∙◌, sym, ap}
use mathlib.Core.List.{List}
use Prim.Native.Nat.{ℕ, ◌-◌}
use native.Mathlib.Omega.{arith}
use lib.ListN.{length}
use borrow.Author.Rules.{rules}
use Rattle.rules.specs.Rolls.{rolls}
use Rattle.rules.specs.Shuffle.{shuffle_with, countdown}
use Rattle.rules.proofs.ShufflePlans.{plan_end, sizes64}
use Rattle.rolls.proofs.Cutting.{found_cut}
use Rattle.rolls.proofs.Searching.{hit_before}
use Rattle.shuffles.proofs.Shuffling.{down_begins, shuffling_never, shuffling_turn, shuffling_done}
use Rattle.shuffles.proofs.shuffle.place_all.Goals as goal

pub loop-at-preserved : goal.loop-at-preserved
loop-at-preserved c =
    let a = c.args in
    let at = c.loop-at.at in
    let v = c.cut-cut.ensures in
    let end = c.cut-cut.result.end in
    let xs = c.loop-at.records in
    let m = length a.records.now - at in
    let bs = down_begins a.plan.records at a.plan.few (search rules) end v.end ∙ ap (λ (n : ℕ). countdown (end - at) (n - at)) c.requires.all in (
      v.within,
      shuffling_turn 64 _ _ _ _ _ _ _ _ c.loop-at.invariant.1 _ _ v.rest _ refl _ _ _
          (sym (found_cut _ _ _ _ v a.words.list.now _ c.loop-at.next _ _ c.find_word.ensures c.at.ensures.list c.at.ensures.next) ∙ c.in-Some.is)
          _ (c.place_batch.ensures ∙ ap (λ (l : List ℕ). shuffle_with m (rolls 64 l c.in-Some.hit.word) xs) (sym bs)) _ (omega (arith, v.end)),
    )

pub overflow_add-next : goal.overflow_add-next
overflow_add-next c = let b = hit_before _ c.args.words.list.now _ _ (sym (found_cut _ _ _ _ c.cut-cut.ensures c.args.words.list.now _ c.loop-at.next _ _ c.find_word.ensures c.at.ensures.list c.at.ensures.next) ∙ c.in-Some.is) in
    record { fits = omega (arith, b, c.args.words.counted) }

pub unreachable-requires : goal.unreachable-requires
unreachable-requires c =
    let v = c.cut-cut.ensures in
    shuffling_never 64 _ _ _ _ _ _ _ _ c.loop-at.invariant.1 _ _ v.rest _ refl (sym (found_cut _ _ _ _ v c.args.words.list.now _ c.loop-at.next _ _ c.find_word.ensures c.at.ensures.list c.at.ensures.next) ∙ c.in_default.is)

pub returns : goal.returns
returns c = shuffling_done 64 _ _ _ _ _ _ _ _ c.loop-at.invariant.1 (plan_end sizes64 _ (omega (arith, c.count.ensures, c.loop-at-test.false)))
