-- `rolls::search::find_word` meets its contract. The loop's invariant: t is the threshold, the search of what is left finds what the
-- whole search finds, and the words passed are rejected. The measure is the words that are left. Assumes nothing.
use mathlib.Core.Path.{◌∙◌, sym, ap}
use Prim.Native.Nat.{◌≤◌, ◌<◌}
use native.Mathlib.Omega.{arith}
use lib.ListN.{length}
use borrow.Author.Tests.{lt-leb}
use Rattle.rules.proofs.Finding.{find_end, find_miss}
use Rattle.arithmetic.specs.Products.{unwrap}
use Rattle.rolls.specs.Inner.{passes, searched}
use Rattle.rolls.proofs.Searching.{passes_tested}
use borrow.Author.Rules.{rules}
use Rattle.rolls.proofs.search.find_word.Goals as goal

pub loop-at-preserved : goal.loop-at-preserved
loop-at-preserved c =
    let list = c.args.words.list.now in
    let here : c.loop-at.at < length list = search rules in (
      search rules,
      search rules,
      search rules,
      c.loop-at.invariant.3,
      sym (find_miss (passes 64 (unwrap 64 c.args.product.wrapped)) list c.loop-at.at here
          (passes_tested 64 c.args.product.wrapped _ _ _ _ c.loop-at.invariant.3 c.low.ensures (lt-leb c.threshold-t.result c.low.result (omega arith)))) ∙ c.loop-at.invariant.4,
    )

pub returns-then-at-list : goal.returns-then-at-list
returns-then-at-list c =
    let list = c.args.words.list.now in
    let none : length list ≤ c.loop-at.at = search rules in
    sym (ap (searched c.args.words.next) (sym c.loop-at.invariant.4 ∙ find_end (passes 64 (unwrap 64 c.args.product.wrapped)) list c.loop-at.at none))
