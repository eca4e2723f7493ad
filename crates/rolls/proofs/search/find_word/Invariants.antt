-- `rolls::search::find_word` meets its contract. The loop's invariant: t is the threshold, the search of what is left finds what the
-- whole search finds, and the words passed are rejected. The measure is the words that are left. Assumes nothing.
use mathlib.Core.Path.{◌≡◌}
use Prim.Native.Nat.{◌-◌, ◌≤◌}
use lib.ListN.{length, drop}
use Rattle.rules.specs.Rolls.{threshold}
use Rattle.rules.specs.Run.{find}
use Rattle.arithmetic.specs.Products.{unwrap}
use Rattle.rolls.specs.Inner.{passes}
use Rattle.rolls.proofs.search.find_word.Given as goal

abbrev pub invariant-loop-at : goal.invariant-loop-at
invariant-loop-at l = let start = l.words.next in
    (start ≤ l.at) × (l.at ≤ length l.list) × (l.rejected ≡ l.at - start) × (l.t ≡ threshold 64 (unwrap 64 l.b))
    × (find (passes 64 (unwrap 64 l.b)) (drop l.at l.list) l.at ≡ find (passes 64 (unwrap 64 l.b)) (drop start l.list) start)

abbrev pub decreases-loop-at : goal.decreases-loop-at
decreases-loop-at l = length l.list - l.at
