-- `shuffles::shuffle::place_all` meets its contract. The loop's invariant: with the records behind the place `at` still to place the rest of
-- the run suffices, and its rolls bring the list as it stands to what the whole shuffle gives (Shuffling); so no word is missing. The measure
-- is the bounds that are left. Assumes nothing.
use Prim.Native.Nat.{◌-◌, ◌≤◌}
use lib.ListN.{length}
use Rattle.rules.specs.Shuffle.{shuffle_plan}
use Rattle.rules.specs.Width.{size64}
use Rattle.shuffles.proofs.Shuffling.{Shuffling}
use Rattle.shuffles.proofs.shuffle.place_all.Given as goal

abbrev pub invariant-loop-at : goal.invariant-loop-at
invariant-loop-at l =
    let xs = l.initial.records in
    (l.at ≤ l.plan.records - 1)
    × Shuffling 64 (shuffle_plan size64 (length xs)) l.words.list.now l.words.next (shuffle_plan size64 (l.plan.records - l.at)) xs l.records l.next (length xs - l.at)

abbrev pub decreases-loop-at : goal.decreases-loop-at
decreases-loop-at l = l.plan.records - l.at
