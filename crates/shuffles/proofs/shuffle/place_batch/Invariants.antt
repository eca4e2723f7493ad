-- `shuffles::shuffle::place_batch` meets its contract. The loop's invariant: the rolls of the bounds passed are taken out of the word, one
-- exchange each (Placing), and what they left is a word; so a roll is below its bound. Assumes nothing.
use Prim.Native.Nat.{◌^◌, ◌<◌}
use Rattle.shuffles.proofs.Placing.{Placing}
use Rattle.shuffles.proofs.shuffle.place_batch.Given as goal

abbrev pub invariant-loop-i : goal.invariant-loop-i
invariant-loop-i l = record {
  word : l.unfolding.r < 2 ^ 64;
  placed : Placing 64 l.initial.records l.batch.m l.batch.s l.word l.records l.unfolding.r l.i;
}
