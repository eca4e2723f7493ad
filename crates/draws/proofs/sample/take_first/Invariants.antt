-- `draws::sample::take_first` meets its contract. The loop's invariant: the first i records are in the slots (Written). Assumes nothing.
use Rattle.std.proofs.Common.{length, take}
use Rattle.rules.proofs.Writing.{Written}
use Rattle.draws.proofs.sample.take_first.Given as goal

abbrev pub invariant-loop-i : goal.invariant-loop-i
invariant-loop-i l = Written (take (length l.initial.slots) l.records) (length l.initial.slots) l.initial.slots l.slots l.i
