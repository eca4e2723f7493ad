-- `shuffles::plan::CountdownPlan::unfold` meets its contract: the bounds of the batch that begins at a place are a row (Shuffling). Assumes
-- nothing.
use mathlib.Core.Path.{◌∙◌, sym, ap}
use mathlib.Core.List.{List, ◌++◌}
use Prim.Native.Nat.{ℕ, ◌-◌}
use native.Mathlib.Omega.{arith}
use lib.ListN.{drop}
use Rattle.rules.specs.Rolls.{rolls}
use Rattle.shuffles.proofs.Shuffling.{down_within, down_begins}
use Rattle.shuffles.proofs.plan.CountdownPlan.unfold.Goals as goal

pub invariant_of-batch : goal.invariant_of-batch
invariant_of-batch c = record { within = omega (arith, down_within _ _ c.args.self.now.few c.requires.begun _ c.requires.ended) }

pub write-requires : goal.write-requires
write-requires c = c.requires.room

pub returns : goal.returns
returns c =
    let a = c.args in
    c.write.ensures
    ∙ ap (λ (bs : List ℕ). rolls 64 bs a.word ++ drop (a.end - a.at) a.out.now) (sym (down_begins _ _ a.self.now.few c.requires.begun _ c.requires.ended))
