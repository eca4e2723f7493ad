-- The run over a plan, batch by batch, over every width. Assumes nothing.
--
--   run_hit, run_missing    the next batch got a word, or none
--   rolled_by               the rolls of a run
--   after-suffices          a run with one batch more in front suffices where it does
--   after-rolled            and its rolls are those of that batch and then its own
use mathlib.Core.Path.{◌≡◌, refl}
use mathlib.Core.Bool.{true}
use mathlib.Core.List.{List, ◌∷◌, ◌++◌}
use Prim.Native.Nat.{ℕ, ◌+◌}
use lib.ListN.{drop}
use Rattle.rules.specs.Rolls.{rolls, accepted}
use Rattle.rules.proofs.Facts.{clash}
use Rattle.rules.specs.Run.{Taken, found, missing, find, Run, ran, short, after, trace, run_from, rolls_of, suffices}

module _ (L : ℕ) (bs : List ℕ) (plan : List (List ℕ)) (words : List ℕ) (start batch : ℕ) where
  pub run_hit : {t : Taken} → find (accepted L bs) (drop start words) start ≡ found t
      → run_from L (bs ∷ plan) words start batch ≡ after t (run_from L plan words (t.place + 1) (batch + 1))
  unfolding run_from
  run_hit e = rw (e, run_from)

  pub run_missing : find (accepted L bs) (drop start words) start ≡ missing → run_from L (bs ∷ plan) words start batch ≡ short batch
  unfolding run_from
  run_missing e = rw (e, run_from)

-- ---- the rolls of a run that suffices

abbrev pub rolled_by : ℕ → List (List ℕ) → Run → List ℕ
rolled_by L plan r = rolls_of L plan (trace r)

pub after-suffices : (t : Taken) (r : Run) → suffices (after t r) ≡ suffices r
after-suffices t (ran ts) = refl
after-suffices t (short k) = refl

pub after-rolled : (L : ℕ) (bs : List ℕ) (plan : List (List ℕ)) (t : Taken) (r : Run) → suffices r ≡ true
    → rolled_by L (bs ∷ plan) (after t r) ≡ rolls L bs t.word ++ rolled_by L plan r
unfolding rolls_of
after-rolled L bs plan t (ran ts) e = refl
after-rolled L bs plan t (short k) e = clash cc
