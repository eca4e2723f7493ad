-- The batch that number 10 names: the run stops at the first batch that finds no word. Assumes nothing.
--
--   first_short    the statement
use mathlib.Core.Path.{◌≡◌, refl, sym, ap, ◌∙◌}
use mathlib.Core.Bool.{true, false}
use mathlib.Core.List.{List, [], ◌∷◌}
use Prim.Native.Nat.{ℕ, suc, ◌+◌, ◌<◌}
use native.Mathlib.Numerals.{add-one}
use native.Mathlib.Omega.{arith}
use lib.ListN.{length, take, drop}
use Rattle.rules.specs.Rolls.{accepted}
use Rattle.rules.specs.Run.{Found, found, missing, find, Run, run_from, ran, short, suffices, after}
use Rattle.rules.proofs.Facts.{clash}
use Rattle.rules.proofs.Running.{run_hit, run_missing, after-suffices}
use Rattle.promises.specs.Demand1.{FirstShort}

-- the batch at a place of the plan, number k, is the first that gets no word
record Stops (L : ℕ) (plan : List (List ℕ)) (words : List ℕ) (start batch k : ℕ) : Type 0 where
  place : ℕ
  named : batch + place ≡ k
  within : place < length plan
  before : suffices (run_from L (take place plan) words start batch) ≡ true
  with_it : suffices (run_from L (take (suc place) plan) words start batch) ≡ false

module _ (L : ℕ) (words : List ℕ) where
  stops : (plan : List (List ℕ)) (start batch k : ℕ) → run_from L plan words start batch ≡ short k → Stops L plan words start batch k
  unfolding run_from
  stops [] start batch k e = clash cc
  stops (bs ∷ plan) start batch k e = go (find (accepted L bs) (drop start words) start) refl (stops plan)
    where
      go : (f : Found) → find (accepted L bs) (drop start words) start ≡ f
          → ((start batch k : ℕ) → run_from L plan words start batch ≡ short k → Stops L plan words start batch k)
          → Stops L (bs ∷ plan) words start batch k
      go missing f ih =
          let named : short batch ≡ short k = sym (run_missing L bs plan words start batch f) ∙ e in
          record {
            place = 0;
            named = let same : batch ≡ k = cc in omega arith;
            within = omega arith;
            before = refl;
            with_it = ap suffices (run_missing L bs [] words start batch f);
          }
      go (found t) f ih =
          let rest : Run = run_from L plan words (t.place + 1) (batch + 1) in
          let g = ih (t.place + 1) (batch + 1) k (inner rest (sym (run_hit L bs plan words start batch f) ∙ e)) in
          record {
            place = suc g.place;
            named = omega (arith, g.named);
            within = omega (arith, g.within);
            before = ap suffices (run_hit L bs (take g.place plan) words start batch f) ∙ after-suffices t (later g.place) ∙ g.before;
            with_it = ap suffices (run_hit L bs (take (suc g.place) plan) words start batch f) ∙ after-suffices t (later (suc g.place)) ∙ g.with_it;
          }
        where
          later : ℕ → Run
          later n = run_from L (take n plan) words (t.place + 1) (batch + 1)

          inner : (r : Run) → after t r ≡ short k → r ≡ short k
          inner (ran ts) h = clash cc
          inner (short j) h = h

pub first_short : (L : ℕ) → FirstShort L
first_short L plan words start k e =
    let s = stops L words plan start 0 k e in
    let same : s.place ≡ k = omega (arith, s.named) in
    rw (add-one k, ← same) (s.within, rw s.before tt, rw s.with_it tt)
