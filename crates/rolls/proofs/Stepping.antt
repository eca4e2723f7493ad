-- One batch of a plan, by the answer of the search for its word. Over every width. Assumes nothing.
--
--   finish, finish_none             whether the words suffice, of a run that is begun
--   finish_hit, hit_suffices,       one batch on, where it got a word
--     hit_rolled
--   hit_passed, hit_within          how many words that batch rejected, and where its word stands
--   finish_missing, never_missing   where no word is left
use Rattle.std.specs.Prelude.{Some, None, Result, Ok, Err}
use mathlib.Core.Path.{◌≡◌, refl, sym, ap, ◌∙◌}
use mathlib.Core.Bool.{Bool, true, false}
use mathlib.Core.List.{List, ◌∷◌, ◌++◌}
use Prim.Native.Nat.{ℕ, ◌+◌, ◌-◌, ◌<◌, ◌≤◌}
use native.Mathlib.Omega.{arith}
use lib.ListN.{length, drop}
use Rattle.rules.specs.Rolls.{rolls, accepted}
use Rattle.rules.proofs.Facts.{clash}
use Rattle.rules.specs.Run.{Taken, Found, find, Run, ran, short, after, run_from, next, rejected, suffices}
use Rattle.rolls.specs.Inner.{searched}
use Rattle.answers.specs.Supplied.{supplied}
use Rattle.answers.specs.declared.refusal.Refusal.{Refusal}
use Rattle.answers.specs.declared.refusal.Refusal.TheVariants.{Words}
use Rattle.answers.specs.declared.results.Used.{Used}
use Rattle.rules.proofs.Finding.{find_within}
use Rattle.rolls.proofs.Searching.{searched_hit, searched_missing}
use Rattle.rules.proofs.Running.{run_missing, after-suffices, after-rolled, run_hit, rolled_by}

-- ---- whether the words suffice

-- with r words rejected so far, and the run that is left, from the place at on
abbrev pub finish : ℕ → ℕ → Run → Result Used Refusal
finish at r (ran ts) = Ok (record { next = next at ts; rejected = r + rejected at ts })
finish at r (short batch) = Err (Words batch)

pub finish_none : (start : ℕ) (w : Run) → finish start 0 w ≡ supplied start w
finish_none start (ran ts) = ap (λ (n : ℕ). Ok (record { next = next start ts; rejected = n })) (omega arith)
finish_none start (short batch) = refl

finish-after : (at r : ℕ) (t : Taken) (w : Run) → finish at r (after t w) ≡ finish (t.place + 1) (r + (t.place - at)) w
unfolding next rejected
finish-after at r t (ran ts) = ap (λ (n : ℕ). Ok (record { next = next (t.place + 1) ts; rejected = n })) (omega arith)
finish-after at r t (short batch) = refl

-- ---- one batch, by the answer of the search for its word

module _ (L : ℕ) (bs : List ℕ) (plan : List (List ℕ)) (words : List ℕ) (start batch : ℕ) where
  whole : Run
  whole = run_from L (bs ∷ plan) words start batch

  module _ (f : Found) (e : f ≡ find (accepted L bs) (drop start words) start) where
    module _ (s : searched start f ≡ None) where
      ends : whole ≡ short batch
      unfolding whole
      ends = run_missing L bs plan words start batch (sym e ∙ searched_missing start f s)

      pub finish_missing : (r : ℕ) → finish start r (run_from L (bs ∷ plan) words start batch) ≡ Err (Words batch)
      unfolding whole
      finish_missing r = ap (finish start r) ends

      pub never_missing : suffices (run_from L (bs ∷ plan) words start batch) ≡ true → ⊥
      unfolding whole
      never_missing k =
          let z : ◌≡◌ {A = Bool} false true = sym (ap suffices ends) ∙ k in
          clash cc

    module _ (w place m : ℕ) (s : searched start f ≡ Some (record { word = w; place = place; rejected = m })) where
      later : Run
      later = run_from L plan words (place + 1) (batch + 1)

      goes_on : whole ≡ after (record { place = place; word = w }) later
      unfolding whole later
      goes_on = run_hit L bs plan words start batch (sym e ∙ (searched_hit start f w place m s).0)

      pub finish_hit : (r : ℕ)
          → finish start r (run_from L (bs ∷ plan) words start batch) ≡ finish (place + 1) (r + m) (run_from L plan words (place + 1) (batch + 1))
      unfolding whole later
      finish_hit r =
          ap (finish start r) goes_on ∙ finish-after start r (record { place = place; word = w }) later
          ∙ ap (λ (n : ℕ). finish (place + 1) (r + n) later) (sym (searched_hit start f w place m s).1)

      pub hit_suffices : suffices (run_from L (bs ∷ plan) words start batch) ≡ true → suffices (run_from L plan words (place + 1) (batch + 1)) ≡ true
      unfolding whole later
      hit_suffices k = sym (after-suffices (record { place = place; word = w }) later) ∙ sym (ap suffices goes_on) ∙ k

      pub hit_rolled : suffices (run_from L (bs ∷ plan) words start batch) ≡ true
          → rolled_by L (bs ∷ plan) (run_from L (bs ∷ plan) words start batch)
          ≡ rolls L bs w ++ rolled_by L plan (run_from L plan words (place + 1) (batch + 1))
      unfolding whole later
      hit_rolled k =
          ap (rolled_by L (bs ∷ plan)) goes_on ∙ after-rolled L bs plan (record { place = place; word = w }) later (hit_suffices k)

      pub hit_passed : m ≡ place - start
      hit_passed = (searched_hit start f w place m s).1

      pub hit_within : (start ≤ place) × (place < length words)
      hit_within = let b = find_within (accepted L bs) words start (sym e ∙ (searched_hit start f w place m s).0) in (b.0, b.1)
