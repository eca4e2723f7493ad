-- Whether the words suffice for the batches of a plan: the dry run, over every width and plan. Assumes nothing.
--
--   Supplying                   so many batches have their words
--   supply_none, supply_hit     before the first turn, and one turn
--   supply_short, supply_done   no word is left for a batch, or no batch is left
use Rattle.std.specs.Prelude.{Some, None, Ok, Err}
use mathlib.Core.Path.{◌≡◌, sym, ap, ◌∙◌}
use mathlib.Core.List.{List, [], ◌∷◌}
use Prim.Native.Nat.{ℕ, ◌+◌, ◌≤◌}
use native.Mathlib.Omega.{arith}
use lib.ListN.{length, drop}
use Rattle.rules.specs.Rolls.{accepted}
use Rattle.rules.specs.Run.{Found, find, run_from, run, next, rejected}
use Rattle.rolls.specs.Inner.{searched}
use Rattle.answers.specs.Supplied.{supplied}
use Rattle.answers.specs.declared.refusal.Refusal.TheVariants.{Words}
use Rattle.rolls.proofs.Stepping.{finish, finish_none, finish_hit, finish_missing, hit_passed, hit_within}

-- the batches of the plan before those that are left have their words, r were rejected, and the rest of the run starts at `to`
abbrev pub Supplying : ℕ → List (List ℕ) → List ℕ → ℕ → List (List ℕ) → ℕ → ℕ → ℕ → Type 0
Supplying L plan words start left to r batch =
    (to ≤ length words) × (r ≤ to) × (finish to r (run_from L left words to batch) ≡ supplied start (run L plan words start))

pub supply_none : (L : ℕ) (plan : List (List ℕ)) (words : List ℕ) (start : ℕ) → start ≤ length words → Supplying L plan words start plan start 0 0
supply_none L plan words start h = (h, omega arith, finish_none start (run L plan words start))

module _ (L : ℕ) (plan : List (List ℕ)) (words : List ℕ) (start : ℕ) (left : List (List ℕ)) (to r batch : ℕ) (v : Supplying L plan words start left to r batch) where
  module _ (bs : List ℕ) (rest : List (List ℕ)) (e : left ≡ bs ∷ rest) (f : Found) (same : f ≡ find (accepted L bs) (drop to words) to) where
    here : finish to r (run_from L (bs ∷ rest) words to batch) ≡ supplied start (run L plan words start)
    here = rw e at v.2

    pub supply_hit : (w place m : ℕ) → searched to f ≡ Some (record { word = w; place = place; rejected = m }) → Supplying L plan words start rest (place + 1) (r + m) (batch + 1)
    supply_hit w place m s =
        let b = hit_within L bs rest words to batch f same w place m s in
        let n = hit_passed L bs rest words to batch f same w place m s in
        (omega (arith, b), omega (arith, b, n, v.1), sym (finish_hit L bs rest words to batch f same w place m s r) ∙ here)

    pub supply_short : searched to f ≡ None → Err (Words batch) ≡ supplied start (run L plan words start)
    supply_short s = sym (finish_missing L bs rest words to batch f same s r) ∙ here

  pub supply_done : left ≡ [] → Ok (record { next = to; rejected = r }) ≡ supplied start (run L plan words start)
  unfolding run_from next rejected
  supply_done e = ap (λ (n : ℕ). Ok (record { next = to; rejected = n })) (omega arith) ∙ (rw e at v.2)
