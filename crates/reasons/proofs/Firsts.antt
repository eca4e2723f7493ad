-- The first roll that is a slot, and what became of a place by it. Assumes nothing.
--
--   first_found                            its place is the definition's, and the number of rolls where there is none
--   step_at, step_nowhere,                 the step of that place, as the code tells it
--     some_step, no_step
--   held_stayed, held_taken                a slot that no later roll takes, and one that is taken
--   fate_first, fate_rolled, fate_passed   a place among the first k, one that is rolled into a slot, and one that is passed over
use mathlib.Core.Path.{◌≡◌, sym, ap, refl, ◌∙◌}
use mathlib.Core.Bool.{Bool, true, false}
use native.Mathlib.Omega.{arith}
use lib.Dec.{ltb}
use mathlib.Core.Logic.{◌≢◌}
use mathlib.Core.List.{List}
use Prim.Native.Nat.{ℕ, ◌+◌, ◌-◌, ◌<◌, ◌≤◌}
use lib.ListN.{length, drop, get_or, length-drop}
use borrow.Author.Tests.{eq-eqb, ne_eqb, lt-ltb, le-ltb, ltb-true, ltb-false}
use Rattle.rules.specs.Order.{place_of}
use Rattle.rules.proofs.Facts.{clash}
use Rattle.std.specs.Option.{MatchOption, unwrap_or}
use Rattle.std.specs.List.{AllWithin, HoldsAt}
use Rattle.std.proofs.Common.{Option, Some, None}
use Rattle.std.proofs.lemmas.Iterator.{index_from_first}
use Rattle.reasons.specs.Fate.{first_from, first_step, held_from, fate_of_place}
use Rattle.reasons.specs.declared.fate.Fate.{Fate}
use Rattle.reasons.specs.declared.fate.Fate.TheVariants.{Stayed, RolledIn, Taken, PassedOver}

pub first_found : (slot : ℕ) (rolls : List ℕ) (found : Option ℕ)
    → MatchOption found (AllWithin (λ x. x ≢ slot) rolls 0 (length rolls)) (λ i. (i < length rolls) × HoldsAt (λ x. x ≡ slot) rolls i × AllWithin (λ x. x ≢ slot) rolls 0 i)
    → place_of slot rolls ≡ unwrap_or found (length rolls)
unfolding place_of
first_found slot = index_from_first (place_of slot) (λ x. x ≡ slot) (λ x. x ≢ slot) refl
    (λ x xs e. rw (eq-eqb slot x (sym e), place_of)) (λ x xs n. rw (ne_eqb slot x (λ e. n (sym e)), place_of))

module _ (slot : ℕ) (rolls : List ℕ) (from : ℕ) where
  step_found : (i : ℕ) → place_of slot (drop from rolls) ≡ i → from + i < length rolls → Some (from + i) ≡ first_step slot rolls from
  step_found i e h = rw (first_step, e, lt-ltb (from + i) (length rolls) h) (ap (λ (n : ℕ). Some (from + n)) (sym e))

  step_none : from ≤ length rolls → place_of slot (drop from rolls) ≡ length (drop from rolls) → None ≡ first_step slot rolls from
  step_none h e =
      let past : length rolls ≤ from + place_of slot (drop from rolls) = rw (e, length-drop) (omega arith) in
      rw (first_step, le-ltb (from + place_of slot (drop from rolls)) (length rolls) past)

  -- by the library's search of the rolls from there on
  module _ (h : from ≤ length rolls) (xs : List ℕ) (e : xs ≡ drop from rolls) where
    abbrev Searched : Option ℕ → Type 0
    Searched o = MatchOption o (AllWithin (λ x. x ≢ slot) xs 0 (length xs)) (λ i. (i < length xs) × HoldsAt (λ x. x ≡ slot) xs i × AllWithin (λ x. x ≢ slot) xs 0 i)

    there : (o : Option ℕ) → Searched o → place_of slot (drop from rolls) ≡ unwrap_or o (length xs)
    there o m = ap (place_of slot) (sym e) ∙ first_found slot xs o m

    pub step_at : (o : Option ℕ) → Searched o → (i : ℕ) → o ≡ Some i → Some (from + i) ≡ first_step slot rolls from
    step_at (Some j) m i f =
        let same : j ≡ i = cc in
        let within : j < length (drop from rolls) = rw (← e) m.0 in
        let long : length (drop from rolls) ≡ length rolls - from = length-drop from rolls in
        step_found i (there (Some j) m ∙ same) (omega (arith, within, same, long))
    step_at None m i f = clash cc

    pub step_nowhere : (o : Option ℕ) → Searched o → o ≡ None → None ≡ first_step slot rolls from
    step_nowhere (Some j) m f = clash cc
    step_nowhere None m f = step_none h (there None m ∙ ap length e)

  abbrev at : ℕ
  at = first_from slot rolls from

  pub some_step : (i : ℕ) → first_step slot rolls from ≡ Some i → (i ≡ first_from slot rolls from) × (i < length rolls)
  some_step i e = go (ltb at (length rolls)) refl
    where
      go : (t : Bool) → ltb at (length rolls) ≡ t → (i ≡ first_from slot rolls from) × (i < length rolls)
      go true f =
          let some : first_step slot rolls from ≡ Some at = rw (first_step, f) in
          let same : i ≡ at = cc in
          (same, rw same (ltb-true at (length rolls) f))
      go false f = let none : first_step slot rolls from ≡ None = rw (first_step, f) in clash cc

  pub no_step : first_step slot rolls from ≡ None → length rolls ≤ first_from slot rolls from
  no_step e = go (ltb at (length rolls)) refl
    where
      go : (t : Bool) → ltb at (length rolls) ≡ t → length rolls ≤ first_from slot rolls from
      go true f = let some : first_step slot rolls from ≡ Some at = rw (first_step, f) in clash cc
      go false f = ltb-false at (length rolls) f

-- ---- what became of a place, by it

module _ (stays : ℕ → Fate) (k : ℕ) (rolls : List ℕ) (slot from i : ℕ) (e : i ≡ first_from slot rolls from) where
  pub held_stayed : length rolls ≤ i → held_from stays k rolls slot from ≡ stays slot
  held_stayed h = rw (le-ltb (first_from slot rolls from) (length rolls) (rw (← e) h), held_from)

  pub held_taken : i < length rolls → held_from stays k rolls slot from ≡ Taken slot (k + i) i
  held_taken h = rw (lt-ltb (first_from slot rolls from) (length rolls) (rw (← e) h), held_from) (ap (λ (n : ℕ). Taken slot (k + n) n) (sym e))

module _ (k : ℕ) (rolls : List ℕ) (p : ℕ) where
  pub fate_first : p < k → fate_of_place k rolls p ≡ held_from Stayed k rolls p 0
  unfolding fate_of_place
  fate_first h = rw (lt-ltb p k h, fate_of_place)

  pub fate_rolled : k ≤ p → get_or rolls (p - k) 0 < k → fate_of_place k rolls p ≡ held_from RolledIn k rolls (get_or rolls (p - k) 0) (p - k + 1)
  unfolding fate_of_place
  fate_rolled h l = rw (le-ltb p k h, fate_of_place, lt-ltb (get_or rolls (p - k) 0) k l)

  pub fate_passed : k ≤ p → k ≤ get_or rolls (p - k) 0 → fate_of_place k rolls p ≡ PassedOver (get_or rolls (p - k) 0)
  unfolding fate_of_place
  fate_passed h l = rw (le-ltb p k h, fate_of_place, le-ltb (get_or rolls (p - k) 0) k l)
