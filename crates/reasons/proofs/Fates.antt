-- What is told of a place happened to it, and nothing else did. A place that comes to a slot at its turn stays until the first later roll that
-- is the slot, or to the end; and where another took the slot, the place holds it no longer, so only one of these can be. Assumes nothing.
--
--   fate_happened    what is told of a place happened to it
--   fate_only        nothing else did
--   fate_drawn       it is told to be drawn into a slot exactly where the slot holds it in the end
--   taken_range      the taker of its slot is a later place, and has the step told
--   fate_next        the taker was itself rolled into that slot, and stayed or was taken in turn
use mathlib.Core.Path.{◌≡◌, refl, sym, ap, ap₂, ◌∙◌, subst}
use mathlib.Core.Logic.{◌↔◌, ◌≢◌, ◌⊎◌, inl, inr}
use mathlib.Core.List.{List}
use Prim.Native.Nat.{ℕ, ◌+◌, ◌-◌, ◌<◌, ◌≤◌}
use native.Mathlib.Nat.{le_refl}
use native.Mathlib.Decide.{dec_lt}
use native.Mathlib.Omega.{arith}
use lib.ListN.{length, drop, get_or, length-drop}
use lib.Seq.{get_or-drop}
use Rattle.rules.specs.Order.{place_of}
use Rattle.rules.proofs.Facts.{clash}
use Rattle.rules.proofs.Orders.{place_first}
use Rattle.reasons.specs.Fate.{first_from, held_from, fate_of_place}
use Rattle.reasons.specs.Happened.{turn, Holds, HeldUntil, Happened}
use Rattle.reasons.specs.declared.fate.Fate.{Fate}
use Rattle.reasons.specs.declared.fate.Fate.TheVariants.{Stayed, RolledIn, Taken, PassedOver}
use Rattle.reasons.proofs.Firsts.{held_stayed, held_taken, fate_first, fate_rolled, fate_passed}
use Rattle.reasons.proofs.Slots.{slots-first, slots_gets, slots_kept, slots_origin, slots_since}

-- ---- the first roll that is a slot

-- step i is the first, from a step on, whose roll is the slot; or the end, where there is none
abbrev First : ℕ → List ℕ → ℕ → ℕ → Type 0
First slot rolls from i =
    (from ≤ i) × (i ≤ length rolls) × ((l : ℕ) → from ≤ l → l < i → get_or rolls l 0 ≢ slot) × (i < length rolls → get_or rolls i 0 ≡ slot)

first : (slot : ℕ) (rolls : List ℕ) (from : ℕ) → from ≤ length rolls → First slot rolls from (first_from slot rolls from)
first slot rolls from h =
    let (l, none, at) = place_first slot (drop from rolls) in
    let n = length-drop from rolls in (
      omega arith,
      omega arith,
      λ i a b. let e : from + (i - from) ≡ i = omega arith in
          rw (ap (λ (m : ℕ). get_or rolls m 0) (sym e) ∙ sym (get_or-drop from rolls (i - from) 0)) (none (i - from) (omega arith)),
      λ b. sym (get_or-drop from rolls (place_of slot (drop from rolls)) 0) ∙ at (omega arith),
    )

module _ (k : ℕ) (rolls : List ℕ) where
  -- ---- what happened to a place that comes to a slot

  -- this is told of place p, and it happened
  abbrev Is : ℕ → Fate → Type 0
  Is p fate = (fate_of_place k rolls p ≡ fate) × Happened k rolls p fate

  abbrev Remains : ℕ → ℕ → Type 0
  Remains slot p = Is p (Stayed slot) ⊎ Is p (RolledIn slot)

  -- another takes the slot of a place that came to it, or the place remains there
  course : (slot p : ℕ) → turn k p ≤ length rolls → Holds k rolls slot p (turn k p) → ((t : ℕ) × Is p (Taken slot (k + t) t)) ⊎ Remains slot p
  course slot p h s = elim (slots_origin k rolls (turn k p) slot p h s) [
    | inl (a, e) ↦
        let z : 0 ≡ turn k p = omega arith in
        ends Stayed (fate_first k rolls p a ∙ ap₂ (held_from Stayed k rolls) (sym e) z) (λ f u. inl (f, (a, u)))
    | inr (a, b, e) ↦
        let z : p - k + 1 ≡ turn k p = omega arith in
        ends RolledIn (fate_rolled k rolls p a (rw e s.0) ∙ ap₂ (held_from RolledIn k rolls) e z) (λ f u. inr (f, ((a, omega arith, e), u)))
  ]
    where
      i : ℕ
      i = first_from slot rolls (turn k p)

      f : First slot rolls (turn k p) i
      f = first slot rolls (turn k p) h

      held : HeldUntil k rolls slot p i
      held u a b =
          (s.0, slots_kept k rolls slot (turn k p) u s.0 a (omega (arith, f.1)) (λ l g m. f.2 l g (omega arith)) ∙ s.1)

      ends : (stays : ℕ → Fate) → fate_of_place k rolls p ≡ held_from stays k rolls slot (turn k p)
          → (fate_of_place k rolls p ≡ stays slot → HeldUntil k rolls slot p (length rolls) → Remains slot p)
          → ((t : ℕ) × Is p (Taken slot (k + t) t)) ⊎ Remains slot p
      ends stays e remains = elim (dec_lt i (length rolls)) [
        | yes l ↦
            let took = slots_gets k rolls i slot l s.0 (f.3 l) in
            inl (i, (e ∙ held_taken stays k rolls slot (turn k p) i refl l, (omega (arith, f.0), refl, l, held, (s.0, took))))
        | no n ↦ inr (remains (e ∙ held_stayed stays k rolls slot (turn k p) i refl (omega arith)) (λ u a b. held u a (omega arith)))
      ]

  pub fate_happened : (p : ℕ) → p < k + length rolls → Happened k rolls p (fate_of_place k rolls p)
  fate_happened p h = elim (dec_lt p k) [
    | yes a ↦ let z : turn k p ≡ 0 = omega arith in comes p (rw z (a, slots-first k rolls p a))
    | no a ↦ elim (dec_lt (get_or rolls (p - k) 0) k) [
      | yes b ↦
          let z : turn k p ≡ p - k + 1 = omega arith in
          let own : k + (p - k) ≡ p = omega arith in
          comes (get_or rolls (p - k) 0) (rw z (b, slots_gets k rolls (p - k) (get_or rolls (p - k) 0) (omega arith) b refl ∙ own))
      | no b ↦ told (PassedOver (get_or rolls (p - k) 0)) (fate_passed k rolls p (omega arith) (omega arith), ((omega arith, h, refl), omega arith))
    ]
  ]
    where
      told : (fate : Fate) → Is p fate → Happened k rolls p (fate_of_place k rolls p)
      told fate (e, w) = subst (Happened k rolls p) (sym e) w

      comes : (slot : ℕ) → Holds k rolls slot p (turn k p) → Happened k rolls p (fate_of_place k rolls p)
      comes slot s = elim (course slot p (omega arith) s) [
        | inl (t, w) ↦ told (Taken slot (k + t) t) w
        | inr (inl w) ↦ told (Stayed slot) w
        | inr (inr w) ↦ told (RolledIn slot) w
      ]

  -- ---- nothing else

  -- a place holds its slot no longer than to the step at which another took it
  no_longer : {slot p t by step : ℕ} → HeldUntil k rolls slot p t → Happened k rolls p (Taken slot by step) → t ≤ step
  no_longer {slot} {p} {t} {by} {step} u (l, e, m, held, s) = elim (dec_lt step t) [
    | yes h ↦ let same : p ≡ by = sym (u (step + 1) (omega arith) (omega arith)).1 ∙ s.1 in omega arith
    | no n ↦ omega arith
  ]

  remains : (slot p : ℕ) → p < k + length rolls → HeldUntil k rolls slot p (length rolls) → Remains slot p
  remains slot p h u = elim (course slot p (omega arith) (u (turn k p) (le_refl (turn k p)) (omega arith))) [
    | inl (t, (e, w)) ↦ absurd (omega (arith, no_longer u w))
    | inr r ↦ r
  ]

  pub fate_only : (p : ℕ) (fate : Fate) → Happened k rolls p fate → fate ≡ fate_of_place k rolls p
  fate_only p (Stayed slot) (h, u) = elim (remains slot p (omega arith) u) [ inl (e, w) ↦ sym e | inr (e, w) ↦ absurd (omega arith) ]
  fate_only p (RolledIn slot) (r, u) = elim (remains slot p r.1 u) [ inl (e, w) ↦ absurd (omega arith) | inr (e, w) ↦ sym e ]
  fate_only p (Taken slot by step) w = elim (course slot p (omega arith) (w.3 (turn k p) (le_refl (turn k p)) (omega arith))) [
    | inl (t, (e, v)) ↦
        let same : step ≡ t = omega (arith, no_longer w.3 v, no_longer v.3 w) in
        let by-same : by ≡ k + t = omega arith in
        rw (by-same, same) (sym e)
    | inr (inl (e, v)) ↦ absurd (omega (arith, no_longer v.1 w))
    | inr (inr (e, v)) ↦ absurd (omega (arith, no_longer v.1 w))
  ]
  fate_only p (PassedOver roll) ((a, b, e), l) = rw (← e) (sym (fate_passed k rolls p a (omega arith)))

  -- ---- who was drawn, and who took a slot

  pub fate_drawn : (p slot : ℕ) → p < k + length rolls
      → ((fate_of_place k rolls p ≡ Stayed slot) ⊎ (fate_of_place k rolls p ≡ RolledIn slot)) ↔ Holds k rolls slot p (length rolls)
  fate_drawn p slot h = (to, back)
    where
      to : (fate_of_place k rolls p ≡ Stayed slot) ⊎ (fate_of_place k rolls p ≡ RolledIn slot) → Holds k rolls slot p (length rolls)
      to (inl e) = (subst (Happened k rolls p) e (fate_happened p h)).1 (length rolls) (omega arith) (le_refl (length rolls))
      to (inr e) = (subst (Happened k rolls p) e (fate_happened p h)).1 (length rolls) (omega arith) (le_refl (length rolls))

      back : Holds k rolls slot p (length rolls) → (fate_of_place k rolls p ≡ Stayed slot) ⊎ (fate_of_place k rolls p ≡ RolledIn slot)
      back s =
          let u = slots_since k rolls (length rolls) slot p (le_refl (length rolls)) s in
          elim (remains slot p h u) [ inl (e, w) ↦ inl e | inr (e, w) ↦ inr e ]

  -- past the last place there is no taker, so the range of p need not be known
  taken : (p slot by step : ℕ) → fate_of_place k rolls p ≡ Taken slot by step → Happened k rolls p (Taken slot by step)
  taken p slot by step e = elim (dec_lt p (k + length rolls)) [
    | yes h ↦ subst (Happened k rolls p) e (fate_happened p h)
    | no n ↦ elim (dec_lt (get_or rolls (p - k) 0) k) [
      | yes b ↦ clash (cc (
        fate_rolled k rolls p (omega arith) b,
        held_stayed RolledIn k rolls (get_or rolls (p - k) 0) (p - k + 1) (first_from (get_or rolls (p - k) 0) rolls (p - k + 1)) refl (omega arith),
      ))
      | no b ↦ clash (cc (fate_passed k rolls p (omega arith) (omega arith)))
    ]
  ]

  pub taken_range : (p slot by step : ℕ) → fate_of_place k rolls p ≡ Taken slot by step → (p < by) × (by < k + length rolls) × (by ≡ k + step)
  taken_range p slot by step e = let w = taken p slot by step e in (w.0, omega arith, w.1)

  pub fate_next : (p slot by step : ℕ) → fate_of_place k rolls p ≡ Taken slot by step
      → (fate_of_place k rolls by ≡ RolledIn slot) ⊎ ((b : ℕ) × (s : ℕ) × (by < b) × (fate_of_place k rolls by ≡ Taken slot b s))
  fate_next p slot by step e =
      let w = taken p slot by step e in
      let z : turn k by ≡ step + 1 = omega arith in
      elim (course slot by (omega arith) (rw z w.4)) [
        | inl (t, (f, v)) ↦ inr (k + t, t, v.0, f)
        | inr (inl (f, v)) ↦ absurd (omega arith)
        | inr (inr (f, v)) ↦ inl f
      ]
