-- The slots step by step. Each step is a store at its roll; what follows of many steps is by going one step back at a time. Assumes nothing.
--
--   length-slots                                      there are k slots
--   slots-first, slots_gets, slots_stays, slots-last  the fields of the pin
--   slots_kept                                        what a slot holds stays there while no roll is the slot
--   slots_origin                                      a place in a slot came there by itself, or by its own roll
--   slots_since                                       a place in a slot has been there since its turn
use mathlib.Core.Path.{◌≡◌, sym, ap₂, ◌∙◌}
use mathlib.Core.Logic.{◌≢◌, ◌⊎◌, inl, inr}
use mathlib.Core.List.{List, [], ◌∷◌, ◌++◌}
use Prim.Native.Nat.{ℕ, zero, suc, ◌+◌, ◌-◌, ◌<◌, ◌≤◌}
use native.Mathlib.Nat.{zero-add}
use native.Mathlib.Numerals.{add-one}
use native.Mathlib.Decide.{ℕ_discrete}
use native.Mathlib.Omega.{arith}
use lib.ListN.{length, take, drop, set, get_or}
use lib.Seq.{take-suc, take-length, length-take-le, get_or-set_same, get_or-set_other}
use Rattle.rules.specs.Reservoir.{countup, reservoir}
use Rattle.rules.proofs.Reservoir.{length-reservoir, reservoir_snoc}
use Rattle.rules.proofs.Rows.{length-countup, get_or-countup, countup_snoc, take-countup, drop-countup}
use Rattle.reasons.specs.Happened.{slots_after, Holds, HeldUntil}

module _ (k : ℕ) (rolls : List ℕ) where
  pub length-slots : (t : ℕ) → length (slots_after k rolls t) ≡ k
  length-slots t = length-reservoir (countup k 0) (countup t k) (take t rolls) ∙ length-countup k 0

  -- ---- one step

  pub slots-first : (slot : ℕ) → slot < k → get_or (slots_after k rolls 0) slot 0 ≡ slot
  unfolding countup reservoir
  slots-first slot h = get_or-countup k 0 slot h ∙ zero-add slot

  step : (t : ℕ) → t < length rolls → slots_after k rolls (t + 1) ≡ set (slots_after k rolls t) (get_or rolls t 0) (k + t)
  step t h =
      let more : take (t + 1) rolls ≡ take t rolls ++ get_or rolls t 0 ∷ [] = rw add-one (take-suc rolls t 0 h) in
      let few : length (take t rolls) ≡ t = length-take-le t rolls (omega arith) in
      ap₂ (reservoir (countup k 0)) (countup_snoc t k) more
      ∙ reservoir_snoc (countup k 0) (countup t k) (k + t) (take t rolls) (get_or rolls t 0) (omega (arith, length-countup t k))

  pub slots_gets : (t slot : ℕ) → t < length rolls → slot < k → get_or rolls t 0 ≡ slot → get_or (slots_after k rolls (t + 1)) slot 0 ≡ k + t
  slots_gets t slot h l e = rw (step t h, e) (get_or-set_same (slots_after k rolls t) slot (k + t) 0 (rw (length-slots t) l))

  pub slots_stays : (t slot : ℕ) → t < length rolls → slot < k → get_or rolls t 0 ≢ slot
      → get_or (slots_after k rolls (t + 1)) slot 0 ≡ get_or (slots_after k rolls t) slot 0
  slots_stays t slot h l n = rw (step t h) (get_or-set_other (slots_after k rolls t) (get_or rolls t 0) slot (k + t) 0 (λ e. n (sym e)))

  pub slots-last : let places : List ℕ = countup (k + length rolls) 0 in
      slots_after k rolls (length rolls) ≡ reservoir (take k places) (drop k places) rolls
  slots-last = rw (take-countup, drop-countup, take-length)

  -- ---- many steps

  pub slots_kept : (slot f t : ℕ) → slot < k → f ≤ t → t ≤ length rolls → ((i : ℕ) → f ≤ i → i < t → get_or rolls i 0 ≢ slot)
      → get_or (slots_after k rolls t) slot 0 ≡ get_or (slots_after k rolls f) slot 0
  slots_kept slot f zero l a b n = let e : f ≡ 0 = omega arith in rw e
  slots_kept slot f (suc t) l a b n = elim (ℕ_discrete f (suc t)) [
    | yes e ↦ rw e
    | no d ↦ rw (← add-one t) (slots_stays t slot (omega arith) l (n t (omega arith) (omega arith)))
        ∙ slots_kept slot f t l (omega arith) (omega arith) (λ i g h. n i g (omega arith))
  ]

  -- what a slot holds after a step, it got at that step or held before
  before : (t slot p : ℕ) → t < length rolls → Holds k rolls slot p (suc t) → ((p ≡ k + t) × (get_or rolls t 0 ≡ slot)) ⊎ Holds k rolls slot p t
  before t slot p h s = go (ℕ_discrete (get_or rolls t 0) slot) (rw (add-one t) s)
    where
      go : Dec (get_or rolls t 0 ≡ slot) → Holds k rolls slot p (t + 1) → ((p ≡ k + t) × (get_or rolls t 0 ≡ slot)) ⊎ Holds k rolls slot p t
      go (yes r) (l, e) = inl (sym e ∙ slots_gets t slot h l r, r)
      go (no n) (l, e) = inr (l, sym (slots_stays t slot h l n) ∙ e)

  pub slots_origin : (t slot p : ℕ) → t ≤ length rolls → Holds k rolls slot p t
      → ((p < k) × (slot ≡ p)) ⊎ ((k ≤ p) × (p - k < t) × (get_or rolls (p - k) 0 ≡ slot))
  slots_origin zero slot p h (l, e) = let own : slot ≡ p = sym (slots-first slot l) ∙ e in inl (omega arith, own)
  slots_origin (suc t) slot p h s = elim (before t slot p h s) [
    | inl (e, r) ↦ let i : p - k ≡ t = omega arith in inr (omega arith, omega arith, rw i r)
    | inr b ↦ elim (slots_origin t slot p (omega arith) b) [ inl c ↦ inl c | inr (c, i, r) ↦ inr (c, omega arith, r) ]
  ]

  pub slots_since : (t slot p : ℕ) → t ≤ length rolls → Holds k rolls slot p t → HeldUntil k rolls slot p t
  slots_since zero slot p h s u a b = let e : u ≡ 0 = omega arith in rw e s
  slots_since (suc t) slot p h s u a b = elim (ℕ_discrete u (suc t)) [
    | yes e ↦ rw e s
    | no n ↦ elim (before t slot p h s)
        [ inl (e, r) ↦ absurd (omega arith) | inr m ↦ slots_since t slot p (omega arith) m u a (omega arith) ]
  ]
