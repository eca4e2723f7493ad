-- Finding a batch's word in list order. Assumes nothing.
--
--   find_end, find_hit, find_miss    one step of the search, at a place of the list
--   find_within                      a word found is one of the list
--   find-same                        two tests that agree find the same
use mathlib.Core.Path.{◌≡◌, refl, ap, ◌∙◌, fun_ext, subst}
use mathlib.Core.Bool.{Bool, true, false}
use mathlib.Core.List.{List, [], ◌∷◌}
use Prim.Native.Nat.{ℕ, suc, ◌+◌, ◌-◌, ◌<◌, ◌≤◌}
use native.Mathlib.Omega.{arith}
use lib.ListN.{length, drop, get_or, length-drop, drop_of_length-le}
use lib.Seq.{get_or-drop}
use Rattle.rules.specs.Run.{Taken, Found, found, missing, find}
use Rattle.rules.proofs.Writing.{drop-next}

module _ (test : ℕ → Bool) (words : List ℕ) (at : ℕ) where
  pub find_end : length words ≤ at → find test (drop at words) at ≡ missing
  unfolding find
  find_end h = rw (drop_of_length-le words h)

  pub find_hit : at < length words → test (get_or words at 0) ≡ true
      → find test (drop at words) at ≡ found (record { place = at; word = get_or words at 0 })
  unfolding find
  find_hit h e = ap (λ (l : List ℕ). find test l at) (drop-next words at h) ∙ rw (e, find)

  pub find_miss : at < length words → test (get_or words at 0) ≡ false
      → find test (drop at words) at ≡ find test (drop (at + 1) words) (at + 1)
  unfolding find
  find_miss h e =
      ap (λ (l : List ℕ). find test l at) (drop-next words at h) ∙ rw (e, find)

pub find-same : (p q : ℕ → Bool) → ((w : ℕ) → p w ≡ q w) → (words : List ℕ) (at : ℕ) → find p words at ≡ find q words at
find-same p q h words at = ap (λ (test : ℕ → Bool). find test words at) (fun_ext h)

-- a word found is one of the list, at the place that is given, counted from the start
abbrev Within : ℕ → List ℕ → Found → Type 0
Within start ws (found t) = (start ≤ t.place) × (t.place < start + length ws) × (t.word ≡ get_or ws (t.place - start) 0)
Within start ws missing = Unit

within : (test : ℕ → Bool) (ws : List ℕ) (at : ℕ) → Within at ws (find test ws at)
unfolding find
within test [] at = tt
within test (w ∷ ws) at = go (test w) refl (within test ws (at + 1))
  where
    later : (f : Found) → Within (at + 1) ws f → Within at (w ∷ ws) f
    later (found t) (h, k, e) =
        let n : suc (t.place - (at + 1)) ≡ t.place - at = omega arith in
        (omega arith, omega arith, e ∙ ap (λ (i : ℕ). get_or (w ∷ ws) i 0) n)
    later missing h = tt

    go : (b : Bool) → test w ≡ b → Within (at + 1) ws (find test ws (at + 1)) → Within at (w ∷ ws) (find test (w ∷ ws) at)
    go true f ih = let n : 0 ≡ at - at = omega arith in rw (f, find) (omega arith, omega arith, ap (λ (i : ℕ). get_or (w ∷ ws) i 0) n)
    go false f ih = rw (f, find) (later (find test ws (at + 1)) ih)

pub find_within : (test : ℕ → Bool) (words : List ℕ) (at : ℕ) {t : Taken} → find test (drop at words) at ≡ found t
    → (at ≤ t.place) × (t.place < length words) × (t.word ≡ get_or words t.place 0)
find_within test words at {t} e =
    let (h, k, f) = subst (Within at (drop at words)) e (within test (drop at words) at) in
    let n : at + (t.place - at) ≡ t.place = omega arith in
    (h, omega (arith, length-drop at words), f ∙ get_or-drop at words (t.place - at) 0 ∙ ap (λ (i : ℕ). get_or words i 0) n)
