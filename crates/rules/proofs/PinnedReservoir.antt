-- The reservoir by induction on its later records: what the records after the first leave in a slot is there in the end; where they name it
-- nowhere, the first one's roll decides. Assumes nothing.
--
--   reservoir_pinned    the pin of the reservoir
use mathlib.Core.Path.{◌≡◌, refl, sym, ◌∙◌}
use mathlib.Core.Logic.{◌≢◌, ◌⊎◌, inl, inr}
use mathlib.Core.List.{List, [], ◌∷◌}
use Prim.Native.Nat.{ℕ, zero, suc, suc-le-suc, zero-le, ◌+◌, ◌<◌, ◌≤◌}
use native.Mathlib.Nat.{not-suc-le-zero, le_of_suc-le-suc}
use native.Mathlib.Decide.{ℕ_discrete}
use native.Mathlib.Omega.{arith}
use lib.ListN.{length, take, drop, set, get_or, length-set, length-drop}
use lib.Seq.{get_or-set_same, get_or-set_other, get_or-take, get_or-drop, length-take-le}
use Rattle.rules.specs.Reservoir.{reservoir}
use Rattle.rules.specs.Pinned.{LastAt, Nowhere, ReservoirPinned}
use Rattle.rules.proofs.Reservoir.{length-sample, reservoir-cons}

-- ---- one slot

-- v is what the last record whose roll was j left, of those that stand behind; else what stood first
abbrev Left : List ℕ → ℕ → ℕ → (ℕ → ℕ) → ℕ → Type 0
Left js j v behind first = ((i : ℕ) × LastAt js j i × (v ≡ behind i)) ⊎ (Nowhere js j × (v ≡ first))

left : (slots xs js : List ℕ) (j : ℕ) → length xs ≡ length js → j < length slots
    → Left js j (get_or (reservoir slots xs js) j 0) (λ i. get_or xs i 0) (get_or slots j 0)
unfolding reservoir
left slots [] [] j e h = inr (λ i k. absurd (not-suc-le-zero k), refl)
left slots [] (r ∷ js) j e h = absurd (let z : ⊥ = omega arith in z)
left slots (x ∷ xs) [] j e h = absurd (let z : ⊥ = omega arith in z)
left slots (x ∷ xs) (r ∷ js) j e h = rw reservoir-cons (go (left (set slots r x) xs js j (omega arith) (rw length-set h)) (ℕ_discrete r j))
  where
    v : ℕ
    v = get_or (reservoir (set slots r x) xs js) j 0

    -- what no roll of js is from place i on, no roll of r ∷ js is past it
    beyond : (i : ℕ) → ((l : ℕ) → i ≤ l → l < length js → get_or js l 0 ≢ j) → (l : ℕ) → i < l → l < length (r ∷ js) → get_or (r ∷ js) l 0 ≢ j
    beyond i n zero a b = absurd (not-suc-le-zero a)
    beyond i n (suc l) a b = n l (le_of_suc-le-suc a) (le_of_suc-le-suc b)

    go : Left js j v (λ i. get_or xs i 0) (get_or (set slots r x) j 0) → Dec (r ≡ j) → Left (r ∷ js) j v (λ i. get_or (x ∷ xs) i 0) (get_or slots j 0)
    go (inl (i, (k, f, later), w)) d = inl (suc i, (suc-le-suc k, f, beyond (suc i) later), w)
    go (inr (n, w)) (yes f) =
        inl (0, (suc-le-suc zero-le, f, beyond 0 (λ l a. n l)), w ∙ rw (← f) (get_or-set_same slots r x 0 (rw f h)))
    go (inr (n, w)) (no f) = inr (nowhere, w ∙ get_or-set_other slots r j x 0 (λ g. f (sym g)))
      where
        nowhere : Nowhere (r ∷ js) j
        nowhere zero a = f
        nowhere (suc l) a = n l (le_of_suc-le-suc a)

pub reservoir_pinned : (k : ℕ) (xs js : List ℕ) → k + length js ≡ length xs → ReservoirPinned k xs js (reservoir (take k xs) (drop k xs) js)
reservoir_pinned k xs js e = record {
  count = length-sample xs js k few;
  slot = λ j h. go j h (left (take k xs) (drop k xs) js j (length-drop k xs ∙ omega arith) (rw (length-take-le k xs few) h));
}
  where
    few : k ≤ length xs
    few = omega arith

    go : {v : ℕ} (j : ℕ) → j < k → Left js j v (λ i. get_or (drop k xs) i 0) (get_or (take k xs) j 0) → Left js j v (λ i. get_or xs (k + i) 0) (get_or xs j 0)
    go j h (inl (i, l, w)) = inl (i, l, w ∙ get_or-drop k xs i 0)
    go j h (inr (n, w)) = inr (n, w ∙ get_or-take k xs j 0 h)
