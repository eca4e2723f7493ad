-- The reservoir, one later record at a time. Assumes nothing.
--
--   length-reservoir, length-sample     as many values as slots
--   reservoir_taken, reservoir_passed   a record that takes a slot, and one that takes none
--   reservoir_none                      no roll is left
--   reservoir-cons, reservoir_snoc      one record more, before the others and after them: a store at its roll
--   map-set, reservoir-map              records under other names leave the same slots, under those names
--   reservoir-places                    the slots hold the records at the places that the slots hold where the places are the records
use mathlib.Core.Path.{◌≡◌, refl, sym, ap, ap₂, ◌∙◌}
use mathlib.Core.Bool.{Bool, true, false}
use mathlib.Core.List.{List, [], ◌∷◌, ◌++◌, map}
use Prim.Native.Nat.{ℕ, zero, suc, ◌<◌, ◌≤◌}
use native.Mathlib.Decide.{dec_lt}
use native.Mathlib.Omega.{arith}
use lib.Dec.{ltb}
use lib.ListN.{length, take, drop, set, get_or, length-set}
use lib.Seq.{length-take-le, set_out}
use Rattle.rules.specs.Reservoir.{countup, reservoir}
use Rattle.rules.proofs.Rows.{map-places}
use borrow.Author.Tests.{lt-ltb, le-ltb}

-- ---- as many values as slots

pub length-reservoir : (slots xs js : List ℕ) → length (reservoir slots xs js) ≡ length slots
unfolding reservoir
length-reservoir slots [] js = refl
length-reservoir slots (x ∷ xs) [] = refl
length-reservoir slots (x ∷ xs) (j ∷ js) =
    length-reservoir (elim (ltb j (length slots)) [ true ↦ set slots j x | false ↦ slots ]) xs js ∙ go (ltb j (length slots))
  where
    go : (t : Bool) → length {A = ℕ} (elim t [ true ↦ set slots j x | false ↦ slots ]) ≡ length slots
    go true = length-set slots j x
    go false = refl

pub length-sample : (xs js : List ℕ) (k : ℕ) → k ≤ length xs → length (reservoir (take k xs) (drop k xs) js) ≡ k
length-sample xs js k h = length-reservoir (take k xs) (drop k xs) js ∙ length-take-le k xs h

-- ---- the later records

pub reservoir_taken : (slots : List ℕ) (x : ℕ) (xs : List ℕ) (j : ℕ) (js : List ℕ) → j < length slots
    → reservoir slots (x ∷ xs) (j ∷ js) ≡ reservoir (set slots j x) xs js
unfolding reservoir
reservoir_taken slots x xs j js h = rw (lt-ltb j (length slots) h, reservoir)

pub reservoir_passed : (slots : List ℕ) (x : ℕ) (xs : List ℕ) (j : ℕ) (js : List ℕ) → length slots ≤ j
    → reservoir slots (x ∷ xs) (j ∷ js) ≡ reservoir slots xs js
unfolding reservoir
reservoir_passed slots x xs j js h = rw (le-ltb j (length slots) h, reservoir)

pub reservoir_none : (slots xs : List ℕ) → reservoir slots xs [] ≡ slots
unfolding reservoir
reservoir_none slots [] = refl
reservoir_none slots (x ∷ xs) = refl

-- ---- each record stores itself at its roll

-- a store past the slots changes nothing, so one law serves a record that takes a slot and one that takes none
pub reservoir-cons : (slots : List ℕ) (x : ℕ) (xs : List ℕ) (j : ℕ) (js : List ℕ)
    → reservoir slots (x ∷ xs) (j ∷ js) ≡ reservoir (set slots j x) xs js
reservoir-cons slots x xs j js = go (dec_lt j (length slots))
  where
    go : Dec (j < length slots) → reservoir slots (x ∷ xs) (j ∷ js) ≡ reservoir (set slots j x) xs js
    go (yes h) = reservoir_taken slots x xs j js h
    go (no n) = reservoir_passed slots x xs j js (omega arith) ∙ rw (set_out slots j x (omega arith))

pub reservoir_snoc : (slots xs : List ℕ) (x : ℕ) (js : List ℕ) (j : ℕ) → length xs ≡ length js
    → reservoir slots (xs ++ x ∷ []) (js ++ j ∷ []) ≡ set (reservoir slots xs js) j x
unfolding reservoir
reservoir_snoc slots [] x [] j e = reservoir-cons slots x [] j []
reservoir_snoc slots [] x (i ∷ js) j e = absurd (omega arith)
reservoir_snoc slots (y ∷ xs) x [] j e = absurd (omega arith)
reservoir_snoc slots (y ∷ xs) x (i ∷ js) j e =
    reservoir-cons slots y (xs ++ x ∷ []) i (js ++ j ∷ []) ∙ reservoir_snoc (set slots i y) xs x js j (omega arith)
    ∙ ap (λ (l : List ℕ). set l j x) (sym (reservoir-cons slots y xs i js))

pub map-set : (f : ℕ → ℕ) (l : List ℕ) (i x : ℕ) → set (map f l) i (f x) ≡ map f (set l i x)
map-set f [] i x = refl
map-set f (y ∷ l) zero x = refl
map-set f (y ∷ l) (suc i) x = ap (λ (m : List ℕ). f y ∷ m) (map-set f l i x)

pub reservoir-map : (f : ℕ → ℕ) (slots xs js : List ℕ) → reservoir (map f slots) (map f xs) js ≡ map f (reservoir slots xs js)
unfolding reservoir
reservoir-map f slots [] js = refl
reservoir-map f slots (x ∷ xs) [] = refl
reservoir-map f slots (x ∷ xs) (j ∷ js) =
    reservoir-cons (map f slots) (f x) (map f xs) j js ∙ ap (λ (l : List ℕ). reservoir l (map f xs) js) (map-set f slots j x)
    ∙ reservoir-map f (set slots j x) xs js ∙ ap (map f) (sym (reservoir-cons slots x xs j js))

take-map : (f : ℕ → ℕ) (k : ℕ) (xs : List ℕ) → take k (map f xs) ≡ map f (take k xs)
take-map f zero xs = refl
take-map f (suc k) [] = refl
take-map f (suc k) (x ∷ xs) = ap (λ (l : List ℕ). f x ∷ l) (take-map f k xs)

drop-map : (f : ℕ → ℕ) (k : ℕ) (xs : List ℕ) → drop k (map f xs) ≡ map f (drop k xs)
drop-map f zero xs = refl
drop-map f (suc k) [] = refl
drop-map f (suc k) (x ∷ xs) = drop-map f k xs

-- so the slots of some records hold those at the places that the slots of their places hold
pub reservoir-places : (xs js : List ℕ) (k : ℕ) → let places : List ℕ = countup (length xs) 0 in
    reservoir (take k xs) (drop k xs) js ≡ map (λ p. get_or xs p 0) (reservoir (take k places) (drop k places) js)
reservoir-places xs js k =
    let places : List ℕ = countup (length xs) 0 in
    let at : ℕ → ℕ = λ p. get_or xs p 0 in
    ap (λ (l : List ℕ). reservoir (take k l) (drop k l) js) (sym (map-places xs))
    ∙ ap₂ (λ (a b : List ℕ). reservoir a b js) (take-map at k places) (drop-map at k places) ∙ reservoir-map at (take k places) (drop k places) js
