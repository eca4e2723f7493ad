-- Writing the rolls of a plan, batch after batch, to the front of a lent list, where the words suffice. Over every width and plan. Assumes
-- nothing.
--
--   Filling                         the rolls of the batches before those that are left are written
--   fill_none, fill_hit, fill_cut   before the first turn; one turn; and one turn whose end a cut tells
--   fill_never                      no word is missing
--   fill_done, fill_all             the rolls of the whole plan are written
use Rattle.std.specs.Prelude.{Some, None}
use mathlib.Core.Path.{◌≡◌, refl, sym, ap, ◌∙◌, subst}
use mathlib.Core.Bool.{true}
use mathlib.Core.List.{List, [], ◌∷◌, ◌++◌, append_assoc, append-nil}
use Prim.Native.Nat.{ℕ, ◌+◌, ◌-◌, ◌≤◌}
use native.Mathlib.Omega.{arith}
use lib.ListN.{length, take, drop, take-append-drop}
use borrow.Rule.Slice.PartMut.{put_mid}
use Rattle.rules.specs.Rolls.{rolls, accepted}
use Rattle.rules.specs.Run.{Found, find, run_from, run, rolls_of, suffices}
use Rattle.rules.proofs.Rolls.{length-rolls}
use Rattle.rules.proofs.Running.{rolled_by}
use Rattle.rules.proofs.Writing.{take_put, drop-put, length-put, lent, drop_more}
use Rattle.rolls.specs.Inner.{searched}
use Rattle.rolls.proofs.Stepping.{hit_suffices, hit_rolled, hit_within, never_missing}

-- the rolls of the batches before those that are left stand before the place at, and the rest of the run starts at `to` and suffices
abbrev pub Filling : ℕ → List (List ℕ) → List ℕ → ℕ → List (List ℕ) → List ℕ → List ℕ → ℕ → ℕ → Type 0
Filling L plan words start left out₀ out to at =
    (to ≤ length words) × (length out ≡ length out₀) × (drop at out ≡ drop at out₀)
    × ((batch : ℕ) × (suffices (run_from L left words to batch) ≡ true)
    × (take at out ++ rolled_by L left (run_from L left words to batch) ≡ rolled_by L plan (run L plan words start)))

pub fill_none : (L : ℕ) (plan : List (List ℕ)) (words : List ℕ) (start : ℕ) (out : List ℕ) → start ≤ length words
    → suffices (run L plan words start) ≡ true → Filling L plan words start plan out out start 0
fill_none L plan words start out h e = (h, refl, refl, (0, e, refl))

module _ (L : ℕ) (plan : List (List ℕ)) (words : List ℕ) (start : ℕ) (left : List (List ℕ)) (out₀ out : List ℕ) (to at : ℕ) (v : Filling L plan words start left out₀ out to at) where
  module _ (bs : List ℕ) (rest : List (List ℕ)) (e : left ≡ bs ∷ rest) (f : Found) (same : f ≡ find (accepted L bs) (drop to words) to) where
    enough : suffices (run_from L (bs ∷ rest) words to v.3.0) ≡ true
    enough = rw e at v.3.1

    pub fill_never : searched to f ≡ None → ⊥
    fill_never s = never_missing L bs rest words to v.3.0 f same s enough

    pub fill_hit : (w place m : ℕ) → searched to f ≡ Some (record { word = w; place = place; rejected = m }) → at + length bs ≤ length out₀
        → (last : List ℕ) → last ≡ rolls L bs w ++ drop (length bs) (take (length out - at) (drop at out))
        → Filling L plan words start rest out₀ (put_mid at (length out - at) out last) (place + 1) (at + length bs)
    fill_hit w place m s room last l =
        let d : List ℕ = rolls L bs w in
        let n : length d ≡ length bs = length-rolls L bs w in
        let fits : at + length d ≤ length out = omega (arith, n, room, v.1) in
        let wrote = lent out d at fits last (rw (← n) at l) in
        rw (wrote, ← n) (
          omega (arith, hit_within L bs rest words to v.3.0 f same w place m s),
          length-put out d at fits ∙ v.1,
          drop-put out d at fits ∙ drop_more out out₀ at (length d) v.2,
          (
            v.3.0 + 1,
            hit_suffices L bs rest words to v.3.0 f same w place m s enough,
            ap (λ (x : List ℕ). x ++ rolled_by L rest (run_from L rest words (place + 1) (v.3.0 + 1))) (take_put out d at fits)
                ∙ append_assoc (take at out) d _
                ∙ ap (λ (x : List ℕ). take at out ++ x) (sym (hit_rolled L bs rest words to v.3.0 f same w place m s enough))
                ∙ (rw e at v.3.2),
          ),
        )

    -- one turn, by the place where the batch ends
    pub fill_cut : (w place m : ℕ) → searched to f ≡ Some (record { word = w; place = place; rejected = m }) → (end : ℕ) → end ≡ at + length bs → end ≤ length out₀
        → (last : List ℕ) → last ≡ rolls L bs w ++ drop (end - at) (take (length out - at) (drop at out))
        → Filling L plan words start rest out₀ (put_mid at (length out - at) out last) (place + 1) end
    fill_cut w place m s end e room last l =
        let size : end - at ≡ length bs = omega (arith, e) in
        let P : ℕ → Type 0 = λ n. Filling L plan words start rest out₀ (put_mid at (length out - at) out last) (place + 1) n in
        subst P (sym e) (fill_hit w place m s (omega (arith, e, room)) last (rw size at l))

  pub fill_done : left ≡ [] → out ≡ rolled_by L plan (run L plan words start) ++ drop at out₀
  unfolding run_from rolls_of
  fill_done e =
      let front : take at out ≡ rolled_by L plan (run L plan words start) = sym (append-nil (take at out)) ∙ (rw e at v.3.2) in
      sym (take-append-drop at out) ∙ rw (front, v.2)

  pub fill_all : left ≡ [] → (count : ℕ) → at ≡ count → out ≡ rolled_by L plan (run L plan words start) ++ drop count out₀
  fill_all e count same = fill_done e ∙ ap (λ (n : ℕ). rolled_by L plan (run L plan words start) ++ drop n out₀) same
