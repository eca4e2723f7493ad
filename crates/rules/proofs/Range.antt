-- Rolls in range of their bounds. Assumes nothing.
--
--   in_range_cons                            rolls in range, one roll at a time
--   range_count                              rolls that are not as many as the bounds are not in range
--   range_reached, range_below, range_end    whether the rolls from a place on are in range
--   range_true                               a test that passes
--   length_in_range                          rolls in range are as many as the bounds
--   range_later                              and so they are from any place on
--   range_split, range_join                  rolls in range, batch by batch
use mathlib.Core.Path.{◌≡◌, refl, sym, ap, ap₂, ◌∙◌, subst}
use mathlib.Core.Logic.{◌↔◌}
use mathlib.Core.Bool.{Bool, true, false, ◌&&◌, and-false}
use mathlib.Core.List.{List, [], ◌∷◌, ◌++◌}
use Prim.Native.Nat.{ℕ, zero, suc, ◌+◌, ◌<◌, ◌≤◌}
use native.Mathlib.Omega.{arith}
use lib.Dec.{T, ltb, ltb→lt, lt→ltb}
use lib.ListN.{length, drop, get_or, drop_of_length-le, take}
use Rattle.rules.specs.Rolls.{in_range}
use borrow.Author.Tests.{lt-ltb, le-ltb}
use Rattle.rules.proofs.Writing.{drop-next}
use Rattle.rules.proofs.Facts.{both}

pub in_range_cons : (b : ℕ) (bs : List ℕ) (r : ℕ) (rs : List ℕ) → T (in_range (b ∷ bs) (r ∷ rs)) ↔ ((r < b) × T (in_range bs rs))
unfolding in_range
in_range_cons b bs r rs =
    let e = both (ltb r b) (in_range bs rs) in
    (λ t. (ltb→lt r b (e.0 t).0, (e.0 t).1), λ p. e.1 (lt→ltb r b p.0, p.1))

-- ---- whether rolls are in range

pub range_count : (bs rs : List ℕ) → (length bs ≡ length rs → ⊥) → in_range bs rs ≡ false
unfolding in_range
range_count [] [] h = absurd (h refl)
range_count [] (r ∷ rs) h = refl
range_count (b ∷ bs) [] h = refl
range_count (b ∷ bs) (r ∷ rs) h = ap (λ (t : Bool). ltb r b && t) (range_count bs rs (λ e. h (ap suc e))) ∙ and-false (ltb r b)

module _ (bs rs : List ℕ) (i : ℕ) (e : length bs ≡ length rs) where
  step : i < length bs → in_range (drop i bs) (drop i rs) ≡ (ltb (get_or rs i 0) (get_or bs i 0) && in_range (drop (i + 1) bs) (drop (i + 1) rs))
  unfolding in_range
  step h = rw (drop-next bs i h, drop-next rs i (omega arith))

  pub range_reached : i < length bs → get_or bs i 0 ≤ get_or rs i 0 → in_range (drop i bs) (drop i rs) ≡ false
  range_reached h k = step h ∙ ap (λ (t : Bool). t && in_range (drop (i + 1) bs) (drop (i + 1) rs)) (le-ltb (get_or rs i 0) (get_or bs i 0) k)

  pub range_below : i < length bs → get_or rs i 0 < get_or bs i 0 → in_range (drop (i + 1) bs) (drop (i + 1) rs) ≡ in_range (drop i bs) (drop i rs)
  range_below h k = sym (step h ∙ ap (λ (t : Bool). t && in_range (drop (i + 1) bs) (drop (i + 1) rs)) (lt-ltb (get_or rs i 0) (get_or bs i 0) k))

  pub range_end : length bs ≤ i → in_range (drop i bs) (drop i rs) ≡ true
  unfolding in_range
  range_end h =
      ap₂ in_range (drop_of_length-le bs h) (drop_of_length-le rs {i = i} (omega arith))

-- ---- the value, from the first roll on

pub range_true : (bs rs : List ℕ) → in_range bs rs ≡ true → T (in_range bs rs)
range_true bs rs e = subst T (sym e) tt

same_count : (bs rs : List ℕ) → T (in_range bs rs) → length rs ≡ length bs
unfolding in_range
same_count [] [] t = refl
same_count [] (r ∷ rs) t = absurd t
same_count (b ∷ bs) [] t = absurd t
same_count (b ∷ bs) (r ∷ rs) t = ap suc (same_count bs rs ((in_range_cons b bs r rs).0 t).1)

pub length_in_range : (bs rs : List ℕ) → in_range bs rs ≡ true → length rs ≡ length bs
length_in_range bs rs e = same_count bs rs (range_true bs rs e)

pub range_later : (i : ℕ) (bs rs : List ℕ) → T (in_range bs rs) → T (in_range (drop i bs) (drop i rs))
unfolding in_range
range_later zero bs rs t = t
range_later (suc i) [] [] t = tt
range_later (suc i) [] (r ∷ rs) t = absurd t
range_later (suc i) (b ∷ bs) [] t = absurd t
range_later (suc i) (b ∷ bs) (r ∷ rs) t = range_later i bs rs ((in_range_cons b bs r rs).0 t).1

-- ---- rolls in range, batch by batch

pub range_split : (bs cs rs : List ℕ) → T (in_range (bs ++ cs) rs) → T (in_range bs (take (length bs) rs)) × T (in_range cs (drop (length bs) rs))
unfolding in_range
range_split [] cs rs i = (tt, i)
range_split (b ∷ bs) cs [] i = absurd i
range_split (b ∷ bs) cs (r ∷ rs) i =
    let h = (in_range_cons b (bs ++ cs) r rs).0 i in
    let s = range_split bs cs rs h.1 in
    ((in_range_cons b bs r (take (length bs) rs)).1 (h.0, s.0), s.1)

pub range_join : (bs cs rs ss : List ℕ) → T (in_range bs rs) → T (in_range cs ss) → T (in_range (bs ++ cs) (rs ++ ss))
unfolding in_range
range_join [] cs [] ss i j = j
range_join [] cs (r ∷ rs) ss i j = absurd i
range_join (b ∷ bs) cs [] ss i j = absurd i
range_join (b ∷ bs) cs (r ∷ rs) ss i j =
    let h = (in_range_cons b bs r rs).0 i in
    (in_range_cons b (bs ++ cs) r (rs ++ ss)).1 (h.0, range_join bs cs rs ss h.1 j)
