-- A lent list that is written from the front, and whose rest is as it was. Assumes nothing.
--
--   drop-next                                        a list from a place on, one at a time
--   stored_front, stored_back                        one store behind those written so far
--   drop_more                                        lists that are alike from a place on are alike from a later one on
--   Written, written_none, written-turn,             the loop that writes values that are known beforehand
--     written-done, written_whole
--   take_put, drop-put, length-put                   numbers put at a place
--   put_none, put-put                                none put, and more put behind those that were
--   lent                                             a part that was lent on, and written at its front
--   whole_list                                       values that fill the lent list leave nothing of it
use mathlib.Core.Path.{◌≡◌, refl, sym, ap, ap₂, ◌∙◌}
use mathlib.Core.List.{List, [], ◌∷◌, ◌++◌, append_assoc, append-nil}
use Prim.Native.Nat.{ℕ, ◌+◌, ◌-◌, ◌<◌, ◌≤◌}
use native.Mathlib.Numerals.{add-one}
use native.Mathlib.Omega.{arith}
use lib.ListN.{length, take, drop, set, get_or, length-set, length-append, length-drop, take-append-drop, drop_of_length-le}
use lib.Seq.{drop-cons, drop-drop, drop-set-lt, take-suc, take-suc-set, take_all, take_at, drop_at, length-take-le}
use borrow.Rule.Slice.PartMut.{put_mid}
use Rattle.rules.specs.Put.{put}

-- what stands from a place on is what stands there, and the rest
pub drop-next : (l : List ℕ) (i : ℕ) → i < length l → drop i l ≡ get_or l i 0 ∷ drop (i + 1) l
drop-next l i h = rw (add-one i) (drop-cons l i 0 h)

pub stored_front : (l : List ℕ) (i v : ℕ) → i < length l → take (i + 1) (set l i v) ≡ take i l ++ (v ∷ [])
stored_front l i v h = rw add-one (take-suc-set l i v h)

-- what stands behind i stands behind what comes after it too
pub drop_more : (l m : List ℕ) (i n : ℕ) → drop i l ≡ drop i m → drop (i + n) l ≡ drop (i + n) m
drop_more l m i n e = sym (drop-drop n i l) ∙ ap (λ (x : List ℕ). drop n x) e ∙ drop-drop n i m

pub stored_back : (l m : List ℕ) (i v : ℕ) → drop i l ≡ drop i m → drop (i + 1) (set l i v) ≡ drop (i + 1) m
stored_back l m i v e = drop-set-lt (i + 1) l i v (omega arith) ∙ drop_more l m i 1 e

-- ---- values that are known beforehand

-- the first i of the n values are written, and the rest of the list is as it was
abbrev pub Written : List ℕ → ℕ → List ℕ → List ℕ → ℕ → Type 0
Written values n before out i = (i ≤ n) × (length out ≡ length before) × (take i out ≡ take i values) × (drop i out ≡ drop i before)

pub written_none : (values : List ℕ) (n : ℕ) (out : List ℕ) → Written values n out out 0
written_none values n out = (omega arith, refl, refl, refl)

module _ (values : List ℕ) (n : ℕ) (all : length values ≡ n) (before out : List ℕ) (i : ℕ) (v : Written values n before out i) where
  pub written-turn : (x : ℕ) → i < n → n ≤ length before → x ≡ get_or values i 0 → Written values n before (set out i x) (i + 1)
  written-turn x h room e = (
    omega arith,
    length-set out i x ∙ v.1,
    stored_front out i x (omega arith) ∙ ap₂ (λ (l : List ℕ) (y : ℕ). l ++ y ∷ []) v.2 e
        ∙ sym (ap (λ (k : ℕ). take k values) (add-one i) ∙ take-suc values i 0 (omega arith)),
    stored_back out before i x v.3,
  )

  module _ (h : n ≤ i) where
    pub written-done : (take n out ≡ values) × (drop n out ≡ drop n before)
    written-done =
        let e : i ≡ n = omega arith in
        ((rw e at v.2) ∙ take_all n values (omega arith), rw e at v.3)

    pub written_whole : out ≡ values ++ drop n before
    written_whole = sym (take-append-drop n out) ∙ ap₂ ◌++◌ written-done.0 written-done.1

-- ---- numbers d put at a place, as by a function that the list was lent on to from there, and that wrote d at its front

module _ (out d : List ℕ) (at : ℕ) (h : at + length d ≤ length out) where
  length-front_of : length (take at out ++ d) ≡ at + length d
  length-front_of = rw (length-append, length-take-le at out (omega arith))

  again : put out at d ≡ (take at out ++ d) ++ drop (at + length d) out
  again = rw append_assoc

  pub take_put : take (at + length d) (put out at d) ≡ take at out ++ d
  take_put = rw again (take_at (take at out ++ d) _ _ length-front_of)

  pub drop-put : drop (at + length d) (put out at d) ≡ drop (at + length d) out
  drop-put = rw again (drop_at (take at out ++ d) _ _ length-front_of)

  pub length-put : length (put out at d) ≡ length out
  length-put = rw again (rw (length-append, length-front_of, length-drop) (omega arith))

  pub lent : (last : List ℕ) → last ≡ d ++ drop (length d) (take (length out - at) (drop at out))
      → put_mid at (length out - at) out last ≡ put out at d
  lent last e =
      let whole : take (length out - at) (drop at out) ≡ drop at out = take_all (length out - at) (drop at out) (rw length-drop (omega arith)) in
      let none : drop (length out - at) (drop at out) ≡ [] = drop_of_length-le (drop at out) {i = length out - at} (rw length-drop (omega arith)) in
      rw (e, whole, none, drop-drop (length d) at out, append-nil)

-- ---- nothing put, and more behind what was put, where the place behind it is known by an equation

pub put_none : (out : List ℕ) (at : ℕ) → put out at [] ≡ out
put_none out at = let e : at + 0 ≡ at = omega arith in rw e (take-append-drop at out)

pub put-put : (out : List ℕ) (at next : ℕ) (xs ys : List ℕ) → next ≡ at + length xs → next ≤ length out → put (put out at xs) next ys ≡ put out at (xs ++ ys)
put-put out at next xs ys k h =
    let l : at + length xs ≤ length out = omega arith in
    let e : at + length (xs ++ ys) ≡ at + length xs + length ys = rw length-append (omega arith) in
    let back = drop_more (put out at xs) out (at + length xs) (length ys) (drop-put out xs at l) in
    rw (k, e) (ap₂ (λ (f b : List ℕ). f ++ (ys ++ b)) (take_put out xs at l) back ∙ simp append_assoc)

-- ---- a list that is filled

pub whole_list : (values before : List ℕ) → length values ≡ length before → values ≡ values ++ drop (length values) before
whole_list values before e = sym (ap (λ (l : List ℕ). values ++ l) (drop_of_length-le before {i = length values} (omega arith)) ∙ append-nil values)
