-- Orders of different records and series of rolls: each series in range gives an order, and each order comes from one series, the one
-- that is looked up. The batches play no part: a shuffle is one flat series with the bounds n, n - 1, .., 2. Assumes nothing.
--
--   place_first                                       the first place of a record, or the length
--   place_at                                          a record that stands in a list stands at its place
--   place_of_lem                                      the place of a record that stands at one place
--   range_cons                                        one roll in range of a shuffle's bounds
--   length-shuffle                                    a shuffle keeps the number of records
--   shuffle_reorders                                  each series of rolls in range gives an order of the records
--   Reordered, reordered                              an order of different records, place by place
--   Midway, midway_start, midway_roll, midway_step    shuffled into an order from the end down to a place
--   rolls_into_step, rolls_into_none                  one roll behind an order; none for 0 or 1 record
--   length-rolls_into                                 how many rolls are behind an order
--   one_series                                        for each order the rolls looked up, and no others in range, give it
--   shuffle-append                                    one series of rolls, and then another
use mathlib.Core.Path.{◌≡◌, refl, sym, ap, ap₂, ◌∙◌, subst}
use mathlib.Core.Logic.{◌↔◌, ◌≢◌}
use mathlib.Core.Bool.{Bool, true, false}
use mathlib.Core.List.{List, [], ◌∷◌, ◌++◌}
use Prim.Native.Nat.{ℕ, zero, suc, ◌-◌, ◌<◌, ◌≤◌}
use native.Mathlib.Nat.{le_of_suc-le-suc, not-suc-le-zero, le_refl, sub-zero}
use native.Mathlib.Numerals.{add-one}
use native.Mathlib.Decide.{ℕ_discrete, dec_lt}
use native.Mathlib.Omega.{arith}
use lib.Dec.{T, eqb}
use lib.ListN.{length, get_or}
use lib.Seq.{ext_get_or}
use borrow.Author.Tests.{eqb-true, eqb-false}
use Rattle.rules.specs.Rolls.{in_range}
use Rattle.rules.proofs.Range.{in_range_cons}
use Rattle.rules.specs.Shuffle.{exchange, shuffle_with, shuffle_bounds}
use Rattle.rules.specs.Order.{place_of, rolls_into, Distinct, Reorders, Only}
use Rattle.rules.specs.Pinned.{FirstPlace}
use Rattle.rules.proofs.Rows.{no_bounds, bounds_cons}
use Rattle.rules.proofs.Counting.{Among, counted, count_among, count-exchange, distinct_once, once_distinct, length_reorders}
use Rattle.rules.proofs.Exchanging.{exchange_distinct, exchange-last, exchange_other, length-exchange, among_after}

-- ---- the place of a record

pub place_first : (x : ℕ) (xs : List ℕ) → FirstPlace x xs (place_of x xs)
unfolding place_of
place_first x [] = (omega arith, λ i h. absurd (not-suc-le-zero h), λ h. absurd (not-suc-le-zero h))
place_first x (y ∷ ys) = go (eqb x y) refl (place_first x ys)
  where
    later : {p : ℕ} → y ≢ x → ((i : ℕ) → i < p → get_or ys i 0 ≢ x) → (i : ℕ) → i < suc p → get_or (y ∷ ys) i 0 ≢ x
    later n f zero h = n
    later n f (suc i) h = f i (le_of_suc-le-suc h)

    go : (b : Bool) → eqb x y ≡ b → FirstPlace x ys (place_of x ys) → FirstPlace x (y ∷ ys) (place_of x (y ∷ ys))
    go true t ih = rw (t, place_of) (omega arith, λ i h. absurd (not-suc-le-zero h), λ h. sym (eqb-true x y t))
    go false t (l, none, at) =
        rw (t, place_of, add-one) (omega arith, later (λ e. eqb-false x y t (sym e)) none, λ h. at (le_of_suc-le-suc h))

pub place_at : (x : ℕ) (xs : List ℕ) → Among x xs → (place_of x xs < length xs) × (get_or xs (place_of x xs) 0 ≡ x)
place_at x xs (p, h, e) =
    let (l, none, at) = place_first x xs in
    elim (dec_lt (place_of x xs) (length xs)) [ yes k ↦ (k, at k) | no n ↦ absurd (none p (omega arith) e) ]

pub place_of_lem : (xs : List ℕ) (p : ℕ) → Distinct xs → p < length xs → place_of (get_or xs p 0) xs ≡ p
place_of_lem xs p d h =
    let a = place_at (get_or xs p 0) xs (p, h, refl) in
    d (place_of (get_or xs p 0) xs) p a.0 h a.1

-- ---- one roll of a shuffle

-- a roll in range means that there was a record to place
pub range_cons : (m r : ℕ) (rs : List ℕ)
    → T (in_range (shuffle_bounds m) (r ∷ rs)) ↔ ((1 < m) × (r < m) × T (in_range (shuffle_bounds (m - 1)) rs))
range_cons m r rs = (to (dec_lt 1 m), λ (l, h, i). rw (bounds_cons m l) ((in_range_cons m (shuffle_bounds (m - 1)) r rs).1 (h, i)))
  where
    to : Dec (1 < m) → T (in_range (shuffle_bounds m) (r ∷ rs)) → (1 < m) × (r < m) × T (in_range (shuffle_bounds (m - 1)) rs)
    to (yes l) i = let b = (in_range_cons m (shuffle_bounds (m - 1)) r rs).0 (rw (bounds_cons m l) at i) in (l, b.0, b.1)
    to (no n) i = absurd (unfold in_range in (rw (no_bounds m (omega arith)) at i))

pub length-shuffle : (m : ℕ) (rs xs : List ℕ) → length (shuffle_with m rs xs) ≡ length xs
unfolding shuffle_with
length-shuffle m [] xs = refl
length-shuffle m (r ∷ rs) xs = length-shuffle (m - 1) rs (exchange xs r (m - 1)) ∙ length-exchange xs r (m - 1)

-- places from m on keep their records
kept : (m : ℕ) (rs xs : List ℕ) (k : ℕ) → T (in_range (shuffle_bounds m) rs) → m ≤ k → get_or (shuffle_with m rs xs) k 0 ≡ get_or xs k 0
unfolding shuffle_with
kept m [] xs k i h = refl
kept m (r ∷ rs) xs k i h =
    let b = (range_cons m r rs).0 i in
    kept (m - 1) rs (exchange xs r (m - 1)) k b.2 (omega arith)
    ∙ exchange_other xs r (m - 1) k (omega (arith, b.1)) (omega (arith, b.0))

-- ---- each series gives an order

pub shuffle_reorders : (m : ℕ) (rs xs : List ℕ) → m ≤ length xs → T (in_range (shuffle_bounds m) rs) → Reorders xs (shuffle_with m rs xs)
unfolding shuffle_with
shuffle_reorders m [] xs h i x = refl
shuffle_reorders m (r ∷ rs) xs h i x =
    let b = (range_cons m r rs).0 i in
    shuffle_reorders (m - 1) rs (exchange xs r (m - 1)) (rw length-exchange (omega arith)) b.2 x
    ∙ count-exchange x xs r (m - 1) (omega (arith, b.1)) (omega (arith, b.0))

-- ---- each order comes from one series

-- an order of different records, place by place
pub record Reordered (xs ys : List ℕ) : Type 0 where
  pub same_length : length ys ≡ length xs
  pub among : (i : ℕ) → i < length ys → Among (get_or ys i 0) xs
  pub distinct : Distinct ys

pub reordered : (xs ys : List ℕ) → Distinct xs → Reorders xs ys → Reordered xs ys
reordered xs ys d r = record {
  same_length = length_reorders xs ys r;
  among = λ i h. let y : ℕ = get_or ys i 0 in count_among y xs (omega (arith, r y, counted y ys i h refl));
  distinct = once_distinct ys (λ x. omega (arith, r x, distinct_once xs d x));
}

-- shuffled from the end down to place m: the places from m on are as ys has them
pub record Midway (m : ℕ) (xs ys : List ℕ) : Type 0 where
  pub fits : m ≤ length xs
  pub distinct : Distinct xs
  pub reorders : Reordered xs ys
  pub settled : (k : ℕ) → m ≤ k → k < length xs → get_or xs k 0 ≡ get_or ys k 0

pub midway_start : (xs ys : List ℕ) → Distinct xs → Reorders xs ys → Midway (length xs) xs ys
midway_start xs ys d r = record {
  fits = le_refl (length xs);
  distinct = d;
  reorders = reordered xs ys d r;
  settled = λ k h l. absurd (let z : ⊥ = omega arith in z);
}

module _ {m : ℕ} {xs ys : List ℕ} (w : Midway m xs ys) where
  -- a place of xs is one of ys
  of_ys : {k : ℕ} → k < length xs → k < length ys
  of_ys h = rw w.reorders.same_length h

  -- a record that ys has below m stands below m in xs
  place_below : (j : ℕ) → j < m → (p : ℕ) → p < length xs → get_or xs p 0 ≡ get_or ys j 0 → p < m
  place_below j h p hp e = go (dec_lt p m)
    where
      go : Dec (p < m) → p < m
      go (yes l) = l
      go (no n) =
          let same : p ≡ j = w.reorders.distinct p j (of_ys hp) (of_ys (omega (arith, w.fits))) (sym (w.settled p (omega arith) hp) ∙ e) in
          omega arith

  -- the record that place m - 1 is to get stands at a place below m
  pub midway_roll : 1 < m → (place_of (get_or ys (m - 1) 0) xs < m) × (get_or xs (place_of (get_or ys (m - 1) 0) xs) 0 ≡ get_or ys (m - 1) 0)
  midway_roll l =
      let a = place_at (get_or ys (m - 1) 0) xs (w.reorders.among (m - 1) (of_ys (omega (arith, w.fits)))) in
      (place_below (m - 1) (omega arith) _ a.0 a.1, a.1)

  -- with one record or none still to place, it stands where ys has it
  all_placed : m ≤ 1 → xs ≡ ys
  all_placed h = ext_get_or 0 xs ys (sym w.reorders.same_length) at
    where
      at : (i : ℕ) → i < length xs → get_or xs i 0 ≡ get_or ys i 0
      at i hi = go (dec_lt i m)
        where
          go : Dec (i < m) → get_or xs i 0 ≡ get_or ys i 0
          go (yes l) =
              let a = w.reorders.among i (of_ys hi) in
              let p : a.0 < m = place_below i l a.0 a.1 a.2 in
              let z : i ≡ a.0 = omega arith in
              ap (λ (n : ℕ). get_or xs n 0) z ∙ a.2
          go (no n) = w.settled i (omega arith) hi

  -- the roll r brings the record that place m - 1 is to get
  module _ (r : ℕ) (l : 1 < m) (h : r < m) (e : get_or xs r 0 ≡ get_or ys (m - 1) 0) where
    hr : r < length xs
    hr = omega (arith, w.fits)

    hm : m - 1 < length xs
    hm = omega (arith, w.fits)

    pub midway_step : Midway (m - 1) (exchange xs r (m - 1)) ys
    midway_step = record {
      fits = rw length-exchange (omega (arith, w.fits));
      distinct = exchange_distinct xs r (m - 1) hr hm w.distinct;
      reorders = record {
        same_length = w.reorders.same_length ∙ sym (length-exchange xs r (m - 1));
        among = λ i hi. among_after xs r (m - 1) hr hm (get_or ys i 0) (w.reorders.among i hi);
        distinct = w.reorders.distinct;
      };
      settled = λ k hk hl. at k (ℕ_discrete k (m - 1)) hk (rw length-exchange at hl);
    }
      where
        at : (k : ℕ) → Dec (k ≡ m - 1) → m - 1 ≤ k → k < length xs → get_or (exchange xs r (m - 1)) k 0 ≡ get_or ys k 0
        at k (yes f) hk hl = rw f (exchange-last xs r (m - 1) hm ∙ e)
        at k (no f) hk hl = exchange_other xs r (m - 1) k (omega arith) f ∙ w.settled k (omega arith) hl

    only_step : (rs : List ℕ) → Only (m - 1) (exchange xs r (m - 1)) ys rs → Only m xs ys (r ∷ rs)
    unfolding shuffle_with
    only_step rs o = record { is_in_range = (range_cons m r rs).1 (l, h, o.is_in_range); gives = o.gives; unique = one }
      where
        one : (ss : List ℕ) → T (in_range (shuffle_bounds m) ss) → shuffle_with m ss xs ≡ ys → ss ≡ r ∷ rs
        one [] i g = absurd (unfold in_range in (rw (bounds_cons m l) at i))
        one (s ∷ ss) i g =
            let b = (range_cons m s ss).0 i in
            let last : get_or xs s 0 ≡ get_or ys (m - 1) 0 =
            sym (kept (m - 1) ss (exchange xs s (m - 1)) (m - 1) b.2 (le_refl (m - 1)) ∙ exchange-last xs s (m - 1) hm)
            ∙ ap (λ (k : List ℕ). get_or k (m - 1) 0) g in
            let same : s ≡ r = w.distinct s r (omega (arith, b.1, w.fits)) hr (last ∙ sym e) in
            ap₂ ◌∷◌ same (o.unique ss b.2 (subst (λ (n : ℕ). shuffle_with (m - 1) ss (exchange xs n (m - 1)) ≡ ys) same g))

  only_none : m ≤ 1 → Only m xs ys []
  unfolding shuffle_with
  only_none h = record {
    is_in_range = unfold in_range in (rw (no_bounds m h) tt);
    gives = all_placed h;
    unique = one;
  }
    where
      one : (ss : List ℕ) → T (in_range (shuffle_bounds m) ss) → shuffle_with m ss xs ≡ ys → ss ≡ []
      one [] i g = refl
      one (s ∷ ss) i g = let b = (range_cons m s ss).0 i in absurd (let z : ⊥ = omega (arith, b.0) in z)

pub rolls_into_step : (m : ℕ) (xs ys : List ℕ) → 1 < m
    → rolls_into m xs ys
    ≡ place_of (get_or ys (m - 1) 0) xs ∷ rolls_into (m - 1) (exchange xs (place_of (get_or ys (m - 1) 0) xs) (m - 1)) ys
unfolding rolls_into
rolls_into_step zero xs ys h = absurd (not-suc-le-zero h)
rolls_into_step (suc zero) xs ys h = absurd (let z : ⊥ = omega arith in z)
rolls_into_step (suc (suc m)) xs ys h = let e : suc (suc m) - 1 ≡ suc m = omega arith in rw e

pub rolls_into_none : (m : ℕ) (xs ys : List ℕ) → m ≤ 1 → rolls_into m xs ys ≡ []
unfolding rolls_into
rolls_into_none zero xs ys h = refl
rolls_into_none (suc zero) xs ys h = refl
rolls_into_none (suc (suc m)) xs ys h = absurd (let z : ⊥ = omega arith in z)

pub length-rolls_into : (m : ℕ) (xs ys : List ℕ) → length (rolls_into m xs ys) ≡ m - 1
unfolding rolls_into
length-rolls_into zero xs ys = omega arith
length-rolls_into (suc zero) xs ys = omega arith
length-rolls_into (suc (suc m)) xs ys =
    ap suc (length-rolls_into (suc m) (exchange xs (place_of (get_or ys (suc m) 0) xs) (suc m)) ys) ∙ omega arith

only : (m : ℕ) (xs ys : List ℕ) → Midway m xs ys → Only m xs ys (rolls_into m xs ys)
only zero xs ys w = unfold rolls_into in only_none w (omega arith)
only (suc zero) xs ys w = unfold rolls_into in only_none w (omega arith)
only (suc (suc m)) xs ys w =
    let n : ℕ = suc (suc m) in
    let l : 1 < n = omega arith in
    let e : n - 1 ≡ suc m = omega arith in
    let r : ℕ = place_of (get_or ys (n - 1) 0) xs in
    let a = midway_roll w l in
    let less : (zs : List ℕ) → Midway (n - 1) zs ys → Only (n - 1) zs ys (rolls_into (n - 1) zs ys) = rw e (λ zs v. only (suc m) zs ys v) in
    rw (rolls_into_step n xs ys l) (only_step w r l a.0 a.1 _ (less (exchange xs r (n - 1)) (midway_step w r l a.0 a.1)))

pub one_series : (xs ys : List ℕ) → Distinct xs → Reorders xs ys → Only (length xs) xs ys (rolls_into (length xs) xs ys)
one_series xs ys d r = only (length xs) xs ys (midway_start xs ys d r)

pub shuffle-append : (m : ℕ) (rs ss xs : List ℕ) → shuffle_with m (rs ++ ss) xs ≡ shuffle_with (m - length rs) ss (shuffle_with m rs xs)
unfolding shuffle_with
shuffle-append m [] ss xs = rw sub-zero
shuffle-append m (r ∷ rs) ss xs =
    let e : m - 1 - length rs ≡ m - length (r ∷ rs) = omega arith in
    shuffle-append (m - 1) rs ss (exchange xs r (m - 1)) ∙ ap (λ (k : ℕ). shuffle_with k ss (shuffle_with (m - 1) rs (exchange xs r (m - 1)))) e
