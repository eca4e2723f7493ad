-- The rolls behind an order, with marks in place of a search: the loop of `write_behind`. The marks are the inverse of the list as it
-- stands: the mark of a record is its place, counted from 1. Assumes nothing.
--
--   Inverting                    with m records still to place: the list as it stands, its marks, and what the lent list holds
--   invert_start                 before the first turn
--   looked                       what a turn reads fits: a record's mark, and the record that is moved
--   Moved, move_none, move_one   the lent list with that record moved
--   invert_turn                  one turn
--   invert_done                  with one record or none still to place the rolls are written
use mathlib.Core.Path.{◌≡◌, refl, sym, ap, ◌∙◌}
use mathlib.Core.Logic.{◌≢◌}
use mathlib.Core.Bool.{true}
use mathlib.Core.List.{List, ◌++◌, append_assoc, append-nil}
use Prim.Native.Nat.{ℕ, ◌+◌, ◌-◌, ◌<◌, ◌≤◌}
use native.Mathlib.Decide.{ℕ_discrete, dec_lt}
use native.Mathlib.Omega.{arith}
use lib.Dec.{T}
use lib.ListN.{length, take, drop, get_or, set, length-set, take-append-drop, get_or-eq_default}
use lib.Seq.{get_or-set_same, get_or-set_other, get_or-take, take-set-le, drop-set-lt}
use Rattle.rules.proofs.Writing.{stored_front}
use Rattle.rules.specs.Shuffle.{exchange, countdown}
use Rattle.rules.specs.Reservoir.{countup}
use Rattle.rules.specs.Order.{is_order, place_of, rolls_into}
use Rattle.rules.proofs.Rows.{get_or-countdown, length-countup, get_or-countup}
use Rattle.rules.proofs.Exchanging.{exchange-first, exchange_other}
use Rattle.rules.proofs.Orders.{rolls_into_step, rolls_into_none, Midway, midway_start, midway_roll, midway_step}
use Rattle.rules.proofs.Each.{order_reorders, countup_distinct}

-- ---- the list as it stands

-- xs is the list as it stands, and its records below place m have their place, counted from 1, as their mark; the lent list holds the
-- rolls so far, then the records at places m - 1, .., 1, then what it held
pub record Inverting (ys out₀ marks out : List ℕ) (m : ℕ) : Type 0 where
  pub xs : List ℕ
  pub midway : Midway m xs ys
  pub some : length ys - m ≤ length ys - 1
  pub room : length ys ≤ length out + 1
  pub same_length : length out ≡ length out₀
  pub inverse : (i : ℕ) → i < m → get_or marks (get_or xs i 0) 0 ≡ i + 1
  pub standing : (i : ℕ) → 0 < i → i < m → get_or out (length ys - 1 - i) 0 ≡ get_or xs i 0
  pub rolled : take (length ys - m) out ++ rolls_into m xs ys ≡ rolls_into (length ys) (countup (length ys) 0) ys
  pub rest : drop (length ys - 1) out ≡ drop (length ys - 1) out₀

pub invert_start : (ys marks out : List ℕ) → is_order ys ≡ true → length ys ≤ length out + 1
    → ((v : ℕ) → v < length ys → get_or marks v 0 ≡ v + 1) → take (length ys - 1) out ≡ countdown (length ys - 1) (length ys - 1)
    → Inverting ys out marks out (length ys)
invert_start ys marks out e room marked start =
    let n : ℕ = length ys in
    let t : T (is_order ys) = rw e tt in
    let none : n - n ≡ 0 = omega arith in
    let at : (i : ℕ) → i < n → get_or (countup n 0) i 0 ≡ i = λ i h. get_or-countup n 0 i h ∙ omega arith in
    record {
      xs = countup n 0;
      midway = rw (length-countup n 0) at (midway_start (countup n 0) ys (countup_distinct n) (order_reorders ys t));
      some = omega arith;
      room = room;
      same_length = refl;
      inverse = λ i h. rw (at i h) (marked i h);
      standing = λ i p h.
          sym (get_or-take (n - 1) out (n - 1 - i) 0 (omega arith)) ∙ ap (λ (l : List ℕ). get_or l (n - 1 - i) 0) start
          ∙ get_or-countdown (n - 1) (n - 1) (n - 1 - i) (omega arith) ∙ omega (arith, at i h);
      rolled = rw none;
      rest = refl;
    }

-- ---- one turn

-- the record v of place m - 1 is put at place r; where that is place 0, which the lent list does not hold, nothing is written
pub record Moved (n m r v : ℕ) (out mid : List ℕ) : Type 0 where
  same_length : length mid ≡ length out
  front : take (n - m) mid ≡ take (n - m) out
  back : drop (n - 1) mid ≡ drop (n - 1) out
  here : 0 < r → get_or mid (n - 1 - r) 0 ≡ v
  others : (i : ℕ) → i < m - 1 → i ≢ r → get_or mid (n - 1 - i) 0 ≡ get_or out (n - 1 - i) 0

pub move_none : (n m r v : ℕ) (out : List ℕ) → r ≤ 0 → Moved n m r v out out
move_none n m r v out z = record {
  same_length = refl;
  front = refl;
  back = refl;
  here = λ p. absurd (let f : ⊥ = omega arith in f);
  others = λ i h d. refl;
}

pub move_one : (n m r v : ℕ) (out : List ℕ) → 0 < r → r < m → m ≤ n → n ≤ length out + 1 → Moved n m r v out (set out (n - 1 - r) v)
move_one n m r v out p h l room =
    let k : ℕ = n - 1 - r in
    record {
      same_length = length-set out k v;
      front = take-set-le (n - m) out k v (omega arith);
      back = drop-set-lt (n - 1) out k v (omega arith);
      here = λ a. get_or-set_same out k v 0 (omega arith);
      others = λ i g d. get_or-set_other out k (n - 1 - i) v 0 (omega arith);
    }

-- a number with a mark is in the table
within : (marks : List ℕ) (v : ℕ) → 0 < get_or marks v 0 → v < length marks
within marks v p = go (dec_lt v (length marks))
  where
    go : Dec (v < length marks) → v < length marks
    go (yes h) = h
    go (no h) = absurd (let z : ⊥ = omega (arith, get_or-eq_default marks 0 {n = v} (omega arith)) in z)

module _ {ys out₀ marks out : List ℕ} {m : ℕ} (w : Inverting ys out₀ marks out m) where
  module _ (l : 1 < m) where
    pub inside : m ≤ length ys
    inside = omega (arith, w.midway.fits, w.midway.reorders.same_length)

    mark : get_or marks (get_or ys (m - 1) 0) 0 ≡ place_of (get_or ys (m - 1) 0) w.xs + 1
    mark = let a = midway_roll w.midway l in rw a.1 at (w.inverse _ a.0)

    last : get_or out (length ys - 1 - (m - 1)) 0 ≡ get_or w.xs (m - 1) 0
    last = w.standing (m - 1) (omega arith) (omega arith)

    -- what a turn reads: the mark of the record that place m - 1 is to get, and the record that stands there
    pub look_record : get_or ys (m - 1) 0 < length marks
    look_record = within marks (get_or ys (m - 1) 0) (omega (arith, mark))

    pub look_some : 0 < get_or marks (get_or ys (m - 1) 0) 0
    look_some = omega (arith, mark)

    pub look_most : get_or marks (get_or ys (m - 1) 0) 0 ≤ m
    look_most = omega (arith, mark, (midway_roll w.midway l).0)

    pub look_last : get_or out (length ys - 1 - (m - 1)) 0 < length marks
    look_last = within marks (get_or out (length ys - 1 - (m - 1)) 0) (rw last (omega (arith, w.inverse (m - 1) (omega arith))))

    -- the roll r and the record v that it moves
    module _ (r v : ℕ) (e : r ≡ get_or marks (get_or ys (m - 1) 0) 0 - 1) (f : v ≡ get_or out (length ys - 1 - (m - 1)) 0) where
      is_roll : place_of (get_or ys (m - 1) 0) w.xs ≡ r
      is_roll = omega (arith, mark)

      below : r < m
      below = rw is_roll at (midway_roll w.midway l).0

      is_last : v ≡ get_or w.xs (m - 1) 0
      is_last = f ∙ last

      comes : get_or (exchange w.xs r (m - 1)) r 0 ≡ v
      comes = exchange-first w.xs r (m - 1) (omega (arith, below, w.midway.fits)) ∙ sym is_last

      stays : (i : ℕ) → i < m - 1 → i ≢ r → get_or (exchange w.xs r (m - 1)) i 0 ≡ get_or w.xs i 0
      stays i h d = exchange_other w.xs r (m - 1) i d (omega arith)

      inverse : (i : ℕ) → i < m - 1 → get_or (set marks v (r + 1)) (get_or (exchange w.xs r (m - 1)) i 0) 0 ≡ i + 1
      inverse i h = go (ℕ_discrete i r)
        where
          go : Dec (i ≡ r) → get_or (set marks v (r + 1)) (get_or (exchange w.xs r (m - 1)) i 0) 0 ≡ i + 1
          go (yes d) = rw (d, comes) (get_or-set_same marks v (r + 1) 0 (rw f look_last))
          go (no d) =
              let other : get_or w.xs i 0 ≢ v = λ g.
              let same = w.midway.distinct i (m - 1) (omega (arith, w.midway.fits)) (omega (arith, w.midway.fits)) (g ∙ is_last) in
              omega arith in
              rw (stays i h d) (get_or-set_other marks v (get_or w.xs i 0) (r + 1) 0 other ∙ w.inverse i (omega arith))

      module _ (mid : List ℕ) (moved : Moved (length ys) m r v out mid) where
        standing : (i : ℕ) → 0 < i → i < m - 1
            → get_or (set mid (length ys - 1 - (m - 1)) r) (length ys - 1 - i) 0 ≡ get_or (exchange w.xs r (m - 1)) i 0
        standing i p h =
            get_or-set_other mid (length ys - 1 - (m - 1)) (length ys - 1 - i) r 0 (omega (arith, inside)) ∙ go (ℕ_discrete i r)
          where
            go : Dec (i ≡ r) → get_or mid (length ys - 1 - i) 0 ≡ get_or (exchange w.xs r (m - 1)) i 0
            go (yes d) = rw (d, comes) (moved.here (omega arith))
            go (no d) = moved.others i h d ∙ w.standing i p (omega arith) ∙ sym (stays i h d)

        rolled : take (length ys - (m - 1)) (set mid (length ys - 1 - (m - 1)) r) ++ rolls_into (m - 1) (exchange w.xs r (m - 1)) ys
            ≡ rolls_into (length ys) (countup (length ys) 0) ys
        rolled =
            let here : length ys - 1 - (m - 1) ≡ length ys - m = omega arith in
            let one : length ys - (m - 1) ≡ length ys - m + 1 = omega (arith, inside) in
            let h : length ys - m < length mid = omega (arith, inside, w.room, moved.same_length) in
            rw (here, one, stored_front mid (length ys - m) r h, append_assoc, moved.front)
            (rw (rolls_into_step m w.xs ys l, is_roll) at w.rolled)

        pub invert_turn : Inverting ys out₀ (set marks v (r + 1)) (set mid (length ys - 1 - (m - 1)) r) (m - 1)
        invert_turn = record {
          xs = exchange w.xs r (m - 1);
          midway = midway_step w.midway r l below (rw is_roll at (midway_roll w.midway l).1);
          some = omega (arith, inside);
          room = rw (length-set, moved.same_length) w.room;
          same_length = rw (length-set, moved.same_length) w.same_length;
          inverse = inverse;
          standing = standing;
          rolled = rolled;
          rest = drop-set-lt (length ys - 1) mid (length ys - 1 - (m - 1)) r (omega (arith, inside)) ∙ moved.back ∙ w.rest;
        }

  pub invert_done : m ≤ 1 → out ≡ rolls_into (length ys) (countup (length ys) 0) ys ++ drop (length ys - 1) out₀
  invert_done h =
      let e : length ys - m ≡ length ys - 1 = omega (arith, w.some) in
      let front : take (length ys - 1) out ≡ rolls_into (length ys) (countup (length ys) 0) ys
      = sym (append-nil (take (length ys - 1) out)) ∙ (rw (e, rolls_into_none m w.xs ys h) at w.rolled) in
      sym (take-append-drop (length ys - 1) out) ∙ rw (front, w.rest)

-- what a turn reads fits
pub ruleset looked = (inside, look_record, look_some, look_most, look_last)
