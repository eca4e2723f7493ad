use Rattle.rules.proofs.Facts.{truth}
-- The runs of words behind an order, as the two ways back name them. An order of different records is an order of their places: a shuffle
-- moves records as it moves their places, so the rolls behind the places are the rolls behind the records. Assumes nothing.
--
--   length-places, get_or-places    the places of records, one by one
--   rolls_named                     the rolls behind the places of an order, as the operation gives them: those that are looked up in the records
--   runs_full, runs_in              the runs of a plan, as the operation gives them
use mathlib.Core.Path.{◌≡◌, refl, sym, ap, ◌∙◌, subst}
use mathlib.Core.Logic.{◌↔◌}
use mathlib.Core.List.{List, [], ◌∷◌, ◌++◌, append-nil}
use Prim.Native.Nat.{ℕ, zero, suc, ◌-◌, ◌^◌, ◌<◌, ◌≤◌}
use native.Mathlib.Nat.{le_of_suc-le-suc, not-suc-le-zero}
use native.Mathlib.Decide.{ℕ_discrete}
use native.Mathlib.Omega.{arith}
use lib.Dec.{T}
use lib.ListN.{length, take, drop, get_or, replicate, length-replicate, drop_of_length-le}
use lib.Seq.{ext_get_or}
use Rattle.rules.specs.Limits.{max_records}
use Rattle.rules.specs.Order.{is_order, place_of, rolls_into, Distinct, Reorders, Only}
use Rattle.rules.specs.Plan.{joined, RollablePlan}
use Rattle.rules.specs.Reservoir.{countup}
use Rattle.rules.specs.Rolls.{in_range}
use Rattle.rules.specs.Run.{next, rejected}
use Rattle.rules.specs.Shuffle.{exchange, shuffle_with, shuffle_bounds}
use Rattle.rules.specs.Width.{Width}
use Rattle.rules.proofs.Each.{order_iff, rolls_behind_lem}
use Rattle.rules.proofs.Exchanging.{length-exchange, exchange-first, exchange-last, exchange_other}
use Rattle.rules.proofs.Orders.{Reordered, reordered, place_of_lem, range_cons, length-shuffle, one_series}
use Rattle.rules.proofs.Range.{length_in_range, range_split}
use Rattle.rules.proofs.Rows.{length-countup, get_or-countup, length-shuffle_bounds}
use Rattle.rules.proofs.Runs.{InRuns}
use Rattle.answers.specs.Outcome.{done, seen}
use Rattle.answers.specs.Supplied.{answered}
use Rattle.answers.specs.declared.answer.Behind.{Behind}
use Rattle.orders.specs.Order.{rolls_behind, seen_order}
use Rattle.runs.specs.Behind.{seen_behind}
use Rattle.promises.specs.Behind.{FullRun}
use Rattle.promises.specs.Demand3.{Paired, places, runs_named, InRun}
use Rattle.promises.proofs.Behind.{run_named, run_full}
use Rattle.promises.proofs.Order.{order_done}

-- ---- records read by their places

-- ws holds at each place the record of xs whose place zs holds there
record Reads (xs zs ws : List ℕ) : Type 0 where
  same : length ws ≡ length zs
  at : (i : ℕ) → i < length zs → get_or ws i 0 ≡ get_or xs (get_or zs i 0) 0

abbrev record_at : List ℕ → ℕ → ℕ
record_at xs p = get_or xs p 0

module _ (xs : List ℕ) where
  reads_start : Reads xs (countup (length xs) 0) xs
  reads_start = record {
    same = sym (length-countup (length xs) 0);
    at = λ i h.
        let l : i < length xs = rw length-countup at h in
        ap (record_at xs) (sym (get_or-countup (length xs) 0 i l ∙ omega arith));
  }

  reads_exchange : (zs ws : List ℕ) (i j : ℕ) → i < length zs → j < length zs → Reads xs zs ws → Reads xs (exchange zs i j) (exchange ws i j)
  reads_exchange zs ws i j hi hj r = record {
    same = length-exchange ws i j ∙ r.same ∙ sym (length-exchange zs i j);
    at = λ k h. go k (rw length-exchange at h) (ℕ_discrete k j) (ℕ_discrete k i);
  }
    where
      in_ws : {k : ℕ} → k < length zs → k < length ws
      in_ws h = rw r.same h

      go : (k : ℕ) → k < length zs → Dec (k ≡ j) → Dec (k ≡ i) → get_or (exchange ws i j) k 0 ≡ get_or xs (get_or (exchange zs i j) k 0) 0
      go k h (yes e) d = rw e (exchange-last ws i j (in_ws hj) ∙ r.at i hi ∙ ap (record_at xs) (sym (exchange-last zs i j hj)))
      go k h (no e) (yes f) = rw f (exchange-first ws i j (in_ws hi) ∙ r.at j hj ∙ ap (record_at xs) (sym (exchange-first zs i j hi)))
      go k h (no e) (no f) = exchange_other ws i j k f e ∙ r.at k h ∙ ap (record_at xs) (sym (exchange_other zs i j k f e))

  reads_shuffle : (m : ℕ) (rs zs ws : List ℕ) → m ≤ length zs → T (in_range (shuffle_bounds m) rs) → Reads xs zs ws
      → Reads xs (shuffle_with m rs zs) (shuffle_with m rs ws)
  unfolding shuffle_with
  reads_shuffle m [] zs ws h i r = r
  reads_shuffle m (s ∷ rs) zs ws h i r =
      let b = (range_cons m s rs).0 i in
      reads_shuffle (m - 1) rs (exchange zs s (m - 1)) (exchange ws s (m - 1)) (rw length-exchange (omega arith)) b.2
      (reads_exchange zs ws s (m - 1) (omega (arith, b.1)) (omega (arith, b.0)) r)

-- ---- the places of an order

pub length-places : (xs ys : List ℕ) → length (places xs ys) ≡ length ys
unfolding places
length-places xs [] = refl
length-places xs (y ∷ ys) = ap suc (length-places xs ys)

pub get_or-places : (xs ys : List ℕ) (i : ℕ) → i < length ys → get_or (places xs ys) i 0 ≡ place_of (get_or ys i 0) xs
unfolding places
get_or-places xs [] i h = absurd (not-suc-le-zero h)
get_or-places xs (y ∷ ys) zero h = refl
get_or-places xs (y ∷ ys) (suc i) h = get_or-places xs ys i (le_of_suc-le-suc h)

module _ (xs ys : List ℕ) (d : Distinct xs) (r : Reorders xs ys) where
  o : Reordered xs ys
  o = reordered xs ys d r

  stands : (i : ℕ) → i < length ys → (place_of (get_or ys i 0) xs < length xs) × (get_or xs (place_of (get_or ys i 0) xs) 0 ≡ get_or ys i 0)
  stands i hi =
      let a = o.among i hi in
      let same : place_of (get_or ys i 0) xs ≡ a.0 = ap (λ (y : ℕ). place_of y xs) (sym a.2) ∙ place_of_lem xs a.0 d a.1 in
      (rw same a.1, ap (record_at xs) same ∙ a.2)

  places_count : length (places xs ys) ≡ length xs
  places_count = length-places xs ys ∙ o.same_length

  places_order : T (is_order (places xs ys))
  places_order = (order_iff (places xs ys)).1 (
    λ i h. let k : i < length ys = rw length-places at h in rw (get_or-places xs ys i k, places_count) (stands i k).0,
    λ i j hi hj e.
        let ki : i < length ys = rw length-places at hi in
        let kj : j < length ys = rw length-places at hj in
        let same : place_of (get_or ys i 0) xs ≡ place_of (get_or ys j 0) xs = sym (get_or-places xs ys i ki) ∙ e ∙ get_or-places xs ys j kj in
        o.distinct i j ki kj (sym (stands i ki).1 ∙ ap (record_at xs) same ∙ (stands j kj).1),
  )

  rolls-same : rolls_into (length xs) (countup (length xs) 0) (places xs ys) ≡ rolls_into (length xs) xs ys
  rolls-same = (one_series xs ys d r).unique rs only.is_in_range gives
    where
      rs : List ℕ
      rs = rolls_into (length xs) (countup (length xs) 0) (places xs ys)

      only : Only (length xs) (countup (length xs) 0) (places xs ys) rs
      only = rw places_count at (rolls_behind_lem (places xs ys) places_order)

      read : Reads xs (shuffle_with (length xs) rs (countup (length xs) 0)) (shuffle_with (length xs) rs xs)
      read = reads_shuffle xs (length xs) rs (countup (length xs) 0) xs (omega (arith, length-countup (length xs) 0)) only.is_in_range (reads_start xs)

      gives : shuffle_with (length xs) rs xs ≡ ys
      gives = ext_get_or 0 (shuffle_with (length xs) rs xs) ys (length-shuffle (length xs) rs xs ∙ sym o.same_length) at
        where
          at : (i : ℕ) → i < length (shuffle_with (length xs) rs xs) → get_or (shuffle_with (length xs) rs xs) i 0 ≡ get_or ys i 0
          at i h =
              let k : i < length ys = omega (arith, length-shuffle (length xs) rs xs, o.same_length) in
              read.at i (omega (arith, read.same))
              ∙ ap (record_at xs) (ap (λ (l : List ℕ). get_or l i 0) only.gives ∙ get_or-places xs ys i k)
              ∙ (stands i k).1

  pub rolls_named : length xs ≤ max_records → seen_order (places xs ys) (replicate (length xs - 1) 0) ≡ (answered 0 0, rolls_into (length xs) xs ys)
  unfolding next rejected
  rolls_named h =
      let order : List ℕ = places xs ys in
      let lent : List ℕ = replicate (length xs - 1) 0 in
      let room : length lent ≡ length xs - 1 = length-replicate (length xs - 1) 0 in
      let values : List ℕ = rolls_into (length xs) xs ys in
      let count : length values ≡ length xs - 1 =
      length_in_range (shuffle_bounds (length xs)) values (truth _ (one_series xs ys d r).is_in_range) ∙ length-shuffle_bounds (length xs) in
      let gives : rolls_behind order (length lent) ≡ done values [] =
      order_done order (length lent) (omega (arith, places_count)) (omega (arith, places_count)) places_order
      ∙ ap (λ (l : List ℕ). done l []) (rw places_count rolls-same) in
      let all : values ++ drop (length values) lent ≡ values =
      ap (λ (l : List ℕ). values ++ l) (drop_of_length-le lent {i = length values} (omega arith)) ∙ append-nil values in
      ap (seen 0 lent) gives ∙ (λ i. (answered 0 0, all i))

-- ---- the runs of a plan, as the words behind rolls name them

module _ (W : Width) where
  pub runs_full : (plan : List (List ℕ)) (rs : List ℕ) → RollablePlan (2 ^ W.bits) plan → T (in_range (joined plan) rs)
      → Paired (FullRun W.bits) plan (runs_named (seen_behind W) plan rs)
  unfolding joined runs_named
  runs_full [] rs g i = tt
  runs_full (bs ∷ plan) rs (b, g) i =
      let s = range_split bs (joined plan) rs i in
      let part : List ℕ = take (length bs) rs in
      (subst (FullRun W.bits bs) (sym (run_named W bs part b s.0)) (run_full W.bits bs part b s.0), runs_full plan (drop (length bs) rs) g s.1)

  pub runs_in : (plan : List (List ℕ)) (rs words : List ℕ) → RollablePlan (2 ^ W.bits) plan → T (in_range (joined plan) rs)
      → Paired InRun (runs_named (seen_behind W) plan rs) words ↔ InRuns W.bits plan rs words
  unfolding joined runs_named
  runs_in [] rs [] g i = (λ x. x, λ x. x)
  runs_in [] rs (w ∷ ws) g i = (λ x. x, λ x. x)
  runs_in (bs ∷ plan) rs [] g i = (λ x. x, λ x. x)
  runs_in (bs ∷ plan) rs (w ∷ ws) (b, g) i =
      let s = range_split bs (joined plan) rs i in
      let later = runs_in plan (drop (length bs) rs) ws g s.1 in
      subst (λ (run : Behind). (InRun run w × Paired InRun (runs_named (seen_behind W) plan (drop (length bs) rs)) ws) ↔ InRuns W.bits (bs ∷ plan) rs (w ∷ ws))
      (sym (run_named W bs (take (length bs) rs) b s.0))
      (λ (r, x). (r.0, r.1, later.0 x), λ (low, high, x). ((low, high), later.1 x))
