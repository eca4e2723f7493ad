-- The sample by given rolls: the reservoir by the first of them, the shuffle of its slots by the others. Assumes nothing.
--
--   sample_bounds_lem                    its bounds, place by place
--   sample_parts, sample_pinned      the rolls in two parts; nothing is lost
--   range_parts                      rolls in range are so in both parts
--   length_drawn                     k values
--   shuffle-map, shuffle-places      records under other names are shuffled alike; so a shuffle puts at a place what stood at the place that the shuffle
--                                    of 0, 1, .. puts there
--   row_distinct, shuffle-row,       0, 1, .., and their shuffle: each of them once, at its place
--     row_among, row_place
--   sample-places                    a sample of records is the records at the places that a sample of the places has
--   plan-append, sample-plan         its batches
use mathlib.Core.Path.{◌≡◌, refl, sym, ap, ap₂, ◌∙◌}
use mathlib.Core.List.{List, [], ◌∷◌, ◌++◌, map, append_assoc}
use Prim.Native.Nat.{ℕ, zero, suc, ◌+◌, ◌-◌, ◌<◌, ◌≤◌}
use native.Mathlib.Nat.{le_of_suc-le-suc, not-suc-le-zero}
use native.Mathlib.Omega.{arith}
use lib.Dec.{T}
use lib.ListN.{length, take, drop, set, get_or, length-append, get_or-append}
use lib.Seq.{take_at, drop_at, take-length, get_or-drop}
use Rattle.rules.specs.Cut.{cut}
use Rattle.rules.specs.Order.{count, place_of, Distinct}
use Rattle.rules.specs.Pinned.{Open, SampleBoundsPinned, SamplePinned}
use Rattle.rules.specs.Plan.{joined, RollablePlan, PlanOf}
use Rattle.rules.specs.Reservoir.{countup, reservoir}
use Rattle.rules.specs.Rolls.{in_range}
use Rattle.rules.specs.Sample.{sample_bounds, sample_with}
use Rattle.rules.specs.Shuffle.{exchange, shuffle_with, shuffle_bounds, shuffle_plan}
use Rattle.rules.proofs.CutPlans.{reservoir-plan}
use Rattle.rules.proofs.Counting.{counted, count_among}
use Rattle.rules.proofs.Exchanging.{length-exchange}
use Rattle.rules.proofs.Orders.{place_at, range_cons, length-shuffle, shuffle_reorders, Reordered, reordered}
use Rattle.rules.proofs.PinnedShuffle.{shuffle_pinned}
use Rattle.rules.proofs.Range.{range_split}
use Rattle.rules.proofs.Reservoir.{length-sample, map-set, reservoir-places}
use Rattle.rules.proofs.Rows.{length-countup, get_or-countup, map-places, length-shuffle_bounds, get_or-countdown}
use Rattle.rules.proofs.ShufflePlans.{GoodSizes, shuffle-plan}

-- ---- the bounds

get_or-behind : (xs ys : List ℕ) (i : ℕ) → length xs ≤ i → get_or (xs ++ ys) i 0 ≡ get_or ys (i - length xs) 0
get_or-behind xs ys i h =
    let e : length xs + (i - length xs) ≡ i = omega arith in
    ap (λ (m : ℕ). get_or (xs ++ ys) m 0) (sym e) ∙ sym (get_or-drop (length xs) (xs ++ ys) (i - length xs) 0)
    ∙ ap (λ (l : List ℕ). get_or l (i - length xs) 0) (drop_at xs ys (length xs) refl)

pub sample_bounds_lem : (n k : ℕ) → 1 ≤ k → k ≤ n → SampleBoundsPinned n k
sample_bounds_lem n k p h = record {
  count = length-append (countup (n - k) (k + 1)) (shuffle_bounds k) ∙ omega (arith, length-countup (n - k) (k + 1), length-shuffle_bounds k);
  reservoir = λ i l.
      get_or-append (countup (n - k) (k + 1)) (shuffle_bounds k) 0 i (rw length-countup l) ∙ get_or-countup (n - k) (k + 1) i l;
  shuffle = λ i l b.
      let m : length (countup (n - k) (k + 1)) ≡ n - k = length-countup (n - k) (k + 1) in
      get_or-behind (countup (n - k) (k + 1)) (shuffle_bounds k) i (rw m l) ∙ ap (λ (j : ℕ). get_or (shuffle_bounds k) (i - j) 0) m
      ∙ get_or-countdown (k - 1) k (i - (n - k)) (omega arith) ∙ omega arith;
}

-- ---- the rolls in two parts

pub sample_parts : (k : ℕ) (xs js rs : List ℕ) → k + length js ≡ length xs
    → sample_with k (js ++ rs) xs ≡ shuffle_with k rs (reservoir (take k xs) (drop k xs) js)
unfolding sample_with
sample_parts k xs js rs e =
    let n : length js ≡ length xs - k = omega arith in
    ap₂ (λ (a b : List ℕ). shuffle_with k a (reservoir (take k xs) (drop k xs) b)) (drop_at js rs (length xs - k) n) (take_at js rs (length xs - k) n)

pub sample_pinned : (k : ℕ) (xs js rs : List ℕ) → k + length js ≡ length xs → Open k rs → SamplePinned k xs js rs
sample_pinned k xs js rs e o =
    let slots : List ℕ = reservoir (take k xs) (drop k xs) js in
    let n : length slots ≡ k = length-sample xs js k (omega arith) in
    let whole = (shuffle_pinned k slots rs (omega arith) o).reorders (length rs) in record {
      parts = sample_parts k xs js rs e;
      reorders = λ x. ap (count x) (sample_parts k xs js rs e ∙ ap (λ (l : List ℕ). shuffle_with k l slots) (sym (take-length rs))) ∙ whole x;
    }

pub range_parts : (n k : ℕ) (rs : List ℕ) → T (in_range (sample_bounds n k) rs)
    → T (in_range (countup (n - k) (k + 1)) (take (n - k) rs)) × T (in_range (shuffle_bounds k) (drop (n - k) rs))
range_parts n k rs t = rw (length-countup (n - k) (k + 1)) at (range_split (countup (n - k) (k + 1)) (shuffle_bounds k) rs t)

pub length_drawn : (k : ℕ) (rs xs : List ℕ) → k ≤ length xs → length (sample_with k rs xs) ≡ k
unfolding sample_with
length_drawn k rs xs h = length-shuffle k _ _ ∙ length-sample xs _ k h

-- ---- records under other names

get_d_map : (f : ℕ → ℕ) (xs : List ℕ) (i : ℕ) → i < length xs → get_or (map f xs) i 0 ≡ f (get_or xs i 0)
get_d_map f [] i h = absurd (not-suc-le-zero h)
get_d_map f (x ∷ xs) zero h = refl
get_d_map f (x ∷ xs) (suc i) h = get_d_map f xs i (le_of_suc-le-suc h)

exchange-map : (f : ℕ → ℕ) (xs : List ℕ) (i j : ℕ) → i < length xs → j < length xs → exchange (map f xs) i j ≡ map f (exchange xs i j)
unfolding exchange
exchange-map f xs i j a b =
    ap₂ (λ (x y : ℕ). set (set (map f xs) i x) j y) (get_d_map f xs j b) (get_d_map f xs i a)
    ∙ ap (λ (l : List ℕ). set l j (f (get_or xs i 0))) (map-set f xs i (get_or xs j 0)) ∙ map-set f (set xs i (get_or xs j 0)) j (get_or xs i 0)

pub shuffle-map : (f : ℕ → ℕ) (m : ℕ) (rs xs : List ℕ) → m ≤ length xs → T (in_range (shuffle_bounds m) rs)
    → shuffle_with m rs (map f xs) ≡ map f (shuffle_with m rs xs)
unfolding shuffle_with
shuffle-map f m [] xs h t = refl
shuffle-map f m (r ∷ rs) xs h t =
    let (l, b, i) = (range_cons m r rs).0 t in
    ap (shuffle_with (m - 1) rs) (exchange-map f xs r (m - 1) (omega arith) (omega arith))
    ∙ shuffle-map f (m - 1) rs (exchange xs r (m - 1)) (rw length-exchange (omega arith)) i

-- the numbers 0, 1, .., k - 1, shuffled
abbrev row : ℕ → List ℕ → List ℕ
row k rs = shuffle_with k rs (countup k 0)

length-row : (k : ℕ) (rs : List ℕ) → length (row k rs) ≡ k
length-row k rs = length-shuffle k rs (countup k 0) ∙ length-countup k 0

pub shuffle-places : (xs rs : List ℕ) (i : ℕ) → T (in_range (shuffle_bounds (length xs)) rs) → i < length xs
    → get_or (shuffle_with (length xs) rs xs) i 0 ≡ get_or xs (get_or (shuffle_with (length xs) rs (countup (length xs) 0)) i 0) 0
shuffle-places xs rs i t h =
    let k : ℕ = length xs in
    ap (λ (l : List ℕ). get_or (shuffle_with k rs l) i 0) (sym (map-places xs))
    ∙ ap (λ (l : List ℕ). get_or l i 0) (shuffle-map (λ p. get_or xs p 0) k rs (countup k 0) (rw length-countup (omega arith)) t)
    ∙ get_d_map (λ p. get_or xs p 0) (row k rs) i (rw length-row h)

pub row_distinct : (n : ℕ) → Distinct (countup n 0)
row_distinct n i j a b e =
    let x = get_or-countup n 0 i (rw length-countup at a) in
    let y = get_or-countup n 0 j (rw length-countup at b) in
    omega arith

-- each of 0, 1, .., k - 1 stands at one place of the row when it is shuffled
pub shuffle-row : (k : ℕ) (rs : List ℕ) → T (in_range (shuffle_bounds k) rs) → Reordered (countup k 0) (shuffle_with k rs (countup k 0))
shuffle-row k rs t =
    reordered (countup k 0) (row k rs) (row_distinct k) (shuffle_reorders k rs (countup k 0) (rw length-countup (omega arith)) t)

pub row_among : (k : ℕ) (rs : List ℕ) (i : ℕ) → T (in_range (shuffle_bounds k) rs) → i < k → get_or (shuffle_with k rs (countup k 0)) i 0 < k
row_among k rs i t h =
    let (p, b, e) = (shuffle-row k rs t).among i (rw length-row h) in
    let l : p < k = rw length-countup at b in
    omega (arith, e, get_or-countup k 0 p l)

pub row_place : (k : ℕ) (rs : List ℕ) (x : ℕ) → T (in_range (shuffle_bounds k) rs) → x < k → let ys : List ℕ = shuffle_with k rs (countup k 0) in
    (place_of x ys < k) × (get_or ys (place_of x ys) 0 ≡ x)
row_place k rs x t h =
    let first = counted x (countup k 0) x (rw length-countup h) (get_or-countup k 0 x h ∙ omega arith) in
    let same = shuffle_reorders k rs (countup k 0) (rw length-countup (omega arith)) t x in
    let (l, e) = place_at x (row k rs) (count_among x (row k rs) (omega arith)) in
    (rw length-row at l, e)

-- so a sample of some records is those at the places that the sample of their places has
pub sample-places : (xs rs : List ℕ) (k : ℕ) → k ≤ length xs → T (in_range (sample_bounds (length xs) k) rs)
    → sample_with k rs xs ≡ map (λ p. get_or xs p 0) (sample_with k rs (countup (length xs) 0))
unfolding sample_with
sample-places xs rs k h t =
    let n : ℕ = length xs in
    let places : List ℕ = countup n 0 in
    let js : List ℕ = take (n - k) rs in
    let slots : List ℕ = reservoir (take k places) (drop k places) js in
    let m : length slots ≡ k = length-sample places js k (rw length-countup h) in
    ap (shuffle_with k (drop (n - k) rs)) (reservoir-places xs js k)
    ∙ shuffle-map (λ p. get_or xs p 0) k (drop (n - k) rs) slots (omega arith) (range_parts n k rs t).1
    ∙ rw (length-countup n 0)

-- ---- the batches

joined-append : (p q : List (List ℕ)) → joined (p ++ q) ≡ joined p ++ joined q
unfolding joined
joined-append [] q = refl
joined-append (bs ∷ p) q = ap (λ (l : List ℕ). bs ++ l) (joined-append p q) ∙ sym (append_assoc bs (joined p) (joined q))

rollable_append : (most : ℕ) (p q : List (List ℕ)) → RollablePlan most p → RollablePlan most q → RollablePlan most (p ++ q)
rollable_append most [] q a b = b
rollable_append most (bs ∷ p) q (r, a) b = (r, rollable_append most p q a b)

pub sample-plan : (size : ℕ → ℕ) (limit most top : ℕ) → limit ≤ most → GoodSizes size most top → (n k : ℕ) → n ≤ most → k ≤ top
    → PlanOf most (sample_bounds n k) (cut limit (countup (n - k) (k + 1)) ++ shuffle_plan size k)
sample-plan size limit most top l g n k h b =
    let p : List (List ℕ) = cut limit (countup (n - k) (k + 1)) in
    let first = reservoir-plan limit most l n k h in
    let second = shuffle-plan g k b in record {
      same = joined-append p (shuffle_plan size k) ∙ ap₂ ◌++◌ first.same second.same;
      rollable = rollable_append most p (shuffle_plan size k) first.rollable second.rollable;
    }
