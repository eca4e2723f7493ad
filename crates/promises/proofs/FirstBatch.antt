-- A shuffle that works the first batch only, on any number of records. Its order is that of another series of rolls: the first batch's, and
-- then rolls that exchange each record with itself. Two series never give one order, so from two batches on it goes wrong. Assumes nothing.
--
--   mixed s n     s rolls of 0, and then the rolls that exchange each record with itself
--   stand_ins3    the stand-ins of demand 3
use mathlib.Core.Path.{◌≡◌, refl, sym, ap, ◌∙◌, subst}
use mathlib.Core.Bool.{Bool, true, false}
use mathlib.Core.List.{List, [], ◌∷◌}
use Prim.Native.Nat.{ℕ, zero, suc, ◌-◌, ◌<◌, ◌≤◌}
use native.Mathlib.Nat.{le_refl, not-suc-le-zero, le_of_suc-le-suc}
use native.Mathlib.Omega.{arith}
use lib.Dec.{T, leb, lit≤, lit<}
use lib.ListN.{length, take, drop, get_or, set, replicate}
use lib.Seq.{set-get_or, take_all}
use borrow.Author.Tests.{le-leb, lt-leb}
use Rattle.rules.specs.Limits.{max_records}
use Rattle.rules.specs.Order.{Distinct}
use Rattle.rules.specs.Plan.{joined}
use Rattle.rules.specs.Reservoir.{countup}
use Rattle.rules.specs.Rolls.{rolls, rest, product, in_range}
use Rattle.rules.specs.Run.{find, run, run_from, trace, rolls_of, next, rejected}
use Rattle.rules.specs.Shuffle.{exchange, shuffle_with, countdown, shuffle_bounds, shuffle_plan_from, shuffle_plan}
use Rattle.rules.specs.Width.{w64, size64}
use Rattle.rules.proofs.Each.{countup_distinct}
use Rattle.rules.proofs.Orders.{range_cons, shuffle_reorders, one_series}
use Rattle.rules.proofs.Range.{length_in_range}
use Rattle.rules.proofs.Reach.{rolled_in_range, words_in_runs}
use Rattle.rules.proofs.Rows.{length-countup, no_bounds, get_or-countdown, length-shuffle_bounds}
use Rattle.rules.proofs.Widths.{good64}
use Rattle.answers.specs.Outcome.{decide}
use Rattle.runs.specs.Behind.{seen_behind}
use Rattle.orders.specs.Order.{seen_order}
use Rattle.shuffles.specs.Shuffle.{shuffle_refusals, shuffle, seen_shuffle}
use Rattle.shuffles.proofs.Reach.{shuffle_rolls}
use Rattle.promises.specs.Demand1.{Callable, first_of}
use Rattle.promises.specs.Demand3.{Demand3At, Demand3}
use Rattle.promises.specs.FirstBatch.{StandIns3}
use Rattle.promises.specs.Shuffle.{Op, MovesNothing, FirstBatchOnly}
use Rattle.promises.proofs.Calls.{one_number}
use Rattle.promises.proofs.Demand3.{produces, same_at, demand3}
use Rattle.promises.proofs.Firsts.{firsts, firsts_count, firsts_in, firsts_below}
use Rattle.rules.proofs.Facts.{truth}
use Rattle.promises.proofs.Refusing.{beside_refused, named_no, named_words}
use Rattle.promises.proofs.Shuffle.{plan_fits, demand1}

-- ---- rolls of 0, and then rolls that exchange each record with itself

mixed : ℕ → ℕ → List ℕ
mixed zero n = countdown (n - 1) (n - 1)
mixed (suc s) n = 0 ∷ mixed s (n - 1)

own_range : (k n : ℕ) → k ≡ n - 1 → T (in_range (shuffle_bounds n) (countdown k k))
unfolding countdown in_range
own_range zero n e = rw (no_bounds n (omega arith)) tt
own_range (suc k) n e =
    let f : suc k - 1 ≡ k = omega arith in
    (range_cons n (suc k) (countdown k (suc k - 1))).1 (omega arith, omega arith, rw f (own_range k (n - 1) (omega arith)))

mixed_range : (s n : ℕ) → s < n → T (in_range (shuffle_bounds n) (mixed s n))
unfolding mixed
mixed_range zero n h = own_range (n - 1) n refl
mixed_range (suc s) n h = (range_cons n 0 (mixed s (n - 1))).1 (omega arith, omega arith, mixed_range s (n - 1) (omega arith))

mixed_differ : (s t n : ℕ) → s < t → t < n → mixed s n ≡ mixed t n → ⊥
unfolding mixed
mixed_differ s zero n h k e = not-suc-le-zero h
mixed_differ zero (suc t) n h k e =
    let z : get_or (countdown (n - 1) (n - 1)) 0 0 ≡ 0 = ap (λ (l : List ℕ). get_or l 0 0) e in
    omega (arith, get_or-countdown (n - 1) (n - 1) 0 (omega arith))
mixed_differ (suc s) (suc t) n h k e = mixed_differ s t (n - 1) (omega arith) (omega arith) (ap (drop 1) e)

take_mixed : (s t n : ℕ) → s ≤ t → take s (mixed t n) ≡ replicate s 0
unfolding mixed
take_mixed zero t n h = refl
take_mixed (suc s) zero n h = absurd (not-suc-le-zero h)
take_mixed (suc s) (suc t) n h = ap (λ (l : List ℕ). 0 ∷ l) (take_mixed s t (n - 1) (le_of_suc-le-suc h))

stays : (k n : ℕ) (xs : List ℕ) → shuffle_with n (countdown k (n - 1)) xs ≡ xs
unfolding shuffle_with countdown exchange
stays zero n xs = refl
stays (suc k) n xs =
    stays k (n - 1) (exchange xs (n - 1) (n - 1))
    ∙ ap (λ (l : List ℕ). set l (n - 1) (get_or xs (n - 1) 0)) (set-get_or xs (n - 1) 0) ∙ set-get_or xs (n - 1) 0

mixed_shuffles : (s n : ℕ) (xs : List ℕ) → shuffle_with n (mixed s n) xs ≡ shuffle_with n (replicate s 0) xs
unfolding mixed shuffle_with
mixed_shuffles zero n xs = stays (n - 1) n xs
mixed_shuffles (suc s) n xs = mixed_shuffles s (n - 1) (exchange xs 0 (n - 1))

-- ---- the sizes

size_small : (n : ℕ) → n ≤ 7 → n - 1 ≤ size64 n
unfolding size64
size_small n h = go (leb n 6) refl
  where
    go : (b : Bool) → leb n 6 ≡ b → n - 1 ≤ size64 n
    go true e = rw (e, size64) (le_refl (n - 1))
    go false e = rw (e, le-leb n 512 (omega arith), size64) (omega arith)

size_large : (n : ℕ) → 8 ≤ n → size64 n ≤ 6
unfolding size64
size_large n h = go (leb n 512) refl (leb n 2048) refl
  where
    go : (a : Bool) → leb n 512 ≡ a → (b : Bool) → leb n 2048 ≡ b → size64 n ≤ 6
    go true e b f = rw (lt-leb n 6 (omega arith), e, size64) (omega arith)
    go false e true f = rw (lt-leb n 6 (omega arith), e, f, size64) (omega arith)
    go false e false f = rw (lt-leb n 6 (omega arith), e, f, size64) (omega arith)

-- ---- the demand

-- the number that our shuffle gives is the first refusal's
right_number : (words xs : List ℕ) → Callable 64 words → (seen_shuffle w64 words 0 xs).0.no ≡ (first_of (shuffle_refusals w64 words 0 (length xs))).number
right_number words xs w = (demand1 w64 words 0 xs w).lowest

module _ (op : Op) (f : FirstBatchOnly w64 op) where
  same_number : (words xs : List ℕ) → Callable 64 words → (op words 0 xs).0.no ≡ (seen_shuffle w64 words 0 xs).0.no
  same_number words xs w = f.refuses words 0 xs ∙ sym (right_number words xs w)

  goes_wrong : (xs : List ℕ) → Distinct xs → 8 ≤ length xs → length xs ≤ max_records → Demand3At w64 op (seen_behind w64) seen_order (length xs) → ⊥
  goes_wrong xs d low high demand =
      let n : ℕ = length xs in
      let s : ℕ = size64 n in
      let less : s ≤ 6 = size_large n low in
      let plan : List (List ℕ) = shuffle_plan size64 n in
      let good = plan_fits w64 good64 n high in
      let rs : List ℕ = mixed (n - 1) n in
      let own : List ℕ = mixed s n in
      let range : T (in_range (shuffle_bounds n) rs) = mixed_range (n - 1) n (omega arith) in
      let own_in : T (in_range (shuffle_bounds n) own) = mixed_range s n (omega arith) in
      let words : List ℕ = firsts 64 plan rs in
      let below : Callable 64 words = firsts_below 64 plan rs good.rollable (rw good.same range) in
      let count : length words ≡ length plan = firsts_count 64 plan rs in
      let (t, e) = (words_in_runs 64 plan rs words good.rollable (rw good.same range) count below).1 (firsts_in 64 plan rs good.rollable) in
      let made = (produces w64 words xs (shuffle_with n (shuffle_rolls w64 words 0 xs) xs) high).1 (t, refl) in
      let allowed : (op words 0 xs).0.no ≡ 0 = same_number words xs below ∙ made.0 in
      let ys : List ℕ = shuffle_with n own xs in
      let reorders = shuffle_reorders n own xs (le_refl n) own_in in
      let given : (op words 0 xs).1 ≡ ys =
      f.moves words 0 xs allowed ∙ ap (λ (l : List ℕ). shuffle_with n (take s l) xs) e
      ∙ ap (λ (l : List ℕ). shuffle_with n l xs) (take_mixed s (n - 1) n (omega arith)) ∙ sym (mixed_shuffles s n xs) in
      let in-runs = ((demand xs ys refl d reorders).2 words count below).0 (allowed, given) in
      let truly = ((demand3 w64 good64 n high xs ys refl d reorders).2 words count below).1 in-runs in
      let (u, g) = (produces w64 words xs ys high).0 truly in
      let one = one_series xs ys d reorders in
      let same : own ≡ rs = one.unique own own_in refl ∙ sym (one.unique rs range (ap (λ (l : List ℕ). shuffle_with n l xs) (sym e) ∙ g)) in
      mixed_differ s (n - 1) n (omega arith) (omega arith) same

  fails_from_eight : (n : ℕ) → 8 ≤ n → n ≤ max_records → Demand3At w64 op (seen_behind w64) seen_order n → ⊥
  fails_from_eight n low high demand =
      let e : length (countup n 0) ≡ n = length-countup n 0 in
      goes_wrong (countup n 0) (countup_distinct n) (rw e low) (rw e high) (subst (Demand3At w64 op (seen_behind w64) seen_order) (sym e) demand)

  -- the rolls of one batch are all the rolls
  same_list : (words xs : List ℕ) → length xs ≤ 7 → Callable 64 words → (seen_shuffle w64 words 0 xs).0.no ≡ 0 → (op words 0 xs).1 ≡ (seen_shuffle w64 words 0 xs).1
  same_list words xs h w z =
      let n : ℕ = length xs in
      let plan : List (List ℕ) = shuffle_plan size64 n in
      let rs : List ℕ = shuffle_rolls w64 words 0 xs in
      let good = plan_fits w64 good64 n (omega arith) in
      let (t, e) = (produces w64 words xs (seen_shuffle w64 words 0 xs).1 (omega arith)).0 (z, refl) in
      let count : length rs ≡ length (joined plan) = length_in_range (joined plan) rs (truth _ (rolled_in_range 64 words w plan 0 0 good.rollable t)) in
      let all : take (size64 n) rs ≡ rs = take_all (size64 n) rs (omega (arith, ap length good.same, length-shuffle_bounds n, size_small n h)) in
      f.moves words 0 xs (same_number words xs w ∙ z) ∙ ap (λ (l : List ℕ). shuffle_with n l xs) all ∙ e

  holds_to_seven : (n : ℕ) → n ≤ 7 → Demand3At w64 op (seen_behind w64) seen_order n
  holds_to_seven n h = same_at w64 good64 op n (omega arith) (λ xs ys words e w. (
    λ (z, g). let y = sym (same_number words xs w) ∙ z in (y, sym (same_list words xs (rw e h) w y) ∙ g),
    λ (z, g). (same_number words xs w ∙ z, same_list words xs (rw e h) w z ∙ g),
  ))

-- ---- the stand-ins

-- two records, word 0: exchanged
moves_nothing : (op : Op) → MovesNothing op → Demand3 w64 op (seen_behind w64) seen_order → ⊥
unfolding product rest rolls find run_from rolls_of next rejected decide size64 shuffle shuffle_plan_from countdown shuffle_with exchange countup in_range
moves_nothing op m d =
    let xs : List ℕ = 0 ∷ 1 ∷ [] in
    let ys : List ℕ = 1 ∷ 0 ∷ [] in
    let h = lit≤ {m = 2} {n = 16384} tt in
    let reorders = shuffle_reorders 2 (0 ∷ []) xs (lit≤ tt) tt in
    let w = one_number 0 (lit< tt) in
    let in-runs = ((demand3 w64 good64 2 h xs ys refl (countup_distinct 2) reorders).2 (0 ∷ []) refl w).0 (refl, refl) in
    let (y, e) = ((d 2 h xs ys refl (countup_distinct 2) reorders).2 (0 ∷ []) refl w).1 in-runs in
    let z : ◌≡◌ {A = ℕ} 0 1 = ap (λ (l : List ℕ). get_or l 0 0) (sym (m (0 ∷ []) 0 xs) ∙ e) in
    omega arith

-- a shuffle that works the first batch only; on words that no call can hold it answers as the definitions do
first_batch : Op
first_batch words start xs =
    let plan : List (List ℕ) = shuffle_plan size64 (length xs) in
    let rs : List ℕ = rolls_of 64 plan (trace (run 64 plan words start)) in
    ((seen_shuffle w64 words start xs).0, shuffle_with (length xs) (take (size64 (length xs)) rs) xs)

first_some : (op : Op) × FirstBatchOnly w64 op
unfolding first_batch shuffle
first_some = (
  first_batch,
  record {
    refuses = λ words start xs. (beside_refused start xs (shuffle_refusals w64 words start (length xs))
        (named_no 2 _ _ (named_words 64 (shuffle_plan w64.size (length xs)) words start)) _ _ (seen_shuffle w64 words start xs) refl).lowest;
    moves = λ words start xs z. refl;
  },
)

pub stand_ins3 : StandIns3
stand_ins3 = record { nothing = moves_nothing; from_eight = fails_from_eight; to_seven = holds_to_seven; some = first_some }
