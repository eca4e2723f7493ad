-- A sample is two other operations in turn: a list of bounds, whose rolls fill the slots, and a shuffle of the slots from the place after the list's
-- last word on. By the run of the list's batches: short, or done and then the run of the shuffle's. Over every width. Assumes nothing.
--
--   listed, drawn, moved    the list, the sample and the shuffle, past the numbers that do not apply
--   shuffle-short,          the list is done, and the shuffle lacks words or is done too
--     shuffle-done
--   in_turn                 the statement
use mathlib.Core.Path.{◌≡◌, refl, sym, ap, ap₂, ◌∙◌}
use mathlib.Core.Logic.{◌≢◌}
use mathlib.Core.List.{List, ◌++◌}
use Prim.Native.Nat.{ℕ, ◌+◌, ◌-◌, ◌≤◌, zero-le}
use native.Mathlib.Omega.{arith}
use lib.ListN.{length, take, drop, replicate, length-replicate}
use borrow.Author.Tests.{le-ltb}
use Rattle.rules.specs.Cut.{cut}
use Rattle.rules.specs.Limits.{max_bounds, max_records}
use Rattle.rules.specs.Reservoir.{countup, reservoir}
use Rattle.rules.specs.Run.{Taken, Run, ran, short, run, trace, suffices, rolls_of, next, rejected}
use Rattle.rules.specs.Sample.{sample_with}
use Rattle.rules.specs.Shuffle.{shuffle_with, shuffle_plan}
use Rattle.rules.specs.Width.{Width}
use Rattle.rules.proofs.Joining.{run-first-short, length_run}
use Rattle.rules.proofs.Orders.{length-shuffle}
use Rattle.rules.proofs.PinnedCut.{cut_pinned}
use Rattle.rules.proofs.Reservoir.{length-sample}
use Rattle.rules.proofs.Rows.{length-countup}
use Rattle.rules.proofs.Samples.{sample_parts}
use Rattle.rules.proofs.Writing.{whole_list}
use Rattle.answers.specs.Outcome.{Outcome, refused, done, decide, from_run, of_words, shown, left, seen}
use Rattle.answers.specs.Supplied.{supplied, answered}
use Rattle.answers.specs.declared.answer.Answer.{Answer}
use Rattle.std.specs.Prelude.{Ok}
use Rattle.answers.proofs.Deciding.{decide_past, in_count, supplied_enough, no_words, words_done, words_short}
use Rattle.answers.proofs.Supplies.{second_used, second_short, both_enough}
use Rattle.lists.specs.List.{roll_list}
use Rattle.shuffles.specs.Shuffle.{shuffle}
use Rattle.draws.specs.Sample.{sampled, sample}
use Rattle.draws.proofs.Sampling.{bounds_no_zero}
use Rattle.promises.specs.FinalShuffle.{InTurn}

module _ (W : Width) (words : List ℕ) (start : ℕ) (xs : List ℕ) (k : ℕ) (lent : List ℕ) (begun : start ≤ length words)
    (few : length xs ≤ max_records) (some : 1 ≤ k) (size : k ≤ length xs) (room : k ≤ length lent) (bounded : length xs - k ≤ max_bounds) where
  abbrev L : ℕ
  L = W.bits

  abbrev m : ℕ
  m = length xs - k

  abbrev bs : List ℕ
  bs = countup m (k + 1)

  abbrev p : List (List ℕ)
  p = cut W.limit bs

  abbrev q : List (List ℕ)
  q = shuffle_plan W.size k

  -- the statement, of what came of the shuffle and of the sample
  abbrev Ended : Answer → List ℕ → Outcome → Outcome → Type 0
  Ended l slots ho so =
      let (h, ys) = seen l.next slots ho in
      let got : Answer × List ℕ = seen start lent so in
      (l.no ≢ 0 → got ≡ (l, lent))
      × (l.no ≡ 0 → h.no ≢ 0 → got ≡ (record { no = h.no; next = start; rejected = 0; batch = l.next - start - l.rejected + h.batch }, lent))
      × (l.no ≡ 0 → h.no ≡ 0 → got ≡ (record { no = 0; next = h.next; rejected = l.rejected + h.rejected; batch = 0 }, ys ++ drop k lent))

  abbrev filled : List ℕ → List ℕ
  filled js = reservoir (take k xs) (drop k xs) js

  -- of the list's rolls
  abbrev After : Answer → List ℕ → Outcome → Type 0
  After l js so = Ended l (filled js) (shuffle W words l.next (filled js)) so

  abbrev Turns : Outcome → Outcome → Type 0
  Turns lo so = After (shown start lo) (left (replicate m 0) lo) so

  listed : roll_list W words start bs (length (replicate {A = ℕ} m 0)) ≡ decide (of_words L p words start) (from_run L p words start (λ rs. rs))
  unfolding roll_list
  listed =
      decide_past _ _ _ (in_count 0 max_bounds (length bs) zero-le (rw length-countup bounded))
      ∙ decide_past _ _ _ (bounds_no_zero bs (length xs) k refl)
      ∙ decide_past _ _ _ (le-ltb (length (replicate {A = ℕ} m 0)) (length bs) (rw (length-countup, length-replicate {A = ℕ} m 0) (omega arith)))

  drawn : sample W words start xs k (length lent) ≡ decide (of_words L (p ++ q) words start) (sampled W words start xs k)
  unfolding sample
  drawn =
      decide_past _ _ _ (in_count 0 max_records (length xs) zero-le few)
      ∙ decide_past _ _ _ (in_count 1 (length xs) k some size)
      ∙ decide_past _ _ _ (le-ltb (length lent) k room)

  moved : (from : ℕ) (ys : List ℕ) → length ys ≡ k
      → shuffle W words from ys ≡ decide (of_words L q words from) (from_run L q words from (λ rs. shuffle_with k rs ys))
  unfolding shuffle
  moved from ys e =
      decide_past _ _ _ (in_count 0 max_records (length ys) zero-le (omega arith))
      ∙ ap (λ (i : ℕ). decide (of_words L (shuffle_plan W.size i) words from) (from_run L (shuffle_plan W.size i) words from (λ rs. shuffle_with i rs ys))) e

  -- a number is 0, or it is not
  none : {A : Type 0} → ◌≡◌ {A = ℕ} 10 0 → A
  none z = absurd (let n : ⊥ = omega arith in n)

  some_number : {A : Type 0} → (◌≡◌ {A = ℕ} 0 0 → ⊥) → A
  some_number d = absurd (d refl)

  -- what came of the sample
  abbrev so : Outcome
  so = decide (of_words L (p ++ q) words start) (sampled W words start xs k)

  -- the list is done
  module _ (ts : List Taken) (e : run L p words start ≡ ran ts) where
    abbrev js : List ℕ
    js = rolls_of L p ts

    abbrev from : ℕ
    from = next start ts

    abbrev list_done : Answer
    list_done = shown start (done js ts)

    supply : supplied start (run L p words start) ≡ Ok (record { next = from; rejected = rejected start ts })
    supply = ap (supplied start) e

    rolled : length js ≡ m
    rolled =
        ap (λ (r : Run). length (rolls_of L p (trace r))) (sym e) ∙ length_run L p words start (ap suffices e)
        ∙ ap length (cut_pinned.holds W.limit bs).same ∙ length-countup m (k + 1)

    within : from ≤ length words
    within = (second_used L p q words start begun from (rejected start ts) supply).2

    slots-count : length (filled js) ≡ k
    slots-count = length-sample xs js k size

    shuffle-short : (j : ℕ) → run L q words from ≡ short j → Ended list_done (filled js) (shuffle W words from (filled js)) so
    shuffle-short j f =
        let both = (second_short L p q words start begun from (rejected start ts) supply j (ap (supplied from) f)).0 in
        let o : so ≡ refused 10 (from - start - rejected start ts + j) = words_short L (p ++ q) words start _ begun _ both in
        let h : shuffle W words from (filled js) ≡ refused 10 j = moved from (filled js) slots-count ∙ no_words L q words from _ within j f in
        rw (o, h) (some_number, (λ a d. refl), λ a z. none z)

    shuffle-done : (us : List Taken) → run L q words from ≡ ran us → Ended list_done (filled js) (shuffle W words from (filled js)) so
    shuffle-done us f =
        let R : Run = run L (p ++ q) words start in
        let ys : List ℕ = shuffle_with k (rolls_of L q us) (filled js) in
        let (both, fits, rolls) = both_enough L p q words start begun from (rejected start ts) supply (next from us) (rejected from us) (ap (supplied from) f) in
        let known = supplied_enough start R (next from us) (rejected start ts + rejected from us) both in
        let parts : rolls_of L (p ++ q) (trace R) ≡ js ++ rolls_of L q us
        = rolls ∙ ap₂ (λ (x y : Run). rolls_of L p (trace x) ++ rolls_of L q (trace y)) e f in
        let values : sample_with k (rolls_of L (p ++ q) (trace R)) xs ≡ ys
        = ap (λ (l : List ℕ). sample_with k l xs) parts ∙ sample_parts k xs js (rolls_of L q us) (omega (arith, rolled)) in
        let o : so ≡ done ys (trace R)
        = words_done L (p ++ q) words start _ begun known.enough ∙ ap (λ (l : List ℕ). done l (trace R)) values in
        let h : shuffle W words from (filled js) ≡ done ys us
        = moved from (filled js) slots-count ∙ words_done L q words from _ within (ap suffices f)
        ∙ ap (λ (x : Run). done (shuffle_with k (rolls_of L q (trace x)) (filled js)) (trace x)) f in
        let long : length ys ≡ k = length-shuffle k (rolls_of L q us) (filled js) ∙ slots-count in
        let full : ys ≡ ys ++ drop (length ys) (filled js) = whole_list ys (filled js) (long ∙ sym slots-count) in
        let same : ◌≡◌ {A = Answer × List ℕ} (shown start (done ys (trace R)), left lent (done ys (trace R)))
        (answered (next from us) (rejected start ts + rejected from us), (ys ++ drop (length ys) (filled js)) ++ drop k lent)
        = ap₂ (λ (a : Answer) (l : List ℕ). (a, l)) (ap₂ answered known.place known.passed)
        (ap (λ (i : ℕ). ys ++ drop i lent) long ∙ ap (λ (l : List ℕ). l ++ drop k lent) full) in
        rw (o, h) (some_number, (λ a d. some_number d), λ a z. same)

    after_list : (r : Run) → run L q words from ≡ r → Ended list_done (filled js) (shuffle W words from (filled js)) so
    after_list (short j) f = shuffle-short j f
    after_list (ran us) f = shuffle-done us f

  -- what came of the list
  abbrev lo : Outcome
  lo = decide (of_words L p words start) (from_run L p words start (λ rs. rs))

  by_list : (r : Run) → run L p words start ≡ r → Turns lo so
  by_list (short j) e =
      let o : so ≡ refused 10 j = no_words L (p ++ q) words start _ begun j (run-first-short L q words p start j e) in
      rw (no_words L p words start _ begun j e, o) ((λ d. refl), (λ z d. none z), λ z d. none z)
  by_list (ran ts) e =
      let o : lo ≡ done (js ts e) ts
      = words_done L p words start _ begun (ap suffices e) ∙ ap (λ (x : Run). done (rolls_of L p (trace x)) (trace x)) e in
      let whole : js ts e ≡ js ts e ++ drop (length (js ts e)) (replicate m 0) = whole_list (js ts e) (replicate m 0) (rolled ts e ∙ sym (length-replicate {A = ℕ} m 0)) in
      rw (o, ← whole) (after_list ts e (run L q words (from ts e)) refl)

  turns : Turns (roll_list W words start bs (length (replicate {A = ℕ} m 0))) (sample W words start xs k (length lent))
  turns = rw (listed, drawn) (by_list (run L p words start) refl)

pub in_turn : (W : Width) → InTurn W
in_turn W words start xs k lent begun few some size room bounded = turns W words start xs k lent begun few some size room bounded
