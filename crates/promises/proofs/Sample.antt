-- The sample. Assumes nothing.
--
--   plan_fits        the batches of a sample can be rolled
--   could_come_up    every record can come up, in every slot
--   promise          the promise, at 64 bits
use mathlib.Core.Path.{◌≡◌, refl, sym, ap, ◌∙◌}
use mathlib.Core.Bool.{false}
use mathlib.Core.List.{List, [], ◌∷◌, ◌++◌}
use Prim.Native.Nat.{ℕ, ◌^◌, ◌≤◌}
use native.Mathlib.Nat.{le_refl, le_of_lt, le_trans}
use native.Mathlib.Omega.{arith}
use lib.Dec.{ltb, lit<}
use lib.ListN.{length, drop, get_or}
use borrow.Author.Tests.{ltb-false}
use Rattle.rules.specs.Cut.{cut, cut_from}
use Rattle.rules.specs.Limits.{max_records}
use Rattle.rules.specs.Plan.{PlanOf}
use Rattle.rules.specs.Reservoir.{countup, reservoir}
use Rattle.rules.specs.Rolls.{rolls, rest, product}
use Rattle.rules.specs.Run.{Run, find, run, run_from, trace, rolls_of, next, rejected}
use Rattle.rules.specs.Sample.{sample_bounds, sample_with}
use Rattle.rules.specs.Shuffle.{exchange, shuffle_with, countdown, shuffle_plan_from}
use Rattle.rules.specs.Width.{Width, size64, w64}
use Rattle.rules.proofs.Facts.{or_right}
use Rattle.rules.proofs.Samples.{row_distinct, length_drawn, sample-plan}
use Rattle.rules.proofs.ShufflePlans.{sizes_more}
use Rattle.rules.proofs.Widths.{GoodWidth, good64}
use Rattle.answers.specs.Outcome.{decide, outside, shown}
use Rattle.answers.specs.declared.answer.Answer.{Answer}
use Rattle.draws.specs.Sample.{sample_plan, sample_refusals, sample, seen_sample}
use Rattle.promises.specs.Demand1.{Callable, first_of}
use Rattle.promises.specs.Demand2.{Allowed, ByMethod}
use Rattle.promises.specs.Sample.{Op, Numbers, Demand1, Demand2, Bounds, Settled, StandIns, CouldComeUp, Promise, BatchNamed}
use Rattle.promises.proofs.Calls.{below_nil, word_0, word_half, words_01, words_11}
use Rattle.promises.proofs.CouldComeUp.{comes_up}
use Rattle.promises.proofs.Method.{by_method, same_seen}
use Rattle.promises.proofs.Which.{differ}
use Rattle.promises.proofs.Refusing.{beside_refused, allowed_cons, allowed_done, named_no, named_words, numbered_no, numbered_words, settle, ten_last, names_batch, ten_no, ten_words}
use Rattle.promises.proofs.Shuffle.{few_records}

numbers : (W : Width) → Numbers W
numbers W words start n k room = ten_last (run W.bits (sample_plan W n k) words start) (2 ∷ 3 ∷ 6 ∷ 9 ∷ [])

bounds : (W : Width) → GoodWidth W → Bounds W
bounds W g n k h l = sample-plan W.size W.limit W.limit max_records (le_refl W.limit) g.sizes n k (le_trans h g.records) l

pub plan_fits : (W : Width) → GoodWidth W → (n k : ℕ) → n ≤ max_records → k ≤ n → PlanOf (2 ^ W.bits) (sample_bounds n k) (sample_plan W n k)
plan_fits W g n k h l =
    sample-plan W.size W.limit (2 ^ W.bits) max_records (le_of_lt g.fits) (sizes_more (le_of_lt g.fits) g.sizes) n k
    (le_trans h (le_trans g.records (le_of_lt g.fits))) (le_trans l h)

demand1 : (W : Width) → Demand1 W (seen_sample W)
unfolding sample
demand1 W words start xs k lent w =
    beside_refused start lent (sample_refusals W words start (length xs) k (length lent))
    (named_no 2 _ _ (named_no 3 _ _ (named_no 6 _ _ (named_words W.bits (sample_plan W (length xs) k) words start)))) _ _ (seen_sample W words start xs k lent) refl

batch_named : (W : Width) → BatchNamed W
batch_named W words start xs k lent w =
    let r : Run = run W.bits (sample_plan W (length xs) k) words start in
    names_batch (sample_refusals W words start (length xs) k (length lent)) (λ o. (shown start o, lent)) _ (seen_sample W words start xs k lent)
    (λ (x : Answer × List ℕ). x.0.batch) (λ n b. refl) (demand1 W words start xs k lent w) r
    (ten_no r 2 _ _ (differ tt) (ten_no r 3 _ _ (differ tt) (ten_no r 6 _ _ (differ tt) (ten_words W.bits (sample_plan W (length xs) k) words start))))

-- a k that number 3 lets pass
small_sample : (n k : ℕ) → outside 1 n k ≡ false → k ≤ n
small_sample n k e = ltb-false n k (or_right (ltb k 1) (ltb n k) e)

module _ (W : Width) (g : GoodWidth W) where
  demand2 : Demand2 W (seen_sample W)
  unfolding sample
  demand2 words start xs k lent w a =
      let (count, b) = allowed_cons _ _ a in
      let (size, c) = allowed_cons _ _ b in
      let (room, d) = allowed_cons _ _ c in
      let plan : List (List ℕ) = sample_plan W (length xs) k in
      let fits : k ≤ length xs = small_sample (length xs) k size in
      let good = plan_fits W g (length xs) k (few_records (length xs) count) fits in
      let rs : List ℕ = rolls_of W.bits plan (trace (run W.bits plan words start)) in
      let n = length_drawn k rs xs fits in
      rw (allowed_done _ _ a) (record { none = (refl, refl); method = by_method W.bits plan words start d good.rollable w _ (rw n refl) })

  -- two that go by the method on one call
  same : (words : List ℕ) (start : ℕ) (xs : List ℕ) (k : ℕ) (lent : List ℕ) → Callable W.bits words
      → Allowed (sample_refusals W words start (length xs) k (length lent)) → (x y : Answer × List ℕ)
      → ByMethod W.bits (sample_plan W (length xs) k) words start (λ rs. sample_with k rs xs ++ drop k lent) x
      → ByMethod W.bits (sample_plan W (length xs) k) words start (λ rs. sample_with k rs xs ++ drop k lent) y → x ≡ y
  same words start xs k lent w a =
      let (count, b) = allowed_cons _ _ a in
      let good = plan_fits W g (length xs) k (few_records (length xs) count) (small_sample (length xs) k (allowed_cons _ _ b).0) in
      same_seen W.bits (sample_plan W (length xs) k) words good.rollable w start
      (λ rs. sample_with k rs xs ++ drop k lent)

  settled : Settled W
  settled a b a1 a2 b1 b2 words start xs k lent w =
      settle (sample_refusals W words start (length xs) k (length lent)) (λ o. (shown start o, lent)) (λ (x : Answer × List ℕ). x.0.no)
      (numbered_no 2 _ _ (lit< tt) (numbered_no 3 _ _ (lit< tt) (numbered_no 6 _ _ (lit< tt) (numbered_words W.bits (sample_plan W (length xs) k) words start))))
      (a words start xs k lent) (b words start xs k lent) (a1 words start xs k lent w) (b1 words start xs k lent w)
      (λ al. same words start xs k lent w al _ _ (a2 words start xs k lent w al) (b2 words start xs k lent w al))

  -- on a call that is not refused, an operation that meets demand 2 answers as ours
  agrees : (op : Op) → Demand2 W op → (words : List ℕ) (start : ℕ) (xs : List ℕ) (k : ℕ) (lent : List ℕ) → Callable W.bits words
      → Allowed (sample_refusals W words start (length xs) k (length lent)) → op words start xs k lent ≡ seen_sample W words start xs k lent
  agrees op d words start xs k lent w a = same words start xs k lent w a _ _ (d words start xs k lent w a) (demand2 words start xs k lent w a)

abbrev two_records : List ℕ
two_records = 0 ∷ 1 ∷ []

abbrev three_records : List ℕ
three_records = 0 ∷ 1 ∷ 2 ∷ []

-- the record in slot 0
abbrev front : Answer × List ℕ → ℕ
front x = get_or x.1 0 0

stand_ins : StandIns w64
unfolding first_of product rest rolls find run_from rolls_of next rejected decide sample sample_with cut cut_from countup reservoir size64 shuffle_plan_from countdown shuffle_with exchange
stand_ins = record {
  refuses = λ op r d. r [] 0 (7 ∷ []) 1 (0 ∷ []) below_nil (d [] 0 (7 ∷ []) 1 (0 ∷ []) below_nil refl).none.0;
  -- one of two records: word 0 takes the second, and word 2^63 the first
  fixed = λ op made f d.
      let low = agrees w64 good64 op d (0 ∷ []) 0 two_records 1 (0 ∷ []) word_0 refl in
      let high = agrees w64 good64 op d (2 ^ 63 ∷ []) 0 two_records 1 (0 ∷ []) word_half refl in
      let same = f (0 ∷ []) 0 two_records 1 (0 ∷ []) (d (0 ∷ []) 0 two_records 1 (0 ∷ []) word_0 refl).none.0
      ∙ sym (f (2 ^ 63 ∷ []) 0 two_records 1 (0 ∷ []) (d (2 ^ 63 ∷ []) 0 two_records 1 (0 ∷ []) word_half refl).none.0) in
      let z : ◌≡◌ {A = ℕ} 1 0 = sym (ap front low) ∙ ap (λ (l : List ℕ). get_or l 0 0) same ∙ ap front high in
      omega arith;
  -- one of three records: of the words 0, 1 one is rejected, of the words 1, 1 none
  invented = λ op made f d.
      let some = agrees w64 good64 op d (0 ∷ 1 ∷ []) 0 three_records 1 (0 ∷ []) words_01 refl in
      let none = agrees w64 good64 op d (1 ∷ 1 ∷ []) 0 three_records 1 (0 ∷ []) words_11 refl in
      let same = f (0 ∷ 1 ∷ []) 0 three_records 1 (0 ∷ []) (d (0 ∷ 1 ∷ []) 0 three_records 1 (0 ∷ []) words_01 refl).none.0
      ∙ sym (f (1 ∷ 1 ∷ []) 0 three_records 1 (0 ∷ []) (d (1 ∷ 1 ∷ []) 0 three_records 1 (0 ∷ []) words_11 refl).none.0) in
      let z : ◌≡◌ {A = ℕ} 1 0 = sym (ap (λ (x : Answer × List ℕ). x.0.rejected) some) ∙ same ∙ ap (λ (x : Answer × List ℕ). x.0.rejected) none in
      omega arith;
  -- both of two records: word 0 puts the first in slot 1
  tied = λ op t d.
      let e = agrees w64 good64 op d (0 ∷ []) 0 two_records 2 (0 ∷ 0 ∷ []) word_0 refl in
      let done = (d (0 ∷ []) 0 two_records 2 (0 ∷ 0 ∷ []) word_0 refl).none.0 in
      let z : ◌≡◌ {A = ℕ} 1 0
      = t (0 ∷ []) 0 two_records 2 (0 ∷ 0 ∷ []) word_0 done (row_distinct 2) 1 (omega arith) (ap (λ (x : Answer × List ℕ). get_or x.1 1 0) e) in
      omega arith;
}

pub could_come_up : (W : Width) → GoodWidth W → CouldComeUp W (seen_sample W)
could_come_up W g n k i slot h l b s = comes_up W n k i slot h l b s (plan_fits W g n k h l)

pub promise : Promise w64
promise = record {
  numbers = numbers w64;
  demand1 = demand1 w64;
  batch = batch_named w64;
  demand2 = demand2 w64 good64;
  bounds = bounds w64 good64;
  settled = settled w64 good64;
  stand_ins = stand_ins;
  could_come_up = could_come_up w64 good64;
}
