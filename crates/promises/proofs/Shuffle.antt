-- The shuffle. Assumes nothing.
--
--   few_records         a count that number 2 lets pass
--   plan_fits           the batches of a shuffle can be rolled
--   demand1, promise    demand 1 over a width; the promise, at 64 bits
use mathlib.Core.Path.{◌≡◌, refl, sym, ap, ◌∙◌}
use mathlib.Core.Bool.{false}
use mathlib.Core.List.{List, [], ◌∷◌}
use Prim.Native.Nat.{ℕ, ◌^◌, ◌≤◌}
use native.Mathlib.Nat.{le_of_lt}
use native.Mathlib.Omega.{arith}
use lib.Dec.{ltb, lit<}
use lib.ListN.{length, get_or}
use borrow.Author.Tests.{ltb-false}
use Rattle.rules.specs.Limits.{max_records}
use Rattle.rules.specs.Plan.{PlanOf}
use Rattle.rules.specs.Rolls.{rolls, rest, product}
use Rattle.rules.specs.Run.{Run, find, run, run_from, rolls_of, next, rejected}
use Rattle.rules.specs.Shuffle.{exchange, shuffle_with, countdown, shuffle_bounds, shuffle_plan_from, shuffle_plan}
use Rattle.rules.specs.Width.{Width, w64, size64}
use Rattle.rules.proofs.Facts.{or_right}
use Rattle.rules.proofs.Orders.{length-shuffle}
use Rattle.rules.proofs.ShufflePlans.{sizes_more, shuffle-plan}
use Rattle.rules.proofs.Widths.{GoodWidth, good64}
use Rattle.rules.proofs.Writing.{whole_list}
use Rattle.answers.specs.Outcome.{decide, outside, shown}
use Rattle.answers.specs.declared.answer.Answer.{Answer}
use Rattle.shuffles.specs.Shuffle.{shuffle_refusals, shuffle, seen_shuffle}
use Rattle.promises.specs.Demand1.{Callable, first_of}
use Rattle.promises.specs.Demand2.{Allowed, ByMethod}
use Rattle.promises.specs.Shuffle.{Op, Numbers, Demand1, Demand2, Settled, StandIns, Promise, BatchNamed}
use Rattle.promises.proofs.Calls.{below_nil, word_0, word_half, words_01, words_10, words_11}
use Rattle.promises.proofs.Method.{by_method, same_seen}
use Rattle.promises.proofs.Which.{differ}
use Rattle.promises.proofs.Refusing.{beside_refused, allowed_cons, allowed_done, named_no, named_words, numbered_no, numbered_words, settle, ten_last, names_batch, ten_no, ten_words}

pub few_records : (n : ℕ) → outside 0 max_records n ≡ false → n ≤ max_records
few_records n e = ltb-false max_records n (or_right (ltb n 0) (ltb max_records n) e)

numbers : (W : Width) → Numbers W
numbers W words start n = ten_last (run W.bits (shuffle_plan W.size n) words start) (2 ∷ 9 ∷ [])

pub plan_fits : (W : Width) → GoodWidth W → (n : ℕ) → n ≤ max_records → PlanOf (2 ^ W.bits) (shuffle_bounds n) (shuffle_plan W.size n)
plan_fits W g = shuffle-plan (sizes_more (le_of_lt g.fits) g.sizes)

pub demand1 : (W : Width) → Demand1 W (seen_shuffle W)
unfolding shuffle
demand1 W words start xs w = beside_refused start xs (shuffle_refusals W words start (length xs))
    (named_no 2 _ _ (named_words W.bits (shuffle_plan W.size (length xs)) words start)) _ _ (seen_shuffle W words start xs) refl

batch_named : (W : Width) → BatchNamed W
batch_named W words start xs w =
    let r : Run = run W.bits (shuffle_plan W.size (length xs)) words start in
    names_batch (shuffle_refusals W words start (length xs)) (λ o. (shown start o, xs)) _ (seen_shuffle W words start xs) (λ (x : Answer × List ℕ). x.0.batch)
    (λ n b. refl) (demand1 W words start xs w) r (ten_no r 2 _ _ (differ tt) (ten_words W.bits (shuffle_plan W.size (length xs)) words start))

module _ (W : Width) (g : GoodWidth W) where
  demand2 : Demand2 W (seen_shuffle W)
  unfolding shuffle
  demand2 words start xs w a =
      let (count, d) = allowed_cons _ _ a in
      let plan : List (List ℕ) = shuffle_plan W.size (length xs) in
      let good = plan_fits W g (length xs) (few_records (length xs) count) in
      rw (allowed_done _ _ a) (record {
        none = (refl, refl);
        method = by_method W.bits plan words start d good.rollable w _ (sym (whole_list _ xs (length-shuffle (length xs) _ xs)));
      })

  -- two that go by the method on one call
  same : (words : List ℕ) (start : ℕ) (xs : List ℕ) → Callable W.bits words → Allowed (shuffle_refusals W words start (length xs))
      → (x y : Answer × List ℕ) → ByMethod W.bits (shuffle_plan W.size (length xs)) words start (λ rs. shuffle_with (length xs) rs xs) x
      → ByMethod W.bits (shuffle_plan W.size (length xs)) words start (λ rs. shuffle_with (length xs) rs xs) y → x ≡ y
  same words start xs w a =
      same_seen W.bits (shuffle_plan W.size (length xs)) words (plan_fits W g (length xs) (few_records (length xs) (allowed_cons _ _ a).0)).rollable w start
      (λ rs. shuffle_with (length xs) rs xs)

  settled : Settled W
  settled a b a1 a2 b1 b2 words start xs w =
      settle (shuffle_refusals W words start (length xs)) (λ o. (shown start o, xs)) (λ (x : Answer × List ℕ). x.0.no)
      (numbered_no 2 _ _ (lit< tt) (numbered_words W.bits (shuffle_plan W.size (length xs)) words start))
      (a words start xs) (b words start xs) (a1 words start xs w) (b1 words start xs w)
      (λ al. same words start xs w al _ _ (a2 words start xs w al) (b2 words start xs w al))

  -- on a call that is not refused, an operation that meets demand 2 answers as ours
  agrees : (op : Op) → Demand2 W op → (words : List ℕ) (start : ℕ) (xs : List ℕ) → Callable W.bits words
      → Allowed (shuffle_refusals W words start (length xs)) → op words start xs ≡ seen_shuffle W words start xs
  agrees op d words start xs w a = same words start xs w a _ _ (d words start xs w a) (demand2 words start xs w a)

abbrev two_records : List ℕ
two_records = 0 ∷ 1 ∷ []

abbrev three_records : List ℕ
three_records = 0 ∷ 1 ∷ 2 ∷ []

abbrev eight_records : List ℕ
eight_records = 0 ∷ 1 ∷ 2 ∷ 3 ∷ 4 ∷ 5 ∷ 6 ∷ 7 ∷ []

-- the record at place 0
abbrev front : Answer × List ℕ → ℕ
front x = get_or x.1 0 0

stand_ins : StandIns w64
unfolding first_of product rest rolls find run_from rolls_of next rejected decide size64 shuffle shuffle_plan_from countdown shuffle_with exchange
stand_ins = record {
  refuses = λ op r d. r [] 0 [] below_nil (d [] 0 [] below_nil refl).none.0;
  -- two records: word 0 exchanges them, and word 2^63 does not
  fixed = λ op made f d.
      let low = agrees w64 good64 op d (0 ∷ []) 0 two_records word_0 refl in
      let high = agrees w64 good64 op d (2 ^ 63 ∷ []) 0 two_records word_half refl in
      let same = f (0 ∷ []) 0 two_records (d (0 ∷ []) 0 two_records word_0 refl).none.0
      ∙ sym (f (2 ^ 63 ∷ []) 0 two_records (d (2 ^ 63 ∷ []) 0 two_records word_half refl).none.0) in
      let z : ◌≡◌ {A = ℕ} 1 0 = sym (ap front low) ∙ ap (λ (l : List ℕ). get_or l 0 0) same ∙ ap front high in
      omega arith;
  -- two records, word 0: exchanged
  nothing = λ op m d.
      let e = agrees w64 good64 op d (0 ∷ []) 0 two_records word_0 refl in
      let z : ◌≡◌ {A = ℕ} 0 1 = sym (ap (λ (l : List ℕ). get_or l 0 0) (m (0 ∷ []) 0 two_records)) ∙ ap front e in
      omega arith;
  -- eight records, words 1, 0: place 0 gets 1 in the end, and has 2 after the first batch
  first_batch = λ op f d.
      let e = agrees w64 good64 op d (1 ∷ 0 ∷ []) 0 eight_records words_10 refl in
      let given = f.moves (1 ∷ 0 ∷ []) 0 eight_records (d (1 ∷ 0 ∷ []) 0 eight_records words_10 refl).none.0 in
      let z : ◌≡◌ {A = ℕ} 2 1 = sym (ap (λ (l : List ℕ). get_or l 0 0) given) ∙ ap front e in
      omega arith;
  -- three records: of the words 0, 1 one is rejected, of the words 1, 1 none
  invented = λ op made f d.
      let some = agrees w64 good64 op d (0 ∷ 1 ∷ []) 0 three_records words_01 refl in
      let none = agrees w64 good64 op d (1 ∷ 1 ∷ []) 0 three_records words_11 refl in
      let same = f (0 ∷ 1 ∷ []) 0 three_records (d (0 ∷ 1 ∷ []) 0 three_records words_01 refl).none.0
      ∙ sym (f (1 ∷ 1 ∷ []) 0 three_records (d (1 ∷ 1 ∷ []) 0 three_records words_11 refl).none.0) in
      let z : ◌≡◌ {A = ℕ} 1 0 = sym (ap (λ (x : Answer × List ℕ). x.0.rejected) some) ∙ same ∙ ap (λ (x : Answer × List ℕ). x.0.rejected) none in
      omega arith;
}

pub promise : Promise w64
promise = record {
  numbers = numbers w64;
  demand1 = demand1 w64;
  batch = batch_named w64;
  demand2 = demand2 w64 good64;
  bounds = shuffle-plan good64.sizes;
  settled = settled w64 good64;
  stand_ins = stand_ins;
}
