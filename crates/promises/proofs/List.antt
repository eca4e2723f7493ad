-- A list of bounds. Assumes nothing.
--
--   promise    the promise, at 64 bits
use mathlib.Core.Path.{◌≡◌, refl, sym, ap, ◌∙◌}
use mathlib.Core.List.{List, [], ◌∷◌, ◌++◌}
use Prim.Native.Nat.{ℕ, ◌^◌}
use native.Mathlib.Nat.{le_of_lt}
use native.Mathlib.Omega.{arith}
use lib.Dec.{lit<}
use lib.ListN.{length, drop, get_or}
use Rattle.rules.specs.Cut.{cut, cut_from}
use Rattle.rules.specs.Rolls.{rolls, rest, product, holds_zero}
use Rattle.rules.specs.Run.{Run, find, run, run_from, rolls_of, next, rejected}
use Rattle.rules.specs.Width.{Width, w64}
use Rattle.rules.proofs.CutPlans.{cut-plan}
use Rattle.rules.proofs.Products.{zero_nowhere}
use Rattle.rules.proofs.Widths.{GoodWidth, good64}
use Rattle.answers.specs.Outcome.{decide, shown}
use Rattle.answers.specs.declared.answer.Answer.{Answer}
use Rattle.lists.specs.List.{list_refusals, roll_list, seen_list}
use Rattle.promises.specs.Demand1.{Callable, first_of}
use Rattle.promises.specs.Demand2.{Allowed, ByMethod}
use Rattle.promises.specs.List.{Op, Numbers, Demand1, Demand2, Bounds, Settled, StandIns, Promise, BatchNamed}
use Rattle.promises.proofs.Calls.{below_nil, one_number, word_0, word_half, words_01, words_11}
use Rattle.promises.proofs.Method.{by_method, rolled-count, same_seen}
use Rattle.promises.proofs.Which.{differ}
use Rattle.promises.proofs.Refusing.{beside_refused, allowed_cons, allowed_done, named_no, named_words, numbered_no, numbered_words, settle, ten_last, names_batch, ten_no, ten_words}

numbers : (W : Width) → Numbers W
numbers W words start bs room = ten_last (run W.bits (cut W.limit bs) words start) (2 ∷ 4 ∷ 6 ∷ 9 ∷ [])

bounds : (W : Width) → GoodWidth W → Bounds W
bounds W g bs zeros below =
    cut-plan W.limit (2 ^ W.bits) (le_of_lt g.fits) bs (λ i h. (zero_nowhere bs i zeros h, le_of_lt (below i h)))

demand1 : (W : Width) → Demand1 W (seen_list W)
unfolding roll_list
demand1 W words start bs lent w b = beside_refused start lent (list_refusals W words start bs (length lent))
    (named_no 2 _ _ (named_no 4 _ _ (named_no 6 _ _ (named_words W.bits (cut W.limit bs) words start)))) _ _ (seen_list W words start bs lent) refl

batch_named : (W : Width) → BatchNamed W
batch_named W words start bs lent w b =
    let r : Run = run W.bits (cut W.limit bs) words start in
    names_batch (list_refusals W words start bs (length lent)) (λ o. (shown start o, lent)) _ (seen_list W words start bs lent) (λ (x : Answer × List ℕ). x.0.batch)
    (λ n b. refl) (demand1 W words start bs lent w b) r
    (ten_no r 2 _ _ (differ tt) (ten_no r 4 _ _ (differ tt) (ten_no r 6 _ _ (differ tt) (ten_words W.bits (cut W.limit bs) words start))))

module _ (W : Width) (g : GoodWidth W) where
  demand2 : Demand2 W (seen_list W)
  unfolding roll_list
  demand2 words start bs lent w below a =
      let (count, b) = allowed_cons _ _ a in
      let (zeros, c) = allowed_cons _ _ b in
      let (room, d) = allowed_cons _ _ c in
      let plan : List (List ℕ) = cut W.limit bs in
      let good = bounds W g bs zeros below in
      let n = rolled-count W.bits plan words start d good.rollable w bs good.same in
      rw (allowed_done _ _ a) (record { none = (refl, refl); method = by_method W.bits plan words start d good.rollable w _ (rw n refl) })

  -- two that go by the method on one call
  same : (words : List ℕ) (start : ℕ) (bs lent : List ℕ) → Callable W.bits words → Callable W.bits bs
      → Allowed (list_refusals W words start bs (length lent)) → (x y : Answer × List ℕ)
      → ByMethod W.bits (cut W.limit bs) words start (λ rs. rs ++ drop (length bs) lent) x
      → ByMethod W.bits (cut W.limit bs) words start (λ rs. rs ++ drop (length bs) lent) y → x ≡ y
  same words start bs lent w below a =
      let (count, b) = allowed_cons _ _ a in
      let (zeros, c) = allowed_cons _ _ b in
      same_seen W.bits (cut W.limit bs) words (bounds W g bs zeros below).rollable w start (λ rs. rs ++ drop (length bs) lent)

  settled : Settled W
  settled a b a1 a2 b1 b2 words start bs lent w c =
      settle (list_refusals W words start bs (length lent)) (λ o. (shown start o, lent)) (λ (x : Answer × List ℕ). x.0.no)
      (numbered_no 2 _ _ (lit< tt) (numbered_no 4 _ _ (lit< tt) (numbered_no 6 _ _ (lit< tt) (numbered_words W.bits (cut W.limit bs) words start))))
      (a words start bs lent) (b words start bs lent) (a1 words start bs lent w c) (b1 words start bs lent w c)
      (λ al. same words start bs lent w c al _ _ (a2 words start bs lent w c al) (b2 words start bs lent w c al))

  -- on a call that is not refused, an operation that meets demand 2 answers as ours
  agrees : (op : Op) → Demand2 W op → (words : List ℕ) (start : ℕ) (bs lent : List ℕ) → Callable W.bits words → Callable W.bits bs
      → Allowed (list_refusals W words start bs (length lent)) → op words start bs lent ≡ seen_list W words start bs lent
  agrees op d words start bs lent w c a = same words start bs lent w c a _ _ (d words start bs lent w c a) (demand2 words start bs lent w c a)

stand_ins : StandIns w64
unfolding first_of holds_zero product rest rolls find run_from rolls_of next rejected decide roll_list cut cut_from
stand_ins = record {
  refuses = λ op r d. r [] 0 [] [] below_nil below_nil (d [] 0 [] [] below_nil below_nil refl).none.0;
  -- bound 2: word 0 gives 0, and word 2^63 gives 1
  fixed = λ op made f d.
      let low = agrees w64 good64 op d (0 ∷ []) 0 (2 ∷ []) (0 ∷ []) word_0 two refl in
      let high = agrees w64 good64 op d (2 ^ 63 ∷ []) 0 (2 ∷ []) (0 ∷ []) word_half two refl in
      let same = f (0 ∷ []) 0 (2 ∷ []) (0 ∷ []) (d (0 ∷ []) 0 (2 ∷ []) (0 ∷ []) word_0 two refl).none.0
      ∙ sym (f (2 ^ 63 ∷ []) 0 (2 ∷ []) (0 ∷ []) (d (2 ^ 63 ∷ []) 0 (2 ∷ []) (0 ∷ []) word_half two refl).none.0) in
      let z : ◌≡◌ {A = ℕ} 0 1 =
      ap (λ (l : List ℕ). get_or l 0 0) (sym (ap (λ (x : Answer × List ℕ). x.1) low) ∙ same ∙ ap (λ (x : Answer × List ℕ). x.1) high) in
      omega arith;
  -- bound 6: of the words 0, 1 one is rejected, of the words 1, 1 none
  invented = λ op made f d.
      let some = agrees w64 good64 op d (0 ∷ 1 ∷ []) 0 (6 ∷ []) (0 ∷ []) words_01 six refl in
      let none = agrees w64 good64 op d (1 ∷ 1 ∷ []) 0 (6 ∷ []) (0 ∷ []) words_11 six refl in
      let same = f (0 ∷ 1 ∷ []) 0 (6 ∷ []) (0 ∷ []) (d (0 ∷ 1 ∷ []) 0 (6 ∷ []) (0 ∷ []) words_01 six refl).none.0
      ∙ sym (f (1 ∷ 1 ∷ []) 0 (6 ∷ []) (0 ∷ []) (d (1 ∷ 1 ∷ []) 0 (6 ∷ []) (0 ∷ []) words_11 six refl).none.0) in
      let z : ◌≡◌ {A = ℕ} 1 0 = sym (ap (λ (x : Answer × List ℕ). x.0.rejected) some) ∙ same ∙ ap (λ (x : Answer × List ℕ). x.0.rejected) none in
      omega arith;
}
  where
    two : Callable 64 (2 ∷ [])
    two = one_number 2 (lit< tt)

    six : Callable 64 (6 ∷ [])
    six = one_number 6 (lit< tt)

pub promise : Promise w64
promise = record {
  numbers = numbers w64;
  demand1 = demand1 w64;
  batch = batch_named w64;
  demand2 = demand2 w64 good64;
  bounds = bounds w64 good64;
  settled = settled w64 good64;
  stand_ins = stand_ins;
}
