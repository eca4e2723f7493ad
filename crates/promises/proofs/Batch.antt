-- One batch. Where no refusal applies the words suffice for the batch, and the run follows the method; the method leaves one outcome, so
-- that a call which the definitions answer otherwise is enough against a stand-in. Assumes nothing.
--
--   allowed_batch    bounds that are not refused can be rolled
--   promise          the promise, at 64 bits
use mathlib.Core.Path.{◌≡◌, refl, sym, ap, ◌∙◌}
use mathlib.Core.List.{List, [], ◌∷◌, ◌++◌, append-nil}
use Prim.Native.Nat.{ℕ, ◌-◌, ◌^◌}
use native.Mathlib.Omega.{arith}
use lib.Dec.{ltb, lit<}
use lib.ListN.{length, get_or, replicate}
use borrow.Author.Tests.{ltb-false}
use Rattle.rules.specs.Limits.{max_batch}
use Rattle.rules.specs.Plan.{joined, Rollable}
use Rattle.rules.specs.Rolls.{rolls, rest, product, holds_zero}
use Rattle.rules.specs.Run.{find, run, run_from, rolls_of, next, rejected}
use Rattle.rules.specs.Width.{Width, w64}
use Rattle.rules.proofs.Facts.{or_left, or_right}
use Rattle.rules.proofs.Products.{product_pos}
use Rattle.answers.specs.Outcome.{Refusal, decide, of_bounds, shown_batch}
use Rattle.answers.specs.declared.answer.Batch.{Batch}
use Rattle.rolls.specs.Batch.{batch_refusals, roll_batch, seen_batch}
use Rattle.promises.specs.Demand1.{Callable, first_of}
use Rattle.promises.specs.Demand2.{Allowed}
use Rattle.promises.specs.Batch.{Op, Numbers, Rolled, Demand1, Demand2, Settled, StandIns, Promise}
use Rattle.promises.proofs.Calls.{one_number, word_0, word_half, words_01, words_11}
use Rattle.promises.proofs.Method.{by_method, rolled-count, same_outcome}
use Rattle.promises.proofs.Refusing.{as_refused, allowed_cons, allowed_done, named_bounds, named_words, numbered_bounds, numbered_words, settle, ten_last}

pub allowed_batch : (W : Width) (bs : List ℕ) (rs : List Refusal) → Allowed (of_bounds W bs ++ rs) → Rollable (2 ^ W.bits) bs × Allowed rs
allowed_batch W bs rs a =
    let (count, b) = allowed_cons _ _ a in
    let (zeros, c) = allowed_cons _ _ b in
    let (fits, d) = allowed_cons _ _ c in (
      record {
        some = ltb-false (length bs) 1 (or_left (ltb (length bs) 1) (ltb max_batch (length bs)) count);
        few = ltb-false max_batch (length bs) (or_right (ltb (length bs) 1) _ count);
        positive = product_pos bs zeros;
        fits = ltb-false (2 ^ W.bits) (product bs) fits;
      },
      d,
    )

demand1 : (W : Width) → Demand1 W (seen_batch W)
unfolding roll_batch
demand1 W words start bs w b =
    as_refused (shown_batch start) (shown_batch start) (λ (a : Batch). a.no) (λ n k. refl) (λ n k. refl) _ refl (batch_refusals W words start bs)
    (named_bounds W bs _ (named_words W.bits (bs ∷ []) words start))
    (seen_batch W words start bs) refl

demand2 : (W : Width) → Demand2 W (seen_batch W)
unfolding roll_batch
demand2 W words start bs w b a =
    let (r, d) = allowed_batch W bs _ a in
    let plan : List (List ℕ) = bs ∷ [] in
    let n = rolled-count W.bits plan words start d (r, tt) w bs (unfold joined in append-nil bs) in
    rw (allowed_done _ _ a) (record { none = refl; count = n; method = by_method W.bits plan words start d (r, tt) w _ (rw n refl) })

-- two that follow the method on one call
module _ (W : Width) (words : List ℕ) (start : ℕ) (bs : List ℕ) (w : Callable W.bits words) (r : Rollable (2 ^ W.bits) bs) where
  same-rolled : (x y : Batch) → Rolled W words start bs x → Rolled W words start bs y → x ≡ y
  same-rolled x y a b =
      let (e, f, h) = same_outcome W.bits (bs ∷ []) words (r, tt) w start _ _ _ _ _ _ a.method b.method in
      let rolled = a.method.reading ∙ ap (λ (rs : List ℕ). rs ++ replicate (max_batch - length bs) 0) h ∙ sym b.method.reading in
      λ i. record { no = (a.none ∙ sym b.none) i; next = e i; rejected = f i; count = (a.count ∙ sym b.count) i; rolls = rolled i }

settled : (W : Width) → Settled W
settled W a b a1 a2 b1 b2 words start bs w c =
    settle (batch_refusals W words start bs) (shown_batch start) (λ (x : Batch). x.no) (numbered_bounds W bs _ (numbered_words W.bits (bs ∷ []) words start))
    (a words start bs) (b words start bs) (a1 words start bs w c) (b1 words start bs w c) (λ al.
    same-rolled W words start bs w (allowed_batch W bs _ al).0 _ _ (a2 words start bs w c al) (b2 words start bs w c al))

-- ---- the stand-ins

-- on a call that is not refused, an operation that meets demand 2 answers as ours
agrees : (W : Width) (op : Op) → Demand2 W op → (words : List ℕ) (start : ℕ) (bs : List ℕ) → Callable W.bits words → Callable W.bits bs
    → Allowed (batch_refusals W words start bs) → op words start bs ≡ seen_batch W words start bs
agrees W op d words start bs w c a =
    same-rolled W words start bs w (allowed_batch W bs _ a).0 _ _ (d words start bs w c a) (demand2 W words start bs w c a)

stand_ins : StandIns w64
unfolding first_of holds_zero product rest rolls find run_from rolls_of next rejected decide roll_batch
stand_ins = record {
  refuses = λ op r d. r (0 ∷ []) 0 (1 ∷ []) word_0 one (d (0 ∷ []) 0 (1 ∷ []) word_0 one refl).none;
  -- bound 2: word 0 gives 0, and word 2^63 gives 1
  fixed = λ op made f d.
      let low = agrees w64 op d (0 ∷ []) 0 (2 ∷ []) word_0 two refl in
      let high = agrees w64 op d (2 ^ 63 ∷ []) 0 (2 ∷ []) word_half two refl in
      let same = f (0 ∷ []) 0 (2 ∷ []) (d (0 ∷ []) 0 (2 ∷ []) word_0 two refl).none
      ∙ sym (f (2 ^ 63 ∷ []) 0 (2 ∷ []) (d (2 ^ 63 ∷ []) 0 (2 ∷ []) word_half two refl).none) in
      let z : ◌≡◌ {A = ℕ} 0 1 = ap (λ (l : List ℕ). get_or l 0 0) (sym (ap (λ (x : Batch). x.rolls) low) ∙ same ∙ ap (λ (x : Batch). x.rolls) high) in
      omega arith;
  -- bound 6: of the words 0, 1 one is rejected, of the words 1, 1 none
  invented = λ op made f d.
      let some = agrees w64 op d (0 ∷ 1 ∷ []) 0 (6 ∷ []) words_01 six refl in
      let none = agrees w64 op d (1 ∷ 1 ∷ []) 0 (6 ∷ []) words_11 six refl in
      let same = f (0 ∷ 1 ∷ []) 0 (6 ∷ []) (d (0 ∷ 1 ∷ []) 0 (6 ∷ []) words_01 six refl).none
      ∙ sym (f (1 ∷ 1 ∷ []) 0 (6 ∷ []) (d (1 ∷ 1 ∷ []) 0 (6 ∷ []) words_11 six refl).none) in
      let z : ◌≡◌ {A = ℕ} 1 0 = sym (ap (λ (x : Batch). x.rejected) some) ∙ same ∙ ap (λ (x : Batch). x.rejected) none in
      omega arith;
}
  where
    one : Callable 64 (1 ∷ [])
    one = one_number 1 (lit< tt)

    two : Callable 64 (2 ∷ [])
    two = one_number 2 (lit< tt)

    six : Callable 64 (6 ∷ [])
    six = one_number 6 (lit< tt)

numbers : (W : Width) → Numbers W
numbers W words start bs = ten_last (run W.bits (bs ∷ []) words start) (2 ∷ 4 ∷ 5 ∷ 9 ∷ [])

pub promise : Promise w64
promise = record { numbers = numbers w64; demand1 = demand1 w64; demand2 = demand2 w64; settled = settled w64; stand_ins = stand_ins }
