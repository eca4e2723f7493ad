-- Which refusal is given. Assumes nothing.
--
--   decide_here, decide_past, decide_none   a refusal that applies is given; one that does not is passed over
--   decide_under                            two lists of refusals that agree where their head does not apply
--   decide-append                           the refusals of one list, and then those of another
--   decide-refused, decide_allowed          a list that refuses one outcome refuses any, by the same number; and so where it refuses none
--   in_count, below_count, above_count      a count in its range, or out of it
--   OfBatch, of_batch                       numbers 2, 4 and 5, of an operation on the bounds of one batch
--   FitBounds, fit_bounds                   bounds that none of them refuses
--   Known, supplied_enough, supplied-short  what is known of a run where the dry run found the words enough, or not
--   word_short, word_done                   number 10 alone, or none
--   no_start                                number 9, of an operation that uses words
--   no_words, words_done                    number 10, or none, by the run
--   words_short, words_drawn                number 10, or none, by the answer of the dry run
--   refused-seen, done-seen                 what the caller sees of a refusal, and of values that were drawn
--   none_seen                               what the caller sees of values for which no word was used
use mathlib.Core.Path.{◌≡◌, refl, sym, ap, ap₂, ◌∙◌}
use mathlib.Core.Bool.{Bool, true, false, ◌||◌, or-true}
use mathlib.Core.List.{List, [], ◌∷◌, ◌++◌}
use Prim.Native.Nat.{ℕ, ◌^◌, ◌<◌, ◌≤◌}
use lib.Dec.{ltb}
use lib.ListN.{length, drop}
use Rattle.std.specs.Prelude.{Result, Ok, Err}
use borrow.Author.Tests.{lt-ltb, le-ltb}
use Rattle.rules.specs.Rolls.{product, holds_zero}
use Rattle.rules.proofs.Facts.{clash}
use Rattle.rules.specs.Limits.{max_batch}
use Rattle.rules.specs.Width.{Width}
use Rattle.rules.specs.Run.{Taken, Run, ran, short, suffices, run, trace, next, rejected}
use Rattle.answers.specs.Outcome.{Outcome, refused, done, Refusal, no_word, decide, outside, of_bounds, of_words, shown, left}
use Rattle.answers.specs.declared.answer.Answer.{Answer}
use Rattle.answers.specs.Supplied.{supplied, answered}
use Rattle.answers.specs.declared.refusal.Refusal as refusal
use Rattle.answers.specs.declared.refusal.Refusal.TheVariants.{Words}
use Rattle.answers.specs.declared.results.Used.{Used}

pub decide_here : (r : Refusal) (rs : List Refusal) (o : Outcome) → r.applies ≡ true → decide (r ∷ rs) o ≡ refused r.number r.batch
unfolding decide
decide_here r rs o e = rw (e, decide)

pub decide_past : (r : Refusal) (rs : List Refusal) (o : Outcome) → r.applies ≡ false → decide (r ∷ rs) o ≡ decide rs o
unfolding decide
decide_past r rs o e = rw (e, decide)

pub decide_none : (o : Outcome) → decide [] o ≡ o
unfolding decide
decide_none o = refl

pub decide_under : (r : Refusal) (rs ss : List Refusal) (o p : Outcome) → (r.applies ≡ false → decide rs o ≡ decide ss p)
    → decide (r ∷ rs) o ≡ decide (r ∷ ss) p
decide_under r rs ss o p h = go r.applies refl
  where
    go : (b : Bool) → r.applies ≡ b → decide (r ∷ rs) o ≡ decide (r ∷ ss) p
    go true e = decide_here r rs o e ∙ sym (decide_here r ss p e)
    go false e = decide_past r rs o e ∙ h e ∙ sym (decide_past r ss p e)

abbrev instead : Outcome → Outcome → Outcome
instead (refused n k) o = refused n k
instead (done values ts) o = o

pub decide-append : (rs ss : List Refusal) (o : Outcome) → decide (rs ++ ss) o ≡ decide rs (decide ss o)
decide-append [] ss o = sym (decide_none (decide ss o))
decide-append (r ∷ rs) ss o = go r.applies refl (decide-append rs ss o)
  where
    go : (b : Bool) → r.applies ≡ b → decide (rs ++ ss) o ≡ decide rs (decide ss o) → decide (r ∷ (rs ++ ss)) o ≡ decide (r ∷ rs) (decide ss o)
    go true e ih = decide_here r (rs ++ ss) o e ∙ sym (decide_here r rs (decide ss o) e)
    go false e ih = decide_past r (rs ++ ss) o e ∙ ih ∙ sym (decide_past r rs (decide ss o) e)

-- what is decided of values that were done says what is decided of any other outcome
decide-told : (rs : List Refusal) (values : List ℕ) (ts : List Taken) (p o : Outcome) → decide rs (done values ts) ≡ p → decide rs o ≡ instead p o
decide-told [] values ts p o e = decide_none o ∙ ap (λ (q : Outcome). instead q o) (sym (decide_none (done values ts)) ∙ e)
decide-told (r ∷ rs) values ts p o e = go r.applies refl (decide-told rs values ts p o)
  where
    go : (b : Bool) → r.applies ≡ b → (decide rs (done values ts) ≡ p → decide rs o ≡ instead p o) → decide (r ∷ rs) o ≡ instead p o
    go true f ih = decide_here r rs o f ∙ ap (λ (q : Outcome). instead q o) (sym (decide_here r rs (done values ts) f) ∙ e)
    go false f ih = decide_past r rs o f ∙ ih (sym (decide_past r rs (done values ts) f) ∙ e)

module _ (rs : List Refusal) (values : List ℕ) (ts : List Taken) (o : Outcome) where
  pub decide-refused : (n k : ℕ) → decide rs (done values ts) ≡ refused n k → decide rs o ≡ refused n k
  decide-refused n k e = decide-told rs values ts (refused n k) o e

  pub decide_allowed : (us : List ℕ) (ss : List Taken) → decide rs (done values ts) ≡ done us ss → decide rs o ≡ o
  decide_allowed us ss e = decide-told rs values ts (done us ss) o e

-- ---- counts

pub in_count : (low high n : ℕ) → low ≤ n → n ≤ high → outside low high n ≡ false
in_count low high n h k = ap₂ ◌||◌ (le-ltb n low h) (le-ltb high n k)

pub below_count : (low high n : ℕ) → n < low → outside low high n ≡ true
below_count low high n h = ap (λ (b : Bool). b || ltb high n) (lt-ltb n low h)

pub above_count : (low high n : ℕ) → high < n → outside low high n ≡ true
above_count low high n h = ap (λ (b : Bool). ltb n low || b) (lt-ltb high n h) ∙ or-true (ltb n low)

-- ---- numbers 2, 4 and 5

-- what comes of an operation on the bounds of one batch, by its first three refusals; past them it is as the rest has it
pub record OfBatch (W : Width) (bs : List ℕ) (o rest : Outcome) : Type 0 where
  pub count : outside 1 max_batch (length bs) ≡ true → o ≡ refused 2 0
  pub zeros : outside 1 max_batch (length bs) ≡ false → holds_zero bs ≡ true → o ≡ refused 4 0
  pub large : outside 1 max_batch (length bs) ≡ false → holds_zero bs ≡ false → ltb (2 ^ W.bits) (product bs) ≡ true → o ≡ refused 5 0
  pub passed : outside 1 max_batch (length bs) ≡ false → holds_zero bs ≡ false → ltb (2 ^ W.bits) (product bs) ≡ false → o ≡ rest

pub of_batch : (W : Width) (bs : List ℕ) (rs : List Refusal) (o : Outcome) → OfBatch W bs (decide (of_bounds W bs ++ rs) o) (decide rs o)
of_batch W bs rs o = record {
  count = λ e. decide_here _ _ _ e;
  zeros = λ c e. decide_past _ _ _ c ∙ decide_here _ _ _ e;
  large = λ c z e. decide_past _ _ _ c ∙ decide_past _ _ _ z ∙ decide_here _ _ _ e;
  passed = λ c z f. decide_past _ _ _ c ∙ decide_past _ _ _ z ∙ decide_past _ _ _ f;
}

-- bounds that none of them refuses
pub record FitBounds (W : Width) (bs : List ℕ) : Type 0 where
  pub count : outside 1 max_batch (length bs) ≡ false
  pub zeros : holds_zero bs ≡ false
  pub fits : ltb (2 ^ W.bits) (product bs) ≡ false

pub fit_bounds : (W : Width) (bs us : List ℕ) (ss : List Taken) → decide (of_bounds W bs) (done [] []) ≡ done us ss → FitBounds W bs
unfolding decide
fit_bounds W bs us ss e = go (outside 1 max_batch (length bs)) refl (holds_zero bs) refl (ltb (2 ^ W.bits) (product bs)) refl
  where
    o : OfBatch W bs (decide (of_bounds W bs) (done [] [])) (done [] [])
    o = of_batch W bs [] (done [] [])

    go : (a : Bool) → outside 1 max_batch (length bs) ≡ a → (b : Bool) → holds_zero bs ≡ b → (c : Bool) → ltb (2 ^ W.bits) (product bs) ≡ c → FitBounds W bs
    go true f b g c h = clash (let z = sym e ∙ o.count f in cc)
    go false f true g c h = clash (let z = sym e ∙ o.zeros f g in cc)
    go false f false g true h = clash (let z = sym e ∙ o.large f g h in cc)
    go false f false g false h = record { count = f; zeros = g; fits = h }

-- ---- the words

-- a run where each batch got its word: the place after the last one, and how many were rejected
pub record Known (start : ℕ) (r : Run) (to more : ℕ) : Type 0 where
  pub enough : suffices r ≡ true
  pub place : next start (trace r) ≡ to
  pub passed : rejected start (trace r) ≡ more

abbrev pub next_of : Result Used refusal.Refusal → ℕ
next_of (Ok used) = used.next
next_of (Err refusal) = 0

abbrev pub rejected_of : Result Used refusal.Refusal → ℕ
rejected_of (Ok used) = used.rejected
rejected_of (Err refusal) = 0

pub supplied_enough : (start : ℕ) (r : Run) (to more : ℕ) → supplied start r ≡ Ok (record { next = to; rejected = more }) → Known start r to more
supplied_enough start (ran ts) to more e = record { enough = refl; place = ap next_of e; passed = ap rejected_of e }
supplied_enough start (short k) to more e = clash cc

pub supplied-short : (start : ℕ) (r : Run) (k : ℕ) → supplied start r ≡ Err (Words k) → r ≡ short k
supplied-short start (ran ts) k e = clash cc
supplied-short start (short j) k e = ap short (cc)

pub word_short : (r : Run) (o : Outcome) (k : ℕ) → r ≡ short k → decide (no_word r ∷ []) o ≡ refused 10 k
word_short r o k e = decide_here _ _ _ (ap (λ (x : Run). (no_word x).applies) e) ∙ ap (λ (x : Run). refused (no_word x).number (no_word x).batch) e

pub word_done : (r : Run) (o : Outcome) → suffices r ≡ true → decide (no_word r ∷ []) o ≡ o
word_done (ran ts) o e = decide_past _ _ _ refl ∙ decide_none o
word_done (short k) o e = decide_past _ _ _ (sym e) ∙ decide_none o

module _ (L : ℕ) (plan : List (List ℕ)) (words : List ℕ) (start : ℕ) (o : Outcome) where
  pub no_start : length words < start → decide (of_words L plan words start) o ≡ refused 9 0
  no_start h = decide_here _ _ _ (lt-ltb (length words) start h)

  module _ (h : start ≤ length words) where
    pub no_words : (k : ℕ) → run L plan words start ≡ short k → decide (of_words L plan words start) o ≡ refused 10 k
    no_words k e = decide_past _ _ _ (le-ltb (length words) start h) ∙ word_short (run L plan words start) o k e

    pub words_done : suffices (run L plan words start) ≡ true → decide (of_words L plan words start) o ≡ o
    words_done e = decide_past _ _ _ (le-ltb (length words) start h) ∙ word_done (run L plan words start) o e

    pub words_short : (k : ℕ) → supplied start (run L plan words start) ≡ Err (Words k) → decide (of_words L plan words start) o ≡ refused 10 k
    words_short k e = no_words k (supplied-short start (run L plan words start) k e)

    pub words_drawn : (to more : ℕ) → supplied start (run L plan words start) ≡ Ok (record { next = to; rejected = more }) → decide (of_words L plan words start) o ≡ o
    words_drawn to more e = words_done (supplied_enough start (run L plan words start) to more e).enough

-- ---- what the caller sees of one outcome: the answer, and the lent list

pub refused-seen : (o : Outcome) (n k start : ℕ) (before : List ℕ) (a : Answer) → o ≡ refused n k → a ≡ shown start (refused n k)
    → (a ≡ shown start o) × (before ≡ left before o)
refused-seen o n k start before a e f = (f ∙ ap (shown start) (sym e), ap (left before) (sym e))

pub done-seen : (o : Outcome) (values : List ℕ) (start : ℕ) (r : Run) (to more : ℕ) (before out : List ℕ) (a : Answer)
    → o ≡ done values (trace r) → supplied start r ≡ Ok (record { next = to; rejected = more }) → a ≡ answered to more → out ≡ values ++ drop (length values) before
    → (a ≡ shown start o) × (out ≡ left before o)
done-seen o values start r to more before out a e s g f =
    let k = supplied_enough start r to more s in
    (g ∙ ap₂ answered (sym k.place) (sym k.passed) ∙ ap (shown start) (sym e), f ∙ ap (left before) (sym e))

pub none_seen : (o : Outcome) (values before out : List ℕ) (a : Answer) → o ≡ done values [] → a ≡ answered 0 0
    → out ≡ values ++ drop (length values) before → (a ≡ shown 0 o) × (out ≡ left before o)
unfolding next rejected
none_seen o values before out a e g f = (g ∙ ap (shown 0) (sym e), f ∙ ap (left before) (sym e))
