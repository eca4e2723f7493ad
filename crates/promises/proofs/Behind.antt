-- The words behind rolls. Assumes nothing.
--
--   run_of, run_named, run_full    the run of a batch, as the operation gives it, and its length
--   promise                        the promise, at 64 bits
use mathlib.Core.Path.{◌≡◌, refl, sym, ◌∙◌}
use mathlib.Core.Bool.{false}
use mathlib.Core.List.{List, [], ◌∷◌}
use Prim.Native.Nat.{ℕ, ◌^◌, ◌<◌}
use native.Mathlib.Nat.{le_refl}
use native.Mathlib.Omega.{arith}
use lib.Dec.{T, eqb, lit<}
use lib.ListN.{length}
use borrow.Author.Tests.{le-ltb, ne_eqb, not-false}
use Rattle.rules.specs.Plan.{Rollable}
use Rattle.rules.specs.Rolls.{product, holds_zero, in_range, accepted, first_word, last_word}
use Rattle.rules.specs.Width.{Width, w64}
use Rattle.rules.proofs.Products.{product_pos_head, product_pos_tail}
use Rattle.rules.proofs.Range.{range_true}
use Rattle.rules.proofs.Words.{words_behind_lem, first-last, last_fits, run_length}
use Rattle.answers.specs.Outcome.{Outcome, decide, of_bounds, shown_behind}
use Rattle.answers.specs.declared.answer.Behind.{Behind}
use Rattle.answers.proofs.Deciding.{decide_past, decide_none, in_count}
use Rattle.runs.specs.Behind.{behind_refusals, words_behind, seen_behind}
use Rattle.runs.proofs.WayBack.{behind_found}
use Rattle.promises.specs.Demand1.{first_of}
use Rattle.promises.specs.Demand2.{Allowed}
use Rattle.promises.specs.Behind.{Numbers, FullRun, Gives, Demand1, Demand2, Settled, StandIns, Promise}
use Rattle.promises.proofs.Batch.{allowed_batch}
use Rattle.promises.proofs.Calls.{one_number}
use Rattle.promises.proofs.Method.{accepts_iff}
use Rattle.rules.proofs.Facts.{truth}
use Rattle.promises.proofs.Refusing.{as_refused, allowed_cons, named_nil, named_no, named_bounds, numbered_nil, numbered_no, numbered_bounds, settle}

pos_no_zero : (bs : List ℕ) → 0 < product bs → holds_zero bs ≡ false
unfolding holds_zero product
pos_no_zero [] p = refl
pos_no_zero (b ∷ bs) p =
    let e : eqb b 0 ≡ false = ne_eqb b 0 (λ z. omega (arith, product_pos_head b (product bs) p)) in
    rw e (pos_no_zero bs (product_pos_tail b (product bs) p))

-- bounds that can be rolled are not refused
rolls_allowed : (W : Width) (bs : List ℕ) → Rollable (2 ^ W.bits) bs → (o : Outcome) → decide (of_bounds W bs) o ≡ o
rolls_allowed W bs b o =
    decide_past _ _ _ (in_count 1 16 (length bs) b.some b.few) ∙ decide_past _ _ _ (pos_no_zero bs b.positive)
    ∙ decide_past _ _ _ (le-ltb (2 ^ W.bits) (product bs) b.fits) ∙ decide_none o

abbrev pub run_of : ℕ → List ℕ → List ℕ → Behind
run_of L bs rs = record { no = 0; next = 0; rejected = 0; first = first_word L bs rs; last = last_word L bs rs }

pub run_full : (L : ℕ) (bs rs : List ℕ) → Rollable (2 ^ L) bs → T (in_range bs rs) → FullRun L bs (run_of L bs rs)
run_full L bs rs b i = record {
  named = (refl, refl, refl);
  words = (first-last L bs rs b.positive b.fits, last_fits L bs rs b.positive b.fits i);
  long = run_length L bs rs b.positive b.fits;
}

pub run_named : (W : Width) (bs rs : List ℕ) → Rollable (2 ^ W.bits) bs → T (in_range bs rs) → seen_behind W bs rs ≡ run_of W.bits bs rs
run_named W bs rs b i = behind_found W bs rs (rolls_allowed W bs b) (truth (in_range bs rs) i)

numbers : (W : Width) → Numbers W
numbers W bs rs = refl

demand1 : (W : Width) → Demand1 W (seen_behind W)
unfolding words_behind
demand1 W bs rs w v =
    as_refused shown_behind shown_behind (λ (a : Behind). a.no) (λ n b. refl) (λ n b. refl) _ refl (behind_refusals W bs rs)
    (named_bounds W bs _ (named_no 7 _ _ named_nil)) (seen_behind W bs rs) refl

demand2 : (W : Width) → Demand2 W (seen_behind W)
demand2 W bs rs w v a =
    let (g, d) = allowed_batch W bs _ a in
    let i = range_true bs rs (not-false (in_range bs rs) (allowed_cons _ _ d).0) in
    rw (run_named W bs rs g i) (
      run_full W.bits bs rs g i,
      λ w h.
          let gives = accepts_iff W.bits bs g.positive w h rs in
          let behind = words_behind_lem W.bits bs rs g.positive g.fits i w h in
          (λ x. let (t, e) = gives.0 x in behind.0 (rw t tt, e), λ x. let (t, e) = behind.1 x in gives.1 (truth (accepted W.bits bs w) t, e)),
    )

-- two runs that hold the same words are the same
same-run : (W : Width) (bs rs : List ℕ) → Allowed (behind_refusals W bs rs) → (x y : Behind) → Gives W bs rs x → Gives W bs rs y → x ≡ y
same-run W bs rs al x y a b =
    let (f, in-x) = a al in
    let (g, in-y) = b al in
    let (n, p, r) = f.named in
    let (m, q, s) = g.named in
    let (xl, xt) = f.words in
    let (yl, yt) = g.words in
    let x0 = (in-y x.first (omega arith)).0 ((in-x x.first (omega arith)).1 (le_refl _, xl)) in
    let x1 = (in-y x.last (omega arith)).0 ((in-x x.last (omega arith)).1 (xl, le_refl _)) in
    let y0 = (in-x y.first (omega arith)).0 ((in-y y.first (omega arith)).1 (le_refl _, yl)) in
    let y1 = (in-x y.last (omega arith)).0 ((in-y y.last (omega arith)).1 (yl, le_refl _)) in
    let first : x.first ≡ y.first = omega (arith, x0.0, y0.0) in
    let last : x.last ≡ y.last = omega (arith, x1.1, y1.1) in
    λ i. record { no = (n ∙ sym m) i; next = (p ∙ sym q) i; rejected = (r ∙ sym s) i; first = first i; last = last i }

settled : (W : Width) → Settled W
settled W a b a1 a2 b1 b2 bs rs w v =
    settle (behind_refusals W bs rs) shown_behind (λ (x : Behind). x.no) (numbered_bounds W bs _ (numbered_no 7 _ _ (lit< tt) numbered_nil))
    (a bs rs) (b bs rs) (a1 bs rs w v) (b1 bs rs w v) (λ al. same-run W bs rs al (a bs rs) (b bs rs) (a2 bs rs w v) (b2 bs rs w v))

stand_ins : StandIns w64
unfolding first_of holds_zero product in_range
stand_ins = record {
  refuses = λ op r d. let one = one_number 1 (lit< tt) in let zero = one_number 0 (lit< tt) in
      r (1 ∷ []) (0 ∷ []) one zero (d (1 ∷ []) (0 ∷ []) one zero refl).0.named.0;
}

pub promise : Promise w64
promise = record { numbers = numbers w64; demand1 = demand1 w64; demand2 = demand2 w64; settled = settled w64; stand_ins = stand_ins }
