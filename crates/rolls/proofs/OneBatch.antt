-- One batch, by what is found of it. Assumes nothing.
--
--   one_refused        bounds that are refused
--   one_start          number 9
--   one_not_found      number 10, where the search finds no word
--   found_within       a word that it finds is one of the list
--   one_found          the rolls in front of zeros, as the caller sees them, where it finds one
use Rattle.std.specs.Prelude.{Some, None, Ok}
use mathlib.Core.Path.{◌≡◌, sym, ap, ◌∙◌}
use mathlib.Core.List.{List, [], ◌∷◌, ◌++◌, append-nil}
use Prim.Native.Nat.{ℕ, zero, suc, ◌+◌, ◌-◌, ◌<◌, ◌≤◌}
use native.Mathlib.Nat.{suc-sub-suc, sub-zero}
use native.Mathlib.Omega.{arith}
use lib.ListN.{length, drop, replicate}
use Rattle.rules.specs.Limits.{max_batch}
use Rattle.rules.specs.Rolls.{rolls, accepted}
use Rattle.rules.specs.Run.{Taken, found, find, Run, ran, suffices, run_from, run, trace, rolls_of, next, rejected}
use Rattle.rules.specs.Width.{Width}
use Rattle.rules.proofs.Finding.{find_within}
use Rattle.rules.proofs.Rolls.{length-rolls}
use Rattle.rules.proofs.Running.{run_hit, run_missing}
use Rattle.answers.specs.Outcome.{Outcome, refused, done, decide, of_bounds, of_words, from_run, shown_batch}
use Rattle.answers.specs.declared.answer.Batch.{Batch}
use Rattle.answers.specs.Results.{batch_answer_of}
use Rattle.answers.proofs.Deciding.{decide-append, no_start, no_words, words_done}
use Rattle.rolls.specs.Batch.{roll_batch}
use Rattle.rolls.specs.Inner.{searched}
use Rattle.rolls.proofs.Searching.{searched_hit, searched_missing}

-- ---- sixteen places

drop-zeros : (n m : ℕ) → drop {A = ℕ} n (replicate m 0) ≡ replicate (m - n) 0
drop-zeros zero m = rw sub-zero
drop-zeros (suc n) zero = let e : 0 ≡ 0 - suc n = omega arith in ap (λ (k : ℕ). replicate k 0) e
drop-zeros (suc n) (suc m) = rw suc-sub-suc (drop-zeros n m)

-- what the code returns, of the rolls that it wrote to an array of sixteen zeros
shown_hit : (L : ℕ) (bs : List ℕ) (start w place : ℕ) (out : List ℕ) → out ≡ rolls L bs w ++ drop (length bs) (replicate max_batch 0)
    → batch_answer_of start (Ok (record { rolls = out; count = length bs; used = record { next = place + 1; rejected = place - start } }))
    ≡ shown_batch start (done (rolls L bs w) (record { place = place; word = w } ∷ []))
unfolding next rejected
shown_hit L bs start w place out e =
    let n : length bs ≡ length (rolls L bs w) = sym (length-rolls L bs w) in
    let z : out ≡ rolls L bs w ++ replicate (max_batch - length (rolls L bs w)) 0
    = e ∙ ap (λ (k : ℕ). rolls L bs w ++ drop k (replicate max_batch 0)) n ∙ ap (λ (l : List ℕ). rolls L bs w ++ l) (drop-zeros (length (rolls L bs w)) max_batch) in
    let m : place - start ≡ place - start + 0 = omega arith in
    λ i. record { no = 0; next = place + 1; rejected = m i; count = n i; rolls = z i }

-- ---- one batch

module _ (W : Width) (words : List ℕ) (start : ℕ) (bs : List ℕ) where
  abbrev L : ℕ
  L = W.bits

  past_bounds : roll_batch W words start bs ≡ decide (of_bounds W bs) (decide (of_words L (bs ∷ []) words start) (from_run L (bs ∷ []) words start (λ rs. rs)))
  unfolding roll_batch
  past_bounds = decide-append (of_bounds W bs) _ _

  pub one_refused : (n k : ℕ) → ((o : Outcome) → decide (of_bounds W bs) o ≡ refused n k) → (a : Batch) → a ≡ shown_batch start (refused n 0)
      → a ≡ shown_batch start (roll_batch W words start bs)
  one_refused n k r a e = e ∙ ap (shown_batch start) (sym (past_bounds ∙ r _))

  module _ (p : (o : Outcome) → decide (of_bounds W bs) o ≡ o) where
    rest : roll_batch W words start bs ≡ decide (of_words L (bs ∷ []) words start) (from_run L (bs ∷ []) words start (λ rs. rs))
    rest = past_bounds ∙ p _

    pub one_start : length words < start → roll_batch W words start bs ≡ refused 9 0
    one_start h = rest ∙ no_start L (bs ∷ []) words start _ h

    module _ (h : start ≤ length words) where
      pub one_not_found : searched start (find (accepted L bs) (drop start words) start) ≡ None → roll_batch W words start bs ≡ refused 10 0
      one_not_found s = rest ∙ no_words L (bs ∷ []) words start _ h 0 (run_missing L bs [] words start 0 (searched_missing start _ s))

      one_hit : (t : Taken) → find (accepted L bs) (drop start words) start ≡ found t → roll_batch W words start bs ≡ done (rolls L bs t.word) (t ∷ [])
      unfolding run_from rolls_of
      one_hit t e =
          let r : run L (bs ∷ []) words start ≡ ran (t ∷ []) = run_hit L bs [] words start 0 e in
          rest ∙ words_done L (bs ∷ []) words start _ h (ap suffices r)
          ∙ ap (λ (x : Run). done (rolls_of L (bs ∷ []) (trace x)) (trace x)) r
          ∙ ap (λ (l : List ℕ). done l (t ∷ [])) (append-nil (rolls L bs t.word))

      module _ (w place m : ℕ) (s : searched start (find (accepted L bs) (drop start words) start) ≡ Some (record { word = w; place = place; rejected = m })) where
        pub found_within : place < length words
        found_within = (find_within _ words start (searched_hit start _ w place m s).0).1

        pub one_found : (out : List ℕ) → out ≡ rolls L bs w ++ drop (length bs) (replicate max_batch 0)
            → batch_answer_of start (Ok (record { rolls = out; count = length bs; used = record { next = place + 1; rejected = m } })) ≡ shown_batch start (roll_batch W words start bs)
        one_found out e =
            let o = searched_hit start _ w place m s in
            rw o.1 (shown_hit L bs start w place out e ∙ ap (shown_batch start) (sym (one_hit (record { place = place; word = w }) o.0)))
