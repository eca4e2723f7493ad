-- The words for two plans, one after the other, by the dry runs of both: the second from the place after the first's last word on. Over every
-- width. Assumes nothing.
--
--   first_short     the words end in the first plan
--   second_used     what the first used is counted back: its batches and those it rejected
--   second_short    the words end in the second plan: its batches are counted on
--   both_enough     the words suffice for both, and the rolls are those of the one and then of the other
use mathlib.Core.Path.{◌≡◌, refl, sym, ap, ap₂, ◌∙◌}
use mathlib.Core.List.{List, ◌++◌}
use Prim.Native.Nat.{ℕ, ◌+◌, ◌-◌, ◌≤◌}
use native.Mathlib.Omega.{arith}
use lib.ListN.{length}
use Rattle.std.specs.Prelude.{Ok, Err}
use Rattle.rules.specs.Run.{Taken, Run, ran, short, run_from, run, trace, rolls_of, next, rejected}
use Rattle.rules.proofs.Facts.{clash}
use Rattle.rules.proofs.Joining.{run_both, run-first-short, run-second-short, length-trace, run_used, run_within, short_within, counted, run-counted, rolls-append, next-append, rejected-append}
use Rattle.answers.specs.Supplied.{supplied}
use Rattle.answers.specs.declared.refusal.Refusal.TheVariants.{Words}
use Rattle.answers.proofs.Deciding.{supplied-short, next_of, rejected_of}

-- a run whose words suffice, with its place after the last and its count
enough_ran : (start : ℕ) (r : Run) (to more : ℕ) → supplied start r ≡ Ok (record { next = to; rejected = more })
    → (ts : List Taken) × (r ≡ ran ts) × (next start ts ≡ to) × (rejected start ts ≡ more)
enough_ran start (ran ts) to more e = (ts, refl, ap next_of e, ap rejected_of e)
enough_ran start (short k) to more e = clash cc

module _ (L : ℕ) (p q : List (List ℕ)) (words : List ℕ) (start : ℕ) (h : start ≤ length words) where
  pub first_short : (k : ℕ) → supplied start (run L p words start) ≡ Err (Words k) → supplied start (run L (p ++ q) words start) ≡ Err (Words k)
  first_short k e = ap (supplied start) (run-first-short L q words p start k (supplied-short start (run L p words start) k e))

  module _ (from r : ℕ) (e : supplied start (run L p words start) ≡ Ok (record { next = from; rejected = r })) where
    pub second_used : (start + r ≤ from) × (from - start - r ≡ length p) × (from ≤ length words)
    second_used =
        let (ts, f, to, more) = enough_ran start (run L p words start) from r e in
        let u = run_used L p words start 0 ts f in
        (omega arith, omega arith, rw to at (run_within L p words start 0 ts f h))

    -- the second plan, with its batches counted on
    behind : run_from L q words from (length p) ≡ counted (length p) (run L q words from)
    behind = let n : length p ≡ length p + 0 = omega arith in ap (run_from L q words from) n ∙ run-counted L q words from (length p) 0

    pub second_short : (k : ℕ) → supplied from (run L q words from) ≡ Err (Words k)
        → (supplied start (run L (p ++ q) words start) ≡ Err (Words (from - start - r + k))) × (from + k ≤ length words)
    second_short k g =
        let (ts, f, to, more) = enough_ran start (run L p words start) from r e in
        let s = supplied-short from (run L q words from) k g in
        let on : run_from L q words (next start ts) (length p) ≡ short (length p + k) = ap (λ (m : ℕ). run_from L q words m (length p)) to ∙ behind ∙ ap (counted (length p)) s in
        let n : length p + k ≡ from - start - r + k = omega (arith, second_used.1) in (
          ap (supplied start) (run-second-short L q words p start ts (length p + k) f on) ∙ ap (λ (m : ℕ). Err (Words m)) n,
          omega (arith, short_within L q words from 0 k s second_used.2),
        )

    module _ (to more : ℕ) (g : supplied from (run L q words from) ≡ Ok (record { next = to; rejected = more })) where
      abbrev Both : Type 0
      Both =
          (supplied start (run L (p ++ q) words start) ≡ Ok (record { next = to; rejected = r + more })) × (r + more ≤ length words)
          × (rolls_of L (p ++ q) (trace (run L (p ++ q) words start)) ≡ rolls_of L p (trace (run L p words start)) ++ rolls_of L q (trace (run L q words from)))

      pub both_enough : Both
      both_enough =
          let (ts, f, at, less) = enough_ran start (run L p words start) from r e in
          let (us, i, end, passed) = enough_ran from (run L q words from) to more g in
          let on : run_from L q words (next start ts) (length p) ≡ ran us = ap (λ (m : ℕ). run_from L q words m (length p)) at ∙ behind ∙ ap (counted (length p)) i in
          let whole : run L (p ++ q) words start ≡ ran (ts ++ us) = run_both L q words p start ts us f on in
          let n : next start (ts ++ us) ≡ to = next-append start ts us ∙ ap (λ (m : ℕ). next m us) at ∙ end in
          let m : rejected start (ts ++ us) ≡ r + more = rejected-append start ts us ∙ ap₂ ◌+◌ less (ap (λ (m : ℕ). rejected m us) at ∙ passed) in (
            ap (supplied start) whole ∙ ap₂ (λ (x y : ℕ). Ok (record { next = x; rejected = y })) n m,
            omega (arith, second_used, run_used L q words from 0 us i, run_within L q words from 0 us i second_used.2),
            ap (λ (x : Run). rolls_of L (p ++ q) (trace x)) whole ∙ rolls-append L p q ts us (length-trace L p words start 0 ts f)
                ∙ ap₂ (λ (x y : Run). rolls_of L p (trace x) ++ rolls_of L q (trace y)) (sym f) (sym i),
          )
