-- Plans one after the other: the run of p ++ q is the run of p and then that of q, from the place after p's last word on, with its batches
-- counted on. Over every width. Assumes nothing.
--
--   Then, run-append           the run of two plans
--   run_both, run-first-short,   where both suffice, where the first does not, and where only the second does not
--     run-second-short
--   length-trace               a run that suffices has a word for each batch
--   run_used, run_within       words used are batches and rejected; none is past the last word
--   short_within               a run that is short used a word for each batch before
--   counted, run-counted       batches numbered from another number on
--   length_run                 a run that suffices has as many rolls as bounds
--   rolls-append               its rolls are those of the one and then of the other
--   next-append                it ends where the second ends
--   rejected-append            and rejects what both reject
use mathlib.Core.Path.{◌≡◌, refl, sym, ap, ◌∙◌}
use mathlib.Core.Bool.{true}
use mathlib.Core.List.{List, [], ◌∷◌, ◌++◌, append_assoc}
use Prim.Native.Nat.{ℕ, suc, ◌+◌, ◌≤◌}
use native.Mathlib.Omega.{arith}
use lib.ListN.{length, drop, length-append}
use Rattle.rules.specs.Plan.{joined}
use Rattle.rules.specs.Rolls.{rolls, accepted}
use Rattle.rules.specs.Run.{Taken, Found, found, missing, find, Run, ran, short, after, run_from, run, trace, rolls_of, next, rejected, suffices}
use Rattle.rules.proofs.Facts.{clash}
use Rattle.rules.proofs.Finding.{find_within}
use Rattle.rules.proofs.Rolls.{length-rolls}
use Rattle.rules.proofs.Running.{run_hit, run_missing}

-- what was taken, in front of what a later run took
abbrev behind : List Taken → Run → Run
behind ts (ran us) = ran (ts ++ us)
behind ts (short k) = short k

-- a run, and then another that starts where it ends
abbrev pub Then : Run → (List Taken → Run) → Run
Then (ran ts) on = behind ts (on ts)
Then (short k) on = short k

behind-nil : (r : Run) → r ≡ behind [] r
behind-nil (ran us) = refl
behind-nil (short k) = refl

behind-cons : (t : Taken) (ts : List Taken) (r : Run) → after t (behind ts r) ≡ behind (t ∷ ts) r
behind-cons t ts (ran us) = refl
behind-cons t ts (short k) = refl

after_then : (t : Taken) (r : Run) (on : List Taken → Run) → after t (Then r (λ ts. on (t ∷ ts))) ≡ Then (after t r) on
after_then t (ran ts) on = behind-cons t ts (on (t ∷ ts))
after_then t (short k) on = refl

module _ (L : ℕ) (q : List (List ℕ)) (words : List ℕ) where
  pub run-append : (p : List (List ℕ)) (start batch : ℕ)
      → run_from L (p ++ q) words start batch ≡ Then (run_from L p words start batch) (λ ts. run_from L q words (next start ts) (batch + length p))
  unfolding run_from next
  run-append [] start batch =
      let e : batch ≡ batch + 0 = omega arith in
      ap (run_from L q words start) e ∙ behind-nil (run_from L q words start (batch + 0))
  run-append (bs ∷ p) start batch = go (find (accepted L bs) (drop start words) start) refl (run-append p)
    where
      go : (f : Found) → find (accepted L bs) (drop start words) start ≡ f
          → ((start batch : ℕ) → run_from L (p ++ q) words start batch ≡ Then (run_from L p words start batch) (λ ts. run_from L q words (next start ts) (batch + length p)))
          → run_from L (bs ∷ (p ++ q)) words start batch
          ≡ Then (run_from L (bs ∷ p) words start batch) (λ ts. run_from L q words (next start ts) (batch + length (bs ∷ p)))
      go missing e ih =
          run_missing L bs (p ++ q) words start batch e
          ∙ ap (λ (r : Run). Then r (λ ts. run_from L q words (next start ts) (batch + length (bs ∷ p)))) (sym (run_missing L bs p words start batch e))
      go (found t) e ih =
          let on : List Taken → Run = λ ts. run_from L q words (next start ts) (batch + length (bs ∷ p)) in
          let n : batch + 1 + length p ≡ batch + length (bs ∷ p) = omega arith in
          run_hit L bs (p ++ q) words start batch e ∙ ap (after t) (ih (t.place + 1) (batch + 1))
          ∙ ap (λ (m : ℕ). after t (Then (run_from L p words (t.place + 1) (batch + 1)) (λ ts. run_from L q words (next (t.place + 1) ts) m))) n
          ∙ after_then t (run_from L p words (t.place + 1) (batch + 1)) on
          ∙ ap (λ (r : Run). Then r on) (sym (run_hit L bs p words start batch e))

  module _ (p : List (List ℕ)) (start : ℕ) where
    pub run_both : (ts us : List Taken) → run L p words start ≡ ran ts → run_from L q words (next start ts) (length p) ≡ ran us
        → run L (p ++ q) words start ≡ ran (ts ++ us)
    run_both ts us e f =
        let n : 0 + length p ≡ length p = omega arith in
        run-append p start 0 ∙ ap (λ (r : Run). Then r (λ ts. run_from L q words (next start ts) (0 + length p))) e
        ∙ ap (λ (m : ℕ). behind ts (run_from L q words (next start ts) m)) n ∙ ap (behind ts) f

    pub run-first-short : (k : ℕ) → run L p words start ≡ short k → run L (p ++ q) words start ≡ short k
    run-first-short k e = run-append p start 0 ∙ ap (λ (r : Run). Then r (λ ts. run_from L q words (next start ts) (0 + length p))) e

    pub run-second-short : (ts : List Taken) (k : ℕ) → run L p words start ≡ ran ts → run_from L q words (next start ts) (length p) ≡ short k
        → run L (p ++ q) words start ≡ short k
    run-second-short ts k e f =
        let n : 0 + length p ≡ length p = omega arith in
        run-append p start 0 ∙ ap (λ (r : Run). Then r (λ ts. run_from L q words (next start ts) (0 + length p))) e
        ∙ ap (λ (m : ℕ). behind ts (run_from L q words (next start ts) m)) n ∙ ap (behind ts) f

-- ---- what is read off the two traces

after-ran : (t : Taken) (r : Run) (us : List Taken) → after t r ≡ ran us → (ts : List Taken) × (r ≡ ran ts) × (us ≡ t ∷ ts)
after-ran t (ran ts) us e =
    let f : ran (t ∷ ts) ≡ ran us = e in
    let same : us ≡ t ∷ ts = cc in
    (ts, refl, same)
after-ran t (short k) us e = clash cc

pub length-trace : (L : ℕ) (p : List (List ℕ)) (words : List ℕ) (start batch : ℕ) (ts : List Taken) → run_from L p words start batch ≡ ran ts → length ts ≡ length p
unfolding run_from
length-trace L [] words start batch ts e =
    let f : ran [] ≡ ran ts = e in
    let same : [] ≡ ts = cc in
    ap length (sym same)
length-trace L (bs ∷ p) words start batch ts e = go (find (accepted L bs) (drop start words) start) refl (length-trace L p words)
  where
    go : (f : Found) → find (accepted L bs) (drop start words) start ≡ f
        → ((start batch : ℕ) (us : List Taken) → run_from L p words start batch ≡ ran us → length us ≡ length p) → length ts ≡ suc (length p)
    go missing f ih = let z : short batch ≡ ran ts = sym (run_missing L bs p words start batch f) ∙ e in clash cc
    go (found t) f ih =
        let (us, g, h) = after-ran t (run_from L p words (t.place + 1) (batch + 1)) ts (sym (run_hit L bs p words start batch f) ∙ e) in
        ap length h ∙ ap suc (ih (t.place + 1) (batch + 1) us g)

pub run_used : (L : ℕ) (p : List (List ℕ)) (words : List ℕ) (start batch : ℕ) (ts : List Taken) → run_from L p words start batch ≡ ran ts
    → next start ts ≡ start + (length p + rejected start ts)
unfolding run_from next rejected
run_used L [] words start batch [] e = omega arith
run_used L [] words start batch (t ∷ ts) e = let f : ran [] ≡ ran (t ∷ ts) = e in clash cc
run_used L (bs ∷ p) words start batch ts e = go (find (accepted L bs) (drop start words) start) refl (run_used L p words)
  where
    go : (f : Found) → find (accepted L bs) (drop start words) start ≡ f
        → ((start batch : ℕ) (us : List Taken) → run_from L p words start batch ≡ ran us → next start us ≡ start + (length p + rejected start us))
        → next start ts ≡ start + (suc (length p) + rejected start ts)
    go missing f ih = let z : short batch ≡ ran ts = sym (run_missing L bs p words start batch f) ∙ e in clash cc
    go (found t) f ih =
        let (us, g, h) = after-ran t (run_from L p words (t.place + 1) (batch + 1)) ts (sym (run_hit L bs p words start batch f) ∙ e) in
        rw h (omega (arith, ih (t.place + 1) (batch + 1) us g, (find_within (accepted L bs) words start f).0))

pub run_within : (L : ℕ) (p : List (List ℕ)) (words : List ℕ) (start batch : ℕ) (ts : List Taken) → run_from L p words start batch ≡ ran ts
    → start ≤ length words → next start ts ≤ length words
unfolding run_from next
run_within L [] words start batch [] e h = h
run_within L [] words start batch (t ∷ ts) e h = let f : ran [] ≡ ran (t ∷ ts) = e in clash cc
run_within L (bs ∷ p) words start batch ts e h = go (find (accepted L bs) (drop start words) start) refl (run_within L p words)
  where
    go : (f : Found) → find (accepted L bs) (drop start words) start ≡ f
        → ((start batch : ℕ) (us : List Taken) → run_from L p words start batch ≡ ran us → start ≤ length words → next start us ≤ length words)
        → next start ts ≤ length words
    go missing f ih = let z : short batch ≡ ran ts = sym (run_missing L bs p words start batch f) ∙ e in clash cc
    go (found t) f ih =
        let (us, g, same) = after-ran t (run_from L p words (t.place + 1) (batch + 1)) ts (sym (run_hit L bs p words start batch f) ∙ e) in
        rw same (ih (t.place + 1) (batch + 1) us g (omega (arith, (find_within (accepted L bs) words start f).1)))

after-short : (t : Taken) (r : Run) (k : ℕ) → after t r ≡ short k → r ≡ short k
after-short t (ran ts) k e = clash cc
after-short t (short j) k e = e

pub short_within : (L : ℕ) (p : List (List ℕ)) (words : List ℕ) (start batch k : ℕ) → run_from L p words start batch ≡ short k
    → start ≤ length words → start + k ≤ length words + batch
unfolding run_from
short_within L [] words start batch k e h = let f : ran [] ≡ short k = e in clash cc
short_within L (bs ∷ p) words start batch k e h = go (find (accepted L bs) (drop start words) start) refl (short_within L p words)
  where
    go : (f : Found) → find (accepted L bs) (drop start words) start ≡ f
        → ((start batch k : ℕ) → run_from L p words start batch ≡ short k → start ≤ length words → start + k ≤ length words + batch)
        → start + k ≤ length words + batch
    go missing f ih =
        let same : short batch ≡ short k = sym (run_missing L bs p words start batch f) ∙ e in
        let b : batch ≡ k = cc in
        omega arith
    go (found t) f ih =
        let w = find_within (accepted L bs) words start f in
        let g = after-short t (run_from L p words (t.place + 1) (batch + 1)) k (sym (run_hit L bs p words start batch f) ∙ e) in
        omega (arith, ih (t.place + 1) (batch + 1) k g (omega (arith, w.1)), w.0)

-- the batches of a run, numbered from another number on
abbrev pub counted : ℕ → Run → Run
counted b (ran ts) = ran ts
counted b (short k) = short (b + k)

after-counted : (b : ℕ) (t : Taken) (r : Run) → after t (counted b r) ≡ counted b (after t r)
after-counted b t (ran ts) = refl
after-counted b t (short k) = refl

pub run-counted : (L : ℕ) (p : List (List ℕ)) (words : List ℕ) (start b c : ℕ)
    → run_from L p words start (b + c) ≡ counted b (run_from L p words start c)
unfolding run_from
run-counted L [] words start b c = refl
run-counted L (bs ∷ p) words start b c = go (find (accepted L bs) (drop start words) start) refl (run-counted L p words)
  where
    go : (f : Found) → find (accepted L bs) (drop start words) start ≡ f
        → ((start b c : ℕ) → run_from L p words start (b + c) ≡ counted b (run_from L p words start c))
        → run_from L (bs ∷ p) words start (b + c) ≡ counted b (run_from L (bs ∷ p) words start c)
    go missing f ih = run_missing L bs p words start (b + c) f ∙ ap (counted b) (sym (run_missing L bs p words start c f))
    go (found t) f ih =
        let n : b + c + 1 ≡ b + (c + 1) = omega arith in
        run_hit L bs p words start (b + c) f ∙ ap (λ (m : ℕ). after t (run_from L p words (t.place + 1) m)) n
        ∙ ap (after t) (ih (t.place + 1) b (c + 1)) ∙ after-counted b t (run_from L p words (t.place + 1) (c + 1))
        ∙ ap (counted b) (sym (run_hit L bs p words start c f))

length-rolled : (L : ℕ) (p : List (List ℕ)) (ts : List Taken) → length ts ≡ length p → length (rolls_of L p ts) ≡ length (joined p)
unfolding rolls_of joined
length-rolled L [] ts n = refl
length-rolled L (bs ∷ p) [] n = clash (omega arith)
length-rolled L (bs ∷ p) (t ∷ ts) n =
    length-append (rolls L bs t.word) (rolls_of L p ts) ∙ omega (arith, length-rolls L bs t.word, length-rolled L p ts (omega arith))
    ∙ sym (length-append bs (joined p))

pub length_run : (L : ℕ) (p : List (List ℕ)) (words : List ℕ) (start : ℕ) → suffices (run L p words start) ≡ true
    → length (rolls_of L p (trace (run L p words start))) ≡ length (joined p)
length_run L p words start e = go (run L p words start) refl e
  where
    go : (r : Run) → run L p words start ≡ r → suffices r ≡ true → length (rolls_of L p (trace r)) ≡ length (joined p)
    go (ran ts) f e = length-rolled L p ts (length-trace L p words start 0 ts f)
    go (short k) f e = clash cc

pub rolls-append : (L : ℕ) (p q : List (List ℕ)) (ts us : List Taken) → length ts ≡ length p
    → rolls_of L (p ++ q) (ts ++ us) ≡ rolls_of L p ts ++ rolls_of L q us
unfolding rolls_of
rolls-append L [] q [] us n = refl
rolls-append L [] q (t ∷ ts) us n = clash (omega arith)
rolls-append L (bs ∷ p) q [] us n = clash (omega arith)
rolls-append L (bs ∷ p) q (t ∷ ts) us n =
    ap (λ (l : List ℕ). rolls L bs t.word ++ l) (rolls-append L p q ts us (omega arith)) ∙ sym (append_assoc (rolls L bs t.word) (rolls_of L p ts) (rolls_of L q us))

pub next-append : (start : ℕ) (ts us : List Taken) → next start (ts ++ us) ≡ next (next start ts) us
unfolding next
next-append start [] us = refl
next-append start (t ∷ ts) us = next-append (t.place + 1) ts us

pub rejected-append : (start : ℕ) (ts us : List Taken) → rejected start (ts ++ us) ≡ rejected start ts + rejected (next start ts) us
unfolding rejected next
rejected-append start [] us = omega arith
rejected-append start (t ∷ ts) us = omega (arith, rejected-append (t.place + 1) ts us)
