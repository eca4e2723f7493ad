-- Which words give which rolls, over every width and plan: with one word for each batch, a run over the plan gives the rolls exactly
-- when each word lies in its batch's run. No word may be rejected, since fewer words than batches are too few. Assumes nothing.
--
--   rolled_in_range            the rolls of a run are in range
--   words_in_runs              one word for each batch: the run gives the rolls exactly when each word lies in its run
use mathlib.Core.Path.{◌≡◌, refl, sym, ap, ap₂, ◌∙◌, subst}
use mathlib.Core.Logic.{◌↔◌}
use mathlib.Core.Bool.{Bool, true, false}
use mathlib.Core.List.{List, [], ◌∷◌, ◌++◌}
use Prim.Native.Nat.{ℕ, ◌+◌, ◌^◌, ◌<◌, ◌≤◌}
use native.Mathlib.Omega.{arith}
use lib.Dec.{T}
use lib.ListN.{length, take, drop, get_or, take-append-drop, drop_of_length-le}
use lib.Seq.{take_at, drop_at}
use Rattle.rules.specs.Rolls.{rolls, accepted, in_range}
use Rattle.rules.proofs.Rolls.{length-rolls, rolls_in_range}
use Rattle.rules.proofs.Range.{range_split, range_join}
use Rattle.rules.proofs.Words.{words_behind_lem}
use Rattle.rules.specs.Run.{Taken, Found, found, missing, find, Run, ran, short, after, run_from, run, trace, rolls_of, suffices}
use Rattle.rules.proofs.Finding.{find_hit, find_miss, find_within}
use Rattle.rules.proofs.Running.{run_hit, run_missing, after-suffices}
use Rattle.rules.proofs.Writing.{drop-next}
use Rattle.rules.specs.Order.{AllBelow}
use Rattle.rules.specs.Plan.{joined, Rollable, RollablePlan}
use Rattle.rules.proofs.Runs.{InRuns, Rolled}

-- ---- a run that is not short

module _ (L : ℕ) (words : List ℕ) where
  short_of_words : (plan : List (List ℕ)) (start batch : ℕ) → start ≤ length words → length words < start + length plan
      → T (suffices (run_from L plan words start batch)) → ⊥
  short_of_words [] start batch h l s = omega arith
  short_of_words (bs ∷ plan) start batch h l s = go (find (accepted L bs) (drop start words) start) refl (short_of_words plan)
    where
      go : (f : Found) → find (accepted L bs) (drop start words) start ≡ f
          → ((start batch : ℕ) → start ≤ length words → length words < start + length plan → T (suffices (run_from L plan words start batch)) → ⊥) → ⊥
      go missing e ih = rw (run_missing L bs plan words start batch e) at s
      go (found t) e ih =
          let b = find_within (accepted L bs) words start e in
          ih (t.place + 1) (batch + 1) (omega (arith, b.1)) (omega (arith, b.0))
          (rw (run_hit L bs plan words start batch e, after-suffices) at s)

abbrev InRangeOf : ℕ → List (List ℕ) → Run → Type 0
InRangeOf L plan r = T (suffices r) → T (in_range (joined plan) (rolls_of L plan (trace r)))

range_after : (L : ℕ) (bs : List ℕ) (plan : List (List ℕ)) (t : Taken) (r : Run) → Rollable (2 ^ L) bs → t.word < 2 ^ L
    → InRangeOf L plan r → InRangeOf L (bs ∷ plan) (after t r)
unfolding joined rolls_of
range_after L bs plan t (ran ts) b h i s =
    range_join bs (joined plan) (rolls L bs t.word) (rolls_of L plan ts) (rolls_in_range L bs t.word b.positive h) (i s)
range_after L bs plan t (short k) b h i s = absurd s

pub rolled_in_range : (L : ℕ) (words : List ℕ) → AllBelow (2 ^ L) words → (plan : List (List ℕ)) (start batch : ℕ) → RollablePlan (2 ^ L) plan
    → T (suffices (run_from L plan words start batch)) → T (in_range (joined plan) (rolls_of L plan (trace (run_from L plan words start batch))))
rolled_in_range L words w [] start batch g s = unfold joined run_from rolls_of in_range in tt
rolled_in_range L words w (bs ∷ plan) start batch (b, g) s =
    go (find (accepted L bs) (drop start words) start) refl (λ start batch. rolled_in_range L words w plan start batch g) s
  where
    go : (f : Found) → find (accepted L bs) (drop start words) start ≡ f
        → ((start batch : ℕ) → InRangeOf L plan (run_from L plan words start batch)) → InRangeOf L (bs ∷ plan) (run_from L (bs ∷ plan) words start batch)
    go missing e ih = rw (run_missing L bs plan words start batch e) (λ s. absurd s)
    go (found t) e ih =
        let f = find_within (accepted L bs) words start e in
        rw (run_hit L bs plan words start batch e)
        (range_after L bs plan t (run_from L plan words (t.place + 1) (batch + 1)) b (rw f.2 (w t.place f.1)) (ih (t.place + 1) (batch + 1)))

-- ---- one word for each batch

-- the rolls of a batch and of those after it
rolled-after : (L : ℕ) (bs : List ℕ) (plan : List (List ℕ)) (rs : List ℕ) (t : Taken) (r : Run)
    → Rolled L (bs ∷ plan) rs (after t r) ↔ ((rolls L bs t.word ≡ take (length bs) rs) × Rolled L plan (drop (length bs) rs) r)
unfolding rolls_of
rolled-after L bs plan rs t (ran ts) =
    let mine : List ℕ = rolls L bs t.word in
    let later : List ℕ = rolls_of L plan ts in
    let n : length mine ≡ length bs = length-rolls L bs t.word in (
      λ (s, e). (sym (take_at mine later (length bs) n) ∙ ap (take (length bs)) e, (s, sym (drop_at mine later (length bs) n) ∙ ap (drop (length bs)) e)),
      λ (e, g). (g.0, ap₂ ◌++◌ e g.1 ∙ take-append-drop (length bs) rs),
    )
rolled-after L bs plan rs t (short k) = (λ g. absurd g.0, λ g. absurd g.1.0)

module _ (L : ℕ) (words : List ℕ) (bs : List ℕ) (plan : List (List ℕ)) (start batch : ℕ) (h : start < length words) where
  run-accepted : accepted L bs (get_or words start 0) ≡ true
      → run_from L (bs ∷ plan) words start batch
      ≡ after (record { place = start; word = get_or words start 0 }) (run_from L plan words (start + 1) (batch + 1))
  run-accepted e = run_hit L bs plan words start batch (find_hit (accepted L bs) words start h e)

  run-rejected : accepted L bs (get_or words start 0) ≡ false → run_from L (bs ∷ plan) words start batch ≡ run_from L (bs ∷ plan) words (start + 1) batch
  unfolding run_from
  run-rejected e = rw (find_miss (accepted L bs) words start h e, run_from)

  -- a rejected word leaves too few for the batches
  first_batch : (rs : List ℕ) → start + length (bs ∷ plan) ≡ length words
      → Rolled L (bs ∷ plan) rs (run_from L (bs ∷ plan) words start batch)
      ↔ (T (accepted L bs (get_or words start 0)) × (rolls L bs (get_or words start 0) ≡ take (length bs) rs)
      × Rolled L plan (drop (length bs) rs) (run_from L plan words (start + 1) (batch + 1)))
  first_batch rs n = go (accepted L bs (get_or words start 0)) refl
    where
      go : (b : Bool) → accepted L bs (get_or words start 0) ≡ b
          → Rolled L (bs ∷ plan) rs (run_from L (bs ∷ plan) words start batch)
          ↔ (T b × (rolls L bs (get_or words start 0) ≡ take (length bs) rs)
          × Rolled L plan (drop (length bs) rs) (run_from L plan words (start + 1) (batch + 1)))
      go true e =
          let a = rolled-after L bs plan rs (record { place = start; word = get_or words start 0 }) (run_from L plan words (start + 1) (batch + 1)) in
          rw (run-accepted e) (λ g. let x = a.0 g in (tt, x.0, x.1), λ (t, x, y). a.1 (x, y))
      go false e = (
        λ g. absurd (short_of_words L words (bs ∷ plan) (start + 1) batch (omega arith) (omega arith) (rw (run-rejected e) at g.0)),
        λ g. absurd g.0,
      )

module _ (L : ℕ) (words : List ℕ) (w : AllBelow (2 ^ L) words) where
  from_place : (plan : List (List ℕ)) (rs : List ℕ) (start batch : ℕ) → RollablePlan (2 ^ L) plan → T (in_range (joined plan) rs)
      → start + length plan ≡ length words → Rolled L plan rs (run_from L plan words start batch) ↔ InRuns L plan rs (drop start words)
  unfolding joined in_range run_from rolls_of
  from_place [] [] start batch g i n = rw (drop_of_length-le words {i = start} (omega arith)) (λ r. tt, λ r. (tt, refl))
  from_place [] (r ∷ rs) start batch g i n = absurd i
  from_place (bs ∷ plan) rs start batch (b, g) i n =
      let h : start < length words = omega arith in
      let s = range_split bs (joined plan) rs i in
      let first = first_batch L words bs plan start batch h rs n in
      let behind = words_behind_lem L bs (take (length bs) rs) b.positive b.fits s.0 (get_or words start 0) (w start h) in
      let later = from_place plan (drop (length bs) rs) (start + 1) (batch + 1) g s.1 (omega arith) in
      subst (λ (l : List ℕ). Rolled L (bs ∷ plan) rs (run_from L (bs ∷ plan) words start batch) ↔ InRuns L (bs ∷ plan) rs l) (sym (drop-next words start h)) (
        λ r. let (t, e, x) = first.0 r in let (low, high) = behind.0 (t, e) in (low, high, later.0 x),
        λ (low, high, x). let (t, e) = behind.1 (low, high) in first.1 (t, e, later.1 x),
      )

-- with as many words as batches, all of them from place 0 on
pub words_in_runs : (L : ℕ) (plan : List (List ℕ)) (rs words : List ℕ) → RollablePlan (2 ^ L) plan → T (in_range (joined plan) rs)
    → length words ≡ length plan → AllBelow (2 ^ L) words → Rolled L plan rs (run L plan words 0) ↔ InRuns L plan rs words
words_in_runs L plan rs words g i n w = from_place L words w plan rs 0 0 g i (omega arith)
