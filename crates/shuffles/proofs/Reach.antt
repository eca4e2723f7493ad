-- Which words shuffle the records into which order: from the one series of rolls behind an order, and the run of words behind each
-- batch's rolls. Over a width. Assumes nothing.
--
--   DoneWith values outcome       not refused, and these are the values
--   shuffle_run, shuffle_rolls    the run of a shuffle, and its rolls
--   shuffle-gives                 a shuffle gives an order exactly when each batch got its word and the rolls give the order
--   shuffle_in_runs               one word for each batch: the shuffle gives the order exactly when each word lies in its batch's run
use mathlib.Core.Path.{◌≡◌, ap, ◌∙◌}
use mathlib.Core.Logic.{◌↔◌}
use mathlib.Core.List.{List, [], ◌∷◌}
use Prim.Native.Nat.{ℕ, ◌^◌, ◌≤◌}
use native.Mathlib.Nat.{le_of_lt}
use native.Mathlib.Omega.{arith}
use lib.Dec.{T}
use lib.ListN.{length}
use borrow.Author.Tests.{le-ltb}
use Rattle.rules.specs.Limits.{max_records}
use Rattle.rules.specs.Width.{Width}
use Rattle.rules.specs.Run.{Taken, Run, ran, short, run, trace, rolls_of, suffices}
use Rattle.answers.specs.Outcome.{done, decide, no_word, Outcome, refused}
use Rattle.rules.specs.Shuffle.{shuffle_with, shuffle_plan}
use Rattle.rules.specs.Order.{rolls_into, AllBelow, Distinct, Reorders}
use Rattle.rules.proofs.Runs.{InRuns}
use Rattle.shuffles.specs.Shuffle.{shuffle}
use Rattle.rules.proofs.ShufflePlans.{sizes_more, shuffle-plan}
use Rattle.rules.proofs.Widths.{GoodWidth}
use Rattle.rules.proofs.Orders.{one_series}
use Rattle.rules.proofs.Reach.{words_in_runs, rolled_in_range}

abbrev pub DoneWith : List ℕ → Outcome → Type 0
DoneWith values (refused number batch) = ⊥
DoneWith values (done drawn ts) = drawn ≡ values

-- ---- the shuffle

gives-run : (values ys : List ℕ) (us : List Taken) (r : Run) → DoneWith ys (decide (no_word r ∷ []) (done values us)) ↔ (T (suffices r) × (values ≡ ys))
unfolding decide
gives-run values ys us (ran ts) = (λ g. (tt, g), λ g. g.1)
gives-run values ys us (short k) = (λ g. absurd g, λ g. absurd g.0)

abbrev pub shuffle_run : Width → List ℕ → ℕ → List ℕ → Run
shuffle_run W words start xs = run W.bits (shuffle_plan W.size (length xs)) words start

abbrev pub shuffle_rolls : Width → List ℕ → ℕ → List ℕ → List ℕ
shuffle_rolls W words start xs = rolls_of W.bits (shuffle_plan W.size (length xs)) (trace (shuffle_run W words start xs))

pub shuffle-gives : (W : Width) (words : List ℕ) (start : ℕ) (xs ys : List ℕ) → length xs ≤ max_records → start ≤ length words
    → DoneWith ys (shuffle W words start xs)
    ↔ (T (suffices (shuffle_run W words start xs)) × (shuffle_with (length xs) (shuffle_rolls W words start xs) xs ≡ ys))
unfolding shuffle decide
shuffle-gives W words start xs ys h k =
    rw (le-ltb (length xs) 0 (omega arith), le-ltb max_records (length xs) h, le-ltb (length words) start k)
    (gives-run (shuffle_with (length xs) (shuffle_rolls W words start xs) xs) ys _ (shuffle_run W words start xs))

pub shuffle_in_runs : (W : Width) → GoodWidth W → (xs ys words : List ℕ) → length xs ≤ max_records
    → Distinct xs → Reorders xs ys → length words ≡ length (shuffle_plan W.size (length xs)) → AllBelow (2 ^ W.bits) words
    → DoneWith ys (shuffle W words 0 xs) ↔ InRuns W.bits (shuffle_plan W.size (length xs)) (rolls_into (length xs) xs ys) words
shuffle_in_runs W z xs ys words h d o n w =
    let plan : List (List ℕ) = shuffle_plan W.size (length xs) in
    let good = shuffle-plan (sizes_more (le_of_lt z.fits) z.sizes) (length xs) h in
    let one = one_series xs ys d o in
    let gives = shuffle-gives W words 0 xs ys h (omega arith) in
    let runs = words_in_runs W.bits plan (rolls_into (length xs) xs ys) words good.rollable (rw good.same one.is_in_range) n w in (
      λ g.
          let (s, e) = gives.0 g in
          let i = rolled_in_range W.bits words w plan 0 0 good.rollable s in
          runs.0 (s, one.unique (shuffle_rolls W words 0 xs) (rw good.same at i) e),
      λ r.
          let (s, e) = runs.1 r in
          gives.1 (s, ap (λ (rs : List ℕ). shuffle_with (length xs) rs xs) e ∙ one.gives),
    )
