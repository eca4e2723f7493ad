-- The final shuffle of a sample. Assumes nothing.
--
--   no-later, all_shuffled    with k = n no bound is cut before those of the shuffle, and no roll is read before its own
--   final_shuffle             the statement, at 64 bits
use mathlib.Core.Path.{◌≡◌, refl, sym, ap, ◌∙◌}
use mathlib.Core.List.{List, [], append-nil}
use Prim.Native.Nat.{ℕ, ◌+◌, ◌-◌}
use native.Mathlib.Omega.{arith}
use lib.Dec.{T}
use lib.ListN.{length}
use lib.Seq.{drop-length, take-length}
use borrow.Author.Tests.{le-ltb}
use Rattle.rules.specs.Cut.{cut, cut_from}
use Rattle.rules.specs.Limits.{max_records}
use Rattle.rules.specs.Reservoir.{countup, reservoir}
use Rattle.rules.specs.Rolls.{rolls, rest, product}
use Rattle.rules.specs.Run.{find, run, run_from, trace, rolls_of, next, rejected}
use Rattle.rules.specs.Sample.{sample_with}
use Rattle.rules.specs.Shuffle.{exchange, shuffle_with, countdown, shuffle_plan_from, shuffle_plan}
use Rattle.rules.specs.Width.{Width, size64, w64}
use Rattle.rules.proofs.PinnedCut.{cut_pinned}
use Rattle.rules.proofs.Samples.{sample_parts}
use Rattle.rules.proofs.Widths.{GoodWidth, good64}
use Rattle.answers.specs.Outcome.{Outcome, done, no, decide, outside, of_words, from_run}
use Rattle.answers.proofs.Deciding.{decide_past, decide_under, in_count}
use Rattle.shuffles.specs.Shuffle.{shuffle}
use Rattle.draws.specs.Sample.{sample_plan, sample, seen_sample}
use Rattle.promises.specs.Examples.{all}
use Rattle.promises.specs.FinalShuffle.{Batches, AllOfThem, OneAlone, NoOwnSlot, EarlyAndLate, table, FinalShuffle}
use Rattle.promises.proofs.InTurn.{in_turn}
use Rattle.promises.proofs.Sample.{could_come_up}
use Rattle.promises.proofs.Which.{differ}

batches : (W : Width) (n k : ℕ) → Batches W n k
batches W n k =
    let bs : List ℕ = countup (n - k) (k + 1) in
    record { reservoir = cut W.limit bs; cut = cut_pinned.holds W.limit bs; shuffled = refl }

-- ---- all records, and one

no-later : (W : Width) (n : ℕ) → sample_plan W n n ≡ shuffle_plan W.size n
unfolding cut countup
no-later W n = let z : n - n ≡ 0 = omega arith in rw z

all_shuffled : (rs xs : List ℕ) → sample_with (length xs) rs xs ≡ shuffle_with (length xs) rs xs
unfolding sample_with reservoir
all_shuffled rs xs =
    let z : length xs - length xs ≡ 0 = omega arith in
    rw (z, drop-length, take-length)

all_of_them : (W : Width) → AllOfThem W
unfolding sample shuffle
all_of_them W words start xs room some fits =
    let n : ℕ = length xs in
    let plan : List (List ℕ) = shuffle_plan W.size n in
    let o : List (List ℕ) → Outcome = λ p. from_run W.bits p words start (λ rs. sample_with n rs xs) in
    decide_under (no 2 (outside 0 max_records n)) _ (of_words W.bits plan words start) (o (sample_plan W n n)) _ (λ e.
    decide_past _ _ _ (in_count 1 n n some (omega arith)) ∙ decide_past _ _ _ (le-ltb room n fits)
    ∙ ap (λ (p : List (List ℕ)). decide (of_words W.bits p words start) (o p)) (no-later W n)
    ∙ ap (λ (values : List ℕ). decide (of_words W.bits plan words start) (done values (trace (run W.bits plan words start)))) (all_shuffled _ xs))

one_alone : (W : Width) → OneAlone W
unfolding shuffle_plan_from shuffle_with
one_alone W = record {
  batches = λ n. append-nil (cut W.limit (countup (n - 1) 2));
  reading = λ xs js e. ap (λ (l : List ℕ). sample_with 1 l xs) (sym (append-nil js)) ∙ sample_parts 1 xs js [] e;
}

-- ---- in which slot

no_own_slot : (W : Width) → GoodWidth W → NoOwnSlot W (seen_sample W)
no_own_slot W g n k i h two l b = (
  could_come_up W g n k i 0 h l (omega arith) (omega arith),
  (1, differ tt, omega arith, could_come_up W g n k i 1 h l (omega arith) (omega arith)),
)

early_and_late : (W : Width) → GoodWidth W → EarlyAndLate W (seen_sample W)
early_and_late W g n k w i h one below l b =
    ((0, one, could_come_up W g n k i 0 h l b (omega arith)), (w, omega arith, below, could_come_up W g n k i w h l b below))

examples : T (all table)
unfolding table product rest rolls find run_from rolls_of next rejected decide sample sample_with cut cut_from countup reservoir size64 shuffle_plan_from countdown shuffle_with exchange
examples = tt

pub final_shuffle : FinalShuffle w64
final_shuffle = record {
  batches = batches w64;
  in_turn = in_turn w64;
  all_of_them = all_of_them w64;
  one_alone = one_alone w64;
  no_own_slot = no_own_slot w64 good64;
  early_and_late = early_and_late w64 good64;
  examples = examples;
}
