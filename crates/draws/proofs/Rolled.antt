-- The rolls of a sample, as they are written. Assumes nothing.
--
--   rolled-short, rolled-done   refused by 10, or done, by the answer of the dry run
--   rolled-count, rolled_range  n - 1 rolls, in range of the bounds k + 1, .., n, k, .., 2
--   rolled_whole                what a list with room for the rolls alone then holds
--   rolled_kept                 where the words do not suffice it holds what it held
--   rolled_left                 and where they do the rolls stand in front
use mathlib.Core.Path.{◌≡◌, refl, sym, ap, ◌∙◌}
use mathlib.Core.Bool.{true}
use mathlib.Core.List.{List, ◌++◌, append-nil}
use Prim.Native.Nat.{ℕ, ◌-◌, ◌^◌, ◌<◌, ◌≤◌}
use native.Mathlib.Omega.{arith}
use lib.Dec.{T}
use lib.ListN.{length, drop, drop_of_length-le}
use Rattle.rules.specs.Order.{AllBelow}
use Rattle.rules.specs.Plan.{PlanOf}
use Rattle.rules.specs.Rolls.{in_range}
use Rattle.rules.specs.Run.{Run, ran, short, run, trace, rolls_of, suffices}
use Rattle.rules.specs.Sample.{sample_bounds}
use Rattle.rules.specs.Width.{size64, w64}
use Rattle.rules.proofs.Joining.{length_run}
use Rattle.rules.proofs.Reach.{rolled_in_range}
use Rattle.rules.proofs.Samples.{sample_bounds_lem, sample-plan}
use Rattle.rules.proofs.ShufflePlans.{sizes_more, sizes64}
use Rattle.answers.specs.Outcome.{refused, done, from_run, left}
use Rattle.answers.specs.Supplied.{supplied}
use Rattle.std.specs.Prelude.{Ok, Err}
use Rattle.answers.specs.declared.refusal.Refusal as refusal
use Rattle.answers.specs.declared.refusal.Refusal.TheVariants.{Words}
use Rattle.rules.proofs.Facts.{clash}
use Rattle.answers.proofs.Deciding.{supplied_enough, supplied-short, word_short, word_done}
use Rattle.draws.specs.Inner.{rolled_sample}
use Rattle.draws.specs.Sample.{sample_plan}

module _ (words : List ℕ) (start n k : ℕ) where
  abbrev plan : List (List ℕ)
  plan = sample_plan w64 n k

  abbrev drawn : Run
  drawn = run 64 plan words start

  abbrev rolls : List ℕ
  rolls = rolls_of 64 plan (trace drawn)

  pub rolled-short : (j : ℕ) → supplied start drawn ≡ Err (Words j) → rolled_sample w64 words start n k ≡ refused 10 j
  rolled-short j e = word_short drawn _ j (supplied-short start drawn j e)

  pub rolled_kept : (r : refusal.Refusal) (before : List ℕ) → supplied start drawn ≡ Err r → before ≡ left before (rolled_sample w64 words start n k)
  rolled_kept r before e = go drawn refl e
    where
      go : (x : Run) → drawn ≡ x → supplied start x ≡ Err r → before ≡ left before (rolled_sample w64 words start n k)
      go (ran ts) f g = clash cc
      go (short j) f g = sym (ap (left before) (rolled-short j (ap (supplied start) f)))

  module _ (to more : ℕ) (e : supplied start drawn ≡ Ok (record { next = to; rejected = more })) where
    enough_words : suffices drawn ≡ true
    enough_words = (supplied_enough start drawn to more e).enough

    pub rolled-done : rolled_sample w64 words start n k ≡ done rolls (trace drawn)
    rolled-done = word_done drawn (from_run 64 plan words start (λ js. js)) enough_words

    module _ (some : 0 < k) (size : k ≤ n) (few : n ≤ 16384) where
      good : PlanOf (2 ^ 64) (sample_bounds n k) plan
      good = sample-plan size64 (2 ^ 56) (2 ^ 64) 16384 (omega arith) (sizes_more (omega arith) sizes64) n k (omega arith) (omega arith)

      pub rolled-count : length rolls ≡ n - 1
      rolled-count = length_run 64 plan words start enough_words ∙ ap length good.same ∙ (sample_bounds_lem n k some size).count

      pub rolled_range : AllBelow (2 ^ 64) words → T (in_range (sample_bounds n k) rolls)
      rolled_range w = rw good.same at (rolled_in_range 64 words w plan start 0 good.rollable (rw enough_words tt))

      pub rolled_whole : (before : List ℕ) → n - 1 ≡ length before → left before (rolled_sample w64 words start n k) ≡ rolls
      rolled_whole before h =
          ap (left before) rolled-done
          ∙ ap (λ (l : List ℕ). rolls ++ l) (drop_of_length-le before {i = length rolls} (omega (arith, rolled-count, h))) ∙ append-nil rolls

      pub rolled_left : (before out : List ℕ) → out ≡ rolls ++ drop (n - 1) before → out ≡ left before (rolled_sample w64 words start n k)
      rolled_left before out o = o ∙ ap (λ (m : ℕ). rolls ++ drop m before) (sym rolled-count) ∙ sym (ap (left before) rolled-done)
