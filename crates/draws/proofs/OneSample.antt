-- A sample, refusal by refusal. Assumes nothing.
--
--   sample-count, sample_size, sample-room   numbers 2, 3 and 6
--   sample_start, sample-short               numbers 9 and 10
--   sample-done                              done, where none of them applies
use mathlib.Core.Path.{◌≡◌, ◌∙◌}
use mathlib.Core.Bool.{true, false}
use mathlib.Core.List.{List}
use Prim.Native.Nat.{ℕ, ◌<◌, ◌≤◌}
use lib.Dec.{ltb}
use lib.ListN.{length}
use Rattle.rules.specs.Limits.{max_records}
use Rattle.rules.specs.Width.{Width}
use Rattle.rules.specs.Run.{run}
use Rattle.answers.specs.Outcome.{refused, decide, outside, of_words}
use Rattle.answers.specs.Supplied.{supplied}
use Rattle.std.specs.Prelude.{Ok, Err}
use Rattle.answers.specs.declared.refusal.Refusal.TheVariants.{Words}
use Rattle.answers.proofs.Deciding.{decide_here, decide_past, no_start, words_short, words_drawn}
use Rattle.draws.specs.Sample.{sample_plan, sampled, sample}

module _ (W : Width) (words : List ℕ) (start : ℕ) (xs : List ℕ) (k room : ℕ) where
  pub sample-count : outside 0 max_records (length xs) ≡ true → sample W words start xs k room ≡ refused 2 0
  unfolding sample
  sample-count e = decide_here _ _ _ e

  module _ (count : outside 0 max_records (length xs) ≡ false) where
    pub sample_size : outside 1 (length xs) k ≡ true → sample W words start xs k room ≡ refused 3 0
    unfolding sample
    sample_size e = decide_past _ _ _ count ∙ decide_here _ _ _ e

    module _ (size : outside 1 (length xs) k ≡ false) where
      pub sample-room : ltb room k ≡ true → sample W words start xs k room ≡ refused 6 0
      unfolding sample
      sample-room e = decide_past _ _ _ count ∙ decide_past _ _ _ size ∙ decide_here _ _ _ e

      module _ (fits : ltb room k ≡ false) where
        rest : sample W words start xs k room ≡ decide (of_words W.bits (sample_plan W (length xs) k) words start) (sampled W words start xs k)
        unfolding sample
        rest = decide_past _ _ _ count ∙ decide_past _ _ _ size ∙ decide_past _ _ _ fits

        pub sample_start : length words < start → sample W words start xs k room ≡ refused 9 0
        sample_start h = rest ∙ no_start W.bits (sample_plan W (length xs) k) words start _ h

        module _ (h : start ≤ length words) where
          pub sample-short : (j : ℕ) → supplied start (run W.bits (sample_plan W (length xs) k) words start) ≡ Err (Words j) → sample W words start xs k room ≡ refused 10 j
          sample-short j e = rest ∙ words_short W.bits (sample_plan W (length xs) k) words start _ h j e

          pub sample-done : (to more : ℕ) → supplied start (run W.bits (sample_plan W (length xs) k) words start) ≡ Ok (record { next = to; rejected = more })
              → sample W words start xs k room ≡ sampled W words start xs k
          sample-done to more e = rest ∙ words_drawn W.bits (sample_plan W (length xs) k) words start (sampled W words start xs k) h to more e
