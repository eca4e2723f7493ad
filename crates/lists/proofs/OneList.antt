-- A list of bounds, refusal by refusal. Assumes nothing.
--
--   list_count, list_many, list_zero, list_room    numbers 2 (by its test, and by the count), 4 and 6
--   list_start, list_short                         numbers 9 and 10
--   list_done                                      done, where none of them applies
--   short_named                                    the refusal of a dry run is number 10
--   start_within, supplied_here, written_here      what the plan, its dry run and its writer say, of the bounds and words that were given
use Rattle.std.specs.Prelude.{Result, Ok, Err}
use mathlib.Core.Path.{◌≡◌, sym, ap, ◌∙◌}
use mathlib.Core.Bool.{true, false}
use mathlib.Core.List.{List, ◌++◌}
use Prim.Native.Nat.{ℕ, ◌^◌, ◌<◌, ◌≤◌}
use lib.Dec.{ltb}
use lib.ListN.{length, drop}
use Rattle.rules.specs.Rolls.{holds_zero}
use Rattle.rules.specs.Width.{Width}
use Rattle.rules.specs.Limits.{max_bounds}
use Rattle.rules.specs.Run.{Run, ran, short, run}
use Rattle.rules.specs.Cut.{cut}
use Rattle.answers.specs.Outcome.{refused, decide, outside, of_words, from_run}
use Rattle.lists.specs.List.{roll_list}
use Rattle.answers.specs.Supplied.{supplied}
use Rattle.answers.specs.Results.{batch_of}
use Rattle.answers.specs.declared.refusal.Refusal.{Refusal}
use Rattle.answers.specs.declared.refusal.Refusal.TheVariants.{Words}
use Rattle.answers.specs.declared.results.Used.{Used}
use Rattle.rules.proofs.Facts.{clash}
use Rattle.rules.proofs.Running.{rolled_by}
use Rattle.answers.proofs.Deciding.{above_count, decide_here, decide_past, no_start, words_short, words_drawn}

module _ (W : Width) (words : List ℕ) (start : ℕ) (bs : List ℕ) (room : ℕ) where
  pub list_count : outside 0 max_bounds (length bs) ≡ true → roll_list W words start bs room ≡ refused 2 0
  unfolding roll_list
  list_count e = decide_here _ _ _ e

  pub list_many : max_bounds < length bs → roll_list W words start bs room ≡ refused 2 0
  list_many h = list_count (above_count 0 max_bounds (length bs) h)

  module _ (count : outside 0 max_bounds (length bs) ≡ false) where
    pub list_zero : holds_zero bs ≡ true → roll_list W words start bs room ≡ refused 4 0
    unfolding roll_list
    list_zero e = decide_past _ _ _ count ∙ decide_here _ _ _ e

    module _ (zeros : holds_zero bs ≡ false) where
      pub list_room : ltb room (length bs) ≡ true → roll_list W words start bs room ≡ refused 6 0
      unfolding roll_list
      list_room e = decide_past _ _ _ count ∙ decide_past _ _ _ zeros ∙ decide_here _ _ _ e

      module _ (fits : ltb room (length bs) ≡ false) where
        rest : roll_list W words start bs room
            ≡ decide (of_words W.bits (cut W.limit bs) words start) (from_run W.bits (cut W.limit bs) words start (λ rs. rs))
        unfolding roll_list
        rest = decide_past _ _ _ count ∙ decide_past _ _ _ zeros ∙ decide_past _ _ _ fits

        pub list_start : length words < start → roll_list W words start bs room ≡ refused 9 0
        list_start h = rest ∙ no_start W.bits (cut W.limit bs) words start _ h

        module _ (h : start ≤ length words) where
          pub list_short : (k : ℕ) → supplied start (run W.bits (cut W.limit bs) words start) ≡ Err (Words k) → roll_list W words start bs room ≡ refused 10 k
          list_short k e = rest ∙ words_short W.bits (cut W.limit bs) words start _ h k e

          pub list_done : (to more : ℕ) → supplied start (run W.bits (cut W.limit bs) words start) ≡ Ok (record { next = to; rejected = more })
              → roll_list W words start bs room ≡ from_run W.bits (cut W.limit bs) words start (λ rs. rs)
          list_done to more e = rest ∙ words_drawn W.bits (cut W.limit bs) words start _ h to more e

pub short_named : (start : ℕ) (r : Run) (refusal : Refusal) → supplied start r ≡ Err refusal → refusal ≡ Words (batch_of refusal)
short_named start (ran ts) refusal e = clash cc
short_named start (short k) refusal e = let f : refusal ≡ Words k = cc in f ∙ sym (ap (λ (x : Refusal). Words (batch_of x)) f)

-- ---- the plan and the words hold the lists that were given

module _ (bs bounds list words : List ℕ) (next start : ℕ) (b : bs ≡ bounds) (l : list ≡ words) (n : next ≡ start) where
  pub start_within : next ≤ length list → start ≤ length words
  start_within h = rw (← l, ← n) h

  pub supplied_here : (r : Result Used Refusal) → r ≡ supplied next (run 64 (cut (2 ^ 56) bs) list next)
      → supplied start (run 64 (cut (2 ^ 56) bounds) words start) ≡ r
  supplied_here r e = rw (← b, ← l, ← n) (sym e)

  pub written_here : (lent out : List ℕ) → out ≡ rolled_by 64 (cut (2 ^ 56) bs) (run 64 (cut (2 ^ 56) bs) list next) ++ drop (length bs) lent
      → out ≡ rolled_by 64 (cut (2 ^ 56) bounds) (run 64 (cut (2 ^ 56) bounds) words start) ++ drop (length bounds) lent
  written_here lent out e = rw (← b, ← l, ← n) e
