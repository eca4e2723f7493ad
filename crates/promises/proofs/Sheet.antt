-- Running a draw sheet: a sheet that nothing refuses is drawn as the sample of its words and records. Assumes nothing.
--
--   fits                                                   the words of a sheet are below 2^64 and its records below 2^32
--   ten_or_none                                            past the third number nothing is given, or 10
--   few, size, words_left, rollable, method, roll_range    what is known of a sheet whose draw nothing refuses
--   none_refused                                           nothing refuses where no number is given
--   promise                                                the promise, at 64 bits
use mathlib.Core.Path.{◌≡◌, refl, sym, ap, subst, ◌∙◌}
use mathlib.Core.Logic.{◌⊎◌, inl, inr, ◌≢◌}
use mathlib.Core.List.{List, [], ◌∷◌, ◌++◌}
use Prim.Native.Nat.{ℕ, zero, suc, suc-le-suc, zero-le, ◌+◌, ◌^◌, ◌<◌, ◌≤◌}
use native.Mathlib.Nat.{pow-succ'}
use native.Mathlib.Omega.{arith}
use lib.Dec.{T, ltb, lit≤, lit<}
use lib.ListN.{length, take, drop}
use borrow.Author.Tests.{le-ltb, not-false}
use Rattle.rules.specs.Limits.{max_records}
use Rattle.rules.specs.Order.{AllBelow}
use Rattle.rules.specs.Plan.{RollablePlan}
use Rattle.rules.specs.Reservoir.{countup}
use Rattle.rules.specs.Rolls.{in_range}
use Rattle.rules.specs.Cut.{cut}
use Rattle.rules.specs.Run.{Run, ran, short, run, run_from, trace, rolls_of, next, rejected}
use Rattle.rules.specs.Sample.{sample_bounds, sample_with}
use Rattle.rules.specs.Shuffle.{shuffle_plan_from}
use Rattle.rules.specs.Width.{Width, w64}
use Rattle.rules.proofs.Samples.{length_drawn}
use Rattle.rules.proofs.Widths.{GoodWidth, good64}
use Rattle.answers.specs.Outcome.{Outcome, Refusal, no, no_word, of_words, left}
use Rattle.answers.specs.declared.answer.Answer.{Answer}
use Rattle.areas.specs.Area.{little, number, entries}
use Rattle.draws.specs.Sample.{sample_plan, sampled}
use Rattle.sheet.specs.Sheet.{Numbers, numbers, words_of, records_of, is_sound_sheet}
use Rattle.sheet.specs.ReadSheet.{unreadable, drawn_by, shown_drawn}
use Rattle.sheet.specs.RunSheet.{sheet_refusals, seen_sheet}
use Rattle.sheet.specs.declared.drawn.Drawn.{Drawn}
use Rattle.sheet.proofs.Reading.{length_records, right_size}
use Rattle.sheet.proofs.Running.{sheet_flat}
use Rattle.sheet.proofs.Soundness.{sound_known, sound_iff, sheet_records}
use Rattle.promises.specs.Demand1.{first_of}
use Rattle.promises.specs.Demand2.{Allowed, Lemire}
use Rattle.promises.specs.Sheet.{Bytes, CanMeet, Fits, When, Draws, Demand1, Demand2, Settled, StandIns, Promise, BatchNamed}
use Rattle.promises.proofs.Calls.{below_nil, below_cons, all_below, all_below_lem}
use Rattle.promises.proofs.Method.{by_method, rolled_range, same_seen}
use Rattle.promises.proofs.Refusing.{Numbered, as_refused, first_past, allowed_cons, allowed_done, named_no, named_word, numbered_no, numbered_word, settle, ten_last, names_batch, ten_no, ten_word}
use Rattle.promises.proofs.Sample.{plan_fits}
use Rattle.promises.proofs.Which.{differ, neither, which, none_applies, tested_sound, tested_size, tested_room}

-- ---- the words and the records of a sheet

below_drop : (at : ℕ) (s : List ℕ) → AllBelow 256 s → AllBelow 256 (drop at s)
below_drop zero s b = b
below_drop (suc at) [] b = b
below_drop (suc at) (x ∷ s) b = below_drop at s (λ i h. b (suc i) (suc-le-suc h))

little_below : (size : ℕ) (s : List ℕ) → AllBelow 256 s → little (take size s) < 256 ^ size
unfolding little
little_below zero s b = lit≤ tt
little_below (suc size) [] b = omega (arith, little_below size [] b, pow-succ' 256 size)
little_below (suc size) (x ∷ s) b =
    omega (arith, b 0 (omega arith), little_below size s (λ i h. b (suc i) (suc-le-suc h)), pow-succ' 256 size)

entries_below : (size count at : ℕ) (s : List ℕ) → AllBelow 256 s → AllBelow (256 ^ size) (entries size count at s)
unfolding entries
entries_below size zero at s b = below_nil
entries_below size (suc count) at s b =
    below_cons (number size at s) (entries size count (at + size) s) (little_below size (drop at s) (below_drop at s b)) (entries_below size count (at + size) s b)

pub fits : Fits
fits s b = (entries_below 8 (numbers s).words (numbers s).words_at s b, entries_below 4 (numbers s).records (numbers s).records_at s b)

-- ---- the demands

can_meet : (W : Width) → CanMeet W
can_meet W s room = ten_last (run W.bits (sample_plan W (numbers s).records (numbers s).k) (words_of s) 0) (1 ∷ 3 ∷ 6 ∷ [])

demand1 : (W : Width) → Demand1 W (seen_sheet W)
demand1 W s lent b =
    as_refused (λ o. (shown_drawn s o, left lent o)) (λ o. (shown_drawn s o, lent)) (λ (x : Drawn × List ℕ). x.0.no) (λ n b. refl) (λ n b. refl) _ refl
    (sheet_refusals W s (length lent))
    (named_no 1 _ _ (named_no 3 _ _ (named_no 6 _ _ (named_word (run W.bits (sample_plan W (numbers s).records (numbers s).k) (words_of s) 0)))))
    (seen_sheet W s lent) (ap (λ (o : Outcome). (shown_drawn s o, left lent o)) (sheet_flat W s (length lent)))

batch_named : (W : Width) → BatchNamed W
batch_named W s lent b =
    let r : Run = run W.bits (sample_plan W (numbers s).records (numbers s).k) (words_of s) 0 in
    names_batch (sheet_refusals W s (length lent)) (λ o. (shown_drawn s o, lent)) _ (seen_sheet W s lent) (λ (x : Drawn × List ℕ). x.0.batch) (λ n b. refl)
    (demand1 W s lent b) r (ten_no r 1 _ _ (differ tt) (ten_no r 3 _ _ (differ tt) (ten_no r 6 _ _ (differ tt) (ten_word r))))

-- past the third number nothing is given, or 10
pub ten_or_none : (third : ℕ) → (0 ≢ third) → (10 ≢ third) → (r : Run)
    → let n = (first_of (no_word r ∷ [])).number in ((n ≡ 0) ⊎ (n ≡ 10)) × (n ≢ 1) × (n ≢ 3) × (n ≢ third)
unfolding first_of
ten_or_none third z t (ran ts) = (inl refl, differ tt, differ tt, z)
ten_or_none third z t (short k) = (inr refl, differ tt, differ tt, t)

when : (W : Width) (s lent : List ℕ) → Bytes s → When s lent (seen_sheet W s lent).0.no
when W s lent b =
    let h : Numbers = numbers s in
    let r : Run = run W.bits (sample_plan W h.records h.k) (words_of s) 0 in
    subst (When s lent) (sym (demand1 W s lent b).lowest)
    (which
    (record {
      numbers = (differ tt, differ tt, differ tt);
      rests = (neither 1 0 10 (differ tt) (differ tt), neither 3 0 10 (differ tt) (differ tt), neither 6 0 10 (differ tt) (differ tt));
    })
    (no_word r ∷ []) (ten_or_none 6 (differ tt) (differ tt) r) _ _ _
    (tested_sound s) (tested_size h.records h.k h.w) (tested_room (length lent) h.k))

-- a start of 0 is never above the number of words
from_zero : (L : ℕ) (plan : List (List ℕ)) (words : List ℕ) → Allowed (no_word (run L plan words 0) ∷ []) → Allowed (of_words L plan words 0)
from_zero L plan words a = ap (λ (x : Refusal). x.applies) (first_past (no 9 (ltb (length words) 0)) _ (le-ltb (length words) 0 zero-le)) ∙ a

-- a sheet whose draw can meet one number more before 10, and meets none
module _ (g : GoodWidth w64) (s : List ℕ) (other : Refusal)
    (a : Allowed (unreadable s ++ other ∷ no_word (run 64 (sample_plan w64 (numbers s).records (numbers s).k) (words_of s) 0) ∷ [])) where
  abbrev k : ℕ
  k = (numbers s).k

  abbrev plan : List (List ℕ)
  plan = sample_plan w64 (numbers s).records k

  pub few : (numbers s).records ≤ max_records
  few = let v = sound_known s (not-false (is_sound_sheet s) (allowed_cons _ _ a).0) in omega (arith, sheet_records s v)

  pub size : (1 ≤ k) × (k ≤ (numbers s).records)
  size = let v = right_size (numbers s).records k (numbers s).w (allowed_cons _ _ (allowed_cons _ _ a).1).0 in (v.0, v.1)

  pub words_left : Allowed (of_words 64 plan (words_of s) 0)
  words_left = from_zero 64 plan (words_of s) (allowed_cons _ _ (allowed_cons _ _ (allowed_cons _ _ a).1).1).1

  pub rollable : RollablePlan (2 ^ 64) plan
  rollable = (plan_fits w64 g (numbers s).records k few size.1).rollable

  pub method : (b : Bytes s) (Read : List ℕ → Type 0) → let ts = trace (run 64 plan (words_of s) 0) in
      Read (rolls_of 64 plan ts) → Lemire 64 plan (words_of s) 0 (next 0 ts) (rejected 0 ts) Read
  method b Read x = by_method 64 plan (words_of s) 0 words_left rollable (fits s b).0 Read x

  pub roll_range : Bytes s → T (in_range (sample_bounds (numbers s).records k) (rolls_of 64 plan (trace (run 64 plan (words_of s) 0))))
  roll_range b =
      rolled_range 64 plan (words_of s) 0 words_left rollable (fits s b).0 (sample_bounds (numbers s).records k)
      (plan_fits w64 g (numbers s).records k few size.1).same

draws : (s lent : List ℕ) → Allowed (sheet_refusals w64 s (length lent)) → Bytes s → Draws w64 s lent (seen_sheet w64 s lent)
draws s lent a b =
    let k : ℕ = (numbers s).k in
    let xs : List ℕ = records_of s in
    let other : Refusal = no 6 (ltb (length lent) k) in
    let ran = sheet_flat w64 s (length lent) ∙ allowed_done (sheet_refusals w64 s (length lent)) (sampled w64 (words_of s) 0 xs k) a in
    let plan : List (List ℕ) = sample_plan w64 (numbers s).records k in
    let n = length_drawn k (rolls_of 64 plan (trace (run 64 plan (words_of s) 0))) xs (rw (length_records s) (size good64 s other a).1) in
    rw (ran, length_records s) (record {
      sample = record { none = (refl, refl); method = method good64 s other a b _ (rw n refl) };
      six = refl;
    })

demand2 : Demand2 w64 (seen_sheet w64)
demand2 s lent b a = draws s lent a b

numbered : (s : List ℕ) (room : ℕ) → Numbered (sheet_refusals w64 s room)
numbered s room = numbered_no 1 _ _ (lit< tt) (numbered_no 3 _ _ (lit< tt) (numbered_no 6 _ _ (lit< tt)
    (numbered_word (run 64 (sample_plan w64 (numbers s).records (numbers s).k) (words_of s) 0))))

pub none_refused : (s lent : List ℕ) → Bytes s → (seen_sheet w64 s lent).0.no ≡ 0 → Allowed (sheet_refusals w64 s (length lent))
none_refused s lent b z = none_applies (sheet_refusals w64 s (length lent)) (numbered s (length lent)) (sym (demand1 w64 s lent b).lowest ∙ z)

settled : Settled w64
settled a b a1 a2 b1 b2 s lent bytes =
    settle (sheet_refusals w64 s (length lent)) (λ o. (shown_drawn s o, lent)) (λ (x : Drawn × List ℕ). x.0.no) (numbered s (length lent))
    (a s lent) (b s lent) (a1 s lent bytes) (b1 s lent bytes) (λ al.
    let k : ℕ = (numbers s).k in
    let x = a2 s lent bytes al in
    let y = b2 s lent bytes al in
    let same = same_seen 64 (sample_plan w64 (numbers s).records k) (words_of s) (rollable good64 s (no 6 (ltb (length lent) k)) al) (fits s bytes).0 0
    (λ rs. sample_with k rs (records_of s) ++ drop k lent) _ _ x.sample y.sample in
    let drawn = x.six ∙ ap (λ (z : Answer × List ℕ). drawn_by s z.0.next z.0.rejected) same ∙ sym y.six in
    let after = ap (λ (z : Answer × List ℕ). z.1) same in
    λ i. (drawn i, after i))

-- a sheet of no word and one record, k = 1, w = 0
small_sheet : List ℕ
small_sheet =
    0 ∷ 0 ∷ 0 ∷ 0 ∷ 24 ∷ 0 ∷ 0 ∷ 0 ∷ 1 ∷ 0 ∷ 0 ∷ 0 ∷ 24 ∷ 0 ∷ 0 ∷ 0 ∷ 1 ∷ 0 ∷ 0 ∷ 0 ∷ 0 ∷ 0 ∷ 0 ∷ 0 ∷ 7 ∷ 0 ∷ 0 ∷ 0 ∷ []

small_bytes : Bytes small_sheet
unfolding small_sheet all_below
small_bytes = all_below_lem 256 small_sheet tt

stand_ins : StandIns w64
unfolding first_of run_from cut countup shuffle_plan_from little entries small_sheet
stand_ins = record {
  refuses = λ op r d. r small_sheet (0 ∷ []) small_bytes (d small_sheet (0 ∷ []) small_bytes refl).sample.none.0;
}

pub promise : Promise w64
promise = record {
  numbers = can_meet w64;
  sound = sound_iff;
  fits = fits;
  demand1 = demand1 w64;
  batch = batch_named w64;
  when = when w64;
  demand2 = demand2;
  settled = settled;
  stand_ins = stand_ins;
}
