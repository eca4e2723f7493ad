-- `draws::sample::draw_sample` meets its contract: the rolls stand in front of a local array, and where the words suffice the slots are filled by
-- them. Assumes nothing.
use mathlib.Core.Path.{◌≡◌, refl, ◌∙◌, sym, ap, ap₂}
use mathlib.Core.List.{List, ◌++◌}
use Prim.Native.Nat.{ℕ, ◌-◌, ◌<◌, ◌≤◌}
use native.Mathlib.Omega.{arith}
use lib.ListN.{length, take, drop, replicate}
use lib.Seq.{length-take-le}
use borrow.Author.Tests.{le-ltb}
use mathlib.Core.Bool.{false}
use lib.Dec.{ltb}
use Rattle.std.specs.Prelude.{Result, Ok, Err}
use Rattle.answers.specs.declared.refusal.Refusal as refusal
use Rattle.rules.specs.Run.{run, trace, rolls_of}
use Rattle.rules.specs.Sample.{sample_with}
use Rattle.rules.specs.Width.{w64}
use Rattle.rules.proofs.Facts.{truth}
use Rattle.rules.proofs.Samples.{length_drawn}
use Rattle.answers.specs.Outcome.{left, outside}
use Rattle.answers.specs.Results.{answer_of, batch_of}
use Rattle.answers.specs.Supplied.{supplied}
use Rattle.answers.specs.declared.results.Used.{Used}
use Rattle.answers.proofs.Deciding.{in_count, refused-seen, done-seen}
use Rattle.draws.specs.Inner.{rolled_sample}
use Rattle.draws.specs.Sample.{sample_plan, seen_sample}
use Rattle.draws.proofs.OneSample.{sample-short, sample-done}
use Rattle.lists.proofs.OneList.{short_named}
use Rattle.draws.proofs.Rolled.{rolled_range, rolled_whole}
use Rattle.draws.proofs.Sampling.{lent_count, back_front}
use borrow.Author.Rules.{rules}
use Rattle.draws.proofs.sample.draw_sample.Goals as goal

-- the rolls, written to the first n - 1 places of an array of zeros, which come back as `last`
module _ (size : ℕ) (words : List ℕ) (start n k : ℕ) (small : n ≤ 16384) (some : 0 < k) (most : k ≤ n) (fits : n - 1 ≤ size) (last : List ℕ)
    (as_long : length last ≡ length (take (n - 1) (replicate {A = ℕ} size 0))) where
  abbrev front : List ℕ
  front = take (n - 1) (last ++ drop (n - 1) (replicate {A = ℕ} size 0))

  -- where the words suffice
  rolls : (used : Used) → supplied start (run 64 (sample_plan w64 n k) words start) ≡ Ok used
      → last ≡ left (take (n - 1) (replicate {A = ℕ} size 0)) (rolled_sample w64 words start n k)
      → front ≡ rolls_of 64 (sample_plan w64 n k) (trace (run 64 (sample_plan w64 n k) words start))
  rolls used enough written = back_front size (n - 1) fits last as_long ∙ written
      ∙ rolled_whole words start n k used.next used.rejected enough some most small _ (lent_count size (n - 1) fits)

-- what the caller sees, by the answer of the dry run
module _ (words : List ℕ) (start : ℕ) (xs : List ℕ) (n k : ℕ) (slots : List ℕ) (count : n ≡ length xs) (within : start ≤ length words) (few : n ≤ 16384) (some : 0 < k)
    (most : k ≤ n) (room : k ≤ length slots) where
  in_range : outside 0 16384 (length xs) ≡ false
  in_range = in_count 0 16384 (length xs) (omega arith) (omega (arith, count, few))

  sized : outside 1 (length xs) k ≡ false
  sized = in_count 1 (length xs) k some (omega (arith, count, most))

  fits : ltb (length slots) k ≡ false
  fits = le-ltb (length slots) k room

  here : (r : Result Used refusal.Refusal) → supplied start (run 64 (sample_plan w64 n k) words start) ≡ r
      → supplied start (run 64 (sample_plan w64 (length xs) k) words start) ≡ r
  here r e = rw (← count) e

  short_seen : (r : refusal.Refusal) → supplied start (run 64 (sample_plan w64 n k) words start) ≡ Err r
      → (answer_of start (Err r) ≡ (seen_sample w64 words start xs k slots).0) × (slots ≡ (seen_sample w64 words start xs k slots).1)
  short_seen r e =
      let why = short_named start _ r e in
      refused-seen _ 10 (batch_of r) start slots _
      (sample-short w64 words start xs k (length slots) in_range sized fits within (batch_of r) (here _ e ∙ ap Err why)) (ap (λ x. answer_of start (Err x)) why)

  drawn_seen : (used : Used) → supplied start (run 64 (sample_plan w64 n k) words start) ≡ Ok used → (out : List ℕ)
      → out ≡ sample_with k (rolls_of 64 (sample_plan w64 n k) (trace (run 64 (sample_plan w64 n k) words start))) xs ++ drop k slots
      → (answer_of start (Ok used) ≡ (seen_sample w64 words start xs k slots).0) × (out ≡ (seen_sample w64 words start xs k slots).1)
  drawn_seen used e out o =
      let ran = run 64 (sample_plan w64 (length xs) k) words start in
      let rs = rolls_of 64 (sample_plan w64 (length xs) k) (trace ran) in
      done-seen _ _ start ran used.next used.rejected slots out _
      (sample-done w64 words start xs k (length slots) in_range sized fits within used.next used.rejected (here _ e)) (here _ e) refl
      (o ∙ ap (λ m. sample_with k (rolls_of 64 (sample_plan w64 m k) (trace (run 64 (sample_plan w64 m k) words start))) xs ++ drop k slots) count
      ∙ ap (λ m. sample_with k rs xs ++ drop m slots) (sym (length_drawn k rs xs (omega (arith, count, most)))))

pub fill_slots-requires : goal.fill_slots-requires
fill_slots-requires c = let a = c.args in
    let s = a.size in
    let n = length a.records.now in
    let same = c.requires.count in
    let enough = sym c.roll_sample.ensures.supply ∙ c.in_ok-used.was in (
      omega (arith, length-take-le s.k a.slots.now c.requires.room, s.within, same),
      rw (length-take-le s.k a.slots.now c.requires.room, ← same, rolls 16384 a.words.list.now a.words.next s.n s.k s.few s.some s.within (omega (arith, s.few)) c.roll_sample.new.rolls c.roll_sample.auto.rolls _ enough c.roll_sample.ensures.rolls)
          (truth _ (rolled_range a.words.list.now a.words.next s.n s.k _ _ enough s.some s.within s.few a.words.fits)),
    )

pub returns-in_err-used : goal.returns-in_err-used
returns-in_err-used c = let a = c.args in
    let s = a.size in
    let refusal = c.in_err-used.field-0.0 in
    let e : c.from_residual.result ≡ Err refusal = search rules in
    let seen = short_seen a.words.list.now a.words.next a.records.now s.n s.k a.slots.now c.requires.count a.words.within s.few s.some s.within c.requires.room
    refusal (sym c.roll_sample.ensures.supply ∙ c.in_err-used.was) in
    record { answer = ap (answer_of a.words.next) e ∙ seen.0; slots = seen.1 }

pub returns : goal.returns
returns c = let a = c.args in
    let s = a.size in
    let enough = sym c.roll_sample.ensures.supply ∙ c.in_ok-used.was in
    let seen = drawn_seen a.words.list.now a.words.next a.records.now s.n s.k a.slots.now c.requires.count a.words.within s.few s.some s.within c.requires.room
    c.in_ok-used.used enough (c.fill_slots.new.slots ++ drop s.k a.slots.now)
    (ap (λ (l : List ℕ). l ++ drop s.k a.slots.now) (c.fill_slots.ensures ∙ ap₂ (λ (m : ℕ) (l : List ℕ). sample_with m l a.records.now)
    (length-take-le s.k a.slots.now c.requires.room) (rolls 16384 a.words.list.now a.words.next s.n s.k s.few s.some s.within (omega (arith, s.few)) c.roll_sample.new.rolls c.roll_sample.auto.rolls _ enough c.roll_sample.ensures.rolls))) in
    record { answer = seen.0; slots = seen.1 }
