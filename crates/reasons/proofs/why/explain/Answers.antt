-- `reasons::why::explain` meets its contract: the rolls of the sample stand in front of a local array, and tell what became of the place.
-- Assumes nothing.
use mathlib.Core.Path.{◌≡◌, ◌∙◌, sym, ap}
use mathlib.Core.List.{List, ◌++◌}
use Prim.Native.Nat.{ℕ, ◌-◌, ◌<◌, ◌≤◌}
use native.Mathlib.Omega.{arith}
use lib.ListN.{length, take, drop, replicate}
use Rattle.std.specs.Prelude.{Ok, Err}
use Rattle.rules.specs.Run.{run, trace, rolls_of}
use Rattle.rules.specs.Width.{w64}
use Rattle.rules.proofs.Facts.{truth}
use Rattle.answers.specs.Outcome.{left}
use Rattle.answers.specs.Supplied.{supplied}
use Rattle.answers.specs.declared.results.Used.{Used}
use Rattle.draws.specs.Inner.{rolled_sample}
use Rattle.draws.specs.Sample.{sample_plan}
use Rattle.draws.proofs.Rolled.{rolled_range, rolled_whole}
use Rattle.draws.proofs.Sampling.{lent_count, back_front}
use Rattle.reasons.specs.Results.{reason_of}
use Rattle.reasons.proofs.Telling.{told-done, told-refused}
use borrow.Author.Rules.{rules}
use Rattle.reasons.proofs.why.explain.Goals as goal

-- the rolls, written to the first n - 1 places of an array of zeros, which come back as `last`
module _ (size : ℕ) (words : List ℕ) (n k : ℕ) (small : n ≤ 16384) (some : 0 < k) (most : k ≤ n) (fits : n - 1 ≤ size) (last : List ℕ)
    (as_long : length last ≡ length (take (n - 1) (replicate {A = ℕ} size 0))) where
  abbrev front : List ℕ
  front = take (n - 1) (last ++ drop (n - 1) (replicate {A = ℕ} size 0))

  -- where the words suffice
  rolls : (used : Used) → supplied 0 (run 64 (sample_plan w64 n k) words 0) ≡ Ok used
      → last ≡ left (take (n - 1) (replicate {A = ℕ} size 0)) (rolled_sample w64 words 0 n k)
      → front ≡ rolls_of 64 (sample_plan w64 n k) (trace (run 64 (sample_plan w64 n k) words 0))
  rolls used enough written = back_front size (n - 1) fits last as_long ∙ written
      ∙ rolled_whole words 0 n k used.next used.rejected enough some most small _ (lent_count size (n - 1) fits)

pub tell_place-requires : goal.tell_place-requires
tell_place-requires c = let a = c.args in
    let s = a.size in
    let enough = sym c.roll_sample.ensures.supply ∙ c.in_ok-used.was in
    let word = λ (i : ℕ) (h : i < length a.words.now). (c.type_inv.words i).fits in (
      c.requires,
      rw (rolls 16384 a.words.now s.n s.k s.few s.some s.within (omega (arith, s.few)) c.roll_sample.new.rolls c.roll_sample.auto.rolls c.in_ok-used.used enough c.roll_sample.ensures.rolls)
          (truth _ (rolled_range a.words.now 0 s.n s.k _ _ enough s.some s.within s.few word)),
    )

pub returns-in_err-used : goal.returns-in_err-used
returns-in_err-used c = let a = c.args in
    let s = a.size in
    let refusal = c.in_err-used.field-0.0 in
    let e : c.from_residual.result ≡ Err refusal = search rules in
    ap reason_of e ∙ told-refused a.words.now s.n s.k a.place refusal (sym c.roll_sample.ensures.supply ∙ c.in_err-used.was)

pub returns : goal.returns
returns c = let a = c.args in
    let s = a.size in
    let enough = sym c.roll_sample.ensures.supply ∙ c.in_ok-used.was in
    told-done a.words.now s.n s.k a.place _ _ _ enough _
    (rolls 16384 a.words.now s.n s.k s.few s.some s.within (omega (arith, s.few)) c.roll_sample.new.rolls c.roll_sample.auto.rolls c.in_ok-used.used enough c.roll_sample.ensures.rolls)
    c.tell_place.ensures
