-- `draws::rolling::roll_sample` meets its contract: the bounds of the reservoir stand in front of a local array; its rolls and those of the final
-- shuffle are written where the words suffice for both. Assumes nothing.
use mathlib.Core.Path.{◌≡◌, ◌∙◌, sym, ap}
use mathlib.Core.Bool.{false}
use mathlib.Core.List.{List, ◌++◌}
use Prim.Native.Nat.{ℕ, ◌+◌, ◌-◌, ◌^◌, ◌<◌, ◌≤◌}
use native.Mathlib.Omega.{arith}
use lib.ListN.{length, take, drop, get_or, replicate}
use Rattle.rules.proofs.Rows.{get_or-countup}
use Rattle.std.specs.Prelude.{Result, Ok}
use Rattle.rules.specs.Reservoir.{countup}
use Rattle.rules.specs.Rolls.{holds_zero}
use Rattle.rules.specs.Run.{run, trace, rolls_of}
use Rattle.rules.specs.Width.{w64}
use Rattle.answers.specs.Outcome.{left}
use Rattle.answers.specs.Supplied.{supplied}
use Rattle.answers.specs.declared.results.Used.{Used}
use Rattle.draws.specs.Inner.{batches_from, rolled_sample}
use Rattle.draws.specs.Sample.{sample_plan}
use Rattle.draws.proofs.Planning.{plan_whole}
use Rattle.draws.proofs.Rolled.{rolled_kept, rolled_left}
use Rattle.draws.proofs.Sampling.{lent_count, back_front, back_count, bounds_no_zero}
use Rattle.draws.proofs.rolling.roll_sample.Goals as goal

-- the bounds of the reservoir, laid out in the first n - k places of an array of zeros, which come back as `last`
module _ (size n k : ℕ) (small : n ≤ size) (tiny : n ≤ 16384) (last : List ℕ) (as_long : length last ≡ length (take (n - k) (replicate {A = ℕ} size 0)))
    (up : last ≡ countup (length (take (n - k) (replicate {A = ℕ} size 0))) (k + 1)) where
  few : n - k ≤ size
  few = omega arith

  abbrev front : List ℕ
  front = take (n - k) (last ++ drop (n - k) (replicate {A = ℕ} size 0))

  bounds : front ≡ countup (n - k) (k + 1)
  bounds = back_front size (n - k) few last as_long ∙ up ∙ ap (λ (m : ℕ). countup m (k + 1)) (sym (lent_count size (n - k) few))

  no_zero : holds_zero front ≡ false
  no_zero = bounds_no_zero _ n k bounds

  words_fit : (i : ℕ) → i < length front → get_or front i 0 < 2 ^ 64
  words_fit i h =
      let here : i < n - k = omega (arith, back_count size (n - k) few last as_long) in
      rw (bounds, get_or-countup (n - k) (k + 1) i here) (omega (arith, tiny))

  plan : batches_from front k 0 ≡ sample_plan w64 n k
  plan = plan_whole front n k bounds

  -- what comes of the dry run over these batches
  module _ (words : List ℕ) (start : ℕ) (r : Result Used _) (dry : r ≡ supplied start (run 64 (batches_from front k 0) words start)) where
    supplies : r ≡ supplied start (run 64 (sample_plan w64 n k) words start)
    supplies = dry ∙ ap (λ p. supplied start (run 64 p words start)) plan

    written : (used : Used) → r ≡ Ok used → 0 < k → k ≤ n → n ≤ 16384 → (before out : List ℕ)
        → out ≡ rolls_of 64 (batches_from front k 0) (trace (run 64 (batches_from front k 0) words start)) ++ drop (length front + (k - 1)) before
        → out ≡ left before (rolled_sample w64 words start n k)
    written used e some most many before out o =
        let all : length front + (k - 1) ≡ n - 1 = omega (arith, back_count size (n - k) few last as_long) in
        rolled_left words start n k used.next used.rejected (sym supplies ∙ e) some most many before out
        (o ∙ ap (λ p. rolls_of 64 p (trace (run 64 p words start)) ++ drop (length front + (k - 1)) before) plan
        ∙ ap (λ (m : ℕ). rolls_of 64 (sample_plan w64 n k) (trace (run 64 (sample_plan w64 n k) words start)) ++ drop m before) all)

pub invariant_of-plan-clause-no_zero : goal.invariant_of-plan-clause-no_zero
invariant_of-plan-clause-no_zero c = let s = c.args.size in no_zero 16384 s.n s.k s.few s.few c.count_up.new.bounds c.count_up.auto.bounds c.count_up.ensures

pub invariant_of-plan-clause-fits : goal.invariant_of-plan-clause-fits
invariant_of-plan-clause-fits c i h = let s = c.args.size in
    words_fit 16384 s.n s.k s.few s.few c.count_up.new.bounds c.count_up.auto.bounds c.count_up.ensures i h

pub returns-in_err-used-clause-rolls : goal.returns-in_err-used-clause-rolls
returns-in_err-used-clause-rolls c = let s = c.args.size in
    let w = c.args.words in
    let dry = supplies 16384 s.n s.k s.few s.few c.count_up.new.bounds c.count_up.auto.bounds c.count_up.ensures w.list.now w.next c.supply.result c.supply.ensures in
    rolled_kept w.list.now w.next s.n s.k _ c.args.rolls.now (sym dry ∙ c.in_err-used.was)

pub returns-clause-rolls : goal.returns-clause-rolls
returns-clause-rolls c = let s = c.args.size in
    let w = c.args.words in
    written 16384 s.n s.k s.few s.few c.count_up.new.bounds c.count_up.auto.bounds c.count_up.ensures w.list.now w.next c.supply.result c.supply.ensures c.in_ok-used.used c.in_ok-used.was s.some s.within s.few
    c.args.rolls.now c.write.new.rolls c.write.ensures
