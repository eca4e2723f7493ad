-- `shuffles::shuffle::shuffle_records` meets its contract, refusal by refusal (OneShuffle). Assumes nothing.
use mathlib.Core.Path.{◌≡◌, ◌∙◌, ap}
use Prim.Native.Nat.{◌≤◌}
use native.Mathlib.Omega.{arith}
use lib.ListN.{length}
use Rattle.std.specs.Prelude.{Err}
use Rattle.rules.specs.Width.{size64, w64}
use Rattle.rules.specs.Run.{run, trace, rolls_of}
use Rattle.rules.specs.Shuffle.{shuffle_with, shuffle_plan}
use Rattle.answers.specs.Results.{answer_of}
use Rattle.answers.proofs.Deciding.{above_count, refused-seen}
use Rattle.shuffles.proofs.OneShuffle.{shuffle-count, shuffle_start, supplied_for, short_seen, shuffled_seen}
use borrow.Author.Rules.{rules}
use Rattle.shuffles.proofs.shuffle.shuffle_records.Goals as goal

pub returns-in_err-plan : goal.returns-in_err-plan
returns-in_err-plan c =
    let a = c.args in
    let xs = a.records.now in
    let why = c.in_err-plan.ensures in
    let e : c.from_residual.result ≡ Err c.in_err-plan.field-0.0 = search rules in
    let seen = refused-seen _ 2 0 _ _ _ (shuffle-count w64 a.words.now a.start xs (above_count 0 16384 (length xs) why.1)) (ap (answer_of a.start) (e ∙ ap Err why.0)) in
    record { answer = seen.0; records = seen.1 }

pub returns-in_err-words : goal.returns-in_err-words
returns-in_err-words c =
    let a = c.args in
    let xs = a.records.now in
    let why = c.in_err-words.ensures in
    let few : length xs ≤ 16384 = omega (arith, c.in_ok-plan.ensures, c.in_ok-plan.plan.few) in
    let e : c.from_residual-in_err-words.result ≡ Err c.in_err-words.field-0.0 = search rules in
    let seen = refused-seen _ 9 0 _ _ _ (shuffle_start w64 a.words.now a.start xs few why.1) (ap (answer_of a.start) (e ∙ ap Err why.0)) in
    record { answer = seen.0; records = seen.1 }

pub returns-in_err-used : goal.returns-in_err-used
returns-in_err-used c =
    let a = c.args in
    let xs = a.records.now in
    let from = c.in_ok-words.ensures in
    let few : length xs ≤ 16384 = omega (arith, c.in_ok-plan.ensures, c.in_ok-plan.plan.few) in
    let within : a.start ≤ length a.words.now = omega (arith, ap length from.0, from.1, c.in_ok-words.words.within) in
    let dry = supplied_for w64 a.words.now a.start xs c.supply.result _ _ _ c.supply.ensures from.0 from.1 c.in_ok-plan.ensures in
    let e : c.from_residual-in_err-used.result ≡ Err c.in_err-used.field-0.0 = search rules in
    let seen = short_seen w64 a.words.now a.start xs few within _ dry _ c.in_err-used.was in
    record { answer = ap (answer_of a.start) e ∙ seen.0; records = seen.1 }

pub returns : goal.returns
returns c =
    let a = c.args in
    let xs = a.records.now in
    let from = c.in_ok-words.ensures in
    let few : length xs ≤ 16384 = omega (arith, c.in_ok-plan.ensures, c.in_ok-plan.plan.few) in
    let within : a.start ≤ length a.words.now = omega (arith, ap length from.0, from.1, c.in_ok-words.words.within) in
    let dry = supplied_for w64 a.words.now a.start xs c.supply.result _ _ _ c.supply.ensures from.0 from.1 c.in_ok-plan.ensures in
    let plan = shuffle_plan size64 (length xs) in
    let placed = c.place_all.ensures ∙ (λ i. shuffle_with (length xs) (rolls_of 64 plan (trace (run 64 plan (from.0 i) (from.1 i)))) xs) in
    let seen = shuffled_seen w64 a.words.now a.start xs few within _ dry _ c.in_ok-used.was _ placed in
    record { answer = seen.0; records = seen.1 }
