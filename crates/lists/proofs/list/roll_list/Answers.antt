-- `lists::list::roll_list` meets its contract, refusal by refusal (OneList); a dry run tells whether the words suffice before anything
-- is written. Assumes nothing.
use Rattle.rules.specs.Run.{run}
use Rattle.rules.specs.Cut.{cut}
use Rattle.rules.specs.Rolls.{holds_zero}
use Rattle.rules.specs.Width.{w64}
use Rattle.rules.proofs.Running.{rolled_by}
use mathlib.Core.Path.{◌≡◌, refl, ◌∙◌, sym, ap}
use mathlib.Core.Bool.{false}
use mathlib.Core.List.{◌++◌}
use Prim.Native.Nat.{ℕ, ◌^◌}
use lib.ListN.{length, drop}
use borrow.Author.Tests.{lt-ltb, le-ltb}
use Rattle.std.specs.Prelude.{Err, Ok}
use Rattle.answers.specs.Results.{answer_of}
use Rattle.answers.proofs.Deciding.{in_count, supplied_enough, refused-seen, done-seen}
use Rattle.lists.proofs.Listing.{length_list}
use Rattle.lists.proofs.OneList.{list_zero, list_room, list_start, list_short, list_done, short_named, start_within, supplied_here, written_here}
use borrow.Author.Rules.{rules}
use Rattle.lists.proofs.list.roll_list.Goals as goal

pub returns-in_err-plan : goal.returns-in_err-plan
returns-in_err-plan c =
    let a = c.args in
    let why = c.in_err-plan.ensures in
    let e : c.from_residual.result ≡ Err c.in_err-plan.field-0.0 = search rules in
    let p = refused-seen _ 4 0 a.start a.rolls.now _ (list_zero w64 a.words.now a.start a.bounds.now (length a.rolls.now) (in_count 0 4096 (length a.bounds.now) (search rules) (search rules)) why.1)
    (ap (answer_of a.start) (e ∙ ap Err why.0)) in
    record { answer = p.0; rolls = p.1 }

pub returns-then-rolls-bounds : goal.returns-then-rolls-bounds
returns-then-rolls-bounds c =
    let a = c.args in
    let zeros : holds_zero a.bounds.now ≡ false = ap holds_zero (sym c.in_ok-plan.ensures) ∙ c.in_ok-plan.plan.no_zero in
    let p = refused-seen _ 6 0 a.start a.rolls.now _ (list_room w64 a.words.now a.start a.bounds.now (length a.rolls.now) (in_count 0 4096 (length a.bounds.now) (search rules) (search rules))
    zeros (lt-ltb _ _ c.if-rolls-bounds.true)) refl in
    record { answer = p.0; rolls = p.1 }

pub returns-in_err-words : goal.returns-in_err-words
returns-in_err-words c =
    let a = c.args in
    let zeros : holds_zero a.bounds.now ≡ false = ap holds_zero (sym c.in_ok-plan.ensures) ∙ c.in_ok-plan.plan.no_zero in
    let why = c.in_err-words.ensures in
    let e : c.from_residual-in_err-words.result ≡ Err c.in_err-words.field-0.0 = search rules in
    let p = refused-seen _ 9 0 a.start a.rolls.now _ (list_start w64 a.words.now a.start a.bounds.now (length a.rolls.now) (in_count 0 4096 (length a.bounds.now) (search rules) (search rules))
    zeros (le-ltb _ _ c.if-rolls-bounds.false) why.1) (ap (answer_of a.start) (e ∙ ap Err why.0)) in
    record { answer = p.0; rolls = p.1 }

pub returns-in_err-used : goal.returns-in_err-used
returns-in_err-used c =
    let a = c.args in
    let zeros : holds_zero a.bounds.now ≡ false = ap holds_zero (sym c.in_ok-plan.ensures) ∙ c.in_ok-plan.plan.no_zero in
    let from = c.in_ok-words.ensures in
    let within = start_within _ a.bounds.now _ a.words.now _ a.start c.in_ok-plan.ensures from.0 from.1 c.in_ok-words.words.within in
    let was : c.supply.result ≡ Err c.in_err-used.field-0.0 = search rules in
    let s = supplied_here _ a.bounds.now _ a.words.now _ a.start c.in_ok-plan.ensures from.0 from.1 _ c.supply.ensures ∙ was in
    let why = short_named a.start _ c.in_err-used.field-0.0 s in
    let e : c.from_residual-in_err-used.result ≡ Err c.in_err-used.field-0.0 = search rules in
    let p = refused-seen _ 10 _ a.start a.rolls.now _ (list_short w64 a.words.now a.start a.bounds.now (length a.rolls.now) (in_count 0 4096 (length a.bounds.now) (search rules) (search rules))
    zeros (le-ltb _ _ c.if-rolls-bounds.false) within _ (s ∙ ap Err why)) (ap (answer_of a.start) (e ∙ ap Err why)) in
    record { answer = p.0; rolls = p.1 }

pub returns : goal.returns
returns c =
    let a = c.args in
    let zeros : holds_zero a.bounds.now ≡ false = ap holds_zero (sym c.in_ok-plan.ensures) ∙ c.in_ok-plan.plan.no_zero in
    let from = c.in_ok-words.ensures in
    let within = start_within _ a.bounds.now _ a.words.now _ a.start c.in_ok-plan.ensures from.0 from.1 c.in_ok-words.words.within in
    let r = run 64 (cut (2 ^ 56) a.bounds.now) a.words.now a.start in
    let was : c.supply.result ≡ Ok c.in_ok-used.used = search rules in
    let s = supplied_here _ a.bounds.now _ a.words.now _ a.start c.in_ok-plan.ensures from.0 from.1 _ c.supply.ensures ∙ was in
    let len = length_list 64 (2 ^ 56) a.bounds.now a.words.now a.start (supplied_enough a.start r _ _ s).enough in
    let out = written_here _ a.bounds.now _ a.words.now _ a.start c.in_ok-plan.ensures from.0 from.1 a.rolls.now c.write.new.rolls c.write.ensures in
    let p = done-seen _ _ a.start r _ _ a.rolls.now _ _
    (list_done w64 a.words.now a.start a.bounds.now (length a.rolls.now) (in_count 0 4096 (length a.bounds.now) (search rules) (search rules))
    zeros (le-ltb _ _ c.if-rolls-bounds.false) within _ _ s) s refl
    (out ∙ ap (λ (k : ℕ). rolled_by 64 (cut (2 ^ 56) a.bounds.now) r ++ drop k a.rolls.now) (sym len)) in
    record { answer = p.0; rolls = p.1 }
