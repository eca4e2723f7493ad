-- `rolls::batch::roll_batch` meets its contract: the bounds are refused, or held; then the start, the search for the word, and its rolls in
-- front of zeros (OneBatch). Assumes nothing.
use mathlib.Core.Path.{◌≡◌, refl, ◌∙◌, sym, ap}
use mathlib.Core.List.{List}
use Prim.Native.Nat.{ℕ, ◌≤◌}
use lib.ListN.{length}
use native.Mathlib.Omega.{arith}
use Rattle.std.specs.Prelude.{Err}
use Rattle.std.specs.Result.{result_ok}
use Rattle.rules.specs.Width.{w64}
use Rattle.answers.specs.declared.refusal.Refusal.TheVariants.{Words}
use Rattle.answers.specs.Outcome.{shown_batch}
use Rattle.answers.specs.Results.{numbered, batch_answer_of}
use Rattle.rolls.proofs.Checking.{told-refused, told_held, some_bounds, few_bounds}
use Rattle.rolls.proofs.Searching.{found_by, hit_before}
use Rattle.rolls.proofs.OneBatch.{one_refused, one_start, one_not_found, one_found}
use borrow.Author.Rules.{rules}
use Rattle.rolls.proofs.batch.roll_batch.Goals as goal

start_within : (words list : List ℕ) (start next : ℕ) → list ≡ words → next ≡ start → next ≤ length list → start ≤ length words
start_within words list start next l n h = rw (← l, ← n) h

pub returns-in_err-product-clause-answer : goal.returns-in_err-product-clause-answer
returns-in_err-product-clause-answer c =
    let a = c.args in
    let refusal = c.in_err-product.field-0.0 in
    let e : c.from_residual.result ≡ Err refusal = search rules in
    let why = told-refused a.bounds.now refusal (ap numbered (sym c.in_err-product.was) ∙ c.check_bounds.ensures.bounds) in
    ap (batch_answer_of a.start) e ∙ one_refused w64 a.words.now a.start a.bounds.now _ _ why.refuses _ refl

pub returns-in_err-words-clause-answer : goal.returns-in_err-words-clause-answer
returns-in_err-words-clause-answer c =
    let a = c.args in
    let bounds = told_held a.bounds.now c.in_ok-product.product (ap numbered (sym c.in_ok-product.was) ∙ c.check_bounds.ensures.bounds) in
    let why = c.in_err-words.ensures in
    let e : c.from_residual-in_err-words.result ≡ Err c.in_err-words.field-0.0 = search rules in
    ap (batch_answer_of a.start) (e ∙ ap Err why.0) ∙ sym (ap (shown_batch a.start) (one_start w64 a.words.now a.start a.bounds.now bounds.passes why.1))

pub returns-in_err-hit-clause-answer : goal.returns-in_err-hit-clause-answer
returns-in_err-hit-clause-answer c =
    let a = c.args in
    let bounds = told_held a.bounds.now c.in_ok-product.product (ap numbered (sym c.in_ok-product.was) ∙ c.check_bounds.ensures.bounds) in
    let from = c.in_ok-words.ensures in
    let found = found_by a.bounds.now c.in_ok-product.product (some_bounds a.bounds.now bounds.fit) bounds.held a.words.now _ a.start _ c.find_word.result c.find_word.ensures from.0 from.1 in
    let within : a.start ≤ length a.words.now = start_within a.words.now _ a.start _ from.0 from.1 c.in_ok-words.words.within in
    let e : c.from_residual-in_err-hit.result ≡ Err (Words 0) = search rules in
    ap (batch_answer_of a.start) e
    ∙ ap (shown_batch a.start) (sym (one_not_found w64 a.words.now a.start a.bounds.now bounds.passes within (sym found ∙ c.ok_or.ensures.ok_part ∙ ap result_ok c.in_err-hit.was)))

pub write_rolls-requires : goal.write_rolls-requires
write_rolls-requires c = few_bounds c.args.bounds.now (told_held c.args.bounds.now c.in_ok-product.product (ap numbered (sym c.in_ok-product.was) ∙ c.check_bounds.ensures.bounds)).fit

pub overflow_add-result : goal.overflow_add-result
overflow_add-result c =
    let found = sym c.find_word.ensures ∙ c.ok_or.ensures.ok_part ∙ ap result_ok c.in_ok-hit.was in
    record { fits = omega (arith, hit_before _ c.in_ok-words.words.list.now _ _ found, c.in_ok-words.words.counted) }

pub returns-clause-answer : goal.returns-clause-answer
returns-clause-answer c =
    let a = c.args in
    let bounds = told_held a.bounds.now c.in_ok-product.product (ap numbered (sym c.in_ok-product.was) ∙ c.check_bounds.ensures.bounds) in
    let from = c.in_ok-words.ensures in
    let found = found_by a.bounds.now c.in_ok-product.product (some_bounds a.bounds.now bounds.fit) bounds.held a.words.now _ a.start _ c.find_word.result c.find_word.ensures from.0 from.1 in
    let within : a.start ≤ length a.words.now = start_within a.words.now _ a.start _ from.0 from.1 c.in_ok-words.words.within in
    one_found w64 a.words.now a.start a.bounds.now bounds.passes within _ _ _ (sym found ∙ c.ok_or.ensures.ok_part ∙ ap result_ok c.in_ok-hit.was) _ c.write_rolls.ensures
