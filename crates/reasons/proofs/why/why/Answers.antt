-- `reasons::why::why` meets its contract: refused as the reading is, then by 7, and else what is told of the sample of what was read.
-- Assumes nothing.
use mathlib.Core.Path.{◌≡◌, refl, ◌∙◌, sym, ap}
use native.Mathlib.Omega.{arith}
use lib.ListN.{replicate}
use Rattle.std.specs.Prelude.{Ok, Err}
use Rattle.sheet.specs.Results.{read_of}
use Rattle.sheet.specs.Sheet.{numbers}
use Rattle.sheet.proofs.Drawing.{held, not_held, held_size, words_fit, words_count, refusal_some, zeros}
use Rattle.reasons.specs.Results.{reason_of}
use Rattle.reasons.specs.Why.{shown_why}
use Rattle.reasons.proofs.Telling.{why_unread, seen_past, seen_read_lem}
use borrow.Author.Rules.{rules}
use Rattle.reasons.proofs.why.why.Goals as goal

pub returns-in_err-header : goal.returns-in_err-header
returns-in_err-header c =
    let a = c.args in
    let r = c.read_sheet.ensures in
    let refusal = c.in_err-header.field-0.0 in
    let e : c.from_residual.result ≡ Err refusal = search rules in
    ap reason_of e
    ∙ sym (ap (shown_why (numbers a.sheet.now).records (numbers a.sheet.now).k a.place) (why_unread a.sheet.now a.place _ _ (λ o.
    (not_held a.sheet.now (replicate 8188 0) (replicate 16377 0) (read_of (Err refusal)) c.read_sheet.new.words c.read_sheet.new.records (zeros 8188) (zeros 16377)
    (ap read_of (sym c.in_err-header.was) ∙ r.answer, (r.words, r.records)) (refusal_some refusal) o).1)))

pub returns-then-n-place : goal.returns-then-n-place
returns-then-n-place c = let r = c.read_sheet.ensures in
    let v = held c.args.sheet.now (replicate 8188 0) (replicate 16377 0) (read_of (Ok c.in_ok-header.header)) c.read_sheet.new.words c.read_sheet.new.records (zeros 8188) (zeros 16377)
    (ap read_of (sym c.in_ok-header.was) ∙ r.answer, (r.words, r.records)) refl in
    seen_past c.args.sheet.now c.args.place _ _ _ _ _ v _ (search rules) refl

pub slice_bounds-words-end : goal.slice_bounds-words-end
slice_bounds-words-end c = let r = c.read_sheet.ensures in
    words_fit _ _ _ _ _ _ (held c.args.sheet.now (replicate 8188 0) (replicate 16377 0) (read_of (Ok c.in_ok-header.header)) c.read_sheet.new.words c.read_sheet.new.records (zeros 8188) (zeros 16377)
    (ap read_of (sym c.in_ok-header.was) ∙ r.answer, (r.words, r.records)) refl)

pub slice_bounds-explain-end : goal.slice_bounds-explain-end
slice_bounds-explain-end c = let r = c.read_sheet.ensures in
    words_count _ _ _ _ _ _ (held c.args.sheet.now (replicate 8188 0) (replicate 16377 0) (read_of (Ok c.in_ok-header.header)) c.read_sheet.new.words c.read_sheet.new.records (zeros 8188) (zeros 16377)
    (ap read_of (sym c.in_ok-header.was) ∙ r.answer, (r.words, r.records)) refl)

pub invariant_of-size : goal.invariant_of-size
invariant_of-size c = let r = c.read_sheet.ensures in
    let size = held_size _ _ _ _ _ _ (held c.args.sheet.now (replicate 8188 0) (replicate 16377 0) (read_of (Ok c.in_ok-header.header)) c.read_sheet.new.words c.read_sheet.new.records (zeros 8188) (zeros 16377)
    (ap read_of (sym c.in_ok-header.was) ∙ r.answer, (r.words, r.records)) refl) in
    record { some = size.1; within = size.2; few = omega (arith, size.0) }

pub returns : goal.returns
returns c = let r = c.read_sheet.ensures in
    let v = held c.args.sheet.now (replicate 8188 0) (replicate 16377 0) (read_of (Ok c.in_ok-header.header)) c.read_sheet.new.words c.read_sheet.new.records (zeros 8188) (zeros 16377)
    (ap read_of (sym c.in_ok-header.was) ∙ r.answer, (r.words, r.records)) refl in
    seen_read_lem c.args.sheet.now c.args.place _ _ _ _ _ v _ (search rules) c.explain.ensures
