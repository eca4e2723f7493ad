-- `sheet::run::run_sheet` meets its contract. It turns on what was read: the arrays have room for the most of a sheet, so the reading is
-- refused where the draw is, or their fronts hold the words and the records that the sample is given. Assumes nothing.
use mathlib.Core.Path.{◌≡◌, refl, ◌∙◌, sym, ap}
use lib.ListN.{length, replicate}
use Rattle.std.specs.Prelude.{Ok, Err}
use Rattle.answers.specs.Results.{answer_of}
use Rattle.sheet.specs.Results.{read_of, drawn_of}
use Rattle.sheet.proofs.Drawing.{held, drawn_unread, words_fit, words_count, records_fit, records_count, drawn_done, drawn_refused, refusal_some, zeros}
use borrow.Author.Rules.{rules}
use Rattle.sheet.proofs.run.run_sheet.Goals as goal

pub returns-in_err-header : goal.returns-in_err-header
returns-in_err-header c =
    let r = c.read_sheet.ensures in
    let a = c.args in
    let refusal = c.in_err-header.field-0.0 in
    let e : c.from_residual.result ≡ Err refusal = search rules in
    let seen = drawn_unread a.sheet.now (replicate 8188 0) (replicate 16377 0) (read_of (Err refusal)) c.read_sheet.new.words c.read_sheet.new.records (zeros 8188) (zeros 16377)
    (ap read_of (sym c.in_err-header.was) ∙ r.answer, (r.words, r.records)) (length a.slots.now) a.slots.now (refusal_some refusal) in
    record { answer = ap drawn_of e ∙ seen.0; slots = seen.1 }

pub slice_bounds-words-end : goal.slice_bounds-words-end
slice_bounds-words-end c = let r = c.read_sheet.ensures in
    words_fit _ _ _ _ _ _ (held c.args.sheet.now (replicate 8188 0) (replicate 16377 0) (read_of (Ok c.in_ok-header.header)) c.read_sheet.new.words c.read_sheet.new.records (zeros 8188) (zeros 16377)
    (ap read_of (sym c.in_ok-header.was) ∙ r.answer, (r.words, r.records)) refl)

pub slice_bounds-sample_records-end : goal.slice_bounds-sample_records-end
slice_bounds-sample_records-end c = let r = c.read_sheet.ensures in
    words_count _ _ _ _ _ _ (held c.args.sheet.now (replicate 8188 0) (replicate 16377 0) (read_of (Ok c.in_ok-header.header)) c.read_sheet.new.words c.read_sheet.new.records (zeros 8188) (zeros 16377)
    (ap read_of (sym c.in_ok-header.was) ∙ r.answer, (r.words, r.records)) refl)

pub slice_bounds-records-end : goal.slice_bounds-records-end
slice_bounds-records-end c = let r = c.read_sheet.ensures in
    records_fit _ _ _ _ _ _ (held c.args.sheet.now (replicate 8188 0) (replicate 16377 0) (read_of (Ok c.in_ok-header.header)) c.read_sheet.new.words c.read_sheet.new.records (zeros 8188) (zeros 16377)
    (ap read_of (sym c.in_ok-header.was) ∙ r.answer, (r.words, r.records)) refl)

pub slice_bounds-sample_records-end-2 : goal.slice_bounds-sample_records-end-2
slice_bounds-sample_records-end-2 c = let r = c.read_sheet.ensures in
    records_count _ _ _ _ _ _ (held c.args.sheet.now (replicate 8188 0) (replicate 16377 0) (read_of (Ok c.in_ok-header.header)) c.read_sheet.new.words c.read_sheet.new.records (zeros 8188) (zeros 16377)
    (ap read_of (sym c.in_ok-header.was) ∙ r.answer, (r.words, r.records)) refl)

pub returns-in_err-used : goal.returns-in_err-used
returns-in_err-used c = let r = c.read_sheet.ensures in
    let t = c.sample_records.ensures in
    let a = c.args in
    let refusal = c.in_err-used.field-0.0 in
    let e : c.from_residual-in_err-used.result ≡ Err refusal = search rules in
    let v = held c.args.sheet.now (replicate 8188 0) (replicate 16377 0) (read_of (Ok c.in_ok-header.header)) c.read_sheet.new.words c.read_sheet.new.records (zeros 8188) (zeros 16377)
    (ap read_of (sym c.in_ok-header.was) ∙ r.answer, (r.words, r.records)) refl in
    let seen = drawn_refused _ _ _ _ _ _ v (length a.slots.now) a.slots.now c.sample_records.new.slots (answer_of 0 (Err refusal))
    (ap (answer_of 0) (sym c.in_err-used.was) ∙ t.answer, t.slots) (drawn_of (Err refusal)) (refusal_some refusal) refl in
    record { answer = ap drawn_of e ∙ seen.0; slots = seen.1 }

pub returns : goal.returns
returns c = let r = c.read_sheet.ensures in
    let t = c.sample_records.ensures in
    let a = c.args in
    let v = held c.args.sheet.now (replicate 8188 0) (replicate 16377 0) (read_of (Ok c.in_ok-header.header)) c.read_sheet.new.words c.read_sheet.new.records (zeros 8188) (zeros 16377)
    (ap read_of (sym c.in_ok-header.was) ∙ r.answer, (r.words, r.records)) refl in
    let seen = drawn_done _ _ _ _ _ _ v (length a.slots.now) a.slots.now c.sample_records.new.slots (answer_of 0 (Ok c.in_ok-used.used))
    (ap (answer_of 0) (sym c.in_ok-used.was) ∙ t.answer, t.slots) refl in
    record { answer = seen.0; slots = seen.1 }
