-- `sheet::read::read_sheet` meets its contract. Each refusal is found by the check alone, which unfolds what decides, and so is what each list
-- then holds; a sheet that passes every test is read (Reading). Assumes nothing.
use mathlib.Core.Path.{◌≡◌, ◌∙◌, sym, ap}
use mathlib.Core.Bool.{false}
use native.Mathlib.Omega.{arith}
use mathlib.Core.List.{List, []}
use Prim.Native.Nat.{ℕ}
use Rattle.sheet.specs.Sheet.{numbers, is_wrong_size}
use Rattle.std.specs.Prelude.{Ok}
use Rattle.sheet.specs.Results.{header_of, read_of}
use Rattle.sheet.specs.declared.read.Header.{Header}
use Rattle.sheet.proofs.Reading.{read_done, done_read}
use Rattle.sheet.proofs.Soundness.{sound_known}
use borrow.Author.Rules.{rules}
use Rattle.sheet.proofs.read.read_sheet.Goals as goal

-- what was found of k and w, of the numbers that were read
size : (s : List ℕ) (d : Header) → d ≡ header_of s → is_wrong_size d.records d.k d.w ≡ false
    → let h = numbers s in is_wrong_size h.records h.k h.w ≡ false
size s d read sized = sym (ap (λ (x : Header). is_wrong_size x.records x.k x.w) read) ∙ sized

pub read_header-header-requires : goal.read_header-header-requires
read_header-header-requires c = (sound_known c.args.sheet.now (sym c.is_sound.ensures ∙ c.if-not-is_sound.false)).allowed.0

pub read_numbers-requires : goal.read_numbers-requires
read_numbers-requires c =
    let known = sound_known c.args.sheet.now (sym c.is_sound.ensures ∙ c.if-not-is_sound.false) in
    let e = c.read_header-header.ensures in
    (omega (arith, known.within.0, ap (λ (d : Header). d.words) e, ap (λ (d : Header). d.words_at) e), search rules)

pub read_numbers-requires-2 : goal.read_numbers-requires-2
read_numbers-requires-2 c =
    let known = sound_known c.args.sheet.now (sym c.is_sound.ensures ∙ c.if-not-is_sound.false) in
    let e = c.read_header-header.ensures in
    (omega (arith, known.within.1, ap (λ (d : Header). d.records) e, ap (λ (d : Header). d.records_at) e), search rules)

pub returns-clause-answer : goal.returns-clause-answer
returns-clause-answer c =
    let s = c.args.sheet.now in
    let sound = sym c.is_sound.ensures ∙ c.if-not-is_sound.false in
    let read = c.read_header-header.ensures in
    let sized = size s _ read c.in_ok-check_size.ensures in
    let done = read_done s _ _ [] sound sized
    (omega (arith, ap (λ (d : Header). d.words) read)) (omega (arith, ap (λ (d : Header). d.records) read)) in
    done_read s c.args.words.now c.args.records.now _ done (ap (λ (h : Header). read_of (Ok h)) read)
