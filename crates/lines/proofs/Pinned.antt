-- The text is as it is pinned: the output by its refusals, the examples by computing them. Assumes nothing.
--
--   slots_pinned     each slot has its line
--   output_pinned    the output is as the examples have it, and as its refusals ask
use mathlib.Core.Path.{◌≡◌, refl, sym, ap, ◌∙◌}
use mathlib.Core.Bool.{Bool, true, false}
use mathlib.Core.List.{List, [], ◌∷◌, ◌++◌, append-nil}
use Prim.Native.Nat.{ℕ, ◌<◌, ◌≤◌}
use native.Mathlib.Omega.{arith}
use lib.Dec.{ltb}
use lib.ListN.{length, take, replicate}
use lib.Seq.{take_all, length-take-le}
use borrow.Author.Tests.{ltb-true, ltb-false, not-false}
use Rattle.rules.specs.Sample.{sample_with}
use Rattle.rules.specs.Shuffle.{exchange, shuffle_with, countdown, shuffle_plan_from}
use Rattle.rules.specs.Width.{size64, w64}
use Rattle.rules.specs.Cut.{cut_from, cut}
use Rattle.rules.specs.Reservoir.{countup, reservoir}
use Rattle.rules.specs.Rolls.{rolls, rest, product}
use Rattle.rules.proofs.Facts.{or_left, or_right}
use Rattle.rules.specs.Run.{Taken, Run, ran, short, run, find, run_from, rolls_of, next, rejected}
use Rattle.answers.specs.Outcome.{Outcome, refused, done, no, no_word, decide, shown, left}
use Rattle.draws.specs.Sample.{sample_plan, sample}
use Rattle.spelling.specs.Decimal.{digits}
use Rattle.areas.specs.Area.{little, entries}
use Rattle.sheet.specs.Sheet.{Numbers, numbers, words_of, Sound}
use Rattle.sheet.specs.ReadSheet.{shown_drawn}
use Rattle.sheet.specs.RunSheet.{run_sheet}
use Rattle.sheet.specs.declared.drawn.Drawn.{Drawn}
use Rattle.sheet.proofs.Running.{sheet_flat, sheet_refusal, four_only, sheet_unsound}
use Rattle.sheet.proofs.Soundness.{sound_known, sound_false}
use Rattle.lines.specs.Text.{line, draw_line_of, slot_line_of, refused_line_of, first_line_of, slot_lines, told, room, output}
use Rattle.lines.specs.Pinned.{SlotsPinned, OutputPinned}
use Rattle.lines.proofs.Printing.{first-refused, lines_behind}

-- ---- the lines of the slots

pub slots_pinned : SlotsPinned
unfolding slot_lines
slots_pinned = record { one = λ w slot x. append-nil (slot_line_of w slot x); behind = lines_behind }

-- ---- the output

draw_printed : (s values : List ℕ) (ts : List Taken) → run_sheet w64 s room ≡ done values ts
    → output s
    ≡ draw_line_of (numbers s).records (numbers s).k (next 0 ts) (rejected 0 ts)
    ++ slot_lines (numbers s).w 0 (take (numbers s).k (left (replicate room 0) (done values ts)))
unfolding output
draw_printed s values ts e = ap (λ (o : Outcome). told (shown_drawn s o) (left (replicate room 0) o)) e

refusal_printed : (s : List ℕ) (number batch : ℕ) → run_sheet w64 s room ≡ refused number batch → output s ≡ refused_line_of number batch
unfolding output slot_lines
refusal_printed s number batch e =
    let d : Drawn = shown_drawn s (refused number batch) in
    ap (λ (o : Outcome). told (shown_drawn s o) (left (replicate room 0) o)) e ∙ append-nil (first_line_of d)
    ∙ first-refused d (four_only number (sheet_refusal w64 s room number batch e)).0

-- where 6 is given, the numbers in front of it do not apply, and it does; o is no refusal
given6 : (unsound size small : Bool) (r : Run) (o : Outcome) (batch : ℕ)
    → decide (no 1 unsound ∷ no 3 size ∷ no 6 small ∷ no_word r ∷ []) o ≡ refused 6 batch → (shown 0 o).no ≡ 0
    → (unsound ≡ false) × (size ≡ false) × (small ≡ true)
unfolding decide
given6 true size small r o batch e f = absurd (let z : ◌≡◌ {A = ℕ} 1 6 = cc in omega arith)
given6 false true small r o batch e f = absurd (let z : ◌≡◌ {A = ℕ} 3 6 = cc in omega arith)
given6 false false true r o batch e f = (refl, refl, refl)
given6 false false false (short b) o batch e f = absurd (let z : ◌≡◌ {A = ℕ} 10 6 = cc in omega arith)
given6 false false false (ran ts) o batch e f = absurd (let z : ◌≡◌ {A = ℕ} 0 6 = sym f ∙ ap (λ (p : Outcome). (shown 0 p).no) e in omega arith)

never_printed : (s : List ℕ) (batch : ℕ) → run_sheet w64 s room ≡ refused 6 batch → ⊥
never_printed s batch e =
    let h : Numbers = numbers s in
    let (sound, size, small) = given6 _ _ _ (run 64 (sample_plan w64 h.records h.k) (words_of s) 0) _ batch (sym (sheet_flat w64 s room) ∙ e) refl in
    let v : Sound s = sound_known s (not-false _ sound) in
    let l : room < h.k = ltb-true _ _ small in
    let m : h.k ≤ h.records = ltb-false _ _ (or_right (ltb h.k 1) _ (or_left _ _ size)) in
    omega (arith, v.allowed.1, v.offsets.1, v.within.1)

-- input longer than any sheet is refused by 1
too_long : (s : List ℕ) → 65535 < length s → output s ≡ refused_line_of 1 0
too_long s h = refusal_printed s 1 0 (sheet_unsound w64 s room (sound_false s (λ v. omega (arith, v.allowed.1))))

longer : (s : List ℕ) → output (take 65536 s) ≡ output s
longer s = go (ltb 65536 (length s)) refl
  where
    go : (b : Bool) → ltb 65536 (length s) ≡ b → output (take 65536 s) ≡ output s
    go true e =
        let l : 65536 < length s = ltb-true _ _ e in
        too_long (take 65536 s) (rw (length-take-le 65536 s (omega arith)) (omega arith)) ∙ sym (too_long s (omega arith))
    go false e = ap output (take_all 65536 s (ltb-false _ _ e))

pub output_pinned : OutputPinned
unfolding output run_sheet sample sample_with decide entries little line digits slot_lines product rolls rest find run_from rolls_of next rejected countup reservoir cut cut_from size64 countdown shuffle_plan_from shuffle_with exchange
output_pinned =
    record {
      example0 = refl;
      example52 = refl;
      example64 = refl;
      draw = draw_printed;
      refusal = refusal_printed;
      never6 = never_printed;
      too_long = too_long;
      long = longer;
    }
