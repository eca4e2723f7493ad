-- The lines that tell of a draw: which they are, how long at most, and all of them one after the other. Assumes nothing.
--
--   first-refused    the first line of a refusal
--   refused_short    the line of a refusal has at most 50 bytes
--   draw_short       the line of a draw that was done has at most 89
--   slot_short       the line of a slot has at most 23
--   slots-short      those of slots have at most 23 each
--   lines_behind     the lines of slots, and those of the slots behind them, are the lines of all
--   slots_next       the lines of the slots up to one, and that one's, are those up to the next
--   told-written     the first line and those of the slots behind it are all that is told of a draw
--   output-told      what is told of the draw of a sheet is the output
use mathlib.Core.Path.{◌≡◌, sym, ap, ap₂, ◌∙◌}
use mathlib.Core.Bool.{Bool, true, false}
use mathlib.Core.List.{List, [], ◌∷◌, ◌++◌, append_assoc, append-nil}
use Prim.Native.Nat.{ℕ, zero, suc, ◌+◌, ◌*◌, ◌^◌, ◌<◌, ◌≤◌}
use native.Mathlib.Numerals.{add-one}
use native.Mathlib.Omega.{arith}
use lib.Dec.{ltb}
use lib.ListN.{length, take, drop, get_or, replicate, length-append}
use lib.Seq.{take-suc, length-take-le}
use borrow.Author.Tests.{ne_eqb}
use Rattle.rules.specs.Width.{w64}
use Rattle.answers.specs.Outcome.{left}
use Rattle.sheet.specs.ReadSheet.{shown_drawn}
use Rattle.sheet.specs.RunSheet.{run_sheet}
use Rattle.sheet.specs.declared.drawn.Drawn.{Drawn}
use Rattle.spelling.specs.Decimal.{decimal}
use Rattle.lines.specs.Text.{line, early_text, late_text, draw_line_of, slot_line_of, refused_line_of, first_line_of, slot_lines, told, room, output}
use Rattle.spelling.specs.declared.page.Page.{Page}
use Rattle.spelling.specs.Inner.{Written}
use Rattle.spelling.proofs.Spelling.{digit_count, joined}

-- ---- the first line

module _ (d : Drawn) where
  pub first-refused : (d.no ≡ 0 → ⊥) → first_line_of d ≡ refused_line_of d.no d.batch
  first-refused h = rw (ne_eqb d.no 0 h, first_line_of)

-- a number of 64 bits has at most 20 digits
decimal_64 : (n : ℕ) → n < 2 ^ 64 → length (decimal n) ≤ 20
decimal_64 n h = digit_count 20 n (omega arith) (omega arith) h

pub refused_short : (number batch : ℕ) → number < 2 ^ 64 → batch < 2 ^ 64 → length (refused_line_of number batch) ≤ 50
unfolding line
refused_short number batch h i = simp length-append (omega (arith, decimal_64 number h, decimal_64 batch i))

pub draw_short : (n k used rejected : ℕ) → n < 2 ^ 64 → k < 2 ^ 64 → used < 2 ^ 64 → rejected < 2 ^ 64
    → length (draw_line_of n k used rejected) ≤ 89
unfolding line
draw_short n k used rejected h i j l =
    simp length-append (omega (arith, decimal_64 n h, decimal_64 k i, decimal_64 used j, decimal_64 rejected l))

-- ---- the lines of the slots

review_short : (early : Bool) → length {A = ℕ} (elim early [ true ↦ early_text | false ↦ late_text ]) ≤ 5
review_short true = omega arith
review_short false = omega arith

pub slot_short : (w slot x : ℕ) → slot < 16384 → x < 2 ^ 32 → length (slot_line_of w slot x) ≤ 23
unfolding line
slot_short w slot x h i =
    simp length-append (omega (arith, digit_count 5 (slot + 1) (omega arith) (omega arith) (omega arith), digit_count 10 x (omega arith) (omega arith) (omega arith), review_short (ltb slot w)))

pub slots-short : (w from i : ℕ) (xs : List ℕ) → ((j : ℕ) → get_or xs j 0 < 2 ^ 32) → from + i ≤ 16384
    → length (slot_lines w from (take i xs)) ≤ 23 * i
unfolding slot_lines
slots-short w from zero xs f h = omega arith
slots-short w from (suc i) [] f h = omega arith
slots-short w from (suc i) (x ∷ xs) f h =
    rw length-append (omega (arith, slot_short w from x (omega arith) (f 0), slots-short w (from + 1) i xs (λ j. f (suc j)) (omega arith)))

pub lines_behind : (w slot : ℕ) (xs ys : List ℕ) → slot_lines w slot (xs ++ ys) ≡ slot_lines w slot xs ++ slot_lines w (slot + length xs) ys
unfolding slot_lines
lines_behind w slot [] ys = let e : slot ≡ slot + 0 = omega arith in ap (λ (n : ℕ). slot_lines w n ys) e
lines_behind w slot (x ∷ xs) ys =
    let e : slot + 1 + length xs ≡ slot + length (x ∷ xs) = omega arith in
    ap (λ (l : List ℕ). slot_line_of w slot x ++ l)
    (lines_behind w (slot + 1) xs ys ∙ ap (λ (n : ℕ). slot_lines w (slot + 1) xs ++ slot_lines w n ys) e)
    ∙ sym (append_assoc (slot_line_of w slot x) (slot_lines w (slot + 1) xs) (slot_lines w (slot + length (x ∷ xs)) ys))

pub slots_next : (w slot : ℕ) (xs : List ℕ) → slot < length xs
    → slot_lines w 0 (take slot xs) ++ slot_line_of w slot (get_or xs slot 0) ≡ slot_lines w 0 (take (slot + 1) xs)
unfolding slot_lines
slots_next w slot xs h =
    let e : 0 + length (take slot xs) ≡ slot = omega (arith, length-take-le slot xs (omega arith)) in
    let s : take (slot + 1) xs ≡ take slot xs ++ get_or xs slot 0 ∷ [] = rw add-one (take-suc xs slot 0 h) in
    rw (s, lines_behind w 0 (take slot xs) (get_or xs slot 0 ∷ []), e, append-nil)

-- ---- all of them

-- the first line and those of the slots, written from the front on
pub told-written : {p q r : Page} (d : Drawn) (slots : List ℕ) → p.at ≡ 0 → Written p (first_line_of d) q
    → Written q (slot_lines d.w 0 (take d.k slots)) r
    → (r.at ≡ length (told d slots)) × (r.bytes.now ≡ told d slots ++ drop r.at p.bytes.now)
told-written d slots e v w =
    let all = joined v w in
    (omega (arith, all.place), rw (all.place, e) (rw e at all.bytes))

-- the draw of a sheet, with room for m, into the slots z
abbrev told_of : List ℕ → List ℕ → ℕ → List ℕ
told_of s z m = told (shown_drawn s (run_sheet w64 s m)) (left z (run_sheet w64 s m))

pub output-told : (s z : List ℕ) (d : Drawn) (slots : List ℕ) → z ≡ replicate room 0 → length z ≡ room
    → d ≡ shown_drawn s (run_sheet w64 s (length z)) → slots ≡ left z (run_sheet w64 s (length z)) → told d slots ≡ output s
unfolding output
output-told s z d slots e n f g = ap₂ told f g ∙ ap₂ (told_of s) e n
