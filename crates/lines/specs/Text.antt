-- The text that the draw-sheet program prints, in ASCII.
--
--   line f fs                                         the field f and then the fields fs, parted by one blank, and a line feed
--   draw_text, refused_text, early_text, late_text    the texts `draw`, `refused`, `early`, `late`
--   draw_line_of n k used rejected                    `draw`, the count of records, k, the words used, the words rejected
--   slot_line_of w slot x                             the number of the slot, from 1, its record x, and `early` for the first w slots, else `late`
--   refused_line_of number batch                      `refused`, the number of the refusal, and the batch
--   first_line_of d                                   the first line that tells of a draw
--   slot_lines w from xs                              a line for each slot, of which the first is slot `from` and holds the first record of xs
--   told d slots                                      the lines that tell of a draw, which left the slots
--   room                                              how many slots the program lends
--   output s                                          all that the program prints for the bytes s of a sheet
use Rattle.std.specs.Prelude.{true, false, List, [], ◌∷◌, ◌++◌, ℕ, ◌+◌, ltb, eqb, take, replicate}
use Rattle.rules.specs.Width.{w64}
use Rattle.answers.specs.Outcome.{Outcome, left}
use Rattle.spelling.specs.Decimal.{decimal}
use Rattle.sheet.specs.ReadSheet.{shown_drawn}
use Rattle.sheet.specs.RunSheet.{run_sheet}
use Rattle.sheet.specs.declared.drawn.Drawn.{Drawn}

-- Fields are parted by one blank (32) and each line ends with a line feed (10).
unfoldable pub line : List ℕ → List (List ℕ) → List ℕ
line f [] = f ++ 10 ∷ []
line f (g ∷ gs) = f ++ 32 ∷ line g gs

abbrev pub draw_text : List ℕ
draw_text = 100 ∷ 114 ∷ 97 ∷ 119 ∷ []

abbrev pub refused_text : List ℕ
refused_text = 114 ∷ 101 ∷ 102 ∷ 117 ∷ 115 ∷ 101 ∷ 100 ∷ []

abbrev pub early_text : List ℕ
early_text = 101 ∷ 97 ∷ 114 ∷ 108 ∷ 121 ∷ []

abbrev pub late_text : List ℕ
late_text = 108 ∷ 97 ∷ 116 ∷ 101 ∷ []

abbrev pub draw_line_of : ℕ → ℕ → ℕ → ℕ → List ℕ
draw_line_of n k used rejected = line draw_text (decimal n ∷ decimal k ∷ decimal used ∷ decimal rejected ∷ [])

abbrev pub slot_line_of : ℕ → ℕ → ℕ → List ℕ
slot_line_of w slot x = line (decimal (slot + 1)) (decimal x ∷ elim (ltb slot w) [ true ↦ early_text | false ↦ late_text ] ∷ [])

abbrev pub refused_line_of : ℕ → ℕ → List ℕ
refused_line_of number batch = line refused_text (decimal number ∷ decimal batch ∷ [])

-- where nothing is refused, the draw, from start 0, so that next is the count of words used
abbrev pub first_line_of : Drawn → List ℕ
first_line_of d = elim (eqb d.no 0) [ true ↦ draw_line_of d.records d.k d.next d.rejected | false ↦ refused_line_of d.no d.batch ]

unfoldable pub slot_lines : ℕ → ℕ → List ℕ → List ℕ
slot_lines w from [] = []
slot_lines w from (x ∷ xs) = slot_line_of w from x ++ slot_lines w (from + 1) xs

-- The first k slots have a line each. On a refusal k is 0, and the first line is all.
abbrev pub told : Drawn → List ℕ → List ℕ
told d slots = first_line_of d ++ slot_lines d.w 0 (take d.k slots)

-- No sheet has as many records, so that number 6 is never printed.
abbrev pub room : ℕ
room = 16384

-- The slots are zeros before the draw.
unfoldable pub output : List ℕ → List ℕ
output s = let o : Outcome = run_sheet w64 s room in told (shown_drawn s o) (left (replicate room 0) o)
