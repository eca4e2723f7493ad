-- Writing a sheet: it is written where nothing is refused, and its bytes part by part. Assumes nothing.
--
--   write_done    a sheet that is not too long, to which number 3 does not apply and for which there is room is written
--   done_write    what the caller sees of a sheet that was written
use mathlib.Core.Path.{◌≡◌, refl, sym, ap, ◌∙◌}
use mathlib.Core.Bool.{false}
use mathlib.Core.List.{List, [], ◌++◌, append_assoc}
use Prim.Native.Nat.{ℕ, ◌+◌, ◌*◌, ◌≤◌}
use native.Mathlib.Omega.{arith}
use lib.Dec.{ltb}
use lib.ListN.{length, drop, length-append}
use borrow.Author.Tests.{le-ltb}
use Rattle.std.specs.Prelude.{Ok}
use Rattle.rules.specs.Put.{put}
use Rattle.rules.proofs.Writing.{put-put}
use Rattle.answers.specs.Outcome.{done, left}
use Rattle.answers.proofs.Deciding.{decide_past, decide_none}
use Rattle.areas.specs.Area.{area}
use Rattle.areas.proofs.Laying.{length-area}
use Rattle.sheet.specs.Sheet.{is_wrong_size}
use Rattle.writer.specs.WriteSheet.{length_of, header, written, write_sheet, shown_written, seen_write}
use Rattle.writer.specs.Results.{written_of}
use Rattle.writer.proofs.Laid.{length-written}

module _ (ws xs : List ℕ) (k w : ℕ) where
  -- ---- no refusal

  pub write_done : (room : ℕ) → ltb 65535 (length_of ws xs) ≡ false → is_wrong_size (length xs) k w ≡ false → length_of ws xs ≤ room
      → write_sheet ws xs k w room ≡ done (written ws xs k w) []
  unfolding write_sheet
  write_done room long size l = decide_past _ _ _ long ∙ decide_past _ _ _ size ∙ decide_past _ _ _ (le-ltb room (length_of ws xs) l) ∙ decide_none _

  -- ---- the sheet, part by part

  abbrev h : List ℕ
  h = header (length ws) (length xs) k w

  parts : (lent : List ℕ) → length_of ws xs ≤ length lent
      → put (put (put lent 0 (area 4 h)) 24 (area 8 ws)) (24 + 8 * length ws) (area 4 xs) ≡ written ws xs k w ++ drop (length (written ws xs k w)) lent
  parts lent room =
      let n : length (area 4 h ++ area 8 ws) ≡ 24 + 8 * length ws = rw (length-append, length-area 4 h, length-area 8 ws) refl in
      let same : (area 4 h ++ area 8 ws) ++ area 4 xs ≡ written ws xs k w = append_assoc (area 4 h) (area 8 ws) (area 4 xs) in
      let whole : 0 + length (written ws xs k w) ≡ length (written ws xs k w) = omega arith in
      ap (λ (l : List ℕ). put l (24 + 8 * length ws) (area 4 xs)) (put-put lent 0 24 (area 4 h) (area 8 ws) (omega (arith, length-area 4 h)) (omega (arith, room)))
      ∙ put-put lent 0 (24 + 8 * length ws) (area 4 h ++ area 8 ws) (area 4 xs) (omega (arith, n)) (omega (arith, room))
      ∙ ap (put lent 0) same ∙ ap (λ (m : ℕ). written ws xs k w ++ drop m lent) whole

  -- ---- what the caller sees

  -- the six numbers, the words and the records as the code puts them, the records from a place that it knows
  pub done_write : (lent : List ℕ) → write_sheet ws xs k w (length lent) ≡ done (written ws xs k w) [] → length_of ws xs ≤ length lent
      → (one two three : List ℕ) → one ≡ put lent 0 (area 4 h) → two ≡ put one 24 (area 8 ws) → three ≡ put two (24 + 8 * length ws) (area 4 xs)
      → (written_of (Ok (length_of ws xs)) ≡ (seen_write ws xs k w lent).0) × (three ≡ (seen_write ws xs k w lent).1)
  done_write lent e room one two three first second third = (
    ap (λ (n : ℕ). written_of (Ok n)) (sym (length-written ws xs k w)) ∙ ap shown_written (sym e),
    third ∙ ap (λ (l : List ℕ). put l (24 + 8 * length ws) (area 4 xs)) (second ∙ ap (λ (l : List ℕ). put l 24 (area 8 ws)) first) ∙ parts lent room ∙ ap (left lent) (sym e),
  )
