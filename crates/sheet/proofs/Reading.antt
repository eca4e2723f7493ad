-- Reading a sheet, refusal by refusal. Assumes nothing.
--
--   length_words, length_records   a sheet has as many words and records as its numbers say
--   right_size, size_right         number 3 does not apply exactly where k and w are right
--   Read                           what comes of reading, for whatever is read
--   read_done                      a sound sheet to which number 3 does not apply is read where both lists have room
--   done_read                      what the caller then sees
--   read_enough                    with room for the most that a sheet holds, number 6 is not met
use mathlib.Core.Path.{◌≡◌, sym, ap, ap₂, ◌∙◌}
use mathlib.Core.Bool.{Bool, true, false, not, ◌||◌}
use mathlib.Core.List.{List, []}
use Prim.Native.Nat.{ℕ, ◌≤◌}
use native.Mathlib.Omega.{arith}
use lib.Dec.{ltb}
use lib.ListN.{length}
use borrow.Author.Tests.{le-ltb, ltb-false, not-false}
use Rattle.rules.proofs.Facts.{or_left, or_right}
use Rattle.rules.specs.Run.{next, rejected}
use Rattle.answers.specs.Outcome.{Outcome, done, no, decide, outside}
use Rattle.answers.proofs.Deciding.{decide_past, decide_none, decide_under, in_count}
use Rattle.areas.proofs.Reading.{length-entries}
use Rattle.sheet.specs.Sheet.{numbers, words_of, records_of, is_sound_sheet, is_wrong_size}
use Rattle.sheet.specs.ReadSheet.{unreadable, read_refusals, drawn_by, shown_drawn, seen_read}
use Rattle.sheet.specs.declared.drawn.Drawn.{Drawn}
use Rattle.sheet.proofs.Soundness.{sound_known, sheet_words, sheet_records}

pub length_words : (s : List ℕ) → length (words_of s) ≡ (numbers s).words
length_words s = length-entries 8 (numbers s).words (numbers s).words_at s

pub length_records : (s : List ℕ) → length (records_of s) ≡ (numbers s).records
length_records s = length-entries 4 (numbers s).records (numbers s).records_at s

-- ---- k and w

pub right_size : (n k w : ℕ) → is_wrong_size n k w ≡ false → (1 ≤ k) × (k ≤ n) × (w ≤ k)
right_size n k w e =
    let f : outside 1 n k ≡ false = or_left _ _ e in
    (ltb-false k 1 (or_left _ _ f), ltb-false n k (or_right (ltb k 1) _ f), ltb-false k w (or_right (outside 1 n k) _ e))

pub size_right : (n k w : ℕ) → (1 ≤ k) × (k ≤ n) × (w ≤ k) → is_wrong_size n k w ≡ false
size_right n k w v = ap₂ ◌||◌ (in_count 1 n k v.0 v.1) (le-ltb k w v.2)

-- ---- the refusals

-- number 3 applies
abbrev wrong : List ℕ → Bool
wrong s = is_wrong_size (numbers s).records (numbers s).k (numbers s).w

-- what comes of reading a sheet with this room, for the words, the records, or nothing
abbrev pub Read : List ℕ → ℕ → ℕ → List ℕ → Outcome
Read s m n values = decide (read_refusals s m n) (done values [])

module _ (s : List ℕ) (m n : ℕ) (values : List ℕ) where
  pub read_done : is_sound_sheet s ≡ true → wrong s ≡ false → (numbers s).words ≤ m → (numbers s).records ≤ n → Read s m n values ≡ done values []
  read_done sound size h k =
      decide_past _ _ _ (ap not sound) ∙ decide_past _ _ _ size ∙ decide_past _ _ _ (ap₂ ◌||◌ (le-ltb m _ h) (le-ltb n _ k)) ∙ decide_none (done values [])

-- ---- what the caller sees

pub done_read : (s words records : List ℕ) (d : Drawn) → Read s (length words) (length records) [] ≡ done [] [] → d ≡ drawn_by s 0 0
    → d ≡ (seen_read s words records).0
unfolding next rejected
done_read s words records d e f = f ∙ ap (shown_drawn s) (sym e)

-- ---- room enough

pub read_enough : (s : List ℕ) (m n : ℕ) (values : List ℕ) → 8188 ≤ m → 16377 ≤ n → Read s m n values ≡ decide (unreadable s) (done values [])
read_enough s m n values h k =
    decide_under (no 1 (not (is_sound_sheet s))) _ _ _ _ (λ e.
    let v = sound_known s (not-false (is_sound_sheet s) e) in
    decide_under (no 3 (wrong s)) _ _ _ _ (λ f.
    decide_past _ _ _ (ap₂ ◌||◌ (le-ltb m _ (omega (arith, sheet_words s v))) (le-ltb n _ (omega (arith, sheet_records s v))))))
