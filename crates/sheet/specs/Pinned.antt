-- What pins a draw sheet: sentences that tell its definitions from other definitions of their shape. Each stands under the words of
-- document 01 that it is of.
--
--   Header h s           the six numbers h stand at the places 0, 4, 8, 12, 16, 20
--   bytes24, numbers24   a header of 24 different bytes, and its numbers
--   SheetPinned          the statement: the numbers that stand there are those that are read, and come back; when a sheet is sound, and its k
--                        and w are right, in figures
use Rattle.std.specs.Prelude.{◌≡◌, ◌↔◌, ◌⊎◌, false, List, [], ◌∷◌, ℕ, ◌+◌, ◌*◌, ◌≤◌, T, length}
use Rattle.answers.specs.Outcome.{refused}
use Rattle.areas.specs.Area.{number}
use Rattle.areas.specs.Pinned.{Stands, Area}
use Rattle.sheet.specs.ReadSheet.{drawn_by, shown_drawn}
use Rattle.sheet.specs.Sheet.{Numbers, numbers, words_of, records_of, is_sound_sheet, is_wrong_size}

pub record Header (h : Numbers) (s : List ℕ) : Type 0 where
  pub long : 24 ≤ length s
  pub words : Stands 4 h.words 0 s
  pub words_at : Stands 4 h.words_at 4 s
  pub records : Stands 4 h.records 8 s
  pub records_at : Stands 4 h.records_at 12 s
  pub k : Stands 4 h.k 16 s
  pub w : Stands 4 h.w 20 s

abbrev pub bytes24 : List ℕ
bytes24 =
    1 ∷ 2 ∷ 3 ∷ 4 ∷ 5 ∷ 6 ∷ 7 ∷ 8 ∷ 9 ∷ 10 ∷ 11 ∷ 12 ∷ 13 ∷ 14 ∷ 15 ∷ 16 ∷ 17 ∷ 18 ∷ 19 ∷ 20 ∷ 21 ∷ 22 ∷ 23 ∷ 24 ∷ []

abbrev pub numbers24 : Numbers
numbers24 = record {
  words = 67305985;
  words_at = 134678021;
  records = 202050057;
  records_at = 269422093;
  k = 336794129;
  w = 404166165;
}

pub record SheetPinned : Type 0 where
  -- "A draw sheet starts with six 32-bit numbers, low byte first: count of words, byte offset of words, count of records, byte offset of
  -- records, k, w."
  pub six : (h : Numbers) (s : List ℕ) → Header h s → numbers s ≡ h
  pub example : numbers bytes24 ≡ numbers24
  -- "the six numbers come back with it"; on a refusal zeros do
  pub back : (s : List ℕ) (next rejected : ℕ) → drawn_by s next rejected
      ≡ record {
        no = 0;
        next = next;
        rejected = rejected;
        batch = 0;
        words = number 4 0 s;
        words_at = number 4 4 s;
        records = number 4 8 s;
        records_at = number 4 12 s;
        k = number 4 16 s;
        w = number 4 20 s;
      }
  pub none : (s : List ℕ) (n batch : ℕ) → shown_drawn s (refused n batch)
      ≡ record { no = n; next = 0; rejected = 0; batch = batch; words = 0; words_at = 0; records = 0; records_at = 0; k = 0; w = 0 }
  -- "Words take 8 bytes, records 4, low byte first."
  pub words : (s ws : List ℕ) → length ws ≡ (numbers s).words → Area 8 (numbers s).words_at ws s → words_of s ≡ ws
  pub records : (s xs : List ℕ) → length xs ≡ (numbers s).records → Area 4 (numbers s).records_at xs s → records_of s ≡ xs
  -- "sheet length in bytes: 24 to 65,535"; "each offset is at least 24, each area ends within the sheet, and the areas share no byte": an empty
  -- area has none, and of two others one stands before the other
  pub sound : (s : List ℕ) → let h : Numbers = numbers s in
      T (is_sound_sheet s)
      ↔ ((24 ≤ length s) × (length s ≤ 65535) × (24 ≤ h.words_at) × (24 ≤ h.records_at) × (h.words_at + 8 * h.words ≤ length s)
      × (h.records_at + 4 * h.records ≤ length s)
      × ((h.words ≡ 0) ⊎ ((h.records ≡ 0) ⊎ ((h.words_at + 8 * h.words ≤ h.records_at) ⊎ (h.records_at + 4 * h.records ≤ h.words_at)))))
  -- "3 Sample: k is 0 or above n; on a sheet, w is above k"
  pub size : (n k w : ℕ) → (is_wrong_size n k w ≡ false) ↔ ((1 ≤ k) × (k ≤ n) × (w ≤ k))
