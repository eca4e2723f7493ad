-- A draw sheet: its six numbers, its two areas, and when it is sound. A sheet is a list of bytes.
--
--   Numbers, numbers s     the six 32-bit numbers that a sheet starts with
--   words_of s, records_of s the words and the records of a sheet
--   words_end, records_end   the place after an area's last byte
--   Sound s                the sheet is sound, as document 01 says it
--   is_sound_sheet s              the same, as a test
--   is_wrong_size n k w        of number 3 on a sheet of n records: k is 0 or above n, or w is above k
use Rattle.std.specs.Prelude.{Bool, not, ◌&&◌, ◌||◌, List, ℕ, ◌+◌, ◌*◌, ◌<◌, ◌≤◌, min, max, leb, ltb, length}
use Rattle.answers.specs.Outcome.{outside}
use Rattle.areas.specs.Area.{number, entries}

pub record Numbers : Type 0 where
  pub words : ℕ
  pub words_at : ℕ
  pub records : ℕ
  pub records_at : ℕ
  pub k : ℕ
  pub w : ℕ

-- count of words, byte offset of words, count of records, byte offset of records, k, w
abbrev pub numbers : List ℕ → Numbers
numbers s =
    let at : ℕ → ℕ = λ i. number 4 i s in
    record { words = at 0; words_at = at 4; records = at 8; records_at = at 12; k = at 16; w = at 20 }

-- Words take 8 bytes, records 4.
abbrev pub words_of : List ℕ → List ℕ
words_of s = entries 8 (numbers s).words (numbers s).words_at s

abbrev pub records_of : List ℕ → List ℕ
records_of s = entries 4 (numbers s).records (numbers s).records_at s

abbrev pub words_end : Numbers → ℕ
words_end h = h.words_at + 8 * h.words

abbrev pub records_end : Numbers → ℕ
records_end h = h.records_at + 4 * h.records

-- Sound exactly when its length is allowed, each offset is at least 24, each area ends within the sheet, and the areas share no byte.
pub record Sound (s : List ℕ) : Type 0 where
  pub allowed : (24 ≤ length s) × (length s ≤ 65535)
  pub offsets : (24 ≤ (numbers s).words_at) × (24 ≤ (numbers s).records_at)
  pub within : (words_end (numbers s) ≤ length s) × (records_end (numbers s) ≤ length s)
  pub apart : (byte : ℕ) → ((numbers s).words_at ≤ byte) × (byte < words_end (numbers s))
      → ((numbers s).records_at ≤ byte) × (byte < records_end (numbers s)) → ⊥

-- Two areas share a byte where the later start is before the earlier end; an empty area shares none, wherever it lies.
abbrev pub is_sound_sheet : List ℕ → Bool
is_sound_sheet s =
    let h : Numbers = numbers s in
    not (outside 24 65535 (length s)) && leb 24 h.words_at && leb 24 h.records_at && leb (words_end h) (length s)
    && leb (records_end h) (length s) && not (ltb (max h.words_at h.records_at) (min (words_end h) (records_end h)))

abbrev pub is_wrong_size : ℕ → ℕ → ℕ → Bool
is_wrong_size n k w = outside 1 n k || ltb k w
