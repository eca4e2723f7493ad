-- Reading a draw sheet: demands 1 and 2 of it, that they settle its answer and both lent lists, and its stand-ins. No width plays a part.
--
-- Document 02, M-100: "reading it, whether or not its words suffice for the draw, gives back the same six numbers and areas [..] A sound
-- sheet with gaps is read as before".
--
--   Op                                           the operation as its caller observes it: the sheet's bytes, the lent lists of words and of records
--   CanMeet                                      the numbers that it can meet: 1 and 3 as on a sheet, and 6
--   Refuses, Reads, Gives s words records got    demands 1 and 2, of one call and what the caller got: the six numbers; and in front of each
--                                                list what the sheet holds, whatever its words are
--   When s words records no                      which number is given: 1 and 3 as on a sheet, then 6 where either list is too short; else none
--   Demand1 op, Demand2 op                       the demands, on every call
--   Settled, StandIns, Promise                   as of one batch
use Rattle.std.specs.Prelude.{◌≡◌, ◌≢◌, List, [], ◌∷◌, ◌++◌, ℕ, ◌≤◌, length, drop}
use Rattle.rules.specs.Width.{w64}
use Rattle.sheet.specs.ReadSheet.{read_refusals, drawn_by, shown_drawn, seen_read}
use Rattle.sheet.specs.RunSheet.{seen_sheet}
use Rattle.sheet.specs.Sheet.{Numbers, numbers, words_of, records_of, Sound}
use Rattle.sheet.specs.declared.drawn.Drawn.{Drawn}
use Rattle.promises.specs.Demand1.{AsRefused, Which, numbers_of}
use Rattle.promises.specs.Demand2.{Allowed}
use Rattle.promises.specs.Sheet.{Bytes, RightSize}

abbrev pub Op : Type 0
Op = List ℕ → List ℕ → List ℕ → Drawn × (List ℕ × List ℕ)

abbrev pub CanMeet : Type 0
CanMeet = (s : List ℕ) (wordRoom recordRoom : ℕ) → numbers_of (read_refusals s wordRoom recordRoom) ≡ 1 ∷ 3 ∷ 6 ∷ []

abbrev pub Refuses : List ℕ → List ℕ → List ℕ → Drawn × (List ℕ × List ℕ) → Type 0
Refuses s words records got =
    AsRefused (read_refusals s (length words) (length records)) (λ o. (shown_drawn s o, (words, records))) got.0.no got

pub record Reads (s words records : List ℕ) (got : Drawn × (List ℕ × List ℕ)) : Type 0 where
  pub six : got.0 ≡ drawn_by s 0 0
  pub front_words : got.1.0 ≡ words_of s ++ drop (numbers s).words words
  pub front_records : got.1.1 ≡ records_of s ++ drop (numbers s).records records

abbrev pub Gives : List ℕ → List ℕ → List ℕ → Drawn × (List ℕ × List ℕ) → Type 0
Gives s words records got = Allowed (read_refusals s (length words) (length records)) → Reads s words records got

abbrev pub When : List ℕ → List ℕ → List ℕ → ℕ → Type 0
When s words records number =
    let h : Numbers = numbers s in
    Which 1 3 6 (Sound s) (RightSize h.records h.k h.w) ((h.words ≤ length words) × (h.records ≤ length records)) (λ n. n ≡ 0) number

abbrev pub Demand1 : Op → Type 0
Demand1 op = (s words records : List ℕ) → Refuses s words records (op s words records)

abbrev pub Demand2 : Op → Type 0
Demand2 op = (s words records : List ℕ) → Gives s words records (op s words records)

abbrev pub Settled : Type 0
Settled = (a b : Op) → Demand1 a → Demand2 a → Demand1 b → Demand2 b → (s words records : List ℕ) → a s words records ≡ b s words records

pub record StandIns : Type 0 where
  -- refusing every call
  pub refuses : (op : Op) → ((s words records : List ℕ) → Bytes s → (op s words records).0.no ≢ 0) → ¬ Demand2 op
  -- refusing where the words do not suffice for the draw
  pub asks_words : (op : Op)
      → ((s words records slots : List ℕ) → Bytes s → (seen_sheet w64 s slots).0.no ≡ 10 → (op s words records).0.no ≢ 0) → ¬ Demand2 op

pub record Promise : Type 0 where
  pub numbers : CanMeet
  pub demand1 : Demand1 seen_read
  pub when : (s words records : List ℕ) → When s words records (seen_read s words records).0.no
  pub demand2 : Demand2 seen_read
  pub settled : Settled
  pub stand_ins : StandIns
