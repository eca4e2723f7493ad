-- Sheets written, read, run and written again: a statement for each sentence of document 02, M-100.
--
--   Back W ws xs k w s                       what is said of the written sheet s: it is sound; read, it gives the six numbers, the words and the records;
--                                            written again, into any list, it is the same; and its draw is their sample
--   WrittenBack W                            the statement: a written sheet has at most 65,535 bytes; and it is so of its bytes alone, or with bytes behind it
--                                            up to 65,535 in all. No condition is on the words
--   Again W s got                            what is said of a sheet s that was read, and of what its reader got who wrote its words and records again
--   ReadAgain W                              the statement: of every sheet that was read, written into any list with room for it
--   sheet_at at gap, plain, gapped, short    sheets with their records at this place, behind a gap; with none; and with words that do not suffice
--   table                                    examples
--   RoundTrip W                              the three of them
use Rattle.std.specs.Prelude.{◌≡◌, Bool, not, List, [], ◌∷◌, ◌++◌, ℕ, ◌+◌, ◌*◌, ◌≤◌, T, eqb, length, take, drop}
use Rattle.rules.specs.Width.{Width, w64}
use Rattle.draws.specs.Sample.{sample}
use Rattle.sheet.specs.Sheet.{numbers, words_of, records_of, Sound}
use Rattle.sheet.specs.ReadSheet.{seen_read}
use Rattle.sheet.specs.RunSheet.{run_sheet}
use Rattle.sheet.specs.declared.drawn.Drawn.{Drawn}
use Rattle.writer.specs.WriteSheet.{written, seen_write}
use Rattle.writer.specs.declared.written.Written.{Written}
use Rattle.promises.specs.Examples.{same, done, refused, all}
use Rattle.promises.specs.Sheet.{Bytes}
use Rattle.promises.specs.Write.{Callable}

pub record Back (W : Width) (ws xs : List ℕ) (k w : ℕ) (s : List ℕ) : Type 0 where
  -- "A written sheet is sound"
  pub sound : Sound s
  -- "reading it, whether or not its words suffice for the draw, gives back the same six numbers and areas"
  pub read : (words records : List ℕ) → length ws ≤ length words → length xs ≤ length records
      → seen_read s words records
      ≡ (
        record {
          no = 0;
          next = 0;
          rejected = 0;
          batch = 0;
          words = length ws;
          words_at = 24;
          records = length xs;
          records_at = 24 + 8 * length ws;
          k = k;
          w = w;
        },
        (ws ++ drop (length ws) words, xs ++ drop (length xs) records),
      )
  -- "writing again what was read from a written sheet gives the same bytes"
  pub again : (words records into : List ℕ) → length ws ≤ length words → length xs ≤ length records
      → let got : Drawn × (List ℕ × List ℕ) = seen_read s words records in
      seen_write (take got.0.words got.1.0) (take got.0.records got.1.1) got.0.k got.0.w into ≡ seen_write ws xs k w into
  -- the draw of a written sheet is the sample of its records by its words from start 0
  pub draw : (room : ℕ) → run_sheet W s room ≡ sample W ws 0 xs k room

abbrev pub WrittenBack : Width → Type 0
WrittenBack W = (ws xs : List ℕ) (k w : ℕ) (lent : List ℕ) → Callable ws xs
    → let got : Written × List ℕ = seen_write ws xs k w lent in
    got.0.no ≡ 0 → (got.0.length ≤ 65535) × ((n : ℕ) → got.0.length ≤ n → n ≤ 65535 → Back W ws xs k w (take n got.1))

pub record Again (W : Width) (s : List ℕ) (got : Written × List ℕ) : Type 0 where
  -- it is written, with no gap, in no more bytes than s has
  pub none : got.0.no ≡ 0
  pub no_gap : got.0.length ≡ 24 + 8 * (numbers s).words + 4 * (numbers s).records
  pub fits : got.0.length ≤ length s
  -- the same words, records, k and w, and the same draw
  pub words : words_of (take got.0.length got.1) ≡ words_of s
  pub records : records_of (take got.0.length got.1) ≡ records_of s
  pub size : ((numbers (take got.0.length got.1)).k ≡ (numbers s).k) × ((numbers (take got.0.length got.1)).w ≡ (numbers s).w)
  pub draw : (room : ℕ) → run_sheet W (take got.0.length got.1) room ≡ run_sheet W s room

-- "A sound sheet with gaps is read as before but may differ from the written form."
abbrev pub ReadAgain : Width → Type 0
ReadAgain W = (s words records lent : List ℕ) → Bytes s
    → let got : Drawn × (List ℕ × List ℕ) = seen_read s words records in
    got.0.no ≡ 0 → 24 + 8 * got.0.words + 4 * got.0.records ≤ length lent
    → Again W s (seen_write (take got.0.words got.1.0) (take got.0.records got.1.1) got.0.k got.0.w lent)

-- the words 0, 1 and the records 101, 205, 309
abbrev pub sheet_at : ℕ → List ℕ → List ℕ
sheet_at at gap =
    2 ∷ 0 ∷ 0 ∷ 0 ∷ 24 ∷ 0 ∷ 0 ∷ 0 ∷ 3 ∷ 0 ∷ 0 ∷ 0 ∷ at ∷ 0 ∷ 0 ∷ 0 ∷ 1 ∷ 0 ∷ 0 ∷ 0 ∷ 1 ∷ 0 ∷ 0 ∷ 0
    ∷ 0 ∷ 0 ∷ 0 ∷ 0 ∷ 0 ∷ 0 ∷ 0 ∷ 0 ∷ 1 ∷ 0 ∷ 0 ∷ 0 ∷ 0 ∷ 0 ∷ 0 ∷ 0 ∷ (gap ++ 101 ∷ 0 ∷ 0 ∷ 0 ∷ 205 ∷ 0 ∷ 0 ∷ 0 ∷ 53 ∷ 1 ∷ 0 ∷ 0 ∷ [])

-- with its records straight after the words, and with a gap of 3 bytes before them
abbrev pub plain : List ℕ
plain = sheet_at 40 []

abbrev pub gapped : List ℕ
gapped = sheet_at 43 (9 ∷ 9 ∷ 9 ∷ [])

-- with word 0 alone, which is rejected
abbrev pub short : List ℕ
short = written (0 ∷ []) (101 ∷ 205 ∷ 309 ∷ []) 1 1

unfoldable pub table : List Bool
table =
    -- the sheet of document 01, written
    same (written (0 ∷ 1 ∷ []) (101 ∷ 205 ∷ 309 ∷ []) 1 1) plain
    -- a sheet with a gap is read; its written form has the same draw and other bytes
    ∷ eqb (seen_read gapped (7 ∷ 7 ∷ []) (7 ∷ 7 ∷ 7 ∷ [])).0.no 0
    ∷ same (seen_read gapped (7 ∷ 7 ∷ []) (7 ∷ 7 ∷ 7 ∷ [])).1.0 (0 ∷ 1 ∷ [])
    ∷ same (seen_read gapped (7 ∷ 7 ∷ []) (7 ∷ 7 ∷ 7 ∷ [])).1.1 (101 ∷ 205 ∷ 309 ∷ [])
    ∷ same (written (words_of gapped) (records_of gapped) (numbers gapped).k (numbers gapped).w) plain
    ∷ not (same gapped plain)
    ∷ done (run_sheet w64 gapped 1) (309 ∷ []) 2 1
    ∷ done (run_sheet w64 plain 1) (309 ∷ []) 2 1
    -- a sheet whose words do not suffice is written and read, and its draw refused by 10
    ∷ eqb (seen_read short (7 ∷ []) (7 ∷ 7 ∷ 7 ∷ [])).0.no 0
    ∷ same (seen_read short (7 ∷ []) (7 ∷ 7 ∷ 7 ∷ [])).1.0 (0 ∷ [])
    ∷ same (seen_read short (7 ∷ []) (7 ∷ 7 ∷ 7 ∷ [])).1.1 (101 ∷ 205 ∷ 309 ∷ [])
    ∷ refused (run_sheet w64 short 1) 10 0
    ∷ []

pub record RoundTrip (W : Width) : Type 0 where
  pub written_back : WrittenBack W
  pub read_again : ReadAgain W
  pub examples : T (all table)
