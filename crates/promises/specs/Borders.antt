-- The borders of the table "Numbers for no": beside each figure of document 01 a call that meets it and a call that is one off. Where a call
-- takes words the start is above their number, so that a call which no lower number refuses is refused by 9.
--
--   sheet28 at k w    a sheet of 28 bytes, with no word, said to be at this place, and one record; and these k and w
--   sheet36           a sheet of 36 bytes, with one word and one record, k = 1 and w = 1
--   table             the borders
--   Borders           the statement: every line is true
use Rattle.std.specs.Prelude.{Bool, List, [], ◌∷◌, ◌++◌, ℕ, T, eqb, take, replicate}
use Rattle.rules.specs.Width.{w64}
use Rattle.rolls.specs.Batch.{roll_batch}
use Rattle.lists.specs.List.{roll_list}
use Rattle.shuffles.specs.Shuffle.{shuffle}
use Rattle.draws.specs.Sample.{sample}
use Rattle.runs.specs.Behind.{words_behind}
use Rattle.orders.specs.Order.{rolls_behind}
use Rattle.sheet.specs.ReadSheet.{seen_read}
use Rattle.sheet.specs.RunSheet.{run_sheet}
use Rattle.writer.specs.WriteSheet.{write_sheet}
use Rattle.promises.specs.Examples.{done, refused, all}

abbrev pub sheet28 : ℕ → ℕ → ℕ → List ℕ
sheet28 at k w =
    0 ∷ 0 ∷ 0 ∷ 0 ∷ at ∷ 0 ∷ 0 ∷ 0 ∷ 1 ∷ 0 ∷ 0 ∷ 0 ∷ 24 ∷ 0 ∷ 0 ∷ 0 ∷ k ∷ 0 ∷ 0 ∷ 0 ∷ w ∷ 0 ∷ 0 ∷ 0 ∷ 7 ∷ 0 ∷ 0 ∷ 0 ∷ []

abbrev pub sheet36 : List ℕ
sheet36 =
    1 ∷ 0 ∷ 0 ∷ 0 ∷ 24 ∷ 0 ∷ 0 ∷ 0 ∷ 1 ∷ 0 ∷ 0 ∷ 0 ∷ 32 ∷ 0 ∷ 0 ∷ 0 ∷ 1 ∷ 0 ∷ 0 ∷ 0 ∷ 1 ∷ 0 ∷ 0 ∷ 0 ∷ 5 ∷ 0 ∷ 0 ∷ 0 ∷ 0 ∷ 0 ∷ 0 ∷ 0
    ∷ 7 ∷ 0 ∷ 0 ∷ 0 ∷ []

unfoldable pub table : List Bool
table =
    -- bounds in one batch, 1 to 16
    refused (roll_batch w64 [] 1 []) 2 0
    ∷ refused (roll_batch w64 [] 1 (replicate 16 1)) 9 0
    ∷ refused (roll_batch w64 [] 1 (replicate 17 1)) 2 0
    ∷ refused (words_behind w64 (replicate 16 1) []) 7 0
    ∷ refused (words_behind w64 (replicate 17 1) []) 2 0
    -- start place above the number of words
    ∷ refused (roll_batch w64 (0 ∷ []) 1 (1 ∷ [])) 10 0
    ∷ refused (roll_batch w64 (0 ∷ []) 2 (1 ∷ [])) 9 0
    -- bounds in a list, 0 to 4,096; the lent result list is too short
    ∷ refused (roll_list w64 [] 1 [] 0) 9 0
    ∷ refused (roll_list w64 [] 1 (replicate 4096 1) 4096) 9 0
    ∷ refused (roll_list w64 [] 1 (replicate 4096 1) 4095) 6 0
    ∷ refused (roll_list w64 [] 1 (replicate 4097 1) 4097) 2 0
    -- records, 0 to 16,384
    ∷ refused (shuffle w64 [] 1 (replicate 16384 0)) 9 0
    ∷ refused (shuffle w64 [] 1 (replicate 16385 0)) 2 0
    ∷ refused (sample w64 [] 1 (replicate 16384 0) 16384 16384) 9 0
    ∷ refused (sample w64 [] 1 (replicate 16384 0) 16384 16383) 6 0
    ∷ refused (sample w64 [] 1 (replicate 16385 0) 1 1) 2 0
    -- sample size k of n records, 1 to n
    ∷ refused (sample w64 [] 1 (0 ∷ []) 0 1) 3 0
    ∷ refused (sample w64 [] 1 (0 ∷ []) 2 2) 3 0
    -- the rolls behind an order: n - 1 of them
    ∷ refused (rolls_behind (replicate 16384 0) 16382) 6 0
    ∷ refused (rolls_behind (0 ∷ 0 ∷ 0 ∷ []) 2) 8 0
    ∷ refused (rolls_behind (replicate 16385 0) 16384) 2 0
    -- on a sheet: k is 0 or above n, w is above k; no room
    ∷ refused (run_sheet w64 (sheet28 24 0 0) 1) 3 0
    ∷ refused (run_sheet w64 (sheet28 24 1 1) 0) 6 0
    ∷ refused (run_sheet w64 (sheet28 24 1 2) 1) 3 0
    ∷ refused (run_sheet w64 (sheet28 24 2 0) 2) 3 0
    -- sheet length in bytes, 24 to 65,535; each offset is at least 24, each area ends within the sheet
    ∷ refused (run_sheet w64 [] 1) 1 0
    ∷ refused (run_sheet w64 (take 23 sheet36) 1) 1 0
    ∷ refused (run_sheet w64 (sheet28 24 1 1 ++ replicate 65507 0) 0) 6 0
    ∷ refused (run_sheet w64 (sheet28 24 1 1 ++ replicate 65508 0) 0) 1 0
    ∷ refused (run_sheet w64 (sheet28 23 1 1) 0) 1 0
    ∷ refused (run_sheet w64 (sheet28 28 1 1) 0) 6 0
    ∷ refused (run_sheet w64 (sheet28 29 1 1) 0) 1 0
    -- writing: the sheet would pass 65,535 bytes; k and w as on a sheet; no room
    ∷ refused (write_sheet [] (replicate 16377 0) 0 0 0) 3 0
    ∷ refused (write_sheet [] (replicate 16378 0) 0 0 0) 2 0
    ∷ refused (write_sheet (replicate 8188 0) (0 ∷ []) 0 0 0) 3 0
    ∷ refused (write_sheet (replicate 8188 0) (0 ∷ 0 ∷ []) 0 0 0) 2 0
    ∷ refused (write_sheet [] (0 ∷ []) 1 2 28) 3 0
    ∷ refused (write_sheet [] (0 ∷ []) 2 0 28) 3 0
    ∷ refused (write_sheet [] (0 ∷ []) 1 1 27) 6 0
    ∷ done (write_sheet [] (7 ∷ []) 1 1 28) (sheet28 24 1 1) 0 0
    -- reading: k and w as on a sheet; no room for a word, no room for a record
    ∷ eqb (seen_read (sheet28 24 0 0) [] (0 ∷ [])).0.no 3
    ∷ eqb (seen_read (sheet28 24 1 2) [] (0 ∷ [])).0.no 3
    ∷ eqb (seen_read (sheet28 24 2 0) [] (0 ∷ [])).0.no 3
    ∷ eqb (seen_read (sheet28 24 1 1) [] []).0.no 6
    ∷ eqb (seen_read sheet36 [] (0 ∷ [])).0.no 6
    ∷ eqb (seen_read sheet36 (0 ∷ []) (0 ∷ [])).0.no 0
    ∷ eqb (seen_read [] (0 ∷ []) (0 ∷ [])).0.no 1
    ∷ []

abbrev pub Borders : Type 0
Borders = T (all table)
