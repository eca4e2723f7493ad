-- Writing a draw sheet: its refusals in the order of document 02, the bytes that are written, and what its caller sees.
--
--   length_of ws xs                  how many bytes a sheet of these words and records has, with no gap
--   header m n k w                   the six numbers of a sheet of m words and n records
--   written ws xs k w                the sheet: six numbers, the words at 24, the records straight after
--   write_refusals ws xs k w room    the numbers that writing can meet, each with its test
--   write_sheet ws xs k w room       what comes of it, with room for so many bytes
--   shown_written outcome            the answer that the caller gets
--   seen_write ws xs k w lent        what its caller sees: the answer, and the lent list of bytes as it is left; the contract of the code is
--                                    the equation with this
use Rattle.std.specs.Prelude.{List, [], ◌∷◌, ◌++◌, ℕ, ◌+◌, ◌*◌, ltb, length}
use Rattle.answers.specs.Outcome.{Outcome, refused, done, Refusal, no, decide, left}
use Rattle.areas.specs.Area.{area}
use Rattle.sheet.specs.Sheet.{is_wrong_size}
use Rattle.writer.specs.declared.written.Written.{Written}

abbrev pub length_of : List ℕ → List ℕ → ℕ
length_of ws xs = 24 + 8 * length ws + 4 * length xs

-- count of words, byte offset of words, count of records, byte offset of records, k, w
abbrev pub header : ℕ → ℕ → ℕ → ℕ → List ℕ
header m n k w = m ∷ 24 ∷ n ∷ (24 + 8 * m) ∷ k ∷ w ∷ []

abbrev pub written : List ℕ → List ℕ → ℕ → ℕ → List ℕ
written ws xs k w = area 4 (header (length ws) (length xs) k w) ++ (area 8 ws ++ area 4 xs)

abbrev pub write_refusals : List ℕ → List ℕ → ℕ → ℕ → ℕ → List Refusal
write_refusals ws xs k w room =
    no 2 (ltb 65535 (length_of ws xs)) ∷ no 3 (is_wrong_size (length xs) k w) ∷ no 6 (ltb room (length_of ws xs)) ∷ []

unfoldable pub write_sheet : List ℕ → List ℕ → ℕ → ℕ → ℕ → Outcome
write_sheet ws xs k w room = decide (write_refusals ws xs k w room) (done (written ws xs k w) [])

-- The operation takes no start and uses no word: 0 for next and rejected.
abbrev pub shown_written : Outcome → Written
shown_written (refused n batch) = record { no = n; next = 0; rejected = 0; length = 0 }
shown_written (done values ts) = record { no = 0; next = 0; rejected = 0; length = length values }

abbrev pub seen_write : List ℕ → List ℕ → ℕ → ℕ → List ℕ → Written × List ℕ
seen_write ws xs k w lent = let o : Outcome = write_sheet ws xs k w (length lent) in (shown_written o, left lent o)
