-- Running a draw sheet: reading it, and then the sample from start 0 of what it holds; and what its caller sees.
--
--   sheet_refusals W s room    the numbers that it can meet, in the order of document 01, each with its test
--   run_sheet W s room         what comes of it: the draw of the sheet s, with room for so many records
--   seen_sheet W s lent        what its caller sees: the answer, and the lent list of slots as it is left; the contract of the code is the
--                              equation with this
use Rattle.std.specs.Prelude.{List, [], ◌∷◌, ◌++◌, ℕ, ltb, length}
use Rattle.rules.specs.Run.{run}
use Rattle.rules.specs.Width.{Width}
use Rattle.answers.specs.Outcome.{Outcome, Refusal, no, no_word, decide, left}
use Rattle.draws.specs.Sample.{sample_plan, sample}
use Rattle.sheet.specs.ReadSheet.{unreadable, shown_drawn}
use Rattle.sheet.specs.Sheet.{numbers, words_of, records_of}
use Rattle.sheet.specs.declared.drawn.Drawn.{Drawn}

unfoldable pub run_sheet : Width → List ℕ → ℕ → Outcome
run_sheet W s room = decide (unreadable s) (sample W (words_of s) 0 (records_of s) (numbers s).k room)

-- Of the sample's numbers 6 and 10 are left: a sheet that can be read has few enough records, its k is in range, and the start is 0.
abbrev pub sheet_refusals : Width → List ℕ → ℕ → List Refusal
sheet_refusals W s room =
    unreadable s ++ no 6 (ltb room (numbers s).k) ∷ no_word (run W.bits (sample_plan W (numbers s).records (numbers s).k) (words_of s) 0) ∷ []

abbrev pub seen_sheet : Width → List ℕ → List ℕ → Drawn × List ℕ
seen_sheet W s lent = (shown_drawn s (run_sheet W s (length lent)), left lent (run_sheet W s (length lent)))
