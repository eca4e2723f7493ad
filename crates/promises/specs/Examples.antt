-- The checked examples.
--
-- Document 01, "Checked examples": "Those with * are proved." Each starred line stands here as one entry or more, over the
-- definitions that the contracts cite. An entry is true where the definitions give what the paper says. The statement is that all
-- of them are; one proof settles it.
--
--   same xs ys                     whether two lists of numbers are equal
--   done o values next rejected    whether an outcome, from start 0, is done with these values, this next place and this count
--   refused o n batch              whether an outcome is refused by this number, naming this batch
--   gives L bs word rs             whether the word is accepted at width L and gives these rolls
--   all cs                         whether every entry is true
--   table                          the starred lines
--   Examples                       the statement: every line is true
use Rattle.std.specs.Prelude.{Bool, true, false, not, ◌&&◌, List, [], ◌∷◌, ℕ, ◌+◌, ◌-◌, ◌^◌, T, eqb}
use Rattle.rules.specs.Reservoir.{countup}
use Rattle.rules.specs.Rolls.{rolls, rest, product, threshold, accepted}
use Rattle.rules.specs.Run.{next, rejected}
use Rattle.rules.specs.Width.{w64}
use Rattle.answers.specs.Outcome.{Outcome, left}
use Rattle.answers.specs.Outcome as outcome
use Rattle.rolls.specs.Batch.{roll_batch}
use Rattle.runs.specs.Behind.{words_behind}
use Rattle.shuffles.specs.Shuffle.{shuffle}
use Rattle.orders.specs.Order.{rolls_behind}

abbrev pub same : List ℕ → List ℕ → Bool
same [] [] = true
same [] (y ∷ ys) = false
same (x ∷ xs) [] = false
same (x ∷ xs) (y ∷ ys) = eqb x y && same xs ys

abbrev pub done : Outcome → List ℕ → ℕ → ℕ → Bool
done (outcome.refused n k) ys to more = false
done (outcome.done xs ts) ys to more = same xs ys && eqb (next 0 ts) to && eqb (rejected 0 ts) more

abbrev pub refused : Outcome → ℕ → ℕ → Bool
refused (outcome.refused m j) n k = eqb m n && eqb j k
refused (outcome.done xs ts) n k = false

abbrev pub gives : ℕ → List ℕ → ℕ → List ℕ → Bool
gives L bs word rs = accepted L bs word && same (rolls L bs word) rs

abbrev pub all : List Bool → Bool
all [] = true
all (c ∷ cs) = c && all cs

unfoldable pub table : List Bool
table =
    -- L = 4, bounds 2, 6 (b = 12, t = 4): words 0, 4, 8, 12 rejected
    eqb (product (2 ∷ 6 ∷ [])) 12
    ∷ eqb (threshold 4 12) 4
    ∷ not (accepted 4 (2 ∷ 6 ∷ []) 0)
    ∷ not (accepted 4 (2 ∷ 6 ∷ []) 4)
    ∷ not (accepted 4 (2 ∷ 6 ∷ []) 8)
    ∷ not (accepted 4 (2 ∷ 6 ∷ []) 12)
    -- 1 gives (0, 0); 3 gives (0, 2) with last r 4; 5 gives (0, 3); 15 gives (1, 5)
    ∷ gives 4 (2 ∷ 6 ∷ []) 1 (0 ∷ 0 ∷ [])
    ∷ gives 4 (2 ∷ 6 ∷ []) 3 (0 ∷ 2 ∷ [])
    ∷ eqb (rest 4 (2 ∷ 6 ∷ []) 3) 4
    ∷ gives 4 (2 ∷ 6 ∷ []) 5 (0 ∷ 3 ∷ [])
    ∷ gives 4 (2 ∷ 6 ∷ []) 15 (1 ∷ 5 ∷ [])
    -- Bounds 2^32, 2^32: word 1 gives (0, 1); word 0 gives (0, 0), accepted. Bounds 2^32, 2^32 + 1: refused 5
    ∷ done (roll_batch w64 (1 ∷ []) 0 (2 ^ 32 ∷ 2 ^ 32 ∷ [])) (0 ∷ 1 ∷ []) 1 0
    ∷ done (roll_batch w64 (0 ∷ []) 0 (2 ^ 32 ∷ 2 ^ 32 ∷ [])) (0 ∷ 0 ∷ []) 1 0
    ∷ refused (roll_batch w64 (1 ∷ []) 0 (2 ^ 32 ∷ (2 ^ 32 + 1) ∷ [])) 5 0
    -- Bound 2^64 - 1: word 0 rejected, 1 gives 0, 2 gives 1
    ∷ refused (roll_batch w64 (0 ∷ []) 0 ((2 ^ 64 - 1) ∷ [])) 10 0
    ∷ done (roll_batch w64 (0 ∷ 1 ∷ []) 0 ((2 ^ 64 - 1) ∷ [])) (0 ∷ []) 2 1
    ∷ done (roll_batch w64 (2 ∷ []) 0 ((2 ^ 64 - 1) ∷ [])) (1 ∷ []) 1 0
    -- Words behind (0, 0) for bounds 2, 6: 1 to 1537228672809129301. For bound 1, roll 0: 0 to 2^64 - 1
    ∷ done (words_behind w64 (2 ∷ 6 ∷ []) (0 ∷ 0 ∷ [])) (1 ∷ 1537228672809129301 ∷ []) 0 0
    ∷ done (words_behind w64 (1 ∷ []) (0 ∷ [])) (0 ∷ (2 ^ 64 - 1) ∷ []) 0 0
    -- Shuffle of 0, 1, 2 with words 0, 1: 1, 2, 0, one rejected. Two records, word 0: exchanged; word 2^63: not
    ∷ done (shuffle w64 (0 ∷ 1 ∷ []) 0 (0 ∷ 1 ∷ 2 ∷ [])) (1 ∷ 2 ∷ 0 ∷ []) 2 1
    ∷ done (shuffle w64 (0 ∷ []) 0 (7 ∷ 9 ∷ [])) (9 ∷ 7 ∷ []) 1 0
    ∷ done (shuffle w64 (2 ^ 63 ∷ []) 0 (7 ∷ 9 ∷ [])) (7 ∷ 9 ∷ []) 1 0
    -- Eight records 0..7, words 1, 0: 1, 2, 3, 4, 5, 6, 7, 0. With word 1 alone: refused 10, batch 1, records as they were
    ∷ done (shuffle w64 (1 ∷ 0 ∷ []) 0 (countup 8 0)) (1 ∷ 2 ∷ 3 ∷ 4 ∷ 5 ∷ 6 ∷ 7 ∷ 0 ∷ []) 2 0
    ∷ refused (shuffle w64 (1 ∷ []) 0 (countup 8 0)) 10 1
    ∷ same (left (countup 8 0) (shuffle w64 (1 ∷ []) 0 (countup 8 0))) (countup 8 0)
    -- Rolls behind 1, 2, 0: 0, 0
    ∷ done (rolls_behind (1 ∷ 2 ∷ 0 ∷ []) 2) (0 ∷ 0 ∷ []) 0 0
    ∷ []

abbrev pub Examples : Type 0
Examples = T (all table)
