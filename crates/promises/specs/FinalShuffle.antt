-- The final shuffle of a sample: a statement for each sentence of document 02, M-102.
--
--   Batches W n k        the batches of a sample are those of the list k + 1, .., n, then those of a shuffle of k records; none has bounds of both
--   InTurn W             a sample is two other operations in turn: a list of bounds, whose rolls fill the slots, and the shuffle of the slots
--   AllOfThem W          a sample of all records is their shuffle
--   OneAlone W           a sample of one is the reservoir alone
--   NoOwnSlot W op       none of the first k records is tied to a slot
--   EarlyAndLate W op    every record can be among the early ones, and among the late ones
--   table                examples
--   FinalShuffle W       all of these
use Rattle.std.specs.Prelude.{◌≡◌, ◌≢◌, Bool, List, [], ◌∷◌, ◌++◌, ℕ, ◌+◌, ◌-◌, ◌^◌, ◌<◌, ◌≤◌, T, length, take, drop, replicate}
use Rattle.rules.specs.Cut.{cut}
use Rattle.rules.specs.Limits.{max_bounds, max_records}
use Rattle.rules.specs.Pinned.{IsCut}
use Rattle.rules.specs.Reservoir.{countup, reservoir}
use Rattle.rules.specs.Sample.{sample_with}
use Rattle.rules.specs.Shuffle.{shuffle_plan}
use Rattle.rules.specs.Width.{Width, w64}
use Rattle.answers.specs.Outcome.{left}
use Rattle.answers.specs.declared.answer.Answer.{Answer}
use Rattle.lists.specs.List.{seen_list}
use Rattle.shuffles.specs.Shuffle.{shuffle, seen_shuffle}
use Rattle.draws.specs.Sample.{sample_plan, sample, seen_sample}
use Rattle.promises.specs.Examples.{same, done, refused, all}
use Rattle.promises.specs.Sample.{Op, ComesUp}

-- "the k slots are shuffled by the shuffle rules"
pub record Batches (W : Width) (n k : ℕ) : Type 0 where
  pub reservoir : List (List ℕ)
  pub cut : IsCut W.limit (countup (n - k) (k + 1)) reservoir
  pub shuffled : sample_plan W n k ≡ reservoir ++ shuffle_plan W.size k

-- "with the words that follow"; "batch numbers in 10 run on into the final shuffle". The list, which takes up to 4,096 bounds, is rolled with the words
-- from the start on; the shuffle with those from the place after its last word. What the list used less what it rejected are its batches.
abbrev pub InTurn : Width → Type 0
InTurn W = (words : List ℕ) (start : ℕ) (xs : List ℕ) (k : ℕ) (lent : List ℕ)
    → start ≤ length words → length xs ≤ max_records → 1 ≤ k → k ≤ length xs → k ≤ length lent → length xs - k ≤ max_bounds
    → let (l, js) = seen_list W words start (countup (length xs - k) (k + 1)) (replicate (length xs - k) 0) in
    let (h, ys) = seen_shuffle W words l.next (reservoir (take k xs) (drop k xs) js) in
    let got : Answer × List ℕ = seen_sample W words start xs k lent in
    (l.no ≢ 0 → got ≡ (l, lent))
    × (l.no ≡ 0 → h.no ≢ 0 → got ≡ (record { no = h.no; next = start; rejected = 0; batch = l.next - start - l.rejected + h.batch }, lent))
    × (l.no ≡ 0 → h.no ≡ 0 → got ≡ (record { no = 0; next = h.next; rejected = l.rejected + h.rejected; batch = 0 }, ys ++ drop k lent))

-- "the sample of 3 from 3 now uses words". There is no later record, so the batches of the shuffle begin at 0.
abbrev pub AllOfThem : Width → Type 0
AllOfThem W = (words : List ℕ) (start : ℕ) (xs : List ℕ) (room : ℕ) → 1 ≤ length xs → length xs ≤ room
    → sample W words start xs (length xs) room ≡ shuffle W words start xs

-- "k = 1 shuffles nothing"
pub record OneAlone (W : Width) : Type 0 where
  pub batches : (n : ℕ) → sample_plan W n 1 ≡ cut W.limit (countup (n - 1) 2)
  pub reading : (xs js : List ℕ) → 1 + length js ≡ length xs → sample_with 1 js xs ≡ reservoir (take 1 xs) (drop 1 xs) js

-- "A reviewer noticed that the first record of the register, when drawn, is always in slot 0. A reservoir's first k records can only sit in their
-- own slots"
abbrev pub NoOwnSlot : Width → Op → Type 0
NoOwnSlot W op = (n k i : ℕ) → n ≤ max_records → 2 ≤ k → k ≤ n → i < k
    → ComesUp W op n k i 0 × ((slot : ℕ) × (slot ≢ 0) × (slot < k) × ComesUp W op n k i slot)

-- "so "the first w slots" is the wrong rule for early": of k slots the first w are early
abbrev pub EarlyAndLate : Width → Op → Type 0
EarlyAndLate W op = (n k w i : ℕ) → n ≤ max_records → 1 ≤ w → w < k → k ≤ n → i < n
    → ((slot : ℕ) × (slot < w) × ComesUp W op n k i slot) × ((slot : ℕ) × (w ≤ slot) × (slot < k) × ComesUp W op n k i slot)

unfoldable pub table : List Bool
table =
    -- "the sample of 3 from 3 now uses words": it is their shuffle. "k = 1 shuffles nothing"; 1 from 1 uses no word
    done (sample w64 (0 ∷ 1 ∷ []) 0 (0 ∷ 1 ∷ 2 ∷ []) 3 3) (1 ∷ 2 ∷ 0 ∷ []) 2 1
    ∷ refused (sample w64 [] 0 (0 ∷ 1 ∷ 2 ∷ []) 3 3) 10 0
    ∷ done (sample w64 (0 ∷ 1 ∷ []) 0 (101 ∷ 205 ∷ 309 ∷ []) 1 1) (309 ∷ []) 2 1
    ∷ done (sample w64 [] 0 (7 ∷ []) 1 1) (7 ∷ []) 0 0
    -- 2 from 3: word 1 rolls 0 with bound 3, so that slot 0 gets record 9; then word 0 exchanges the two slots, and 2^63 does not
    ∷ done (sample w64 (1 ∷ 0 ∷ []) 0 (7 ∷ 8 ∷ 9 ∷ []) 2 2) (8 ∷ 9 ∷ []) 2 0
    ∷ done (sample w64 (1 ∷ 2 ^ 63 ∷ []) 0 (7 ∷ 8 ∷ 9 ∷ []) 2 2) (9 ∷ 8 ∷ []) 2 0
    -- 3 times 2 would be one batch of a list; here the shuffle has its own, "batch numbers in 10 run on", and the slots stay
    ∷ refused (sample w64 (1 ∷ []) 0 (7 ∷ 8 ∷ 9 ∷ []) 2 2) 10 1
    ∷ same (left (5 ∷ 6 ∷ []) (sample w64 (1 ∷ []) 0 (7 ∷ 8 ∷ 9 ∷ []) 2 2)) (5 ∷ 6 ∷ [])
    -- the first roll of a shuffle is of the last slot: 2^62 rolls 0 and 1 with bounds 3, 2
    ∷ done (sample w64 (2 ^ 62 ∷ []) 0 (0 ∷ 1 ∷ 2 ∷ []) 3 3) (2 ∷ 1 ∷ 0 ∷ []) 1 0
    -- eight slots are two batches of a shuffle, as in document 01, and would be one of a list
    ∷ done (sample w64 (1 ∷ 0 ∷ []) 0 (countup 8 0) 8 8) (1 ∷ 2 ∷ 3 ∷ 4 ∷ 5 ∷ 6 ∷ 7 ∷ 0 ∷ []) 2 0
    ∷ refused (sample w64 (1 ∷ []) 0 (countup 8 0) 8 8) 10 1
    ∷ []

pub record FinalShuffle (W : Width) : Type 0 where
  pub batches : (n k : ℕ) → Batches W n k
  pub in_turn : InTurn W
  pub all_of_them : AllOfThem W
  pub one_alone : OneAlone W
  pub no_own_slot : NoOwnSlot W (seen_sample W)
  pub early_and_late : EarlyAndLate W (seen_sample W)
  pub examples : T (all table)
