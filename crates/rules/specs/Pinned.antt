-- What each definition means, said once more in other words, so that a reader who misreads the one is caught by the other. Each pin
-- stands under the words of document 01, or 02, that it is of.
--
--   RollsPinned L bs                 a word's rolls are the digits of product times word, and each series of rolls has as many words
--   TestsPinned                      what it is that some bound is 0, and that rolls are in range
--   BatchWithin limit batch          one bound; or from 2 to 16, with a product that is at most the limit
--   CannotJoin limit batch b         the batch has 16 bounds, or its product with b is above the limit
--   IsCut limit bs plan              the plan joined is bs, each batch is within, and the bound after it could not join
--   CutPinned                        the cut is such a plan, and no other is
--   RowsPinned                       m, m - 1, .. and m, m + 1, .., s of them: how many, and what stands at each place
--   BatchSize m s                    with m records still to place the next batch has the bounds m, m - 1, .., s of them; then m falls by s
--   SizesPinned                      s is what document 01 says for m
--   Open m rs                        each roll is one of the places still open: m of them, then m - 1, ..
--   Exchanged a b before after       after is before with the records at places a and b exchanged
--   ShufflePinned m xs rs            each roll exchanges two records; after the first i rolls the places from m - i on are settled, and the list
--                                    is an order of the same records
--   LastAt js j i                    roll i is j, and no later roll is
--   Nowhere js j                     no roll is j
--   ReservoirPinned k xs js slots    slot j holds the last record whose roll was j, else record j
--   SampleBoundsPinned n k           k + 1, .., n, then k, .., 2: how many, and what stands at each place
--   SamplePinned k xs js rs          the rolls js fill the slots, and the rolls rs shuffle them: none of the k records drawn is lost
--   OnePlace x ys                    x stands at one place of ys, and at no other
--   FirstPlace x xs p                place p is the first that holds x, or the length of xs where none does
--   OrderPinned                      an order has each of 0 .. n - 1 at one place, is one of the records 0, 1, .., n - 1, and has rolls behind it; the
--                                    place of a record is the first that holds it
--   Pinned                           the statement: all of these
use Rattle.std.specs.Prelude.{◌≡◌, ◌↔◌, ◌≢◌, ◌⊎◌, List, [], ◌∷◌, ◌++◌, map, ℕ, ◌+◌, ◌-◌, ◌*◌, ◌/◌, ◌^◌, ◌<◌, ◌≤◌, T, length, take, drop, get_or, replicate}
use Rattle.rules.specs.Rolls.{rolls, rest, product, accepted, holds_zero, in_range, value, first_word, last_word}
use Rattle.rules.specs.Width.{w64}
use Rattle.rules.specs.Plan.{joined}
use Rattle.rules.specs.Cut.{cut}
use Rattle.rules.specs.Shuffle.{shuffle_with, countdown, shuffle_plan}
use Rattle.rules.specs.Reservoir.{countup, reservoir}
use Rattle.rules.specs.Sample.{sample_bounds, sample_with}
use Rattle.rules.specs.Limits.{max_batch, max_bounds, max_records}
use Rattle.rules.specs.Order.{is_order, place_of, rolls_into, Reorders, Only}

-- ---- from a word to rolls

-- "For each bound in turn, bound times r equals 2^L times the roll plus the new r, with the new r below 2^L." For all bounds at once:
pub record RollsPinned (L : ℕ) (bs : List ℕ) : Type 0 where
  pub law : (word : ℕ) → product bs * word ≡ 2 ^ L * value bs (rolls L bs word) + rest L bs word
  pub last : (word : ℕ) → word < 2 ^ L → rest L bs word < 2 ^ L
  pub rolled : (word : ℕ) → word < 2 ^ L → T (in_range bs (rolls L bs word))
  -- "The words that give them, accepted, are those from ((2^64 a + t) / b rounded up), as many as 2^64 / b rounded down."
  pub behind : (rs : List ℕ) → T (in_range bs rs) → (word : ℕ) → word < 2 ^ L
      → (T (accepted L bs word) × (rolls L bs word ≡ rs)) ↔ ((first_word L bs rs ≤ word) × (word ≤ last_word L bs rs))
  pub as_many : (rs : List ℕ) → T (in_range bs rs) → (last_word L bs rs < 2 ^ L) × (last_word L bs rs - first_word L bs rs + 1 ≡ 2 ^ L / product bs)

-- "some bound is 0"; "rolls and bounds differ in count, or a roll reaches its bound"
pub record TestsPinned : Type 0 where
  pub zero : (bs : List ℕ) → T (holds_zero bs) ↔ ((i : ℕ) × (i < length bs) × (get_or bs i 0 ≡ 0))
  pub range : (bs rs : List ℕ) → T (in_range bs rs) ↔ ((length rs ≡ length bs) × ((i : ℕ) → i < length bs → get_or rs i 0 < get_or bs i 0))

-- ---- cutting a list of bounds

abbrev pub BatchWithin : ℕ → List ℕ → Type 0
BatchWithin limit batch = (length batch ≡ 1) ⊎ ((2 ≤ length batch) × (length batch ≤ 16) × (product batch ≤ limit))

abbrev pub CannotJoin : ℕ → List ℕ → ℕ → Type 0
CannotJoin limit batch b = (16 ≤ length batch) ⊎ (limit < product batch * b)

pub record IsCut (limit : ℕ) (bs : List ℕ) (plan : List (List ℕ)) : Type 0 where
  pub same : joined plan ≡ bs
  pub within : (i : ℕ) → i < length plan → BatchWithin limit (get_or plan i [])
  pub next : (i : ℕ) → i + 1 < length plan → CannotJoin limit (get_or plan i []) (get_or (get_or plan (i + 1) []) 0 0)

-- "A batch takes the next bound whatever it is. Further bounds join in order while the batch has fewer than 16 and its product with the new
-- bound is at most 2^56."
pub record CutPinned : Type 0 where
  pub holds : (limit : ℕ) (bs : List ℕ) → IsCut limit bs (cut limit bs)
  -- of bounds from 1 on
  pub only : (limit : ℕ) (bs : List ℕ) → ((i : ℕ) → i < length bs → 0 < get_or bs i 0)
      → (plan : List (List ℕ)) → IsCut limit bs plan → plan ≡ cut limit bs
  -- "Bounds 2^28, 2^28, 1, 2 cut as 3 and 1. Seventeen bounds of 1 cut as 16 and 1." "A single bound above 2^56 is a batch alone."
  pub three_and_one : cut w64.limit (2 ^ 28 ∷ 2 ^ 28 ∷ 1 ∷ 2 ∷ []) ≡ (2 ^ 28 ∷ 2 ^ 28 ∷ 1 ∷ []) ∷ (2 ∷ []) ∷ []
  pub sixteen_and_one : cut w64.limit (replicate 17 1) ≡ replicate 16 1 ∷ (1 ∷ []) ∷ []
  pub alone : cut w64.limit (1 ∷ (2 ^ 56 + 1) ∷ 1 ∷ []) ≡ (1 ∷ []) ∷ ((2 ^ 56 + 1) ∷ []) ∷ (1 ∷ []) ∷ []

-- ---- the batches of a shuffle

-- "The bounds are m, m - 1, .., m + 1 - s." "The bounds k + 1, .., n"
pub record RowsPinned : Type 0 where
  pub down : (s m : ℕ) → (length (countdown s m) ≡ s) × ((i : ℕ) → i < s → get_or (countdown s m) i 0 ≡ m - i)
  pub up : (s m : ℕ) → (length (countup s m) ≡ s) × ((i : ℕ) → i < s → get_or (countup s m) i 0 ≡ m + i)

abbrev pub BatchSize : ℕ → ℕ → Type 0
BatchSize m s = (w64.size m ≡ s) × (shuffle_plan w64.size m ≡ countdown s m ∷ shuffle_plan w64.size (m - s))

-- "With m records still to place, the batch size s is: m from 2,049 to 16,384, 4; from 513 to 2,048, 5; from 7 to 512, 6; from 2 to 6, m - 1;
-- 0 or 1, finished. [..] Then m falls by s."
pub record SizesPinned : Type 0 where
  pub borders : map w64.size (2 ∷ 6 ∷ 7 ∷ 512 ∷ 513 ∷ 2048 ∷ 2049 ∷ 16384 ∷ []) ≡ 1 ∷ 5 ∷ 6 ∷ 6 ∷ 5 ∷ 5 ∷ 4 ∷ 4 ∷ []
  pub four : (m : ℕ) → 2049 ≤ m → m ≤ 16384 → BatchSize m 4
  pub five : (m : ℕ) → 513 ≤ m → m ≤ 2048 → BatchSize m 5
  pub six : (m : ℕ) → 7 ≤ m → m ≤ 512 → BatchSize m 6
  pub all_but_one : (m : ℕ) → 2 ≤ m → m ≤ 6 → BatchSize m (m - 1)
  pub finished : (m : ℕ) → m ≤ 1 → shuffle_plan w64.size m ≡ []

-- ---- shuffle

-- as rolls in range of the bounds m, m - 1, .. are
abbrev pub Open : ℕ → List ℕ → Type 0
Open m rs = (i : ℕ) → i < length rs → get_or rs i 0 < m - i

pub record Exchanged (a b : ℕ) (before after : List ℕ) : Type 0 where
  pub at_a : get_or after a 0 ≡ get_or before b 0
  pub at_b : get_or after b 0 ≡ get_or before a 0
  pub elsewhere : (k : ℕ) → k ≢ a → k ≢ b → get_or after k 0 ≡ get_or before k 0
  pub as_long : length after ≡ length before

-- "for i = 1..s in turn, exchange the record at place roll i with that at place m - i." Here i is counted from 0.
pub record ShufflePinned (m : ℕ) (xs rs : List ℕ) : Type 0 where
  pub begun : shuffle_with m [] xs ≡ xs
  -- from the list after the first i rolls to that after one more
  pub turn : (i : ℕ) → i < length rs
      → Exchanged (get_or rs i 0) (m - (i + 1)) (shuffle_with m (take i rs) xs) (shuffle_with m (take (i + 1) rs) xs)
  -- those places hold what they hold in the end
  pub settled : (i k : ℕ) → m - i ≤ k → get_or (shuffle_with m (take i rs) xs) k 0 ≡ get_or (shuffle_with m rs xs) k 0
  pub reorders : (i : ℕ) → Reorders xs (shuffle_with m (take i rs) xs)

-- ---- sample

abbrev pub LastAt : List ℕ → ℕ → ℕ → Type 0
LastAt js j i = (i < length js) × (get_or js i 0 ≡ j) × ((l : ℕ) → i < l → l < length js → get_or js l 0 ≢ j)

abbrev pub Nowhere : List ℕ → ℕ → Type 0
Nowhere js j = (i : ℕ) → i < length js → get_or js i 0 ≢ j

-- "Put the first k records in slots 0..k - 1. For each place i from k to n - 1, roll j with bound i + 1; if j is below k, slot j gets record
-- i." Here the rolls are counted from 0, so that roll i is of record k + i.
pub record ReservoirPinned (k : ℕ) (xs js slots : List ℕ) : Type 0 where
  pub count : length slots ≡ k
  pub slot : (j : ℕ) → j < k
      → ((i : ℕ) × LastAt js j i × (get_or slots j 0 ≡ get_or xs (k + i) 0)) ⊎ (Nowhere js j × (get_or slots j 0 ≡ get_or xs j 0))

-- Document 02, M-102: "From now on the k slots are shuffled by the shuffle rules with the words that follow." Here the bounds are counted from 0.
pub record SampleBoundsPinned (n k : ℕ) : Type 0 where
  pub count : length (sample_bounds n k) ≡ n - 1
  pub reservoir : (i : ℕ) → i < n - k → get_or (sample_bounds n k) i 0 ≡ k + 1 + i
  pub shuffle : (i : ℕ) → n - k ≤ i → i < n - 1 → get_or (sample_bounds n k) i 0 ≡ n - i

pub record SamplePinned (k : ℕ) (xs js rs : List ℕ) : Type 0 where
  pub parts : sample_with k (js ++ rs) xs ≡ shuffle_with k rs (reservoir (take k xs) (drop k xs) js)
  pub reorders : Reorders (reservoir (take k xs) (drop k xs) js) (sample_with k (js ++ rs) xs)

-- ---- orders

abbrev pub OnePlace : ℕ → List ℕ → Type 0
OnePlace x ys = (p : ℕ) × (p < length ys) × (get_or ys p 0 ≡ x) × ((q : ℕ) → q < length ys → get_or ys q 0 ≡ x → q ≡ p)

abbrev pub FirstPlace : ℕ → List ℕ → ℕ → Type 0
FirstPlace x xs p = (p ≤ length xs) × ((i : ℕ) → i < p → get_or xs i 0 ≢ x) × (p < length xs → get_or xs p 0 ≡ x)

-- "for a list that holds each of 0..n - 1 once, the rolls that shuffle 0, 1, .., n - 1 into it"
pub record OrderPinned : Type 0 where
  pub each : (ys : List ℕ) → T (is_order ys) ↔ ((x : ℕ) → x < length ys → OnePlace x ys)
  pub row : (ys : List ℕ) → T (is_order ys) ↔ Reorders (countup (length ys) 0) ys
  pub place : (x : ℕ) (xs : List ℕ) → FirstPlace x xs (place_of x xs)
  pub behind : (ys : List ℕ) → T (is_order ys) → Only (length ys) (countup (length ys) 0) ys (rolls_into (length ys) (countup (length ys) 0) ys)

-- ---- the statement

pub record Pinned : Type 0 where
  -- "bounds in one batch | 1 to 16", "bounds in a list | 0 to 4,096", "records | 0 to 16,384"
  pub of_limits : (max_batch ≡ 16) × (max_bounds ≡ 4096) × (max_records ≡ 16384)
  -- "Words and bounds are 64-bit unsigned numbers"
  pub of_words : 2 ^ w64.bits ≡ 18446744073709551616
  -- "One batch has bounds b1..bk with product b, at most 2^L."
  pub of_rolls : (L : ℕ) (bs : List ℕ) → 0 < product bs → product bs ≤ 2 ^ L → RollsPinned L bs
  pub of_tests : TestsPinned
  pub of_cuts : CutPinned
  pub of_rows : RowsPinned
  pub of_sizes : SizesPinned
  pub of_shuffles : (m : ℕ) (xs rs : List ℕ) → m ≤ length xs → Open m rs → ShufflePinned m xs rs
  pub of_reservoirs : (k : ℕ) (xs js : List ℕ) → k + length js ≡ length xs → ReservoirPinned k xs js (reservoir (take k xs) (drop k xs) js)
  pub of_sample_bounds : (n k : ℕ) → 1 ≤ k → k ≤ n → SampleBoundsPinned n k
  pub of_samples : (k : ℕ) (xs js rs : List ℕ) → k + length js ≡ length xs → Open k rs → SamplePinned k xs js rs
  pub of_orders : OrderPinned
