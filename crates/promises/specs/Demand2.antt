-- Demand 2: rolls, shuffles and samples are what the papers' methods give on those words. Here is Lemire's batched rejection method, which the
-- operations share; each operation's own file says the demand of that operation.
--
-- The letter: "Rolls, shuffles and samples equal what Lemire's batched rejection method, the Fisher-Yates shuffle and reservoir sampling
-- give on those words, with the same words used and rejected. The way back also holds: from rolls to the words behind them, from an order
-- to its rolls." Document 01, "Numbers for no": "none is given otherwise [..] Success returns the place after the last word used (the start
-- where none was) and the count of rejected words; words used are batches plus rejected."
--
--   Allowed refusals                                none of the refusals applies
--   Unfolded L bs word rs r                         the rolls rs and the last r of a word: one roll for each bound, each below it, and product times word
--                                                   = 2^L times the value of the rolls + the last r, as the paper has it
--   Accepts L bs word rs                            the word is accepted and gives these rolls: the last r is at least t = 2^L mod product
--   Rejects L bs word                               the word is rejected: the last r is below t
--   First L bs words from place rs                  of the words from a place on, the first that is accepted stands here, and gives these rolls
--   Follows L plan words from next rs               each batch in turn takes the first accepted word from the place after the one before it, and they
--                                                   give the rolls rs, batch after batch; next is the place after the last
--   Lemire L plan words start next rejected Read    it follows for some rolls; words used = batches + rejected; the rolls read so
--   ByMethod L plan words start read got            nothing is refused, the method gave the words used, and the lent list is what its rolls read as
--   Suffice L                                       the statement: of a plan that can be rolled number 10 applies exactly where the method gives nothing
--   OneOutcome L                                    the statement: and it gives one next place, one count, one series of rolls
use Rattle.std.specs.Prelude.{◌≡◌, ◌↔◌, false, List, [], ◌∷◌, ℕ, ◌+◌, ◌*◌, ◌%◌, ◌^◌, ◌<◌, ◌≤◌, T, length, take, drop, get_or}
use Rattle.rules.specs.Plan.{RollablePlan}
use Rattle.rules.specs.Rolls.{product, value, in_range}
use Rattle.rules.specs.Run.{run, suffices}
use Rattle.answers.specs.Outcome.{Refusal}
use Rattle.answers.specs.declared.answer.Answer.{Answer}
use Rattle.promises.specs.Demand1.{Callable, first_of}

abbrev pub Allowed : List Refusal → Type 0
Allowed refusals = (first_of refusals).applies ≡ false

pub record Unfolded (L : ℕ) (bs : List ℕ) (word : ℕ) (rs : List ℕ) (r : ℕ) : Type 0 where
  pub range : T (in_range bs rs)
  pub rest : r < 2 ^ L
  pub law : product bs * word ≡ 2 ^ L * value bs rs + r

abbrev pub Accepts : ℕ → List ℕ → ℕ → List ℕ → Type 0
Accepts L bs word rs = (r : ℕ) × Unfolded L bs word rs r × (2 ^ L % product bs ≤ r)

abbrev pub Rejects : ℕ → List ℕ → ℕ → Type 0
Rejects L bs word = (rs : List ℕ) × (r : ℕ) × Unfolded L bs word rs r × (r < 2 ^ L % product bs)

pub record First (L : ℕ) (bs words : List ℕ) (from place : ℕ) (rs : List ℕ) : Type 0 where
  pub here : (from ≤ place) × (place < length words)
  pub gives : Accepts L bs (get_or words place 0) rs
  pub before : (i : ℕ) → from ≤ i → i < place → Rejects L bs (get_or words i 0)

abbrev pub Follows : ℕ → List (List ℕ) → List ℕ → ℕ → ℕ → List ℕ → Type 0
Follows L [] words from next rs = (next ≡ from) × (rs ≡ [])
Follows L (bs ∷ plan) words from next rs =
    (place : ℕ) × First L bs words from place (take (length bs) rs) × Follows L plan words (place + 1) next (drop (length bs) rs)

pub record Lemire (L : ℕ) (plan : List (List ℕ)) (words : List ℕ) (start next rejected : ℕ) (Read : List ℕ → Type 0) : Type 0 where
  pub rolls : List ℕ
  pub follows : Follows L plan words start next rolls
  pub used : next ≡ start + (length plan + rejected)
  pub reading : Read rolls

pub record ByMethod (L : ℕ) (plan : List (List ℕ)) (words : List ℕ) (start : ℕ) (read : List ℕ → List ℕ) (got : Answer × List ℕ) : Type 0 where
  pub none : (got.0.no ≡ 0) × (got.0.batch ≡ 0)
  pub method : Lemire L plan words start got.0.next got.0.rejected (λ rs. got.1 ≡ read rs)

abbrev pub Suffice : ℕ → Type 0
Suffice L = (plan : List (List ℕ)) (words : List ℕ) → RollablePlan (2 ^ L) plan → Callable L words → (start : ℕ) → start ≤ length words
    → T (suffices (run L plan words start)) ↔ ((next rejected : ℕ) × Lemire L plan words start next rejected (λ rs. Unit))

abbrev pub OneOutcome : ℕ → Type 0
OneOutcome L = (plan : List (List ℕ)) (words : List ℕ) → RollablePlan (2 ^ L) plan → Callable L words → (start m n r s : ℕ) (xs ys : List ℕ)
    → Lemire L plan words start m r (λ rs. rs ≡ xs) → Lemire L plan words start n s (λ rs. rs ≡ ys) → (m ≡ n) × (r ≡ s) × (xs ≡ ys)
