-- The sample: demands 1 and 2 of it, that they settle its answer and the lent list, its stand-ins, and that every record can come up in every slot.
--
-- The letter: "The regulator asked us three things about that draw. Could this junction's links have come up?" And of the program before
-- this one: "When its word list ended early it kept the picks it had, so links late in the register could not come up."
--
--   Op                                            the operation as its caller observes it: words, start, records, k, the lent list of slots
--   Numbers W                                     the numbers that it can meet, as document 01 lists them
--   Refuses, Gives W words start xs k lent got    demands 1 and 2, of one call and what the caller got: the reservoir and the shuffle of its
--                                                 slots with the method's rolls, in front of the rest of the lent list
--   Demand1 W op, Demand2 W op                    the demands, on every call
--   BatchNamed W                                  at number 10 the batch is the one at which the run ended
--   Bounds W                                      batch after batch the bounds are k + 1, .., n, k, .., 2, and each batch can be rolled
--   Settled W, StandIns W                         as of one batch
--   Holds got j x                                 what a sample gave is not refused, and slot j holds the record x
--   ComesUp W op n k i slot                       a list of words, one for each batch, with which a sample of k from n records has the record
--                                                 of place i in the slot, whatever the records are and whatever the lent list held
--   CouldComeUp W op                              so it is of every place and every slot, for 1 to n of up to 16,384 records
--   Promise W                                     the promise
use Rattle.std.specs.Prelude.{◌≡◌, ◌≢◌, List, [], ◌∷◌, ◌++◌, ℕ, ◌<◌, ◌≤◌, length, drop, get_or}
use Rattle.rules.specs.Limits.{max_records}
use Rattle.rules.specs.Order.{Distinct}
use Rattle.rules.specs.Plan.{PlanOf}
use Rattle.rules.specs.Sample.{sample_bounds, sample_with}
use Rattle.rules.specs.Width.{Width}
use Rattle.answers.specs.Outcome.{shown}
use Rattle.answers.specs.declared.answer.Answer.{Answer}
use Rattle.draws.specs.Sample.{sample_plan, sample_refusals, seen_sample}
use Rattle.promises.specs.Demand1.{Callable, AsRefused, numbers_of, NamesBatch}
use Rattle.promises.specs.Demand2.{Allowed, ByMethod}

abbrev pub Op : Type 0
Op = List ℕ → ℕ → List ℕ → ℕ → List ℕ → Answer × List ℕ

abbrev pub Numbers : Width → Type 0
Numbers W = (words : List ℕ) (start n k room : ℕ) → numbers_of (sample_refusals W words start n k room) ≡ 2 ∷ 3 ∷ 6 ∷ 9 ∷ 10 ∷ []

abbrev pub Refuses : Width → List ℕ → ℕ → List ℕ → ℕ → List ℕ → Answer × List ℕ → Type 0
Refuses W words start xs k lent got =
    AsRefused (sample_refusals W words start (length xs) k (length lent)) (λ o. (shown start o, lent)) got.0.no got

-- Document 02, M-102: "From now on the k slots are shuffled by the shuffle rules with the words that follow. Demand 2 reads so for the sample."
abbrev pub Gives : Width → List ℕ → ℕ → List ℕ → ℕ → List ℕ → Answer × List ℕ → Type 0
Gives W words start xs k lent got = Allowed (sample_refusals W words start (length xs) k (length lent))
    → ByMethod W.bits (sample_plan W (length xs) k) words start (λ rs. sample_with k rs xs ++ drop k lent) got

abbrev pub Demand1 : Width → Op → Type 0
Demand1 W op = (words : List ℕ) (start : ℕ) (xs : List ℕ) (k : ℕ) (lent : List ℕ) → Callable W.bits words
    → Refuses W words start xs k lent (op words start xs k lent)

abbrev pub BatchNamed : Width → Type 0
BatchNamed W = (words : List ℕ) (start : ℕ) (xs : List ℕ) (k : ℕ) (lent : List ℕ) → Callable W.bits words
    → let a : Answer = (seen_sample W words start xs k lent).0 in NamesBatch W.bits (sample_plan W (length xs) k) words start a.no a.batch

abbrev pub Demand2 : Width → Op → Type 0
Demand2 W op = (words : List ℕ) (start : ℕ) (xs : List ℕ) (k : ℕ) (lent : List ℕ) → Callable W.bits words
    → Gives W words start xs k lent (op words start xs k lent)

abbrev pub Bounds : Width → Type 0
Bounds W = (n k : ℕ) → n ≤ max_records → k ≤ max_records → PlanOf W.limit (sample_bounds n k) (sample_plan W n k)

abbrev pub Settled : Width → Type 0
Settled W = (a b : Op) → Demand1 W a → Demand2 W a → Demand1 W b → Demand2 W b
    → (words : List ℕ) (start : ℕ) (xs : List ℕ) (k : ℕ) (lent : List ℕ) → Callable W.bits words
    → a words start xs k lent ≡ b words start xs k lent

pub record StandIns (W : Width) : Type 0 where
  -- refusing every call
  pub refuses : (op : Op)
      → ((words : List ℕ) (start : ℕ) (xs : List ℕ) (k : ℕ) (lent : List ℕ) → Callable W.bits words → (op words start xs k lent).0.no ≢ 0)
      → ¬ Demand2 W op
  -- fixed rolls: slots made up without a look at the words, as that the first k always win
  pub fixed : (op : Op) (made : ℕ → ℕ → List ℕ → ℕ → List ℕ → List ℕ)
      → ((words : List ℕ) (start : ℕ) (xs : List ℕ) (k : ℕ) (lent : List ℕ) → (op words start xs k lent).0.no ≡ 0
      → (op words start xs k lent).1 ≡ made (length words) start xs k lent)
      → ¬ Demand2 W op
  -- an invented rejected count
  pub invented : (op : Op) (made : ℕ → ℕ → List ℕ → ℕ → List ℕ → ℕ)
      → ((words : List ℕ) (start : ℕ) (xs : List ℕ) (k : ℕ) (lent : List ℕ) → (op words start xs k lent).0.no ≡ 0
      → (op words start xs k lent).0.rejected ≡ made (length words) start xs k lent)
      → ¬ Demand2 W op
  -- document 02, M-102: "the first record of the register, when drawn, is always in slot 0", as without the final shuffle
  pub tied : (op : Op)
      → ((words : List ℕ) (start : ℕ) (xs : List ℕ) (k : ℕ) (lent : List ℕ) → Callable W.bits words → (op words start xs k lent).0.no ≡ 0
      → Distinct xs → (slot : ℕ) → slot < k → get_or (op words start xs k lent).1 slot 0 ≡ get_or xs 0 0 → slot ≡ 0)
      → ¬ Demand2 W op

abbrev pub Holds : Answer × List ℕ → ℕ → ℕ → Type 0
Holds got j x = (got.0.no ≡ 0) × (get_or got.1 j 0 ≡ x)

pub record ComesUp (W : Width) (op : Op) (n k i slot : ℕ) : Type 0 where
  pub words : List ℕ
  pub one_each : length words ≡ length (sample_plan W n k)
  pub callable : Callable W.bits words
  pub holds : (xs lent : List ℕ) → length xs ≡ n → k ≤ length lent → Holds (op words 0 xs k lent) slot (get_or xs i 0)

abbrev pub CouldComeUp : Width → Op → Type 0
CouldComeUp W op = (n k i slot : ℕ) → n ≤ max_records → k ≤ n → i < n → slot < k → ComesUp W op n k i slot

pub record Promise (W : Width) : Type 0 where
  pub numbers : Numbers W
  pub demand1 : Demand1 W (seen_sample W)
  pub batch : BatchNamed W
  pub demand2 : Demand2 W (seen_sample W)
  pub bounds : Bounds W
  pub settled : Settled W
  pub stand_ins : StandIns W
  pub could_come_up : CouldComeUp W (seen_sample W)
