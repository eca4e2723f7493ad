-- The shuffle: demands 1 and 2 of it, that they settle its answer and the lent list, and its stand-ins. Demand 3 has a file of its own.
--
--   Op                                     the operation as its caller observes it: words, start, the lent list of records
--   Numbers W                              the numbers that it can meet, as document 01 lists them
--   Refuses, Gives W words start xs got    demands 1 and 2, of one call and what the caller got: Fisher-Yates with the method's rolls
--   Demand1 W op, Demand2 W op             the demands, on every call
--   BatchNamed W                           at number 10 the batch is the one at which the run ended
--   Bounds W                               batch after batch the bounds are n, n - 1, .., 2, and each batch can be rolled
--   MovesNothing op                        the records are left as they were, whatever the answer
--   FirstBatchOnly W op                    it refuses as it should, and else leaves the records as the first batch has them
--   Settled W, StandIns W, Promise W       as of one batch
use Rattle.std.specs.Prelude.{◌≡◌, ◌≢◌, List, [], ◌∷◌, ℕ, ◌≤◌, length, take}
use Rattle.rules.specs.Limits.{max_records}
use Rattle.rules.specs.Plan.{PlanOf}
use Rattle.rules.specs.Run.{run, trace, rolls_of}
use Rattle.rules.specs.Shuffle.{shuffle_with, shuffle_bounds, shuffle_plan}
use Rattle.rules.specs.Width.{Width}
use Rattle.answers.specs.Outcome.{shown}
use Rattle.answers.specs.declared.answer.Answer.{Answer}
use Rattle.shuffles.specs.Shuffle.{shuffle_refusals, seen_shuffle}
use Rattle.promises.specs.Demand1.{Callable, AsRefused, numbers_of, first_of, NamesBatch}
use Rattle.promises.specs.Demand2.{Allowed, ByMethod}

abbrev pub Op : Type 0
Op = List ℕ → ℕ → List ℕ → Answer × List ℕ

abbrev pub Numbers : Width → Type 0
Numbers W = (words : List ℕ) (start n : ℕ) → numbers_of (shuffle_refusals W words start n) ≡ 2 ∷ 9 ∷ 10 ∷ []

abbrev pub Refuses : Width → List ℕ → ℕ → List ℕ → Answer × List ℕ → Type 0
Refuses W words start xs got = AsRefused (shuffle_refusals W words start (length xs)) (λ o. (shown start o, xs)) got.0.no got

abbrev pub Gives : Width → List ℕ → ℕ → List ℕ → Answer × List ℕ → Type 0
Gives W words start xs got = Allowed (shuffle_refusals W words start (length xs))
    → ByMethod W.bits (shuffle_plan W.size (length xs)) words start (λ rs. shuffle_with (length xs) rs xs) got

abbrev pub Demand1 : Width → Op → Type 0
Demand1 W op = (words : List ℕ) (start : ℕ) (xs : List ℕ) → Callable W.bits words → Refuses W words start xs (op words start xs)

abbrev pub BatchNamed : Width → Type 0
BatchNamed W = (words : List ℕ) (start : ℕ) (xs : List ℕ) → Callable W.bits words
    → let a : Answer = (seen_shuffle W words start xs).0 in NamesBatch W.bits (shuffle_plan W.size (length xs)) words start a.no a.batch

abbrev pub Demand2 : Width → Op → Type 0
Demand2 W op = (words : List ℕ) (start : ℕ) (xs : List ℕ) → Callable W.bits words → Gives W words start xs (op words start xs)

abbrev pub Bounds : Width → Type 0
Bounds W = (n : ℕ) → n ≤ max_records → PlanOf W.limit (shuffle_bounds n) (shuffle_plan W.size n)

abbrev pub Settled : Width → Type 0
Settled W = (a b : Op) → Demand1 W a → Demand2 W a → Demand1 W b → Demand2 W b
    → (words : List ℕ) (start : ℕ) (xs : List ℕ) → Callable W.bits words → a words start xs ≡ b words start xs

abbrev pub MovesNothing : Op → Type 0
MovesNothing op = (words : List ℕ) (start : ℕ) (xs : List ℕ) → (op words start xs).1 ≡ xs

pub record FirstBatchOnly (W : Width) (op : Op) : Type 0 where
  pub refuses : (words : List ℕ) (start : ℕ) (xs : List ℕ)
      → (op words start xs).0.no ≡ (first_of (shuffle_refusals W words start (length xs))).number
  pub moves : (words : List ℕ) (start : ℕ) (xs : List ℕ) → (op words start xs).0.no ≡ 0
      → let plan : List (List ℕ) = shuffle_plan W.size (length xs) in
      let rs : List ℕ = rolls_of W.bits plan (trace (run W.bits plan words start)) in
      (op words start xs).1 ≡ shuffle_with (length xs) (take (W.size (length xs)) rs) xs

pub record StandIns (W : Width) : Type 0 where
  -- refusing every call
  pub refuses : (op : Op) → ((words : List ℕ) (start : ℕ) (xs : List ℕ) → Callable W.bits words → (op words start xs).0.no ≢ 0) → ¬ Demand2 W op
  -- fixed rolls: an order made up without a look at the words
  pub fixed : (op : Op) (made : ℕ → ℕ → List ℕ → List ℕ)
      → ((words : List ℕ) (start : ℕ) (xs : List ℕ) → (op words start xs).0.no ≡ 0 → (op words start xs).1 ≡ made (length words) start xs) → ¬ Demand2 W op
  -- a shuffle that moves nothing
  pub nothing : (op : Op) → MovesNothing op → ¬ Demand2 W op
  -- one that works the first batch only
  pub first_batch : (op : Op) → FirstBatchOnly W op → ¬ Demand2 W op
  -- an invented rejected count
  pub invented : (op : Op) (made : ℕ → ℕ → List ℕ → ℕ)
      → ((words : List ℕ) (start : ℕ) (xs : List ℕ) → (op words start xs).0.no ≡ 0 → (op words start xs).0.rejected ≡ made (length words) start xs)
      → ¬ Demand2 W op

pub record Promise (W : Width) : Type 0 where
  pub numbers : Numbers W
  pub demand1 : Demand1 W (seen_shuffle W)
  pub batch : BatchNamed W
  pub demand2 : Demand2 W (seen_shuffle W)
  pub bounds : Bounds W
  pub settled : Settled W
  pub stand_ins : StandIns W
