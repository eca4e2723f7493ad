-- One batch: demands 1 and 2 of it, that they settle its answer, and its stand-ins.
--
--   Op                                  the operation as its caller observes it: words, start, bounds
--   Numbers W                           the numbers that it can meet, as document 01 lists them
--   Refuses W words start bs got        demand 1, of one call and what the caller got
--   Rolled, Gives W words start bs got  demand 2, of one call and what the caller got: sixteen rolls by value, places past the count 0
--   Demand1 W op, Demand2 W op          the demands, on every call
--   Settled W                           any two operations that meet both answer alike
--   StandIns W                          operations that document 01 names, each as widely as it is described: none meets demand 2
--   Promise W                           all that is promised
use Rattle.std.specs.Prelude.{◌≡◌, ◌≢◌, List, [], ◌∷◌, ◌++◌, ℕ, ◌-◌, length, replicate}
use Rattle.rules.specs.Limits.{max_batch}
use Rattle.rules.specs.Width.{Width}
use Rattle.answers.specs.Outcome.{shown_batch}
use Rattle.answers.specs.declared.answer.Batch.{Batch}
use Rattle.rolls.specs.Batch.{batch_refusals, seen_batch}
use Rattle.promises.specs.Demand1.{Callable, AsRefused, numbers_of}
use Rattle.promises.specs.Demand2.{Allowed, Lemire}

abbrev pub Op : Type 0
Op = List ℕ → ℕ → List ℕ → Batch

abbrev pub Numbers : Width → Type 0
Numbers W = (words : List ℕ) (start : ℕ) (bs : List ℕ) → numbers_of (batch_refusals W words start bs) ≡ 2 ∷ 4 ∷ 5 ∷ 9 ∷ 10 ∷ []

abbrev pub Refuses : Width → List ℕ → ℕ → List ℕ → Batch → Type 0
Refuses W words start bs got = AsRefused (batch_refusals W words start bs) (shown_batch start) got.no got

pub record Rolled (W : Width) (words : List ℕ) (start : ℕ) (bs : List ℕ) (got : Batch) : Type 0 where
  pub none : got.no ≡ 0
  pub count : got.count ≡ length bs
  pub method : Lemire W.bits (bs ∷ []) words start got.next got.rejected (λ rs. got.rolls ≡ rs ++ replicate (max_batch - length bs) 0)

abbrev pub Gives : Width → List ℕ → ℕ → List ℕ → Batch → Type 0
Gives W words start bs got = Allowed (batch_refusals W words start bs) → Rolled W words start bs got

abbrev pub Demand1 : Width → Op → Type 0
Demand1 W op = (words : List ℕ) (start : ℕ) (bs : List ℕ) → Callable W.bits words → Callable W.bits bs → Refuses W words start bs (op words start bs)

abbrev pub Demand2 : Width → Op → Type 0
Demand2 W op = (words : List ℕ) (start : ℕ) (bs : List ℕ) → Callable W.bits words → Callable W.bits bs → Gives W words start bs (op words start bs)

abbrev pub Settled : Width → Type 0
Settled W = (a b : Op) → Demand1 W a → Demand2 W a → Demand1 W b → Demand2 W b
    → (words : List ℕ) (start : ℕ) (bs : List ℕ) → Callable W.bits words → Callable W.bits bs → a words start bs ≡ b words start bs

pub record StandIns (W : Width) : Type 0 where
  -- refusing every call
  pub refuses : (op : Op)
      → ((words : List ℕ) (start : ℕ) (bs : List ℕ) → Callable W.bits words → Callable W.bits bs → (op words start bs).no ≢ 0) → ¬ Demand2 W op
  -- fixed rolls: made up without a look at the words
  pub fixed : (op : Op) (made : ℕ → ℕ → List ℕ → List ℕ)
      → ((words : List ℕ) (start : ℕ) (bs : List ℕ) → (op words start bs).no ≡ 0 → (op words start bs).rolls ≡ made (length words) start bs)
      → ¬ Demand2 W op
  -- an invented rejected count
  pub invented : (op : Op) (made : ℕ → ℕ → List ℕ → ℕ)
      → ((words : List ℕ) (start : ℕ) (bs : List ℕ) → (op words start bs).no ≡ 0 → (op words start bs).rejected ≡ made (length words) start bs)
      → ¬ Demand2 W op

pub record Promise (W : Width) : Type 0 where
  pub numbers : Numbers W
  pub demand1 : Demand1 W (seen_batch W)
  pub demand2 : Demand2 W (seen_batch W)
  pub settled : Settled W
  pub stand_ins : StandIns W
