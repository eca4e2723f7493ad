-- A list of bounds: demands 1 and 2 of it, that they settle its answer and the lent list, and its stand-ins.
--
--   Op                                        the operation as its caller observes it: words, start, bounds, the lent list of rolls
--   Numbers W                                 the numbers that it can meet, as document 01 lists them
--   Refuses, Gives W words start bs lent got  demands 1 and 2, of one call and what the caller got: the rolls of the bounds, cut into
--                                             batches, in front of the rest of the lent list
--   Demand1 W op, Demand2 W op                the demands, on every call
--   BatchNamed W                              at number 10 the batch is the one at which the run ended
--   Bounds W                                  batch after batch the bounds are those of the list, and each batch can be rolled
--   Settled W, StandIns W, Promise W          as of one batch
use Rattle.std.specs.Prelude.{◌≡◌, ◌≢◌, false, List, [], ◌∷◌, ◌++◌, ℕ, ◌^◌, length, drop}
use Rattle.rules.specs.Cut.{cut}
use Rattle.rules.specs.Plan.{PlanOf}
use Rattle.rules.specs.Rolls.{holds_zero}
use Rattle.rules.specs.Width.{Width}
use Rattle.answers.specs.Outcome.{shown}
use Rattle.answers.specs.declared.answer.Answer.{Answer}
use Rattle.lists.specs.List.{list_refusals, seen_list}
use Rattle.promises.specs.Demand1.{Callable, AsRefused, numbers_of, NamesBatch}
use Rattle.promises.specs.Demand2.{Allowed, ByMethod}

abbrev pub Op : Type 0
Op = List ℕ → ℕ → List ℕ → List ℕ → Answer × List ℕ

abbrev pub Numbers : Width → Type 0
Numbers W = (words : List ℕ) (start : ℕ) (bs : List ℕ) (room : ℕ) → numbers_of (list_refusals W words start bs room) ≡ 2 ∷ 4 ∷ 6 ∷ 9 ∷ 10 ∷ []

abbrev pub Refuses : Width → List ℕ → ℕ → List ℕ → List ℕ → Answer × List ℕ → Type 0
Refuses W words start bs lent got = AsRefused (list_refusals W words start bs (length lent)) (λ o. (shown start o, lent)) got.0.no got

abbrev pub Gives : Width → List ℕ → ℕ → List ℕ → List ℕ → Answer × List ℕ → Type 0
Gives W words start bs lent got = Allowed (list_refusals W words start bs (length lent))
    → ByMethod W.bits (cut W.limit bs) words start (λ rs. rs ++ drop (length bs) lent) got

abbrev pub Demand1 : Width → Op → Type 0
Demand1 W op = (words : List ℕ) (start : ℕ) (bs lent : List ℕ) → Callable W.bits words → Callable W.bits bs
    → Refuses W words start bs lent (op words start bs lent)

abbrev pub BatchNamed : Width → Type 0
BatchNamed W = (words : List ℕ) (start : ℕ) (bs lent : List ℕ) → Callable W.bits words → Callable W.bits bs
    → let a : Answer = (seen_list W words start bs lent).0 in NamesBatch W.bits (cut W.limit bs) words start a.no a.batch

abbrev pub Demand2 : Width → Op → Type 0
Demand2 W op = (words : List ℕ) (start : ℕ) (bs lent : List ℕ) → Callable W.bits words → Callable W.bits bs
    → Gives W words start bs lent (op words start bs lent)

abbrev pub Bounds : Width → Type 0
Bounds W = (bs : List ℕ) → holds_zero bs ≡ false → Callable W.bits bs → PlanOf (2 ^ W.bits) bs (cut W.limit bs)

abbrev pub Settled : Width → Type 0
Settled W = (a b : Op) → Demand1 W a → Demand2 W a → Demand1 W b → Demand2 W b
    → (words : List ℕ) (start : ℕ) (bs lent : List ℕ) → Callable W.bits words → Callable W.bits bs
    → a words start bs lent ≡ b words start bs lent

pub record StandIns (W : Width) : Type 0 where
  -- refusing every call
  pub refuses : (op : Op)
      → ((words : List ℕ) (start : ℕ) (bs lent : List ℕ) → Callable W.bits words → Callable W.bits bs → (op words start bs lent).0.no ≢ 0)
      → ¬ Demand2 W op
  -- fixed rolls: made up without a look at the words
  pub fixed : (op : Op) (made : ℕ → ℕ → List ℕ → List ℕ → List ℕ)
      → ((words : List ℕ) (start : ℕ) (bs lent : List ℕ) → (op words start bs lent).0.no ≡ 0
      → (op words start bs lent).1 ≡ made (length words) start bs lent)
      → ¬ Demand2 W op
  -- an invented rejected count
  pub invented : (op : Op) (made : ℕ → ℕ → List ℕ → List ℕ → ℕ)
      → ((words : List ℕ) (start : ℕ) (bs lent : List ℕ) → (op words start bs lent).0.no ≡ 0
      → (op words start bs lent).0.rejected ≡ made (length words) start bs lent)
      → ¬ Demand2 W op

pub record Promise (W : Width) : Type 0 where
  pub numbers : Numbers W
  pub demand1 : Demand1 W (seen_list W)
  pub batch : BatchNamed W
  pub demand2 : Demand2 W (seen_list W)
  pub bounds : Bounds W
  pub settled : Settled W
  pub stand_ins : StandIns W
