-- The rolls behind an order: demands 1 and 2 of it, that they settle its answer and the lent list, and its stand-in. No width plays a part.
--
--   Op                                    the operation as its caller observes it: the order, the lent list of rolls
--   Numbers                               the numbers that it can meet, as document 01 lists them
--   Refuses, Behind, Gives ys lent got    demands 1 and 2, of one call and what the caller got: the rolls, and no others in range, shuffle
--                                         0, .., n - 1 into the order; they stand in front of the rest of the lent list
--   Demand1 op, Demand2 op                the demands, on every call
--   Settled, StandIns, Promise            as of one batch
use Rattle.std.specs.Prelude.{◌≡◌, ◌≢◌, List, [], ◌∷◌, ◌++◌, ℕ, ◌-◌, length, drop}
use Rattle.rules.specs.Order.{Only}
use Rattle.rules.specs.Reservoir.{countup}
use Rattle.answers.specs.Outcome.{shown}
use Rattle.answers.specs.declared.answer.Answer.{Answer}
use Rattle.orders.specs.Order.{order_refusals, seen_order}
use Rattle.promises.specs.Demand1.{AsRefused, numbers_of}
use Rattle.promises.specs.Demand2.{Allowed}

abbrev pub Op : Type 0
Op = List ℕ → List ℕ → Answer × List ℕ

abbrev pub Numbers : Type 0
Numbers = (ys : List ℕ) (room : ℕ) → numbers_of (order_refusals ys room) ≡ 2 ∷ 6 ∷ 8 ∷ []

abbrev pub Refuses : List ℕ → List ℕ → Answer × List ℕ → Type 0
Refuses ys lent got = AsRefused (order_refusals ys (length lent)) (λ o. (shown 0 o, lent)) got.0.no got

pub record Behind (ys lent : List ℕ) (got : Answer × List ℕ) : Type 0 where
  pub none : (got.0.no ≡ 0) × (got.0.next ≡ 0) × (got.0.rejected ≡ 0) × (got.0.batch ≡ 0)
  pub rolls : List ℕ
  pub reading : got.1 ≡ rolls ++ drop (length ys - 1) lent
  pub only : Only (length ys) (countup (length ys) 0) ys rolls

abbrev pub Gives : List ℕ → List ℕ → Answer × List ℕ → Type 0
Gives ys lent got = Allowed (order_refusals ys (length lent)) → Behind ys lent got

abbrev pub Demand1 : Op → Type 0
Demand1 op = (ys lent : List ℕ) → Refuses ys lent (op ys lent)

abbrev pub Demand2 : Op → Type 0
Demand2 op = (ys lent : List ℕ) → Gives ys lent (op ys lent)

abbrev pub Settled : Type 0
Settled = (a b : Op) → Demand1 a → Demand2 a → Demand1 b → Demand2 b → (ys lent : List ℕ) → a ys lent ≡ b ys lent

pub record StandIns : Type 0 where
  -- refusing every call
  pub refuses : (op : Op) → ((ys lent : List ℕ) → (op ys lent).0.no ≢ 0) → ¬ Demand2 op

pub record Promise : Type 0 where
  pub numbers : Numbers
  pub demand1 : Demand1 seen_order
  pub demand2 : Demand2 seen_order
  pub settled : Settled
  pub stand_ins : StandIns
