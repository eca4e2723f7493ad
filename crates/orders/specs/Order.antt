-- The rolls behind an order: its refusals in the order of document 01, its answer, and what its caller sees.
--
--   order_refusals ys room    the numbers that it can meet, each with its test
--   rolls_behind ys room      what comes of it: the rolls behind the order ys, with room for so many
--   seen_order ys lent        what its caller sees: the answer, and the lent list of rolls as it is left; the contract of the code is the
--                             equation with this
use Rattle.std.specs.Prelude.{not, List, [], ◌∷◌, ℕ, ◌-◌, ltb, length}
use Rattle.rules.specs.Limits.{max_records}
use Rattle.rules.specs.Order.{is_order, rolls_into}
use Rattle.rules.specs.Reservoir.{countup}
use Rattle.answers.specs.Outcome.{Outcome, done, Refusal, no, decide, outside, seen}
use Rattle.answers.specs.declared.answer.Answer.{Answer}

abbrev pub order_refusals : List ℕ → ℕ → List Refusal
order_refusals ys room = no 2 (outside 0 max_records (length ys)) ∷ no 6 (ltb room (length ys - 1)) ∷ no 8 (not (is_order ys)) ∷ []

-- The rolls shuffle 0, 1, .., n - 1 into the order.
unfoldable pub rolls_behind : List ℕ → ℕ → Outcome
rolls_behind ys room = decide (order_refusals ys room) (done (rolls_into (length ys) (countup (length ys) 0) ys) [])

abbrev pub seen_order : List ℕ → List ℕ → Answer × List ℕ
seen_order ys lent = seen 0 lent (rolls_behind ys (length lent))
