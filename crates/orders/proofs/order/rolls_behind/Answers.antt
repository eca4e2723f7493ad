-- `orders::order::rolls_behind` meets its contract. Each way out is one refusal of the definition, or the last one, where none applies: the
-- list that `mark_places` refuses is no order, and the rolls written are those that the definition looks up. Assumes nothing.
use mathlib.Core.Path.{refl, ◌∙◌, sym, ap}
use mathlib.Core.List.{List, ◌++◌}
use Prim.Native.Nat.{ℕ}
use lib.ListN.{length, drop, length-replicate}
use borrow.Author.Rules.{rules}
use Rattle.answers.proofs.Deciding.{refused-seen, none_seen}
use Rattle.rules.specs.Reservoir.{countup}
use Rattle.rules.specs.Order.{rolls_into}
use Rattle.rules.proofs.Orders.{length-rolls_into}
use Rattle.orders.proofs.Marking.{unmarked}
use Rattle.orders.proofs.OneOrder.{order_count, order_room, order_not, order_done}
use Rattle.orders.proofs.order.rolls_behind.Goals as goal

pub returns-then-order-gt-MAX_RECORDS : goal.returns-then-order-gt-MAX_RECORDS
returns-then-order-gt-MAX_RECORDS c =
    let s = refused-seen _ 2 0 _ _ _ (order_count c.args.order.now (length c.args.rolls.now) (search rules)) refl in
    record { answer = s.0; rolls = s.1 }

pub returns-then-rolls-order : goal.returns-then-rolls-order
returns-then-rolls-order c =
    let s = refused-seen _ 6 0 _ _ _ (order_room c.args.order.now (length c.args.rolls.now) (search rules) (search rules)) refl in
    record { answer = s.0; rolls = s.1 }

pub mark_places-requires : goal.mark_places-requires
mark_places-requires c = (search rules, length-replicate {A = ℕ} 16384 0, unmarked 16384)

pub returns-in_err-mark_places : goal.returns-in_err-mark_places
returns-in_err-mark_places c =
    let no = c.in_err-mark_places.ensures.1 in
    let s = refused-seen _ 8 0 _ _ _ (order_not c.args.order.now (length c.args.rolls.now) (search rules) (search rules) no) (search rules) in
    record { answer = s.0; rolls = s.1 }

pub returns : goal.returns
returns c =
    let lent = c.args.rolls.now in
    let all = rolls_into (length c.args.order.now) (countup (length c.args.order.now) 0) c.args.order.now in
    let s = none_seen _ _ lent _ _ (order_done c.args.order.now (length lent) (search rules) (search rules) c.in_ok-mark_places.ensures.0) refl
    (c.write_behind.ensures ∙ ap (λ (l : List ℕ). all ++ l) c.write_countdown.ensures.rest
    ∙ ap (λ (n : ℕ). all ++ drop n lent) (sym (length-rolls_into _ _ _))) in
    record { answer = s.0; rolls = s.1 }
