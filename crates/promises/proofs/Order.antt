-- The rolls behind an order. Assumes nothing.
--
--   order_done    the operation, where it refuses nothing
--   promise       the promise
use mathlib.Core.Path.{◌≡◌, refl, sym, ap, ◌∙◌}
use mathlib.Core.Bool.{not}
use mathlib.Core.List.{List, [], ◌++◌}
use Prim.Native.Nat.{ℕ, ◌-◌, ◌≤◌, zero-le}
use lib.Dec.{T, lit<}
use lib.ListN.{length, drop}
use borrow.Author.Tests.{ltb-false, le-ltb, not-false}
use Rattle.rules.specs.Limits.{max_records}
use Rattle.rules.specs.Order.{each_once, is_order, rolls_into}
use Rattle.rules.specs.Reservoir.{countup}
use Rattle.rules.specs.Run.{next, rejected}
use Rattle.rules.specs.Shuffle.{shuffle_bounds}
use Rattle.rules.proofs.Each.{rolls_behind_lem}
use Rattle.rules.proofs.Range.{length_in_range}
use Rattle.rules.proofs.Rows.{length-shuffle_bounds}
use Rattle.answers.specs.Outcome.{done, shown}
use Rattle.answers.specs.declared.answer.Answer.{Answer}
use Rattle.answers.proofs.Deciding.{decide_past, decide_none, in_count}
use Rattle.orders.specs.Order.{order_refusals, rolls_behind, seen_order}
use Rattle.promises.specs.Demand1.{first_of}
use Rattle.promises.specs.Order.{Numbers, Demand1, Demand2, Settled, StandIns, Promise}
use Rattle.rules.proofs.Facts.{truth}
use Rattle.promises.proofs.Refusing.{beside_refused, allowed_cons, named_nil, named_no, numbered_nil, numbered_no, settle}
use Rattle.promises.proofs.Shuffle.{few_records}

pub order_done : (ys : List ℕ) (room : ℕ) → length ys ≤ max_records → length ys - 1 ≤ room → T (is_order ys)
    → rolls_behind ys room ≡ done (rolls_into (length ys) (countup (length ys) 0) ys) []
unfolding rolls_behind
order_done ys room h k t =
    decide_past _ _ _ (in_count 0 max_records (length ys) zero-le h) ∙ decide_past _ _ _ (le-ltb room (length ys - 1) k)
    ∙ decide_past _ _ _ (ap not (truth (is_order ys) t)) ∙ decide_none _

numbers : Numbers
numbers ys room = refl

demand1 : Demand1 seen_order
unfolding rolls_behind
demand1 ys lent = beside_refused 0 lent (order_refusals ys (length lent)) (named_no 2 _ _ (named_no 6 _ _ (named_no 8 _ _ named_nil))) _ _ (seen_order ys lent) refl

demand2 : Demand2 seen_order
unfolding next rejected
demand2 ys lent a =
    let (count, b) = allowed_cons _ _ a in
    let (room, c) = allowed_cons _ _ b in
    let t : T (is_order ys) = rw (not-false (is_order ys) (allowed_cons _ _ c).0) tt in
    let only = rolls_behind_lem ys t in
    let rs : List ℕ = rolls_into (length ys) (countup (length ys) 0) ys in
    let n : length rs ≡ length ys - 1 = length_in_range (shuffle_bounds (length ys)) rs (truth _ only.is_in_range) ∙ length-shuffle_bounds (length ys) in
    rw (order_done ys (length lent) (few_records (length ys) count) (ltb-false (length lent) (length ys - 1) room) t)
    (record { none = (refl, refl, refl, refl); rolls = rs; reading = rw n refl; only = only })

settled : Settled
settled a b a1 a2 b1 b2 ys lent =
    settle (order_refusals ys (length lent)) (λ o. (shown 0 o, lent)) (λ (x : Answer × List ℕ). x.0.no)
    (numbered_no 2 _ _ (lit< tt) (numbered_no 6 _ _ (lit< tt) (numbered_no 8 _ _ (lit< tt) numbered_nil)))
    (a ys lent) (b ys lent) (a1 ys lent) (b1 ys lent) (λ al.
    let x = a2 ys lent al in
    let y = b2 ys lent al in
    let (n, p, r, c) = x.none in
    let (m, q, s, d) = y.none in
    let same : x.rolls ≡ y.rolls = y.only.unique x.rolls x.only.is_in_range x.only.gives in
    let after = x.reading ∙ ap (λ (l : List ℕ). l ++ drop (length ys - 1) lent) same ∙ sym y.reading in
    λ i. (record { no = (n ∙ sym m) i; next = (p ∙ sym q) i; rejected = (r ∙ sym s) i; batch = (c ∙ sym d) i }, after i))

stand_ins : StandIns
unfolding first_of each_once
stand_ins = record { refuses = λ op r d. r [] [] (d [] [] refl).none.0 }

pub promise : Promise
promise = record { numbers = numbers; demand1 = demand1; demand2 = demand2; settled = settled; stand_ins = stand_ins }
