-- The rolls behind an order, refusal by refusal. Assumes nothing.
--
--   order_count, order_room, order_not   numbers 2, 6 and 8
--   order_done                           the rolls that are looked up, where none of them applies
use mathlib.Core.Path.{◌≡◌, ap, ◌∙◌}
use mathlib.Core.Bool.{true, false, not}
use mathlib.Core.List.{List, [], ◌∷◌}
use Prim.Native.Nat.{ℕ, ◌+◌, ◌-◌, ◌<◌, ◌≤◌}
use native.Mathlib.Omega.{arith}
use lib.ListN.{length}
use borrow.Author.Tests.{lt-ltb, le-ltb}
use Rattle.answers.specs.Outcome.{refused, done, no, decide}
use Rattle.answers.proofs.Deciding.{decide_here, decide_past, decide_none, in_count, above_count}
use Rattle.rules.specs.Reservoir.{countup}
use Rattle.rules.specs.Order.{is_order, rolls_into}
use Rattle.orders.specs.Order.{rolls_behind}

module _ (ys : List ℕ) (room : ℕ) where
  pub order_count : 16384 < length ys → rolls_behind ys room ≡ refused 2 0
  unfolding rolls_behind
  order_count h = decide_here _ _ _ (above_count 0 16384 (length ys) h)

  module _ (count : length ys ≤ 16384) where
    pub order_room : room + 1 < length ys → rolls_behind ys room ≡ refused 6 0
    unfolding rolls_behind
    order_room h =
        decide_past _ _ _ (in_count 0 16384 (length ys) (omega arith) count) ∙ decide_here _ _ _ (lt-ltb room (length ys - 1) (omega arith))

    module _ (fits : length ys ≤ room + 1) where
      rest : rolls_behind ys room ≡ decide (no 8 (not (is_order ys)) ∷ []) (done (rolls_into (length ys) (countup (length ys) 0) ys) [])
      unfolding rolls_behind
      rest =
          decide_past _ _ _ (in_count 0 16384 (length ys) (omega arith) count) ∙ decide_past _ _ _ (le-ltb room (length ys - 1) (omega arith))

      pub order_not : is_order ys ≡ false → rolls_behind ys room ≡ refused 8 0
      order_not e = rest ∙ decide_here _ _ _ (ap not e)

      pub order_done : is_order ys ≡ true → rolls_behind ys room ≡ done (rolls_into (length ys) (countup (length ys) 0) ys) []
      order_done e = rest ∙ decide_past _ _ _ (ap not e) ∙ decide_none _
