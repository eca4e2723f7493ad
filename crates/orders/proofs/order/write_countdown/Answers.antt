-- `orders::order::write_countdown` meets its contract. The loop's invariant: the first i - 1 of n - 1, .., 1 are written (Written).
-- Assumes nothing.
use mathlib.Core.Path.{◌≡◌}
use native.Mathlib.Omega.{arith}
use Prim.Native.Nat.{◌-◌, ◌+◌, ◌<◌}
use borrow.Author.Rules.{rules}
use Rattle.rules.proofs.Writing.{written-turn, written-done}
use Rattle.rules.proofs.Rows.{length-countdown, get_or-countdown}
use Rattle.orders.proofs.order.write_countdown.Goals as goal

pub loop-i-preserved : goal.loop-i-preserved
loop-i-preserved c =
    let m : c.loop-i.i - 1 < c.args.n - 1 = search rules in
    let e : c.loop-i.i + 1 - 1 ≡ c.loop-i.i - 1 + 1 = omega arith in
    rw e (written-turn _ _ (length-countdown _ _) _ _ _ c.loop-i.invariant _ m (search rules) (omega (arith, get_or-countdown (c.args.n - 1) (c.args.n - 1) (c.loop-i.i - 1) m)))

pub returns-clause-front : goal.returns-clause-front
returns-clause-front c = (written-done _ _ (length-countdown _ _) _ _ _ c.loop-i.invariant (search rules)).0
