-- Demand 3 and the stand-ins that document 01 names for it: "a shuffle that moves nothing (demands 2 and 3); one that works the first batch
-- only (demand 2, and 3 from n = 8)". Demand 3 names its runs by the two ways back, which are ours here.
--
--   StandIns3      each fails; the shuffle of the first batch alone meets the demand up to 7 records, which are one batch, at 64 bits; and
--                  there is such a shuffle
use Rattle.std.specs.Prelude.{ℕ, ◌≤◌}
use Rattle.rules.specs.Limits.{max_records}
use Rattle.rules.specs.Width.{w64}
use Rattle.runs.specs.Behind.{seen_behind}
use Rattle.orders.specs.Order.{seen_order}
use Rattle.promises.specs.Demand3.{Demand3At, Demand3}
use Rattle.promises.specs.Shuffle.{Op, MovesNothing, FirstBatchOnly}

pub record StandIns3 : Type 0 where
  pub nothing : (op : Op) → MovesNothing op → ¬ Demand3 w64 op (seen_behind w64) seen_order
  pub from_eight : (op : Op) → FirstBatchOnly w64 op → (n : ℕ) → 8 ≤ n → n ≤ max_records → ¬ Demand3At w64 op (seen_behind w64) seen_order n
  pub to_seven : (op : Op) → FirstBatchOnly w64 op → (n : ℕ) → n ≤ 7 → Demand3At w64 op (seen_behind w64) seen_order n
  pub some : (op : Op) × FirstBatchOnly w64 op
