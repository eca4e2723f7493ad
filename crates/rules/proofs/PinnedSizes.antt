-- The lines of document 01 as the tests of the definition answer them; what the plan makes of a size is a law of plans. Assumes nothing.
--
--   sizes_pinned    the pin of the sizes
use mathlib.Core.Path.{◌≡◌, refl}
use Prim.Native.Nat.{ℕ, ◌-◌, ◌<◌, ◌≤◌}
use native.Mathlib.Omega.{arith}
use borrow.Author.Tests.{le-leb, lt-leb}
use Rattle.rules.specs.Width.{size64}
use Rattle.rules.specs.Pinned.{BatchSize, SizesPinned}
use Rattle.rules.proofs.ShufflePlans.{sizes64, plan_step, plan_end}

sized : (m s : ℕ) → 1 < m → m ≤ 16384 → size64 m ≡ s → BatchSize m s
sized m s h k e = (e, rw e at (plan_step sizes64 m h k))

-- ---- the four lines

module _ (m : ℕ) where
  four : 2049 ≤ m → size64 m ≡ 4
  unfolding size64
  four h = rw (lt-leb m 6 (omega arith), lt-leb m 512 (omega arith), lt-leb m 2048 h, size64)

  five : 513 ≤ m → m ≤ 2048 → size64 m ≡ 5
  unfolding size64
  five h k = rw (lt-leb m 6 (omega arith), lt-leb m 512 h, le-leb m 2048 k, size64)

  six : 7 ≤ m → m ≤ 512 → size64 m ≡ 6
  unfolding size64
  six h k = rw (lt-leb m 6 h, le-leb m 512 k, size64)

  all_but_one : m ≤ 6 → size64 m ≡ m - 1
  unfolding size64
  all_but_one k = rw (le-leb m 6 k, size64)

pub sizes_pinned : SizesPinned
unfolding size64
sizes_pinned = record {
  borders = refl;
  four = λ m h k. sized m 4 (omega arith) k (four m h);
  five = λ m h k. sized m 5 (omega arith) (omega arith) (five m h k);
  six = λ m h k. sized m 6 (omega arith) (omega arith) (six m h k);
  all_but_one = λ m h k. sized m (m - 1) h (omega arith) (all_but_one m k);
  finished = plan_end sizes64;
}
