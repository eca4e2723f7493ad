-- What the laws ask of a width, and that the product's width has it. Assumes nothing.
--
--   GoodWidth W    a batch that was cut within the limit can be rolled, so can each bound of a sample alone, and so can each batch of a shuffle
--   good64         so it is at 64 bits
use Prim.Native.Nat.{◌^◌, ◌<◌, ◌≤◌}
use lib.Dec.{lit<, lit≤}
use Rattle.rules.specs.Limits.{max_records}
use Rattle.rules.specs.Width.{Width, w64}
use Rattle.rules.proofs.ShufflePlans.{GoodSizes, sizes64}

pub record GoodWidth (W : Width) : Type 0 where
  pub fits : W.limit < 2 ^ W.bits
  pub records : max_records ≤ W.limit
  pub sizes : GoodSizes W.size W.limit max_records

pub good64 : GoodWidth w64
good64 = record { fits = lit< tt; records = lit≤ tt; sizes = sizes64 }
