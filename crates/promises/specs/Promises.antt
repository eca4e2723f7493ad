-- What a reader may rely on, in one list: a line for each operation, whose own file says what is promised of it, and a line for each promise
-- that several operations share. The contract of the code, and of the C face, is the equation with what these speak of (seen_batch and so on).
--
--   Promises    the list
use Rattle.rules.specs.Width.{w64}
use Rattle.runs.specs.Behind.{seen_behind}
use Rattle.orders.specs.Order.{seen_order}
use Rattle.shuffles.specs.Shuffle.{seen_shuffle}
use Rattle.promises.specs.Batch as batch
use Rattle.promises.specs.Behind as behind
use Rattle.promises.specs.Borders.{Borders}
use Rattle.promises.specs.Demand1.{FirstIsLowest, FirstShort}
use Rattle.promises.specs.Demand2.{Suffice, OneOutcome}
use Rattle.promises.specs.Demand3.{Demand3, OwnPlaces}
use Rattle.promises.specs.Examples.{Examples}
use Rattle.promises.specs.FirstBatch.{StandIns3}
use Rattle.promises.specs.FinalShuffle.{FinalShuffle}
use Rattle.promises.specs.List as list
use Rattle.promises.specs.Order as order
use Rattle.promises.specs.Read as read
use Rattle.promises.specs.RoundTrip.{RoundTrip}
use Rattle.promises.specs.Sample as sample
use Rattle.promises.specs.Sheet as sheet
use Rattle.promises.specs.Shuffle as shuffle
use Rattle.promises.specs.Why as why
use Rattle.promises.specs.Write as write

pub record Promises : Type 0 where
  pub roll_batch : batch.Promise w64
  pub roll_list : list.Promise w64
  pub shuffle : shuffle.Promise w64
  pub sample : sample.Promise w64
  pub words_behind : behind.Promise w64
  pub rolls_behind : order.Promise
  pub run_sheet : sheet.Promise w64
  pub write_sheet : write.Promise
  pub read_sheet : read.Promise
  pub why : why.Promise w64
  -- a sheet written, read, run and written again
  pub round_trip : RoundTrip w64
  -- the final shuffle of a sample
  pub final_shuffle : FinalShuffle w64
  -- shared by demands 1 and 2
  pub lowest : FirstIsLowest
  pub first_short : FirstShort 64
  pub suffice : Suffice 64
  pub one_outcome : OneOutcome 64
  -- demand 3
  pub demand3 : Demand3 w64 (seen_shuffle w64) (seen_behind w64) seen_order
  pub own_places : OwnPlaces
  pub stand_ins3 : StandIns3
  -- the starred examples, and the borders of the table of numbers
  pub examples : Examples
  pub borders : Borders
