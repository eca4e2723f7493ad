-- The list of promises, each from its own file. Assumes nothing.
--
--   promises    all of them hold
use Rattle.rules.specs.Width.{w64}
use Rattle.rules.proofs.Widths.{good64}
use Rattle.promises.specs.Promises.{Promises}
use Rattle.promises.proofs.Batch as batch
use Rattle.promises.proofs.Behind as behind
use Rattle.promises.proofs.Borders.{borders}
use Rattle.promises.proofs.Demand3.{demand3, own_places}
use Rattle.promises.proofs.Examples.{examples}
use Rattle.promises.proofs.FirstBatch.{stand_ins3}
use Rattle.promises.proofs.FirstShort.{first_short}
use Rattle.promises.proofs.FinalShuffle.{final_shuffle}
use Rattle.promises.proofs.List as list
use Rattle.promises.proofs.Method.{suffice, one_outcome}
use Rattle.promises.proofs.Order as order
use Rattle.promises.proofs.Read as read
use Rattle.promises.proofs.Refusing.{first_is_lowest}
use Rattle.promises.proofs.RoundTrip.{round_trip}
use Rattle.promises.proofs.Sample as sample
use Rattle.promises.proofs.Sheet as sheet
use Rattle.promises.proofs.Shuffle as shuffle
use Rattle.promises.proofs.ThisDraw as why
use Rattle.promises.proofs.Write as write

pub promises : Promises
promises = record {
  roll_batch = batch.promise;
  roll_list = list.promise;
  shuffle = shuffle.promise;
  sample = sample.promise;
  words_behind = behind.promise;
  rolls_behind = order.promise;
  run_sheet = sheet.promise;
  write_sheet = write.promise;
  read_sheet = read.promise;
  why = why.promise;
  round_trip = round_trip;
  final_shuffle = final_shuffle;
  lowest = first_is_lowest;
  first_short = first_short 64;
  suffice = suffice 64;
  one_outcome = one_outcome 64;
  demand3 = demand3 w64 good64;
  own_places = own_places;
  stand_ins3 = stand_ins3;
  examples = examples;
  borders = borders;
}
