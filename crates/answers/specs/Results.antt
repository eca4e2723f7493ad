-- What a result of the code says, as the rules' numbers have it.
--
--   number_of refusal                 the number that C gets in `no`
--   batch_of refusal                  the batch that number 10 names; 0 for the others
--   numbered outcome                  the same outcome, with the number in place of the refusal
--   answer_of start outcome           the answer of an operation that was given the start: the values where nothing is refused; else the number,
--                                     the start, the batch, and zeros elsewhere
--   batch_answer_of start outcome     the same, of one batch
--   behind_of outcome                 the same, of the words behind rolls
use Rattle.std.specs.Prelude.{ℕ, Result, Ok, Err, replicate}
use Rattle.rules.specs.Limits.{max_batch}
use Rattle.answers.specs.declared.answer.Answer.{Answer}
use Rattle.answers.specs.declared.answer.Batch.{Batch}
use Rattle.answers.specs.declared.answer.Behind.{Behind}
use Rattle.answers.specs.declared.refusal.Refusal.{Refusal}
use Rattle.answers.specs.declared.refusal.Refusal.TheVariants.{Sheet, Count, Sample, Zero, Product, Room, Misfit, Order, Start, Words}
use Rattle.answers.specs.declared.results.Rolled.{Rolled}
use Rattle.answers.specs.declared.results.Used.{Used}
use Rattle.answers.specs.declared.results.WordRun.{WordRun}

abbrev pub number_of : Refusal → ℕ
number_of Sheet = 1
number_of Count = 2
number_of Sample = 3
number_of Zero = 4
number_of Product = 5
number_of Room = 6
number_of Misfit = 7
number_of Order = 8
number_of Start = 9
number_of (Words batch) = 10

abbrev pub batch_of : Refusal → ℕ
batch_of (Words batch) = batch
batch_of _ = 0

abbrev pub numbered : {T : Type 0} → Result T Refusal → Result T ℕ
numbered (Ok value) = Ok value
numbered (Err refusal) = Err (number_of refusal)

abbrev pub answer_of : ℕ → Result Used Refusal → Answer
answer_of start (Ok used) = record { no = 0; next = used.next; rejected = used.rejected; batch = 0 }
answer_of start (Err refusal) = record { no = number_of refusal; next = start; rejected = 0; batch = batch_of refusal }

abbrev pub batch_answer_of : ℕ → Result Rolled Refusal → Batch
batch_answer_of start (Ok rolled) = record {
  no = 0;
  next = rolled.used.next;
  rejected = rolled.used.rejected;
  count = rolled.count;
  rolls = rolled.rolls;
}
batch_answer_of start (Err refusal) = record { no = number_of refusal; next = start; rejected = 0; count = 0; rolls = replicate max_batch 0 }

abbrev pub behind_of : Result WordRun Refusal → Behind
behind_of (Ok run) = record { no = 0; next = 0; rejected = 0; first = run.first; last = run.last }
behind_of (Err refusal) = record { no = number_of refusal; next = 0; rejected = 0; first = 0; last = 0 }
