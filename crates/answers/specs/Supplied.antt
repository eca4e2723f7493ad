-- What a dry run over the words tells, and the answer that comes of it.
--
--   supplied start ran      whether the words suffice: the place after the last and the count of rejected, or the batch that got none
--   answered to rejected    the answer of a success
use Rattle.std.specs.Prelude.{ℕ, Result, Ok, Err}
use Rattle.rules.specs.Run.{Run, ran, short, next, rejected}
use Rattle.answers.specs.declared.answer.Answer.{Answer}
use Rattle.answers.specs.declared.refusal.Refusal.{Refusal}
use Rattle.answers.specs.declared.refusal.Refusal.TheVariants.{Words}
use Rattle.answers.specs.declared.results.Used.{Used}

abbrev pub supplied : ℕ → Run → Result Used Refusal
supplied start (ran ts) = Ok (record { next = next start ts; rejected = rejected start ts })
supplied start (short batch) = Err (Words batch)

abbrev pub answered : ℕ → ℕ → Answer
answered to rejected = record { no = 0; next = to; rejected = rejected; batch = 0 }
