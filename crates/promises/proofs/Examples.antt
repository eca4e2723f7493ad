-- The checked examples hold: the definitions compute them. Assumes nothing.
use Rattle.rules.specs.Rolls.{rolls, rest, product, value, in_range, holds_zero}
use Rattle.rules.specs.Width.{size64}
use Rattle.answers.specs.Outcome.{decide}
use Rattle.rolls.specs.Batch.{roll_batch}
use Rattle.runs.specs.Behind.{words_behind}
use Rattle.rules.specs.Run.{find, run_from, rolls_of, next, rejected}
use Rattle.shuffles.specs.Shuffle.{shuffle}
use Rattle.orders.specs.Order.{rolls_behind}
use Rattle.rules.specs.Order.{count, each_once, place_of, rolls_into}
use Rattle.rules.specs.Reservoir.{countup}
use Rattle.rules.specs.Shuffle.{exchange, shuffle_with, countdown, shuffle_plan_from}
use Rattle.promises.specs.Examples.{table, Examples}

pub examples : Examples
unfolding table rolls rest product value in_range holds_zero size64 decide roll_batch words_behind find run_from rolls_of next rejected shuffle rolls_behind count each_once place_of rolls_into countup exchange shuffle_with countdown shuffle_plan_from
examples = tt
