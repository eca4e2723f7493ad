-- The borders hold: the definitions compute them. Assumes nothing.
use Rattle.rules.specs.Rolls.{product, in_range, holds_zero}
use Rattle.rules.specs.Run.{find, run_from, next, rejected}
use Rattle.rules.specs.Order.{count, each_once}
use Rattle.answers.specs.Outcome.{decide}
use Rattle.rolls.specs.Batch.{roll_batch}
use Rattle.lists.specs.List.{roll_list}
use Rattle.shuffles.specs.Shuffle.{shuffle}
use Rattle.draws.specs.Sample.{sample}
use Rattle.runs.specs.Behind.{words_behind}
use Rattle.orders.specs.Order.{rolls_behind}
use Rattle.areas.specs.Area.{little, entries, bytes_of, area}
use Rattle.sheet.specs.RunSheet.{run_sheet}
use Rattle.writer.specs.WriteSheet.{write_sheet}
use Rattle.promises.specs.Borders.{table, Borders}

pub borders : Borders
unfolding table product in_range holds_zero find run_from next rejected count each_once decide roll_batch roll_list shuffle sample words_behind rolls_behind little entries bytes_of area run_sheet write_sheet
borders = tt
