-- What the cut answers.
--
--   cut_at W bs at    where the batch that begins at a place of the list ends, and its product
use Rattle.std.specs.Prelude.{List, ℕ, ◌+◌, length, drop}
use Rattle.rules.specs.Cut.{cut}
use Rattle.rules.specs.Rolls.{product}
use Rattle.rules.specs.Width.{Width}
use Rattle.arithmetic.specs.Products.{wrap}
use Rattle.rolls.specs.Plan.{begins}
use Rattle.rolls.specs.declared.plan.Cut.{Cut}

abbrev pub cut_at : Width → List ℕ → ℕ → Cut
cut_at W bs at =
    let batch : List ℕ = begins (cut W.limit (drop at bs)) in
    record { end = at + length batch; product = wrap (product batch) }
