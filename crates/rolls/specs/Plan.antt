-- A plan's batches by places: a place counts the bounds before it.
--
--   begins plan                       the first batch of a plan; a plan with none is never asked, and what it would give is arbitrary
--   BatchAt batches bounds at cut     the batches from the place on are one batch and those from its end on; it ends where cut says, within the
--                                     bounds, and has the product that cut says
use Rattle.std.specs.Prelude.{◌≡◌, List, [], ◌∷◌, ℕ, ◌+◌, ◌<◌, ◌≤◌, length}
use Rattle.rules.specs.Rolls.{product}
use Rattle.arithmetic.specs.Products.{unwrap}
use Rattle.rolls.specs.declared.plan.Cut.{Cut}

abbrev pub begins : List (List ℕ) → List ℕ
begins [] = []
begins (batch ∷ plan) = batch

pub record BatchAt (batches : ℕ → List (List ℕ)) (bounds at : ℕ) (cut : Cut) : Type 0 where
  pub rest : batches at ≡ begins (batches at) ∷ batches cut.end
  pub end : cut.end ≡ at + length (begins (batches at))
  pub some : 0 < length (begins (batches at))
  pub within : cut.end ≤ bounds
  pub product : unwrap 64 cut.product.wrapped ≡ product (begins (batches at))
