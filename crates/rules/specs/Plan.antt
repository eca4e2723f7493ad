-- What is said of a plan, a list of batches.
--
--   joined plan                the bounds of the plan, batch after batch
--   Rollable most bs           document 01 allows the batch bs, with a product up to most
--   RollablePlan most plan     and so for each batch of the plan
--   PlanOf most bs plan        the plan's batches are the bounds bs in their order, and each can be rolled
use Rattle.std.specs.Prelude.{◌≡◌, List, [], ◌∷◌, ◌++◌, ℕ, ◌<◌, ◌≤◌, length}
use Rattle.rules.specs.Rolls.{product}

unfoldable pub joined : List (List ℕ) → List ℕ
joined [] = []
joined (bs ∷ plan) = bs ++ joined plan

-- bounds in one batch, 1 to 16; product of one batch, 1 to most
pub record Rollable (most : ℕ) (bs : List ℕ) : Type 0 where
  pub some : 0 < length bs
  pub few : length bs ≤ 16
  pub positive : 0 < product bs
  pub fits : product bs ≤ most

abbrev pub RollablePlan : ℕ → List (List ℕ) → Type 0
RollablePlan most [] = Unit
RollablePlan most (bs ∷ plan) = Rollable most bs × RollablePlan most plan

pub record PlanOf (most : ℕ) (bs : List ℕ) (plan : List (List ℕ)) : Type 0 where
  pub same : joined plan ≡ bs
  pub rollable : RollablePlan most plan
