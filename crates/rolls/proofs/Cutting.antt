-- The batch that begins at a place of a plan, as the loops over a plan meet it. Assumes nothing.
--
--   found_cut    the search by its product, from the place `to` on, finds its word
--   cut_ends     behind the last bound no batch is left
use mathlib.Core.Path.{◌≡◌, ap, ◌∙◌}
use mathlib.Core.List.{List, []}
use Prim.Native.Nat.{ℕ, ◌≤◌}
use native.Mathlib.Omega.{arith}
use lib.ListN.{drop}
use Rattle.std.specs.Prelude.{Option}
use Rattle.rules.specs.Rolls.{accepted}
use Rattle.rules.specs.Run.{find}
use Rattle.arithmetic.specs.Products.{unwrap}
use Rattle.rolls.specs.Inner.{passes, searched}
use Rattle.rolls.specs.Plan.{begins, BatchAt}
use Rattle.rolls.specs.declared.plan.Cut.{Cut}
use Rattle.rolls.specs.declared.search.Hit.{Hit}
use Rattle.rolls.proofs.Searching.{found_by}

pub found_cut : (batches : ℕ → List (List ℕ)) (bounds at : ℕ) (cut : Cut) → BatchAt batches bounds at cut → (words list : List ℕ) (to next : ℕ) (r : Option Hit)
    → r ≡ searched next (find (passes 64 (unwrap 64 cut.product.wrapped)) (drop next list) next) → list ≡ words → next ≡ to
    → r ≡ searched to (find (accepted 64 (begins (batches at))) (drop to words) to)
found_cut batches bounds at cut v words list to next r e l n = found_by (begins (batches at)) cut.product v.some v.product words list to next r e l n

pub cut_ends : (batches : ℕ → List (List ℕ)) (at bounds : ℕ) → at ≤ bounds → bounds ≤ at → batches bounds ≡ [] → batches at ≡ []
cut_ends batches at bounds h k e = let same : at ≡ bounds = omega arith in ap batches same ∙ e
