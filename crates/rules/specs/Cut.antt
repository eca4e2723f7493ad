-- Cutting a list of bounds into batches, at a limit (2^56 at 64 bits).
--
--   joins limit batch b        whether the bound b joins the batch that is begun
--   cut_from limit batch bs    the batches of the list bs behind a batch that is begun
--   cut limit bs               the batches of the list bs
use Rattle.std.specs.Prelude.{Bool, true, false, ◌&&◌, List, [], ◌∷◌, ◌++◌, ℕ, ◌*◌, length, leb, ltb}
use Rattle.rules.specs.Limits.{max_batch}
use Rattle.rules.specs.Rolls.{product}

-- Further bounds join in order while the batch has fewer than 16 and its product with the new bound is at most the limit.
abbrev pub joins : ℕ → List ℕ → ℕ → Bool
joins limit batch b = ltb (length batch) max_batch && leb (product batch * b) limit

unfoldable pub cut_from : ℕ → List ℕ → List ℕ → List (List ℕ)
cut_from limit batch [] = batch ∷ []
cut_from limit batch (b ∷ bs) =
    elim (joins limit batch b) [ true ↦ cut_from limit (batch ++ b ∷ []) bs | false ↦ batch ∷ cut_from limit (b ∷ []) bs ]

-- A batch takes the next bound whatever it is.
unfoldable pub cut : ℕ → List ℕ → List (List ℕ)
cut limit [] = []
cut limit (b ∷ bs) = cut_from limit (b ∷ []) bs
