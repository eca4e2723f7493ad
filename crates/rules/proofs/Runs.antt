-- The runs of words behind a series of rolls, one run for each batch of a plan. Over a width L. A batch's part
-- of the rolls rs is the next of them, as many as it has bounds. Assumes nothing.
--
--   InRuns L plan rs words   one word for each batch, and each lies in the run behind its batch's part of the rolls
--   Rolled L plan rs r       of the run r: each batch got its word, and the rolls are rs
use mathlib.Core.Path.{◌≡◌}
use mathlib.Core.List.{List, [], ◌∷◌}
use Prim.Native.Nat.{ℕ, ◌≤◌}
use lib.Dec.{T}
use lib.ListN.{length, take, drop}
use Rattle.rules.specs.Rolls.{first_word, last_word}
use Rattle.rules.specs.Run.{Run, trace, rolls_of, suffices}

abbrev pub InRuns : ℕ → List (List ℕ) → List ℕ → List ℕ → Type 0
InRuns L [] rs [] = Unit
InRuns L [] rs (w ∷ ws) = ⊥
InRuns L (bs ∷ plan) rs [] = ⊥
InRuns L (bs ∷ plan) rs (w ∷ ws) =
    (first_word L bs (take (length bs) rs) ≤ w) × (w ≤ last_word L bs (take (length bs) rs)) × InRuns L plan (drop (length bs) rs) ws

abbrev pub Rolled : ℕ → List (List ℕ) → List ℕ → Run → Type 0
Rolled L plan rs r = T (suffices r) × (rolls_of L plan (trace r) ≡ rs)
