-- A reservoir with given rolls.
--
--   countup s i              i, i + 1, .., s of them
--   reservoir slots xs js    the slots after the later records xs, each with its roll j of js
use Rattle.std.specs.Prelude.{true, false, List, [], ◌∷◌, ℕ, zero, suc, ◌+◌, ltb, length, set}

unfoldable pub countup : ℕ → ℕ → List ℕ
countup zero i = []
countup (suc s) i = i ∷ countup s (i + 1)

-- If j is below the number of slots, slot j gets the record.
-- Never met: fewer or more rolls than later records. The value there is arbitrary.
unfoldable pub reservoir : List ℕ → List ℕ → List ℕ → List ℕ
reservoir slots [] js = slots
reservoir slots (x ∷ xs) [] = slots
reservoir slots (x ∷ xs) (j ∷ js) = reservoir (elim (ltb j (length slots)) [ true ↦ set slots j x | false ↦ slots ]) xs js
