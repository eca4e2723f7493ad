-- The shuffle: Fisher-Yates with given rolls, and its batches. The letters m, n, s are those of document 01.
--
--   exchange xs i j         xs with the records at places i and j exchanged
--   shuffle_with m rs xs    xs shuffled by the rolls rs, with m records still to place
--   countdown s m           m, m - 1, .., s of them
--   shuffle_bounds n        the bounds of a whole shuffle: n, n - 1, .., 2
--   shuffle_plan size n     its batches; with m records still to place the next one has size m bounds
--   shuffle_plan_from       the batches with m records still to place, at most as many as the fuel
use Rattle.std.specs.Prelude.{true, false, List, [], ◌∷◌, ℕ, zero, suc, ◌-◌, leb, get_or, set}

unfoldable pub exchange : List ℕ → ℕ → ℕ → List ℕ
exchange xs i j = set (set xs i (get_or xs j 0)) j (get_or xs i 0)

-- For each roll in turn, exchange the record at place roll with that at place m - 1; then m - 1 records are still to place.
unfoldable pub shuffle_with : ℕ → List ℕ → List ℕ → List ℕ
shuffle_with m [] xs = xs
shuffle_with m (r ∷ rs) xs = shuffle_with (m - 1) rs (exchange xs r (m - 1))

unfoldable pub countdown : ℕ → ℕ → List ℕ
countdown zero m = []
countdown (suc s) m = m ∷ countdown s (m - 1)

abbrev pub shuffle_bounds : ℕ → List ℕ
shuffle_bounds n = countdown (n - 1) n

-- With 0 or 1 record still to place it is finished. Each batch places a record or more, so n batches are fuel enough for n records.
-- Never met: no fuel, and 2 or more records still to place. The value there is arbitrary.
unfoldable pub shuffle_plan_from : (ℕ → ℕ) → ℕ → ℕ → List (List ℕ)
shuffle_plan_from size zero m = []
shuffle_plan_from size (suc fuel) m =
    elim (leb m 1) [ true ↦ [] | false ↦ countdown (size m) m ∷ shuffle_plan_from size fuel (m - size m) ]

abbrev pub shuffle_plan : (ℕ → ℕ) → ℕ → List (List ℕ)
shuffle_plan size n = shuffle_plan_from size n n
