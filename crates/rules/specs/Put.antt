-- A list with some numbers put at a place.
--
--   put out at xs    the list out, with xs from the place at on
use Rattle.std.specs.Prelude.{List, ◌++◌, ℕ, ◌+◌, length, take, drop}

abbrev pub put : List ℕ → ℕ → List ℕ → List ℕ
put out at xs = take at out ++ (xs ++ drop (at + length xs) out)
