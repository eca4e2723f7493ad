-- A number in decimal, in ASCII.
--
--   digit d      the digit d, from 0 to 9
--   digits c n   the decimal digits of n, which is at most c
--   decimal n    n in decimal, with no zeros in front; 0 is `0`
use Rattle.std.specs.Prelude.{true, false, List, [], ◌∷◌, ◌++◌, ℕ, zero, suc, ◌+◌, ◌/◌, ◌%◌, ltb}

-- 48 is the code of `0`.
abbrev pub digit : ℕ → ℕ
digit d = 48 + d

-- The digits of n / 10, which is at most c where n is at most c + 1, and then the last one. Of a number above c no digits are claimed:
-- what stands here is arbitrary.
unfoldable pub digits : ℕ → ℕ → List ℕ
digits zero n = digit 0 ∷ []
digits (suc c) n = elim (ltb n 10) [ true ↦ digit n ∷ [] | false ↦ digits c (n / 10) ++ digit (n % 10) ∷ [] ]

abbrev pub decimal : ℕ → List ℕ
decimal n = digits n n
