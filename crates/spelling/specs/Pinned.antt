-- What pins a number in decimal: sentences that tell its definition from other definitions of its shape.
--
--   spelled bs       the number that the digits bs spell, the first most significant
--   spelled_from a bs the same, with the digits of a in front
--   Spells n bs      bs is n in decimal: it spells n, by the digits `0` to `9`, and has no `0` in front, unless it is `0`
--   DecimalPinned    decimal n is n in decimal, whatever n is
use Rattle.std.specs.Prelude.{◌≡◌, ◌⊎◌, List, [], ◌∷◌, ℕ, ◌+◌, ◌*◌, ◌-◌, ◌<◌, ◌≤◌, length, get_or}
use Rattle.spelling.specs.Decimal.{decimal}

unfoldable pub spelled_from : ℕ → List ℕ → ℕ
spelled_from a [] = a
spelled_from a (b ∷ bs) = spelled_from (10 * a + (b - 48)) bs

abbrev pub spelled : List ℕ → ℕ
spelled bs = spelled_from 0 bs

pub record Spells (n : ℕ) (bs : List ℕ) : Type 0 where
  pub number : spelled bs ≡ n
  pub digit : (i : ℕ) → i < length bs → (48 ≤ get_or bs i 0) × (get_or bs i 0 ≤ 57)
  pub front : (bs ≡ 48 ∷ []) ⊎ (48 < get_or bs 0 0)

abbrev pub DecimalPinned : Type 0
DecimalPinned = (n : ℕ) → Spells n (decimal n)
