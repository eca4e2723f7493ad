-- From a word to rolls, over a width L: words are the numbers below 2^L. The letters b, r, t are those of source document 000.
--
--   rolls L bs r          the rolls that bounds bs take from r, a word at first
--   rest L bs r           the last r
--   product bs            b, the product of the bounds
--   threshold L b         t
--   accepted L bs word    whether the word is accepted
--   holds_zero bs         whether some bound is 0
--   in_range bs rs        whether rs is one roll for each bound, each below its bound
--   value bs rs           the rolls read as one mixed-radix number, the first roll most significant
--   up x b                x / b, rounded up
--   first_word L bs rs    the first word of the run behind the rolls rs
--   last_word L bs rs     the last one
use Rattle.std.specs.Prelude.{Bool, true, false, ◌&&◌, ◌||◌, List, [], ◌∷◌, ℕ, ◌+◌, ◌-◌, ◌*◌, ◌/◌, ◌%◌, ◌^◌, leb, ltb, eqb}

-- For each bound in turn, bound times r equals 2^L times the roll plus the new r, with the new r below 2^L.
unfoldable pub rolls : ℕ → List ℕ → ℕ → List ℕ
rolls L [] r = []
rolls L (b ∷ bs) r = b * r / 2 ^ L ∷ rolls L bs (b * r % 2 ^ L)

unfoldable pub rest : ℕ → List ℕ → ℕ → ℕ
rest L [] r = r
rest L (b ∷ bs) r = rest L bs (b * r % 2 ^ L)

unfoldable pub product : List ℕ → ℕ
product [] = 1
product (b ∷ bs) = b * product bs

abbrev pub threshold : ℕ → ℕ → ℕ
threshold L b = 2 ^ L % b

-- The word is accepted exactly when the last r is at least t.
abbrev pub accepted : ℕ → List ℕ → ℕ → Bool
accepted L bs word = leb (threshold L (product bs)) (rest L bs word)

unfoldable pub holds_zero : List ℕ → Bool
holds_zero [] = false
holds_zero (b ∷ bs) = eqb b 0 || holds_zero bs

unfoldable pub in_range : List ℕ → List ℕ → Bool
in_range [] [] = true
in_range [] (r ∷ rs) = false
in_range (b ∷ bs) [] = false
in_range (b ∷ bs) (r ∷ rs) = ltb r b && in_range bs rs

-- Never met: fewer or more rolls than bounds. The value there is arbitrary.
unfoldable pub value : List ℕ → List ℕ → ℕ
value [] rs = 0
value (b ∷ bs) [] = 0
value (b ∷ bs) (r ∷ rs) = r * product bs + value bs rs

abbrev pub up : ℕ → ℕ → ℕ
up x b = (x + (b - 1)) / b

-- The words that give the rolls, accepted, are those from (2^L a + t) / b rounded up, as many as 2^L / b rounded down.
abbrev pub first_word : ℕ → List ℕ → List ℕ → ℕ
first_word L bs rs = up (2 ^ L * value bs rs + threshold L (product bs)) (product bs)

abbrev pub last_word : ℕ → List ℕ → List ℕ → ℕ
last_word L bs rs = first_word L bs rs + 2 ^ L / product bs - 1
