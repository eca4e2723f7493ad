-- Numbers in bytes, low byte first, and the numbers of an area.
--
--   little bs              the number whose bytes are bs, low byte first
--   number size at s       the number of so many bytes at a place of the bytes s
--   entries size c at s    the c numbers of an area, each of so many bytes, from a place on
--   bytes_of size n        the bytes of the number n, so many of them
--   area size xs           the bytes of the numbers xs, one number behind the other
use Rattle.std.specs.Prelude.{List, [], ◌∷◌, ◌++◌, ℕ, zero, suc, ◌+◌, ◌*◌, ◌/◌, ◌%◌, take, drop}

unfoldable pub little : List ℕ → ℕ
little [] = 0
little (b ∷ bs) = b + 256 * little bs

abbrev pub number : ℕ → ℕ → List ℕ → ℕ
number size at s = little (take size (drop at s))

unfoldable pub entries : ℕ → ℕ → ℕ → List ℕ → List ℕ
entries size zero at s = []
entries size (suc c) at s = number size at s ∷ entries size c (at + size) s

unfoldable pub bytes_of : ℕ → ℕ → List ℕ
bytes_of zero n = []
bytes_of (suc size) n = n % 256 ∷ bytes_of size (n / 256)

unfoldable pub area : ℕ → List ℕ → List ℕ
area size [] = []
area size (x ∷ xs) = bytes_of size x ++ area size xs
