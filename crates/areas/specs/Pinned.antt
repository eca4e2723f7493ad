-- What pins a number in bytes: sentences that tell it from other definitions of its shape.
--
-- Document 01, "The sheet": "Words take 8 bytes, records 4, low byte first."
--
--   Stands size n at s   the number n, of so many bytes, stands at a place of the bytes s: byte i of n, the lowest first, at that place + i
--   Area size at xs s    the numbers xs, each of so many bytes, stand one behind the other from a place on, and end within s
--   AreaPinned           the statement: the numbers that stand there are those that are read; and in the bytes of a number, or of an area, they
--                        stand, with no byte more
use Rattle.std.specs.Prelude.{◌≡◌, List, ℕ, ◌+◌, ◌*◌, ◌/◌, ◌%◌, ◌^◌, ◌<◌, ◌≤◌, length, get_or}
use Rattle.rules.specs.Order.{AllBelow}
use Rattle.areas.specs.Area.{number, entries, bytes_of, area}

abbrev pub Stands : ℕ → ℕ → ℕ → List ℕ → Type 0
Stands size n at s = (n < 256 ^ size) × ((i : ℕ) → i < size → get_or s (at + i) 0 ≡ n / 256 ^ i % 256)

abbrev pub Area : ℕ → ℕ → List ℕ → List ℕ → Type 0
Area size at xs s = (at + size * length xs ≤ length s) × ((i : ℕ) → i < length xs → Stands size (get_or xs i 0) (at + size * i) s)

pub record AreaPinned : Type 0 where
  pub one : (size n at : ℕ) (s : List ℕ) → at + size ≤ length s → Stands size n at s → number size at s ≡ n
  pub all : (size at : ℕ) (s xs : List ℕ) → Area size at xs s → entries size (length xs) at s ≡ xs
  pub bytes : (size n : ℕ) → (length (bytes_of size n) ≡ size) × (n < 256 ^ size → Stands size n 0 (bytes_of size n))
  pub laid : (size : ℕ) (xs : List ℕ) → (length (area size xs) ≡ size * length xs) × (AllBelow (256 ^ size) xs → Area size 0 xs (area size xs))
