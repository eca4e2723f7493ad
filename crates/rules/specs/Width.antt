-- What fixes a width: everything that document 01 says of 64-bit words in numbers is here, once.
--
--   Width     the bits L of a word, the limit of a cut, the sizes of a shuffle's batches
--   size64    the sizes at 64 bits
--   w64       the product's width
use Rattle.std.specs.Prelude.{true, false, ℕ, ◌-◌, ◌^◌, leb}

pub record Width : Type 0 where
  -- L: words are the numbers below 2^L, and no batch's product is above 2^L
  pub bits : ℕ
  -- a further bound joins a batch while their product is at most this
  pub limit : ℕ
  -- the size of a shuffle's next batch, with m records still to place
  pub size : ℕ → ℕ

-- m from 2,049 to 16,384, 4; from 513 to 2,048, 5; from 7 to 512, 6; from 2 to 6, m - 1; 0 or 1, finished
unfoldable pub size64 : ℕ → ℕ
size64 m = elim (leb m 6) [ true ↦ m - 1 | false ↦ elim (leb m 512) [ true ↦ 6 | false ↦ elim (leb m 2048) [ true ↦ 5 | false ↦ 4 ] ] ]

abbrev pub w64 : Width
w64 = record { bits = 64; limit = 2 ^ 56; size = size64 }
