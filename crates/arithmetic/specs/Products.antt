-- A batch's product as the code holds it: by the word that it wraps to, which tells a product from 1 to 2^64.
--
--   wrap n          a product from 1 to 2^64, by the word that it wraps to: n itself, and 0 for 2^64
--   against n       the product n, where it is at most 2^64
--   unwrap L b      the product that a word b stands for, where products up to 2^L wrap: b itself, and 2^L for 0
use Rattle.std.specs.Prelude.{ℕ, ◌%◌, ◌^◌, true, false, ◌==◌, nat_le, Option, Some, None}
use Rattle.arithmetic.specs.declared.bounds.Product.{Product}

abbrev pub wrap : ℕ → Product
wrap n = record { wrapped = n % 2 ^ 64 }

unfoldable pub against : ℕ → Option Product
against n = elim (nat_le n (2 ^ 64)) [ true ↦ Some (wrap n) | false ↦ None ]

abbrev pub unwrap : ℕ → ℕ → ℕ
unwrap L b = elim (b == 0) [ true ↦ 2 ^ L | false ↦ b ]
