-- The counts that document 01 allows.
--
--   max_batch      bounds in one batch, 1 to 16
--   max_bounds     bounds in a list, 0 to 4,096
--   max_records    records, 0 to 16,384
use Rattle.std.specs.Prelude.{ℕ}

abbrev pub max_batch : ℕ
max_batch = 16

abbrev pub max_bounds : ℕ
max_bounds = 4096

abbrev pub max_records : ℕ
max_records = 16384
