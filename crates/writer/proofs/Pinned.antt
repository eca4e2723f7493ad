-- The writer of a draw sheet is as it is pinned. Assumes nothing.
--
--   write_pinned    the statement
use mathlib.Core.Path.{refl}
use Rattle.areas.specs.Area.{bytes_of, area}
use Rattle.writer.specs.Pinned.{WritePinned}
use Rattle.writer.proofs.Laid.{length-written}

pub write_pinned : WritePinned
unfolding bytes_of area
write_pinned = record { example = refl; long = length-written; none = λ n batch. refl; whole = λ values ts. refl }
