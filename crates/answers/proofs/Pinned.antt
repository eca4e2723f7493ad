-- What the caller sees of a refusal is so: the definitions compute it. Assumes nothing.
--
--   shown_pinned    the statement
use mathlib.Core.Path.{refl}
use Rattle.answers.specs.Pinned.{ShownPinned}

pub shown_pinned : ShownPinned
shown_pinned = record {
  answer = λ start n batch. refl;
  one_batch = λ start n batch. refl;
  behind = λ n batch. refl;
  named = λ batch. refl;
}
