-- What the caller sees of a refusal, field by field.
--
-- Document 01, "Numbers for no": "A refusal returns its number, the start place as given (0 where the operation takes none), and zeros
-- elsewhere, except that 10 also names the first batch, from 0, that got no word."
--
--   ShownPinned    the statement: of a list, a shuffle, a sample and the rolls behind an order; of one batch; of the words behind rolls; and
--                  of the batch that number 10 names
use Rattle.std.specs.Prelude.{◌≡◌, [], ◌∷◌, ℕ}
use Rattle.rules.specs.Run.{short}
use Rattle.answers.specs.Outcome.{refused, no_word, shown, shown_batch, shown_behind}

pub record ShownPinned : Type 0 where
  pub answer : (start n batch : ℕ) → shown start (refused n batch) ≡ record { no = n; next = start; rejected = 0; batch = batch }
  pub one_batch : (start n batch : ℕ) → shown_batch start (refused n batch)
      ≡ record {
        no = n;
        next = start;
        rejected = 0;
        count = 0;
        rolls = 0 ∷ 0 ∷ 0 ∷ 0 ∷ 0 ∷ 0 ∷ 0 ∷ 0 ∷ 0 ∷ 0 ∷ 0 ∷ 0 ∷ 0 ∷ 0 ∷ 0 ∷ 0 ∷ [];
      }
  pub behind : (n batch : ℕ) → shown_behind (refused n batch) ≡ record { no = n; next = 0; rejected = 0; first = 0; last = 0 }
  pub named : (batch : ℕ) → (no_word (short batch)).batch ≡ batch
