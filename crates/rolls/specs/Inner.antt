-- What the inner functions answer.
--
--   passes L b w           the test of a word by the low half of b * w, with b the product
--   searched start found   a search's answer: the word, its place, and how many words from the start were rejected
--   checked bs outcome     the answer of a look at a batch's bounds: the number of their refusal, or their product
use Rattle.std.specs.Prelude.{Bool, List, ℕ, ◌-◌, ◌*◌, ◌%◌, ◌^◌, leb, Option, Some, None, Result, Ok, Err}
use Rattle.rules.specs.Rolls.{product, threshold}
use Rattle.rules.specs.Run.{Found, found, missing}
use Rattle.answers.specs.Outcome.{Outcome, refused, done}
use Rattle.arithmetic.specs.Products.{wrap}
use Rattle.arithmetic.specs.declared.bounds.Product.{Product}
use Rattle.rolls.specs.declared.search.Hit.{Hit}

abbrev pub passes : ℕ → ℕ → ℕ → Bool
passes L b w = leb (threshold L b) (b * w % 2 ^ L)

abbrev pub searched : ℕ → Found → Option Hit
searched start (found t) = Some (record { word = t.word; place = t.place; rejected = t.place - start })
searched start missing = None

abbrev pub checked : List ℕ → Outcome → Result Product ℕ
checked bs (refused n batch) = Err n
checked bs (done values ts) = Ok (wrap (product bs))
