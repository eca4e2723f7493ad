-- Demand 3: which lists of words produce which order, and how many.
--
-- The letter: "Take up to 16,384 records, all different, any order of them, and lists with exactly one word for each batch of the
-- shuffle, used from the first. Each batch has one unbroken run of words, with a first and a last that we can name, and a list produces
-- that order, by a shuffle that is not refused, exactly when every word is in its batch's run. The run's length is 2^64 divided by the
-- product of the batch's bounds, rounded down, whichever order was wanted."
--
-- The first and the last are named by two calls. An order of the records xs is an order of their places 0 .. n - 1: the operation "rolls
-- behind an order" gives its rolls. Each batch's part of these rolls, the next of them, as many as it has bounds, goes to the operation
-- "words behind rolls", which gives the run.
--
--   Paired R xs ys                   R holds of each x and y at one place, and there are as many of both
--   places xs ys                     the place in xs of each record of ys
--   runs_named behind plan rs        the run of each batch of a plan, as the operation behind names it
--   InRun run w                      the word lies in the run
--   Produces got ys                  what a shuffle gave is not refused, and is that order
--   Demand3At W op behind order n    the demand, for n records, of a shuffle and the two ways back: the order has its rolls; each batch has
--                                    a full run (Behind, FullRun); and which lists produce the order
--   Demand3 W op behind order        the demand, for up to 16,384 records
--   OwnPlaces                        and of the records 0 .. n - 1 each is its own place, so an order of them is asked for as it is
use Rattle.std.specs.Prelude.{◌≡◌, ◌↔◌, List, [], ◌∷◌, ℕ, ◌-◌, ◌≤◌, length, take, drop, replicate}
use Rattle.rules.specs.Limits.{max_records}
use Rattle.rules.specs.Order.{place_of, Distinct, Reorders}
use Rattle.rules.specs.Reservoir.{countup}
use Rattle.rules.specs.Shuffle.{shuffle_plan}
use Rattle.rules.specs.Width.{Width}
use Rattle.answers.specs.declared.answer.Answer.{Answer}
use Rattle.answers.specs.declared.answer.Behind.{Behind}
use Rattle.promises.specs.Demand1.{Callable}
use Rattle.promises.specs.Behind.{FullRun}
use Rattle.promises.specs.Behind as behind
use Rattle.promises.specs.Order as order
use Rattle.promises.specs.Shuffle as shuffle

abbrev pub Paired : {A B : Type 0} → (A → B → Type 0) → List A → List B → Type 0
Paired R [] [] = Unit
Paired R [] (y ∷ ys) = ⊥
Paired R (x ∷ xs) [] = ⊥
Paired R (x ∷ xs) (y ∷ ys) = R x y × Paired R xs ys

unfoldable pub places : List ℕ → List ℕ → List ℕ
places xs [] = []
places xs (y ∷ ys) = place_of y xs ∷ places xs ys

unfoldable pub runs_named : behind.Op → List (List ℕ) → List ℕ → List Behind
runs_named behind [] rs = []
runs_named behind (bs ∷ plan) rs = behind bs (take (length bs) rs) ∷ runs_named behind plan (drop (length bs) rs)

abbrev pub InRun : Behind → ℕ → Type 0
InRun run w = (run.first ≤ w) × (w ≤ run.last)

abbrev pub Produces : Answer × List ℕ → List ℕ → Type 0
Produces got ys = (got.0.no ≡ 0) × (got.1 ≡ ys)

abbrev pub Demand3At : Width → shuffle.Op → behind.Op → order.Op → ℕ → Type 0
Demand3At W op behind order n = (xs ys : List ℕ) → length xs ≡ n → Distinct xs → Reorders xs ys
    → let plan : List (List ℕ) = shuffle_plan W.size n in
    let (answer, rs) = order (places xs ys) (replicate (n - 1) 0) in
    let runs : List Behind = runs_named behind plan rs in (answer.no ≡ 0) × Paired (FullRun W.bits) plan runs
    × ((words : List ℕ) → length words ≡ length plan → Callable W.bits words → Produces (op words 0 xs) ys ↔ Paired InRun runs words)

abbrev pub Demand3 : Width → shuffle.Op → behind.Op → order.Op → Type 0
Demand3 W op behind order = (n : ℕ) → n ≤ max_records → Demand3At W op behind order n

abbrev pub OwnPlaces : Type 0
OwnPlaces = (n : ℕ) (ys : List ℕ) → Reorders (countup n 0) ys → places (countup n 0) ys ≡ ys
