-- Demand 1: every call is answered, and a refusal carries its number and changes nothing. Here is what the operations share of it; each
-- operation's own file says it of that operation.
--
-- The letter: "Every call is answered for every input, with nothing assumed checked beforehand. A refusal carries the number that the
-- rules fix for it, and each list lent to the call is then exactly what it was, also when the words run out halfway through a shuffle."
-- Document 01, "Numbers for no": "The lowest number that applies is given, and none is given otherwise. [..] A refusal returns its number,
-- the start place as given (0 where the operation takes none), and zeros elsewhere, except that 10 also names the first batch, from 0,
-- that got no word. Every lent list stays the same."
--
--   Callable L xs                             a call at width L can hold these words or bounds
--   first_of refusals                         the first whose test holds; number 0 where none holds
--   AsRefused refusals saying no got          the number given is that of the first, and where it is not 0 the caller got what is said of that
--                                             refusal, alone: the answer that shows it (answers/specs/Outcome) and the lent list as it was; no
--                                             number but 10 names a batch
--   numbers_of refusals                       the numbers of a list of refusals, in their order
--   Rising ns                                 each number is below the next
--   Lowest n refusals                         no refusal whose test holds has a number below n
--   FirstIsLowest                             the statement: of refusals whose numbers rise the first that applies is the lowest
--   Which first second third A B C Rest no    of three numbers that are looked for in this order, each tells that a sentence fails: A, B, C; where
--                                             all three hold the number is as the rest says. So it is known of the answer when each number is given,
--                                             whatever tests a list of refusals has
--   NamesBatch L plan words start no batch    at number 10 the batch is the one at which the run of the plan ended
--   FirstShort L                              the statement: number 10 names a batch of the plan; those before it have their words, and with it the
--                                             words do not suffice
use Rattle.std.specs.Prelude.{◌≡◌, ◌↔◌, ◌≢◌, true, false, not, List, [], ◌∷◌, ℕ, ◌+◌, ◌^◌, ◌<◌, ◌≤◌, T, length, take}
use Rattle.rules.specs.Order.{AllBelow}
use Rattle.rules.specs.Run.{run, short, suffices}
use Rattle.answers.specs.Outcome.{Outcome, refused, Refusal, no}

abbrev pub Callable : ℕ → List ℕ → Type 0
Callable L xs = AllBelow (2 ^ L) xs

unfoldable pub first_of : List Refusal → Refusal
first_of [] = no 0 false
first_of (r ∷ rs) = elim r.applies [ true ↦ r | false ↦ first_of rs ]

pub record AsRefused {A : Type 0} (refusals : List Refusal) (saying : Outcome → A) (number : ℕ) (got : A) : Type 0 where
  pub lowest : number ≡ (first_of refusals).number
  pub whole : number ≢ 0 → got ≡ saying (refused (first_of refusals).number (first_of refusals).batch)
  pub named : number ≢ 10 → (first_of refusals).batch ≡ 0

abbrev pub numbers_of : List Refusal → List ℕ
numbers_of [] = []
numbers_of (r ∷ rs) = r.number ∷ numbers_of rs

abbrev pub Rising : List ℕ → Type 0
Rising [] = Unit
Rising (n ∷ []) = Unit
Rising (m ∷ n ∷ ns) = (m < n) × Rising (n ∷ ns)

abbrev pub Lowest : ℕ → List Refusal → Type 0
Lowest n [] = Unit
Lowest n (r ∷ rs) = (r.applies ≡ true → n ≤ r.number) × Lowest n rs

abbrev pub FirstIsLowest : Type 0
FirstIsLowest = (refusals : List Refusal) → Rising (numbers_of refusals) → Lowest (first_of refusals).number refusals

pub record Which (first second third : ℕ) (A B C : Type 0) (Rest : ℕ → Type 0) (number : ℕ) : Type 0 where
  pub one : (number ≡ first) ↔ (¬ A)
  pub two : (number ≡ second) ↔ (A × (¬ B))
  pub three : (number ≡ third) ↔ (A × (B × (¬ C)))
  pub rest : Rest number ↔ (A × (B × C))

abbrev pub NamesBatch : ℕ → List (List ℕ) → List ℕ → ℕ → ℕ → ℕ → Type 0
NamesBatch L plan words start number batch = number ≡ 10 → run L plan words start ≡ short batch

abbrev pub FirstShort : ℕ → Type 0
FirstShort L = (plan : List (List ℕ)) (words : List ℕ) (start k : ℕ) → run L plan words start ≡ short k
    → (k < length plan) × T (suffices (run L (take k plan) words start)) × T (not (suffices (run L (take (k + 1) plan) words start)))
