-- The words behind rolls: demands 1 and 2 of it, that they settle its answer, and its stand-in.
--
--   Op                                  the operation as its caller observes it: bounds, rolls
--   Numbers W                           the numbers that it can meet, as document 01 lists them
--   FullRun L bs run                    a run of words that is named, not empty, ends below 2^L, and has 2^L / product words
--   Refuses, Gives W bs rs got          demands 1 and 2, of one call and what the caller got: the words from first to last, and no other words,
--                                       give those rolls, accepted
--   Demand1 W op, Demand2 W op          the demands, on every call
--   Settled W, StandIns W, Promise W    as of one batch
use Rattle.std.specs.Prelude.{◌≡◌, ◌↔◌, ◌≢◌, List, [], ◌∷◌, ℕ, ◌+◌, ◌-◌, ◌/◌, ◌^◌, ◌<◌, ◌≤◌}
use Rattle.rules.specs.Rolls.{product}
use Rattle.rules.specs.Width.{Width}
use Rattle.answers.specs.Outcome.{shown_behind}
use Rattle.answers.specs.declared.answer.Behind.{Behind}
use Rattle.runs.specs.Behind.{behind_refusals, seen_behind}
use Rattle.promises.specs.Demand1.{Callable, AsRefused, numbers_of}
use Rattle.promises.specs.Demand2.{Allowed, Accepts}

abbrev pub Op : Type 0
Op = List ℕ → List ℕ → Behind

abbrev pub Numbers : Width → Type 0
Numbers W = (bs rs : List ℕ) → numbers_of (behind_refusals W bs rs) ≡ 2 ∷ 4 ∷ 5 ∷ 7 ∷ []

abbrev pub Refuses : Width → List ℕ → List ℕ → Behind → Type 0
Refuses W bs rs got = AsRefused (behind_refusals W bs rs) shown_behind got.no got

pub record FullRun (L : ℕ) (bs : List ℕ) (run : Behind) : Type 0 where
  pub named : (run.no ≡ 0) × (run.next ≡ 0) × (run.rejected ≡ 0)
  pub words : (run.first ≤ run.last) × (run.last < 2 ^ L)
  pub long : run.last - run.first + 1 ≡ 2 ^ L / product bs

abbrev pub Gives : Width → List ℕ → List ℕ → Behind → Type 0
Gives W bs rs run = Allowed (behind_refusals W bs rs)
    → FullRun W.bits bs run × ((w : ℕ) → w < 2 ^ W.bits → Accepts W.bits bs w rs ↔ ((run.first ≤ w) × (w ≤ run.last)))

abbrev pub Demand1 : Width → Op → Type 0
Demand1 W op = (bs rs : List ℕ) → Callable W.bits bs → Callable W.bits rs → Refuses W bs rs (op bs rs)

abbrev pub Demand2 : Width → Op → Type 0
Demand2 W op = (bs rs : List ℕ) → Callable W.bits bs → Callable W.bits rs → Gives W bs rs (op bs rs)

abbrev pub Settled : Width → Type 0
Settled W = (a b : Op) → Demand1 W a → Demand2 W a → Demand1 W b → Demand2 W b
    → (bs rs : List ℕ) → Callable W.bits bs → Callable W.bits rs → a bs rs ≡ b bs rs

pub record StandIns (W : Width) : Type 0 where
  -- refusing every call
  pub refuses : (op : Op) → ((bs rs : List ℕ) → Callable W.bits bs → Callable W.bits rs → (op bs rs).no ≢ 0) → ¬ Demand2 W op

pub record Promise (W : Width) : Type 0 where
  pub numbers : Numbers W
  pub demand1 : Demand1 W (seen_behind W)
  pub demand2 : Demand2 W (seen_behind W)
  pub settled : Settled W
  pub stand_ins : StandIns W
