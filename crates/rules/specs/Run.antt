-- Words are taken in list order, one accepted word for each batch of a plan. Over a width L.
--
--   Taken                     the word that a batch took, and its place in the list
--   find test words place     the first word that passes the test, found, or missing; the first word of the list stands at the place
--   Found                     what a search comes to
--   Run                       what each batch took, in order, or the number of the first batch, from 0, that got no word
--   run L plan words start    the run of the words over the plan, a list of batches, from the start on
--   run_from, after           the batches that are left; what one batch took, in front of what the later ones did
--   suffices ran              whether the words suffice: each batch got its word
--   trace ran                 what each batch took
--   rolls_of L plan trace     the rolls of the whole plan, batch after batch
--   next start trace          the place after the last word used; the start where none was
--   rejected start trace      how many words were rejected: those before each taken word, back to the one taken before
use Rattle.std.specs.Prelude.{Bool, true, false, List, [], ◌∷◌, ◌++◌, ℕ, ◌+◌, ◌-◌, drop}
use Rattle.rules.specs.Rolls.{rolls, accepted}

pub record Taken : Type 0 where
  pub place : ℕ
  pub word : ℕ

pub data Found : Type 0 where
  found : Taken → Found
  missing : Found

unfoldable pub find : (ℕ → Bool) → List ℕ → ℕ → Found
find test [] place = missing
find test (w ∷ ws) place = elim (test w) [ true ↦ found (record { place = place; word = w }) | false ↦ find test ws (place + 1) ]

pub data Run : Type 0 where
  ran : List Taken → Run
  short : ℕ → Run

abbrev pub after : Taken → Run → Run
after t (ran ts) = ran (t ∷ ts)
after t (short batch) = short batch

-- the batches that are left, from number batch on: the next one takes the first word from the start on that is accepted
unfoldable pub run_from : ℕ → List (List ℕ) → List ℕ → ℕ → ℕ → Run
run_from L [] words start batch = ran []
run_from L (bs ∷ plan) words start batch =
    elim (find (accepted L bs) (drop start words) start)
    [ missing ↦ short batch | found t ↦ after t (run_from L plan words (t.place + 1) (batch + 1)) ]

abbrev pub run : ℕ → List (List ℕ) → List ℕ → ℕ → Run
run L plan words start = run_from L plan words start 0

abbrev pub suffices : Run → Bool
suffices (ran ts) = true
suffices (short batch) = false

-- Never met: the trace of a run that is short, which is refused. The value there is arbitrary.
abbrev pub trace : Run → List Taken
trace (ran ts) = ts
trace (short batch) = []

-- Never met: fewer or more words than batches. The value there is arbitrary.
unfoldable pub rolls_of : ℕ → List (List ℕ) → List Taken → List ℕ
rolls_of L [] ts = []
rolls_of L (bs ∷ plan) [] = []
rolls_of L (bs ∷ plan) (t ∷ ts) = rolls L bs t.word ++ rolls_of L plan ts

unfoldable pub next : ℕ → List Taken → ℕ
next start [] = start
next start (t ∷ ts) = next (t.place + 1) ts

unfoldable pub rejected : ℕ → List Taken → ℕ
rejected start [] = 0
rejected start (t ∷ ts) = t.place - start + rejected (t.place + 1) ts
