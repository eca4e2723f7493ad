-- Running a draw sheet: demands 1 and 2 of it, that they settle its answer and the lent list, and its stand-in.
--
--   Op                                    the operation as its caller observes it: the sheet's bytes, the lent list of slots
--   Bytes s                               a call can hold these bytes
--   CanMeet W                             the numbers that it can meet, as document 01 lists them
--   Sound                                 the test of number 1 is the sentence of document 01
--   Fits                                  the words of a sheet are below 2^64 and its records below 2^32, so that demand 2 of a sheet is Lemire's
--                                         method on the sheet's own words
--   RightSize n k w                       k and w are right on a sheet of n records, as document 01 says it
--   When s lent no                        which number is given: 1 where the sheet is not sound, then 3 where k and w are not right, then 6 where the
--                                         lent list is too short; else none, or 10
--   answer_of d                           the answer without the six numbers
--   Refuses, Draws, Gives W s lent got    demands 1 and 2, of one call and what the caller got: the sample from start 0 of the sheet's words
--                                         and records, by the very demand of the sample; and the six numbers come back with it
--   Demand1 W op, Demand2 W op            the demands, on every call
--   BatchNamed W                          at number 10 the batch is the one at which the run ended
--   Settled W, StandIns W, Promise W      as of one batch
use Rattle.std.specs.Prelude.{◌≡◌, ◌↔◌, ◌⊎◌, ◌≢◌, List, [], ◌∷◌, ◌++◌, ℕ, ◌^◌, ◌≤◌, T, length, drop}
use Rattle.rules.specs.Order.{AllBelow}
use Rattle.rules.specs.Sample.{sample_with}
use Rattle.rules.specs.Width.{Width}
use Rattle.answers.specs.declared.answer.Answer.{Answer}
use Rattle.draws.specs.Sample.{sample_plan}
use Rattle.sheet.specs.Sheet.{Numbers, numbers, words_of, records_of, is_sound_sheet}
use Rattle.sheet.specs.Sheet as sheet
use Rattle.sheet.specs.ReadSheet.{drawn_by, shown_drawn}
use Rattle.sheet.specs.RunSheet.{sheet_refusals, seen_sheet}
use Rattle.sheet.specs.declared.drawn.Drawn.{Drawn}
use Rattle.promises.specs.Demand1.{AsRefused, Which, numbers_of, NamesBatch}
use Rattle.promises.specs.Demand2.{Allowed, ByMethod}

abbrev pub Op : Type 0
Op = List ℕ → List ℕ → Drawn × List ℕ

abbrev pub Bytes : List ℕ → Type 0
Bytes s = AllBelow 256 s

abbrev pub CanMeet : Width → Type 0
CanMeet W = (s : List ℕ) (room : ℕ) → numbers_of (sheet_refusals W s room) ≡ 1 ∷ 3 ∷ 6 ∷ 10 ∷ []

abbrev pub Sound : Type 0
Sound = (s : List ℕ) → T (is_sound_sheet s) ↔ sheet.Sound s

abbrev pub Fits : Type 0
Fits = (s : List ℕ) → Bytes s → AllBelow (2 ^ 64) (words_of s) × AllBelow (2 ^ 32) (records_of s)

abbrev pub RightSize : ℕ → ℕ → ℕ → Type 0
RightSize n k w = (1 ≤ k) × (k ≤ n) × (w ≤ k)

abbrev pub When : List ℕ → List ℕ → ℕ → Type 0
When s lent number =
    let h : Numbers = numbers s in
    Which 1 3 6 (sheet.Sound s) (RightSize h.records h.k h.w) (h.k ≤ length lent) (λ n. (n ≡ 0) ⊎ (n ≡ 10)) number

abbrev pub answer_of : Drawn → Answer
answer_of d = record { no = d.no; next = d.next; rejected = d.rejected; batch = d.batch }

abbrev pub Refuses : Width → List ℕ → List ℕ → Drawn × List ℕ → Type 0
Refuses W s lent got = AsRefused (sheet_refusals W s (length lent)) (λ o. (shown_drawn s o, lent)) got.0.no got

pub record Draws (W : Width) (s lent : List ℕ) (got : Drawn × List ℕ) : Type 0 where
  pub sample : let k : ℕ = (numbers s).k in
      ByMethod W.bits (sample_plan W (numbers s).records k) (words_of s) 0 (λ rs. sample_with k rs (records_of s) ++ drop k lent)
      (answer_of got.0, got.1)
  pub six : got.0 ≡ drawn_by s got.0.next got.0.rejected

abbrev pub Gives : Width → List ℕ → List ℕ → Drawn × List ℕ → Type 0
Gives W s lent got = Allowed (sheet_refusals W s (length lent)) → Draws W s lent got

abbrev pub Demand1 : Width → Op → Type 0
Demand1 W op = (s lent : List ℕ) → Bytes s → Refuses W s lent (op s lent)

abbrev pub BatchNamed : Width → Type 0
BatchNamed W = (s lent : List ℕ) → Bytes s
    → let d : Drawn = (seen_sheet W s lent).0 in NamesBatch W.bits (sample_plan W (numbers s).records (numbers s).k) (words_of s) 0 d.no d.batch

abbrev pub Demand2 : Width → Op → Type 0
Demand2 W op = (s lent : List ℕ) → Bytes s → Gives W s lent (op s lent)

abbrev pub Settled : Width → Type 0
Settled W = (a b : Op) → Demand1 W a → Demand2 W a → Demand1 W b → Demand2 W b → (s lent : List ℕ) → Bytes s → a s lent ≡ b s lent

pub record StandIns (W : Width) : Type 0 where
  -- refusing every call
  pub refuses : (op : Op) → ((s lent : List ℕ) → Bytes s → (op s lent).0.no ≢ 0) → ¬ Demand2 W op

pub record Promise (W : Width) : Type 0 where
  pub numbers : CanMeet W
  pub sound : Sound
  pub fits : Fits
  pub demand1 : Demand1 W (seen_sheet W)
  pub batch : BatchNamed W
  pub when : (s lent : List ℕ) → Bytes s → When s lent (seen_sheet W s lent).0.no
  pub demand2 : Demand2 W (seen_sheet W)
  pub settled : Settled W
  pub stand_ins : StandIns W
