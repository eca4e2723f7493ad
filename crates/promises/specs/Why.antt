-- Why a place was drawn or not: demands 1 and 2 of it, that they settle its answer, its stand-ins, and a statement for each further sentence
-- of document 02, M-101: "For a sheet and a record's place, tell the true reason". M-102: "M-101's first two reasons add the final slot."
--
--   Op                                     the operation as its caller observes it: the sheet's bytes, the place
--   CanMeet W                              the numbers that it can meet, in the order of document 02
--   When s place no                        which number is given: 1 and 3 as on a sheet, then 7 where the place is not below the count of records; else
--                                          none, or 10
--   Explains W s place got                 of the rolls that Lemire's method gives on the sheet's words: the answer tells what happened to the place
--   Refuses, Gives W s place got           demands 1 and 2, of one call and what the caller got
--   Demand1 W op, Demand2 W op             the demands, on every call
--   Settled W, StandIns W                  as of one batch
--   AsTheDraw W                            the statement: where the place is below n it is refused as the run of the sheet is, by the same number with the
--                                          same batch, or uses and rejects the same words
--   DrawnIn answer slot, NotDrawn          the answer says that the place was drawn, with this final slot; or that it was not
--   ThisDraw W s lent                      what is said of a sheet that was drawn: some places are drawn by its words; the records drawn are those at these
--                                          places; and the reasons 1 and 2 are given to these places, 3 and 4 to the others
--   Takers W s slot p ps                   from place p on each place held the slot until the next one took it; the last was rolled in and stayed
--   worked, with words k, fields, table    a sheet in which all four reasons occur; its records with other words and another k; the ten fields of
--                                          an answer; examples
--   Promise W                              the promise
use Rattle.std.specs.Prelude.{◌≡◌, ◌↔◌, ◌⊎◌, ◌≢◌, Bool, List, [], ◌∷◌, ◌++◌, map, ℕ, ◌+◌, ◌^◌, ◌<◌, ◌≤◌, T, length, drop, get_or, replicate}
use Rattle.rules.specs.Reservoir.{countup}
use Rattle.rules.specs.Width.{Width, w64}
use Rattle.draws.specs.Sample.{sample_plan, seen_sample}
use Rattle.sheet.specs.Sheet.{Numbers, numbers, words_of, records_of, Sound}
use Rattle.sheet.specs.RunSheet.{seen_sheet}
use Rattle.sheet.specs.declared.drawn.Drawn.{Drawn}
use Rattle.writer.specs.WriteSheet.{written}
use Rattle.reasons.specs.Happened.{Tells}
use Rattle.reasons.specs.Why.{why_refusals, shown_why, seen_why}
use Rattle.reasons.specs.declared.reason.Reason.{Reason}
use Rattle.promises.specs.Demand1.{AsRefused, Which, numbers_of}
use Rattle.promises.specs.Demand2.{Allowed, Lemire}
use Rattle.promises.specs.Examples.{same, all}
use Rattle.promises.specs.RoundTrip.{plain}
use Rattle.promises.specs.Sheet.{Bytes, RightSize}

-- ---- the demands

abbrev pub Op : Type 0
Op = List ℕ → ℕ → Reason

-- "Refusals: 1, 3 and 10 as on a sheet, and 7 when the place isn't below n, the lowest first."
abbrev pub CanMeet : Width → Type 0
CanMeet W = (s : List ℕ) (place : ℕ) → numbers_of (why_refusals W s place) ≡ 1 ∷ 3 ∷ 7 ∷ 10 ∷ []

abbrev pub When : List ℕ → ℕ → ℕ → Type 0
When s place number =
    let h : Numbers = numbers s in
    Which 1 3 7 (Sound s) (RightSize h.records h.k h.w) (place < h.records) (λ n. (n ≡ 0) ⊎ (n ≡ 10)) number

abbrev pub Refuses : Width → List ℕ → ℕ → Reason → Type 0
Refuses W s place got = AsRefused (why_refusals W s place) (shown_why (numbers s).records (numbers s).k place) got.no got

-- "The reason given must be what happened in this draw"
pub record Explains (W : Width) (s : List ℕ) (place : ℕ) (got : Reason) : Type 0 where
  pub none : (got.no ≡ 0) × (got.batch ≡ 0)
  pub method : Lemire W.bits (sample_plan W (numbers s).records (numbers s).k) (words_of s) 0 got.next got.rejected (λ rolls.
      Tells (numbers s).records (numbers s).k rolls place got)

abbrev pub Gives : Width → List ℕ → ℕ → Reason → Type 0
Gives W s place got = Allowed (why_refusals W s place) → Explains W s place got

abbrev pub Demand1 : Width → Op → Type 0
Demand1 W op = (s : List ℕ) (place : ℕ) → Bytes s → Refuses W s place (op s place)

abbrev pub Demand2 : Width → Op → Type 0
Demand2 W op = (s : List ℕ) (place : ℕ) → Bytes s → Gives W s place (op s place)

-- "exactly one applies"
abbrev pub Settled : Width → Type 0
Settled W = (a b : Op) → Demand1 W a → Demand2 W a → Demand1 W b → Demand2 W b → (s : List ℕ) (place : ℕ) → Bytes s → a s place ≡ b s place

pub record StandIns (W : Width) : Type 0 where
  -- refusing every call
  pub refuses : (op : Op) → ((s : List ℕ) (place : ℕ) → Bytes s → (op s place).no ≢ 0) → ¬ Demand2 W op
  -- "It goes by place, since record numbers may repeat": going by the record at the place
  pub by_record : (op : Op)
      → ((s : List ℕ) (p q : ℕ) → Bytes s → get_or (records_of s) p 0 ≡ get_or (records_of s) q 0 → (op s p).reason ≡ (op s q).reason) → ¬ Demand2 W op
  -- without a look at the words
  pub blind : (op : Op)
      → ((s t : List ℕ) (place : ℕ) → Bytes s → Bytes t → numbers s ≡ numbers t → records_of s ≡ records_of t → (op s place).reason ≡ (op t place).reason)
      → ¬ Demand2 W op
  -- the final slot told is the reservoir's
  pub unmoved : (op : Op) → ((s : List ℕ) (place : ℕ) → Bytes s → (op s place).no ≡ 0 → (op s place).final_slot ≡ (op s place).slot) → ¬ Demand2 W op

-- ---- the draw that the reasons are of

abbrev pub AsTheDraw : Width → Type 0
AsTheDraw W = (s lent : List ℕ) (place : ℕ) → (numbers s).k ≤ length lent → place < (numbers s).records
    → let d : Drawn = (seen_sheet W s lent).0 in
    let r : Reason = seen_why W s place in
    (r.no ≡ d.no) × (r.next ≡ d.next) × (r.rejected ≡ d.rejected) × (r.batch ≡ d.batch)

abbrev pub DrawnIn : Reason → ℕ → Type 0
DrawnIn r slot = ((r.reason ≡ 1) ⊎ (r.reason ≡ 2)) × (r.final_slot ≡ slot)

abbrev pub NotDrawn : Reason → Type 0
NotDrawn r = (r.reason ≡ 3) ⊎ (r.reason ≡ 4)

pub record ThisDraw (W : Width) (s lent : List ℕ) : Type 0 where
  pub places : List ℕ
  -- they are the sample, by the same words, of the places 0, 1, .., n - 1 themselves
  pub sampled : (seen_sample W (words_of s) 0 (countup (numbers s).records 0) (numbers s).k (replicate (numbers s).k 0)).1 ≡ places
  pub records : (seen_sheet W s lent).1 ≡ map (λ p. get_or (records_of s) p 0) places ++ drop (numbers s).k lent
  pub drawn : (p slot : ℕ) → p < (numbers s).records → DrawnIn (seen_why W s p) slot ↔ ((slot < (numbers s).k) × (get_or places slot 0 ≡ p))
  pub not_drawn : (p : ℕ) → p < (numbers s).records → NotDrawn (seen_why W s p) ↔ ((slot : ℕ) → slot < (numbers s).k → get_or places slot 0 ≢ p)

-- "it held a slot until a later record, named by place and step (place i has step i - k), took that slot"
abbrev pub Takers : Width → List ℕ → ℕ → ℕ → List ℕ → Type 0
Takers W s slot p [] = let r : Reason = seen_why W s p in (r.reason ≡ 2) × (r.slot ≡ slot)
Takers W s slot p (q ∷ qs) =
    let r : Reason = seen_why W s p in
    (r.reason ≡ 3) × (r.slot ≡ slot) × (r.by_place ≡ q) × (q ≡ (numbers s).k + r.by_step) × (p < q) × Takers W s slot q qs

-- ---- examples

-- Bounds 3 and 4 are one batch; it rejects the word 2^63, and 2^63 + 1 gives the rolls 1 and 2. So place 2 takes slot 1, which place 1 held, and
-- place 3 takes none. Then word 0 exchanges the two slots.
abbrev pub worked : List ℕ
worked = written (2 ^ 63 ∷ (2 ^ 63 + 1) ∷ 0 ∷ []) (101 ∷ 205 ∷ 309 ∷ 412 ∷ []) 2 1

-- the same records, drawn by these words, with this k; the words may be too few
abbrev pub with : List ℕ → ℕ → List ℕ
with words k = written words (101 ∷ 205 ∷ 309 ∷ 412 ∷ []) k 1

abbrev pub fields : Reason → List ℕ
fields r = r.no ∷ r.next ∷ r.rejected ∷ r.batch ∷ r.reason ∷ r.slot ∷ r.final_slot ∷ r.by_place ∷ r.by_step ∷ r.roll ∷ []

unfoldable pub table : List Bool
table =
    -- stayed in slot 0, and is in slot 1 in the end; its slot 1 was taken by place 2 at step 0; rolled into slot 1, and is in slot 0 in the end;
    -- its own roll was 2
    same (fields (seen_why w64 worked 0)) (0 ∷ 3 ∷ 1 ∷ 0 ∷ 1 ∷ 0 ∷ 1 ∷ 0 ∷ 0 ∷ 0 ∷ [])
    ∷ same (fields (seen_why w64 worked 1)) (0 ∷ 3 ∷ 1 ∷ 0 ∷ 3 ∷ 1 ∷ 0 ∷ 2 ∷ 0 ∷ 0 ∷ [])
    ∷ same (fields (seen_why w64 worked 2)) (0 ∷ 3 ∷ 1 ∷ 0 ∷ 2 ∷ 1 ∷ 0 ∷ 0 ∷ 0 ∷ 0 ∷ [])
    ∷ same (fields (seen_why w64 worked 3)) (0 ∷ 3 ∷ 1 ∷ 0 ∷ 4 ∷ 0 ∷ 0 ∷ 0 ∷ 0 ∷ 2 ∷ [])
    -- three slots: word 0 rolls 0 with bound 4, so that place 3 takes slot 0; word 1 shuffles the slots 0, 1, 2 to 1, 2, 0
    ∷ same (fields (seen_why w64 (with (0 ∷ 1 ∷ []) 3) 0)) (0 ∷ 2 ∷ 0 ∷ 0 ∷ 3 ∷ 0 ∷ 0 ∷ 3 ∷ 0 ∷ 0 ∷ [])
    ∷ same (fields (seen_why w64 (with (0 ∷ 1 ∷ []) 3) 1)) (0 ∷ 2 ∷ 0 ∷ 0 ∷ 1 ∷ 1 ∷ 0 ∷ 0 ∷ 0 ∷ 0 ∷ [])
    ∷ same (fields (seen_why w64 (with (0 ∷ 1 ∷ []) 3) 2)) (0 ∷ 2 ∷ 0 ∷ 0 ∷ 1 ∷ 2 ∷ 1 ∷ 0 ∷ 0 ∷ 0 ∷ [])
    ∷ same (fields (seen_why w64 (with (0 ∷ 1 ∷ []) 3) 3)) (0 ∷ 2 ∷ 0 ∷ 0 ∷ 2 ∷ 0 ∷ 2 ∷ 0 ∷ 0 ∷ 0 ∷ [])
    -- on the sheet of document 01 slot 0 was taken twice: the first taker is named
    ∷ same (fields (seen_why w64 plain 0)) (0 ∷ 2 ∷ 1 ∷ 0 ∷ 3 ∷ 0 ∷ 0 ∷ 1 ∷ 0 ∷ 0 ∷ [])
    ∷ same (fields (seen_why w64 plain 1)) (0 ∷ 2 ∷ 1 ∷ 0 ∷ 3 ∷ 0 ∷ 0 ∷ 2 ∷ 1 ∷ 0 ∷ [])
    ∷ same (fields (seen_why w64 plain 2)) (0 ∷ 2 ∷ 1 ∷ 0 ∷ 2 ∷ 0 ∷ 0 ∷ 0 ∷ 0 ∷ 0 ∷ [])
    -- 10, also where only the final shuffle lacks words; and 7, 3 and 1 before it
    ∷ same (fields (seen_why w64 (with (2 ^ 63 ∷ []) 2) 3)) (10 ∷ 0 ∷ 0 ∷ 0 ∷ 0 ∷ 0 ∷ 0 ∷ 0 ∷ 0 ∷ 0 ∷ [])
    ∷ same (fields (seen_why w64 (with (2 ^ 63 ∷ (2 ^ 63 + 1) ∷ []) 2) 3)) (10 ∷ 0 ∷ 0 ∷ 1 ∷ 0 ∷ 0 ∷ 0 ∷ 0 ∷ 0 ∷ 0 ∷ [])
    ∷ same (fields (seen_why w64 (with (2 ^ 63 ∷ []) 2) 4)) (7 ∷ 0 ∷ 0 ∷ 0 ∷ 0 ∷ 0 ∷ 0 ∷ 0 ∷ 0 ∷ 0 ∷ [])
    ∷ same (fields (seen_why w64 (with (2 ^ 63 ∷ []) 2) 9)) (7 ∷ 0 ∷ 0 ∷ 0 ∷ 0 ∷ 0 ∷ 0 ∷ 0 ∷ 0 ∷ 0 ∷ [])
    ∷ same (fields (seen_why w64 (with (2 ^ 63 ∷ []) 5) 4)) (3 ∷ 0 ∷ 0 ∷ 0 ∷ 0 ∷ 0 ∷ 0 ∷ 0 ∷ 0 ∷ 0 ∷ [])
    ∷ same (fields (seen_why w64 [] 4)) (1 ∷ 0 ∷ 0 ∷ 0 ∷ 0 ∷ 0 ∷ 0 ∷ 0 ∷ 0 ∷ 0 ∷ [])
    ∷ []

pub record Promise (W : Width) : Type 0 where
  pub numbers : CanMeet W
  pub demand1 : Demand1 W (seen_why W)
  pub when : (s : List ℕ) (place : ℕ) → Bytes s → When s place (seen_why W s place).no
  pub demand2 : Demand2 W (seen_why W)
  pub settled : Settled W
  pub stand_ins : StandIns W
  pub as_the_draw : AsTheDraw W
  pub this_draw : (s lent : List ℕ) → Bytes s → (seen_sheet W s lent).0.no ≡ 0 → ThisDraw W s lent
  pub takers : (s : List ℕ) (p : ℕ) → Bytes s → let r : Reason = seen_why W s p in r.reason ≡ 3 → (ps : List ℕ) × Takers W s r.slot p ps
  pub examples : T (all table)
