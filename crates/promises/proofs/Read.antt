-- Reading a draw sheet: what nothing refuses is read, whatever its words are. Assumes nothing.
--
--   read_allowed    what was read was not refused
--   promise         the promise
use mathlib.Core.Path.{◌≡◌, refl, sym, ap, ap₂, subst, ◌∙◌}
use mathlib.Core.Bool.{false, ◌||◌}
use mathlib.Core.Logic.{◌↔◌}
use mathlib.Core.List.{List, [], ◌∷◌, ◌++◌}
use Prim.Native.Nat.{ℕ, ◌≤◌}
use lib.Dec.{ltb, lit<}
use lib.ListN.{length, drop}
use Rattle.rules.specs.Cut.{cut, cut_from}
use Rattle.rules.specs.Reservoir.{countup}
use Rattle.rules.specs.Rolls.{product}
use Rattle.rules.specs.Run.{find, run_from, next, rejected}
use Rattle.rules.proofs.Facts.{or_left, or_right}
use Rattle.answers.specs.Outcome.{Outcome, refused, done, decide, left}
use Rattle.answers.proofs.Deciding.{decide-refused, decide_allowed}
use Rattle.areas.specs.Area.{little, entries}
use Rattle.draws.specs.Sample.{sample}
use Rattle.sheet.specs.Sheet.{Numbers, numbers, words_of, records_of}
use Rattle.sheet.specs.ReadSheet.{read_refusals, drawn_by, shown_drawn, seen_read}
use Rattle.sheet.specs.RunSheet.{run_sheet}
use Rattle.sheet.specs.declared.drawn.Drawn.{Drawn}
use Rattle.sheet.proofs.Reading.{length_words, length_records}
use Rattle.promises.specs.Demand1.{first_of}
use Rattle.promises.specs.Demand2.{Allowed}
use Rattle.promises.specs.Read.{Op, CanMeet, When, Demand1, Demand2, Settled, StandIns, Promise}
use Rattle.promises.specs.Sheet.{Bytes}
use Rattle.promises.proofs.Calls.{all_below, all_below_lem}
use Rattle.promises.proofs.Refusing.{as_refused, allowed_done, Numbered, named_nil, named_no, numbered_nil, numbered_no, settle}
use Rattle.promises.proofs.Which.{differ, which, none_applies, tested_sound, tested_size, tested_room}

can_meet : CanMeet
can_meet s wordRoom recordRoom = refl

module _ (s words records : List ℕ) where
  -- what the caller sees, of one outcome: both lists are as they were, or both are read
  abbrev Seen : Outcome → Drawn × (List ℕ × List ℕ)
  Seen (refused n batch) = (shown_drawn s (refused n batch), (words, records))
  Seen (done values ts) = (drawn_by s 0 0, (words_of s ++ drop (numbers s).words words, records_of s ++ drop (numbers s).records records))

  seen_read_lem : seen_read s words records ≡ Seen (decide (read_refusals s (length words) (length records)) (done [] []))
  unfolding next rejected
  seen_read_lem = go (decide (read_refusals s (length words) (length records)) (done [] [])) refl
    where
      go : (o : Outcome) → decide (read_refusals s (length words) (length records)) (done [] []) ≡ o → seen_read s words records ≡ Seen o
      go (refused n batch) e =
          let d = ap (shown_drawn s) e in
          let ws = ap (left words) (decide-refused (read_refusals s (length words) (length records)) [] [] (done (words_of s) []) n batch e) in
          let xs = ap (left records) (decide-refused (read_refusals s (length words) (length records)) [] [] (done (records_of s) []) n batch e) in
          λ i. (d i, (ws i, xs i))
      go (done values ts) e =
          let d = ap (shown_drawn s) (decide_allowed (read_refusals s (length words) (length records)) [] [] (done [] []) values ts e) in
          let ws = ap (left words) (decide_allowed (read_refusals s (length words) (length records)) [] [] (done (words_of s) []) values ts e)
          ∙ ap (λ (m : ℕ). words_of s ++ drop m words) (length_words s) in
          let xs = ap (left records) (decide_allowed (read_refusals s (length words) (length records)) [] [] (done (records_of s) []) values ts e)
          ∙ ap (λ (m : ℕ). records_of s ++ drop m records) (length_records s) in
          λ i. (d i, (ws i, xs i))

demand1 : Demand1 seen_read
demand1 s words records =
    as_refused (Seen s words records) (λ o. (shown_drawn s o, (words, records))) (λ (x : Drawn × (List ℕ × List ℕ)). x.0.no) (λ n b. refl) (λ n b. refl)
    (done [] []) refl (read_refusals s (length words) (length records)) (named_no 1 _ _ (named_no 3 _ _ (named_no 6 _ _ named_nil)))
    (seen_read s words records) (seen_read_lem s words records)

numbered : (s : List ℕ) (m n : ℕ) → Numbered (read_refusals s m n)
numbered s m n = numbered_no 1 _ _ (lit< tt) (numbered_no 3 _ _ (lit< tt) (numbered_no 6 _ _ (lit< tt) numbered_nil))

-- what was read was not refused
pub read_allowed : (s words records : List ℕ) → (seen_read s words records).0.no ≡ 0 → Allowed (read_refusals s (length words) (length records))
read_allowed s words records z =
    none_applies (read_refusals s (length words) (length records)) (numbered s (length words) (length records)) (sym (demand1 s words records).lowest ∙ z)

tested_rooms : (m n a b : ℕ) → ((ltb m a || ltb n b) ≡ false) ↔ ((a ≤ m) × (b ≤ n))
tested_rooms m n a b = (
  λ e. ((tested_room m a).0 (or_left _ _ e), (tested_room n b).0 (or_right (ltb m a) _ e)),
  λ v. ap₂ ◌||◌ ((tested_room m a).1 v.0) ((tested_room n b).1 v.1),
)

when : (s words records : List ℕ) → When s words records (seen_read s words records).0.no
unfolding first_of
when s words records =
    let h : Numbers = numbers s in
    subst (When s words records) (sym (demand1 s words records).lowest)
    (which (record { numbers = (differ tt, differ tt, differ tt); rests = (differ tt, differ tt, differ tt) }) [] (refl, differ tt, differ tt, differ tt) _ _ _
    (tested_sound s) (tested_size h.records h.k h.w) (tested_rooms (length words) (length records) h.words h.records))

demand2 : Demand2 seen_read
demand2 s words records a =
    rw (seen_read_lem s words records, allowed_done (read_refusals s (length words) (length records)) (done [] []) a) (record { six = refl; front_words = refl; front_records = refl })

settled : Settled
settled a b a1 a2 b1 b2 s words records =
    settle (read_refusals s (length words) (length records)) (λ o. (shown_drawn s o, (words, records))) (λ (x : Drawn × (List ℕ × List ℕ)). x.0.no)
    (numbered s (length words) (length records))
    (a s words records) (b s words records) (a1 s words records) (b1 s words records) (λ al.
    let x = a2 s words records al in
    let y = b2 s words records al in
    let six = x.six ∙ sym y.six in
    let ws = x.front_words ∙ sym y.front_words in
    let xs = x.front_records ∙ sym y.front_records in
    λ i. (six i, (ws i, xs i)))

-- a sheet of no word and two records, of which one is asked for
short_sheet : List ℕ
short_sheet =
    0 ∷ 0 ∷ 0 ∷ 0 ∷ 24 ∷ 0 ∷ 0 ∷ 0 ∷ 2 ∷ 0 ∷ 0 ∷ 0 ∷ 24 ∷ 0 ∷ 0 ∷ 0 ∷ 1 ∷ 0 ∷ 0 ∷ 0 ∷ 0 ∷ 0 ∷ 0 ∷ 0 ∷ 7 ∷ 0 ∷ 0 ∷ 0 ∷ 8 ∷ 0 ∷ 0 ∷ 0 ∷ []

short_bytes : Bytes short_sheet
unfolding short_sheet all_below
short_bytes = all_below_lem 256 short_sheet tt

-- it can be read into a list of two records
short_read : (op : Op) → Demand2 op → (op short_sheet [] (0 ∷ 0 ∷ [])).0.no ≡ 0
unfolding first_of little short_sheet
short_read op d = ap (λ (x : Drawn). x.no) (d short_sheet [] (0 ∷ 0 ∷ []) refl).six

stand_ins : StandIns
unfolding run_sheet sample decide find run_from cut cut_from countup product little entries short_sheet
stand_ins = record {
  refuses = λ op r d. r short_sheet [] (0 ∷ 0 ∷ []) short_bytes (short_read op d);
  asks_words = λ op r d. r short_sheet [] (0 ∷ 0 ∷ []) (0 ∷ []) short_bytes refl (short_read op d);
}

pub promise : Promise
promise = record { numbers = can_meet; demand1 = demand1; when = when; demand2 = demand2; settled = settled; stand_ins = stand_ins }
