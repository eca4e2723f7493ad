-- A sheet that was read into two lists, with room for the most that a sheet holds, and then sampled. Assumes nothing.
--
--   Held, held                                            the sheet was read: nothing of it refuses, and the lists hold its words and records in front
--   not_held                                              it was not: whatever is done with it is refused as the reading was
--   drawn_unread                                          so its draw
--   held_size                                             a sheet that was read has at most 16,377 records, and its k is from 1 to as many
--   words_fit, words_count, records_fit, records_count    the lists are long enough for what was read into them
--   words_front, records_front                            what was read stands in front of them
--   drawn_done                                            what the caller sees of a sample that was done
--   drawn_refused                                         what the caller sees of a sample that was refused
--   zeros                                                 an array of so many zeros has room for as many
--   refusal_some                                          no refusal has the number 0
use mathlib.Core.Path.{◌≡◌, refl, sym, ap, ◌∙◌}
use mathlib.Core.Bool.{Bool, true, false}
use mathlib.Core.List.{List, [], ◌∷◌, ◌++◌}
use Prim.Native.Nat.{ℕ, ◌≤◌}
use native.Mathlib.Omega.{arith}
use lib.ListN.{length, take, drop, replicate, length-append, length-replicate}
use lib.Seq.{take_at}
use borrow.Author.Tests.{not-false}
use Rattle.rules.specs.Run.{next, rejected}
use Rattle.rules.specs.Width.{w64}
use Rattle.rules.proofs.Facts.{clash}
use Rattle.answers.specs.Outcome.{Outcome, refused, done, no, decide, shown, left}
use Rattle.answers.specs.Results.{number_of}
use Rattle.answers.specs.declared.answer.Answer.{Answer}
use Rattle.answers.specs.declared.refusal.Refusal.{Refusal}
use Rattle.answers.specs.declared.refusal.Refusal.TheVariants.{Sheet, Count, Sample, Zero, Product, Room, Misfit, Order, Start, Words}
use Rattle.answers.proofs.Deciding.{decide-refused, decide_allowed}
use Rattle.draws.specs.Sample.{sample}
use Rattle.sheet.specs.Sheet.{numbers, words_of, records_of, is_sound_sheet}
use Rattle.sheet.specs.ReadSheet.{unreadable, drawn_by, shown_drawn, seen_read}
use Rattle.sheet.specs.RunSheet.{run_sheet}
use Rattle.sheet.specs.declared.drawn.Drawn.{Drawn}
use Rattle.sheet.proofs.Reading.{right_size, length_words, length_records, Read, read_enough}
use Rattle.sheet.proofs.Running.{sheet_refusal, four_only}
use Rattle.sheet.proofs.Soundness.{sound_known, sheet_records}

-- ---- read

pub record Held (s wordRoom recordRoom : List ℕ) (d : Drawn) (ws xs : List ℕ) : Type 0 where
  pub passed : (o : Outcome) → decide (unreadable s) o ≡ o
  pub six : d ≡ drawn_by s 0 0
  pub words : ws ≡ words_of s ++ drop (numbers s).words wordRoom
  pub records : xs ≡ records_of s ++ drop (numbers s).records recordRoom

module _ (s wordRoom recordRoom : List ℕ) (d : Drawn) (ws xs : List ℕ) (h : 8188 ≤ length wordRoom) (k : 16377 ≤ length recordRoom)
    (got : (d ≡ (seen_read s wordRoom recordRoom).0) × ((ws ≡ (seen_read s wordRoom recordRoom).1.0) × (xs ≡ (seen_read s wordRoom recordRoom).1.1))) where
  enough : (values : List ℕ) → Read s (length wordRoom) (length recordRoom) values ≡ decide (unreadable s) (done values [])
  enough values = read_enough s (length wordRoom) (length recordRoom) values h k

  pub held : d.no ≡ 0 → Held s wordRoom recordRoom d ws xs
  unfolding run_sheet next rejected
  held z = go (decide (unreadable s) (done [] [])) refl
    where
      go : (o : Outcome) → decide (unreadable s) (done [] []) ≡ o → Held s wordRoom recordRoom d ws xs
      go (refused n b) e =
          let draw = decide-refused (unreadable s) [] [] (sample w64 (words_of s) 0 (records_of s) (numbers s).k 0) n b e in
          absurd ((four_only n (sheet_refusal w64 s 0 n b draw)).0 (sym (ap (λ (x : Drawn). x.no) (got.0 ∙ ap (shown_drawn s) (enough [] ∙ e))) ∙ z))
      go (done values ts) e =
          let allowed : (o : Outcome) → decide (unreadable s) o ≡ o = λ o. decide_allowed (unreadable s) [] [] o values ts e in
          record {
            passed = allowed;
            six = got.0 ∙ ap (shown_drawn s) (enough [] ∙ allowed (done [] []));
            words = got.1.0 ∙ ap (left wordRoom) (enough (words_of s) ∙ allowed (done (words_of s) []))
                ∙ ap (λ (m : ℕ). words_of s ++ drop m wordRoom) (length_words s);
            records = got.1.1 ∙ ap (left recordRoom) (enough (records_of s) ∙ allowed (done (records_of s) []))
                ∙ ap (λ (m : ℕ). records_of s ++ drop m recordRoom) (length_records s);
          }

  -- any operation on the sheet is then refused as the reading was
  pub not_held : (d.no ≡ 0 → ⊥) → (o : Outcome) → (d ≡ shown_drawn s (refused d.no d.batch)) × (decide (unreadable s) o ≡ refused d.no d.batch)
  not_held z o = go (decide (unreadable s) (done [] [])) refl
    where
      go : (q : Outcome) → decide (unreadable s) (done [] []) ≡ q
          → (d ≡ shown_drawn s (refused d.no d.batch)) × (decide (unreadable s) o ≡ refused d.no d.batch)
      go (refused n b) e =
          let f : d ≡ shown_drawn s (refused n b) = got.0 ∙ ap (shown_drawn s) (enough [] ∙ e) in
          let g : refused n b ≡ refused d.no d.batch = ap (λ (x : Drawn). refused x.no x.batch) (sym f) in
          (f ∙ ap (shown_drawn s) g, decide-refused (unreadable s) [] [] o n b e ∙ g)
      go (done values ts) e = absurd (z (ap (λ (x : Drawn). x.no) (got.0 ∙ ap (shown_drawn s) (enough [] ∙ e))))

  pub drawn_unread : (room : ℕ) (before : List ℕ) → (d.no ≡ 0 → ⊥)
      → (d ≡ shown_drawn s (run_sheet w64 s room)) × (before ≡ left before (run_sheet w64 s room))
  unfolding run_sheet
  drawn_unread room before z =
      let (e, f) = not_held z (sample w64 (words_of s) 0 (records_of s) (numbers s).k room) in
      (e ∙ ap (shown_drawn s) (sym f), ap (left before) (sym f))

-- ---- the size of what was read

neither_applies : (unsound size : Bool) → decide (no 1 unsound ∷ no 3 size ∷ []) (done [] []) ≡ done [] [] → (unsound ≡ false) × (size ≡ false)
unfolding decide
neither_applies true size e = clash cc
neither_applies false true e = clash cc
neither_applies false false e = (refl, refl)

pub held_size : (s wordRoom recordRoom : List ℕ) (d : Drawn) (ws xs : List ℕ) → Held s wordRoom recordRoom d ws xs
    → (d.records ≤ 16377) × (1 ≤ d.k) × (d.k ≤ d.records)
held_size s wordRoom recordRoom d ws xs v =
    let (sound, size) = neither_applies _ _ (v.passed (done [] [])) in
    let fits = right_size (numbers s).records (numbers s).k (numbers s).w size in
    rw v.six (sheet_records s (sound_known s (not-false (is_sound_sheet s) sound)), fits.0, fits.1)

-- ---- what stands in front of a list that was read into

module _ (xs rest last : List ℕ) (n : ℕ) (e : n ≡ length xs) (f : last ≡ xs ++ rest) where
  front : take n last ≡ xs
  front = ap (take n) f ∙ take_at xs rest n (sym e)

  front_fits : n ≤ length last
  front_fits = rw (f, length-append) (omega (arith, e))

  front-count : n ≡ length (take n last)
  front-count = e ∙ ap length (sym front)

module _ (s wordRoom recordRoom : List ℕ) (d : Drawn) (ws xs : List ℕ) (v : Held s wordRoom recordRoom d ws xs) where
  word_count : d.words ≡ length (words_of s)
  word_count = ap (λ (b : Drawn). b.words) v.six ∙ sym (length_words s)

  record_count : d.records ≡ length (records_of s)
  record_count = ap (λ (b : Drawn). b.records) v.six ∙ sym (length_records s)

  pub words_fit : d.words ≤ length ws
  words_fit = front_fits (words_of s) _ ws d.words word_count v.words

  pub words_count : d.words ≡ length (take d.words ws)
  words_count = front-count (words_of s) _ ws d.words word_count v.words

  pub records_fit : d.records ≤ length xs
  records_fit = front_fits (records_of s) _ xs d.records record_count v.records

  pub records_count : d.records ≡ length (take d.records xs)
  records_count = front-count (records_of s) _ xs d.records record_count v.records

  -- what stands in front of the two lists
  pub words_front : take d.words ws ≡ words_of s
  words_front = front (words_of s) _ ws d.words word_count v.words

  pub records_front : take d.records xs ≡ records_of s
  records_front = front (records_of s) _ xs d.records record_count v.records

  -- ---- what the caller sees

  module _ (room : ℕ) (before out : List ℕ) (a : Answer) (seen : let o = sample w64 (take d.words ws) 0 (take d.records xs) d.k room in
      (a ≡ shown 0 o) × (out ≡ left before o)) where
    same_draw : sample w64 (take d.words ws) 0 (take d.records xs) d.k room ≡ run_sheet w64 s room
    unfolding run_sheet
    same_draw =
        let e = words_front in
        let f = records_front in
        let g : d.k ≡ (numbers s).k = ap (λ (b : Drawn). b.k) v.six in
        let same : sample w64 (take d.words ws) 0 (take d.records xs) d.k room ≡ sample w64 (words_of s) 0 (records_of s) (numbers s).k room = cc in
        same ∙ sym (v.passed _)

    abbrev Seen : Drawn → Type 0
    Seen b = (b ≡ shown_drawn s (run_sheet w64 s room)) × (out ≡ left before (run_sheet w64 s room))

    pub drawn_refused : (b : Drawn) → (a.no ≡ 0 → ⊥) → b ≡ shown_drawn [] (refused a.no a.batch) → Seen b
    drawn_refused b h e = go (run_sheet w64 s room) (seen.0 ∙ ap (shown 0) same_draw)
      where
        go : (o : Outcome) → a ≡ shown 0 o → (b ≡ shown_drawn s o) × (out ≡ left before (run_sheet w64 s room))
        go (refused n batch) f = (e ∙ ap (λ (x : Answer). shown_drawn [] (refused x.no x.batch)) f, seen.1 ∙ ap (left before) same_draw)
        go (done values ts) f = absurd (h (ap (λ (x : Answer). x.no) f))

    -- the six numbers as they were read, with where the words end and how many were rejected
    abbrev again : Drawn
    again = record {
      no = 0;
      next = a.next;
      rejected = a.rejected;
      batch = 0;
      words = d.words;
      words_at = d.words_at;
      records = d.records;
      records_at = d.records_at;
      k = d.k;
      w = d.w;
    }

    pub drawn_done : a.no ≡ 0 → Seen again
    drawn_done z = go (run_sheet w64 s room) refl
      where
        go : (o : Outcome) → run_sheet w64 s room ≡ o → Seen again
        go (refused n batch) e =
            absurd ((four_only n (sheet_refusal w64 s room n batch e)).0 (sym (ap (λ (x : Answer). x.no) (seen.0 ∙ ap (shown 0) (same_draw ∙ e))) ∙ z))
        go (done values ts) e = (
          ap (λ (b : Drawn). record { no = 0; next = a.next; rejected = a.rejected; batch = 0; words = b.words; words_at = b.words_at; records = b.records; records_at = b.records_at; k = b.k; w = b.w }) v.six
              ∙ ap (λ (x : Answer). drawn_by s x.next x.rejected) (seen.0 ∙ ap (shown 0) (same_draw ∙ e)) ∙ ap (shown_drawn s) (sym e),
          seen.1 ∙ ap (left before) same_draw,
        )

-- ---- the arrays of the code

pub zeros : (n : ℕ) → n ≤ length (replicate {A = ℕ} n 0)
zeros n = rw (length-replicate {A = ℕ} n 0) (omega arith)

-- ---- refusals

-- no refusal has the number 0
pub refusal_some : (r : Refusal) → number_of r ≡ 0 → ⊥
refusal_some Sheet e = omega arith
refusal_some Count e = omega arith
refusal_some Sample e = omega arith
refusal_some Zero e = omega arith
refusal_some Product e = omega arith
refusal_some Room e = omega arith
refusal_some Misfit e = omega arith
refusal_some Order e = omega arith
refusal_some Start e = omega arith
refusal_some (Words batch) e = omega arith
