-- Writing a draw sheet: what nothing refuses is written, number by number. Assumes nothing.
--
--   write_allowed    what was written was not refused
--   fitting          what a writer accepts can be read again
--   wrote            what its caller then sees
--   promise          the promise
use mathlib.Core.Path.{◌≡◌, refl, sym, ap, ap₂, subst, ◌∙◌}
use mathlib.Core.List.{List, [], ◌∷◌, ◌++◌}
use Prim.Native.Nat.{ℕ}
use native.Mathlib.Omega.{arith}
use lib.Dec.{lit<}
use lib.ListN.{length, drop, get_or, replicate, take-append-drop}
use lib.Seq.{drop_at}
use borrow.Author.Tests.{ltb-false}
use Rattle.answers.specs.Outcome.{Outcome, done, left}
use Rattle.writer.specs.WriteSheet.{length_of, written, write_refusals, write_sheet, shown_written, seen_write}
use Rattle.writer.specs.declared.written.Written.{Written}
use Rattle.writer.proofs.Laid.{length-written, Fitting, laid_six, laid_words, laid_records, written_known}
use Rattle.sheet.proofs.Reading.{right_size}
use Rattle.promises.specs.Demand1.{first_of}
use Rattle.promises.specs.Demand2.{Allowed}
use Rattle.promises.specs.Write.{Callable, CanMeet, Refuses, When, Writes, Demand1, Demand2, Settled, StandIns, Promise}
use Rattle.promises.proofs.Calls.{below_nil, one_number}
use Rattle.promises.proofs.Refusing.{as_refused, allowed_cons, allowed_done, Numbered, named_nil, named_no, numbered_nil, numbered_no, settle}
use Rattle.promises.proofs.Which.{differ, which, none_applies, tested_size, tested_room}

can_meet : CanMeet
can_meet ws xs k w room = refl

-- on any lists
refuses : (ws xs : List ℕ) (k w : ℕ) (lent : List ℕ) → Refuses ws xs k w lent (seen_write ws xs k w lent)
unfolding write_sheet
refuses ws xs k w lent =
    as_refused (λ o. (shown_written o, left lent o)) (λ o. (shown_written o, lent)) (λ (x : Written × List ℕ). x.0.no) (λ n b. refl) (λ n b. refl)
    (done (written ws xs k w) []) refl (write_refusals ws xs k w (length lent)) (named_no 2 _ _ (named_no 3 _ _ (named_no 6 _ _ named_nil)))
    (seen_write ws xs k w lent) refl

demand1 : Demand1 seen_write
demand1 ws xs k w lent b = refuses ws xs k w lent

numbered : (ws xs : List ℕ) (k w room : ℕ) → Numbered (write_refusals ws xs k w room)
numbered ws xs k w room = numbered_no 2 _ _ (lit< tt) (numbered_no 3 _ _ (lit< tt) (numbered_no 6 _ _ (lit< tt) numbered_nil))

-- what was written was not refused
pub write_allowed : (ws xs : List ℕ) (k w : ℕ) (lent : List ℕ) → (seen_write ws xs k w lent).0.no ≡ 0 → Allowed (write_refusals ws xs k w (length lent))
write_allowed ws xs k w lent z =
    none_applies (write_refusals ws xs k w (length lent)) (numbered ws xs k w (length lent)) (sym (refuses ws xs k w lent).lowest ∙ z)

when : (ws xs : List ℕ) (k w : ℕ) (lent : List ℕ) → When ws xs k w lent (seen_write ws xs k w lent).0.no
unfolding first_of
when ws xs k w lent =
    subst (When ws xs k w lent) (sym (refuses ws xs k w lent).lowest)
    (which (record { numbers = (differ tt, differ tt, differ tt); rests = (differ tt, differ tt, differ tt) }) [] (refl, differ tt, differ tt, differ tt) _ _ _
    (tested_room 65535 (length_of ws xs)) (tested_size (length xs) k w) (tested_room (length lent) (length_of ws xs)))

module _ (ws xs : List ℕ) (k w : ℕ) (lent : List ℕ) (a : Allowed (write_refusals ws xs k w (length lent))) where
  pub fitting : Callable ws xs → Fitting ws xs k w
  fitting b =
      let (long, later) = allowed_cons _ _ a in
      record { words = b.0; records = b.1; long = ltb-false 65535 (length_of ws xs) long; size = right_size (length xs) k w (allowed_cons _ _ later).0 }

  pub wrote : seen_write ws xs k w lent
      ≡ (record { no = 0; next = 0; rejected = 0; length = length_of ws xs }, written ws xs k w ++ drop (length_of ws xs) lent)
  unfolding write_sheet
  wrote =
      ap (λ (o : Outcome). (shown_written o, left lent o)) (allowed_done (write_refusals ws xs k w (length lent)) (done (written ws xs k w) []) a)
      ∙ ap (λ (n : ℕ). (record { no = 0; next = 0; rejected = 0; length = n }, written ws xs k w ++ drop n lent)) (length-written ws xs k w)

demand2 : Demand2 seen_write
demand2 ws xs k w lent b a =
    let v = fitting ws xs k w lent a b in
    let back = drop (length_of ws xs) lent in
    rw (wrote ws xs k w lent a) (record {
      none = (refl, refl, refl);
      long = refl;
      six = laid_six ws xs k w v back;
      words = laid_words ws xs k w v back;
      records = laid_records ws xs k w v back;
      past = drop_at (written ws xs k w) back (length_of ws xs) (length-written ws xs k w);
    })

-- what is asked of the bytes leaves one list of them
known : (ws xs : List ℕ) (k w : ℕ) (lent : List ℕ) (got : Written × List ℕ) → Writes ws xs k w lent got
    → got ≡ (record { no = 0; next = 0; rejected = 0; length = length_of ws xs }, written ws xs k w ++ drop (length_of ws xs) lent)
known ws xs k w lent got v =
    let front = written_known ws xs k w got.1 v.six v.words v.records in
    let past = ap (λ (n : ℕ). drop n got.1) (sym v.long) ∙ v.past ∙ ap (λ (n : ℕ). drop n lent) v.long in
    let bytes = sym (take-append-drop (length_of ws xs) got.1) ∙ ap₂ ◌++◌ front past in
    let (n, p, r) = v.none in
    λ i. (record { no = n i; next = p i; rejected = r i; length = v.long i }, bytes i)

settled : Settled
settled a b a1 a2 b1 b2 ws xs k w lent c =
    settle (write_refusals ws xs k w (length lent)) (λ o. (shown_written o, lent)) (λ (x : Written × List ℕ). x.0.no)
    (numbered ws xs k w (length lent))
    (a ws xs k w lent) (b ws xs k w lent) (a1 ws xs k w lent c) (b1 ws xs k w lent c) (λ al.
    known ws xs k w lent _ (a2 ws xs k w lent c al) ∙ sym (known ws xs k w lent _ (b2 ws xs k w lent c al)))

-- ---- no word, the record 7, k = 1, w = 0, into 28 zeros

zeros : List ℕ
zeros = replicate 28 0

held : Callable [] (7 ∷ [])
held = (below_nil, one_number 7 (lit< tt))

stand_ins : StandIns
unfolding first_of zeros
stand_ins = record {
  refuses = λ op r d. r [] (7 ∷ []) 1 0 zeros held (d [] (7 ∷ []) 1 0 zeros held refl).none.0;
  -- the second number is 24
  keeps = λ op r d. let z : ◌≡◌ {A = ℕ} 0 24 = sym (ap (λ (l : List ℕ). get_or l 4 0) (r [] (7 ∷ []) 1 0 zeros held)) ∙ ((d [] (7 ∷ []) 1 0 zeros held refl).six.1 1 (lit< tt)).1 0 (lit< tt) in omega arith;
}

pub promise : Promise
promise = record { numbers = can_meet; demand1 = demand1; when = when; demand2 = demand2; settled = settled; stand_ins = stand_ins }
