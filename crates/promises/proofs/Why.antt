-- Why a place was drawn or not. An answer that tells what happened to the place is the answer that is given: nothing else happened, and the
-- method gives one series of rolls. Assumes nothing.
--
--   none_refused                                            nothing refuses where no number is given
--   rolled, later, final                                    the rolls of the draw, those of the reservoir, and where the others put a slot
--   answered, placed                                        where nothing refuses: the answer, and that the place is below n
--   can_meet, demand1, when, demand2, settled, stand_ins    parts of the promise
use mathlib.Core.Path.{◌≡◌, refl, sym, ap, subst, ◌∙◌}
use mathlib.Core.Logic.{◌↔◌, ◌⊎◌, inl, inr}
use mathlib.Core.Bool.{false}
use mathlib.Core.List.{List, [], ◌∷◌}
use Prim.Native.Nat.{ℕ, ◌+◌, ◌-◌, ◌^◌, ◌<◌, ◌≤◌}
use native.Mathlib.Omega.{arith}
use lib.Dec.{T, leb, lit<}
use lib.ListN.{length, take, drop}
use borrow.Author.Tests.{leb-false, lt-leb}
use Rattle.rules.specs.Cut.{cut, cut_from}
use Rattle.rules.specs.Order.{place_of}
use Rattle.rules.specs.Reservoir.{countup}
use Rattle.rules.specs.Rolls.{rolls, rest, product, in_range}
use Rattle.rules.specs.Run.{Run, Taken, run, run_from, find, trace, rolls_of, next, rejected}
use Rattle.rules.specs.Sample.{sample_bounds}
use Rattle.rules.specs.Shuffle.{exchange, shuffle_with, countdown, shuffle_plan_from}
use Rattle.rules.specs.Width.{Width, size64, w64}
use Rattle.rules.proofs.Widths.{good64}
use Rattle.answers.specs.Outcome.{Outcome, Refusal, no, no_word, decide, from_run}
use Rattle.areas.specs.Area.{little, entries, bytes_of, area}
use Rattle.draws.specs.Sample.{sample_plan}
use Rattle.sheet.specs.Sheet.{Numbers, numbers, words_of}
use Rattle.writer.specs.WriteSheet.{written}
use Rattle.reasons.specs.Fate.{fate_of_place, final_slot_of}
use Rattle.reasons.specs.Happened.{HeldUntil, Happened, EndsIn, Tells}
use Rattle.reasons.specs.Why.{why_refusals, why, told, shown_why, seen_why}
use Rattle.reasons.specs.declared.fate.Fate.{Fate}
use Rattle.reasons.specs.declared.fate.Fate.TheVariants as fate
use Rattle.reasons.specs.declared.reason.Reason.{Reason}
use Rattle.reasons.proofs.Fates.{fate_happened, fate_only, fate_drawn}
use Rattle.reasons.proofs.Finals.{roll_count, final_ends, final_only}
use Rattle.reasons.proofs.Pinned.{reasons_pinned}
use Rattle.promises.specs.Demand1.{first_of}
use Rattle.promises.specs.Demand2.{Allowed}
use Rattle.promises.specs.Sheet.{Bytes}
use Rattle.promises.specs.Why.{Op, CanMeet, When, Explains, Demand1, Demand2, Settled, StandIns}
use Rattle.promises.proofs.Calls.{all_below, all_below_lem}
use Rattle.promises.proofs.Method.{same_outcome}
use Rattle.promises.proofs.Refusing.{Numbered, as_refused, allowed_cons, allowed_done, named_no, named_word, numbered_no, numbered_word, settle, ten_last}
use Rattle.promises.proofs.Sheet.{fits, ten_or_none, size, rollable, method, roll_range}
use Rattle.promises.proofs.Which.{differ, neither, which, none_applies, tested_sound, tested_size}

-- ---- what refuses

pub can_meet : (W : Width) → CanMeet W
can_meet W s place = ten_last (run W.bits (sample_plan W (numbers s).records (numbers s).k) (words_of s) 0) (1 ∷ 3 ∷ 7 ∷ [])

pub demand1 : (W : Width) → Demand1 W (seen_why W)
unfolding why
demand1 W s place b =
    let plan : List (List ℕ) = sample_plan W (numbers s).records (numbers s).k in
    let ts : List Taken = trace (run W.bits plan (words_of s) 0) in
    let shown : Outcome → Reason = shown_why (numbers s).records (numbers s).k place in
    as_refused shown shown (λ (x : Reason). x.no) (λ n b. refl) (λ n b. refl)
    (from_run W.bits plan (words_of s) 0 (λ js. js))
    (reasons_pinned.answers.used (next 0 ts) (rejected 0 ts) _ (fate_of_place (numbers s).k (take ((numbers s).records - (numbers s).k) (rolls_of W.bits plan ts)) place)).0
    (why_refusals W s place) (named_no 1 _ _ (named_no 3 _ _ (named_no 7 _ _ (named_word (run W.bits plan (words_of s) 0))))) (seen_why W s place) refl

tested_place : (n place : ℕ) → (leb n place ≡ false) ↔ (place < n)
tested_place n place = (leb-false n place, lt-leb n place)

pub when : (W : Width) (s : List ℕ) (place : ℕ) → Bytes s → When s place (seen_why W s place).no
when W s place b =
    let h : Numbers = numbers s in
    let r : Run = run W.bits (sample_plan W h.records h.k) (words_of s) 0 in
    subst (When s place) (sym (demand1 W s place b).lowest)
    (which
    (record {
      numbers = (differ tt, differ tt, differ tt);
      rests = (neither 1 0 10 (differ tt) (differ tt), neither 3 0 10 (differ tt) (differ tt), neither 7 0 10 (differ tt) (differ tt));
    })
    (no_word r ∷ []) (ten_or_none 7 (differ tt) (differ tt) r) _ _ _
    (tested_sound s) (tested_size h.records h.k h.w) (tested_place h.records place))

numbered : (s : List ℕ) (place : ℕ) → Numbered (why_refusals w64 s place)
numbered s place = numbered_no 1 _ _ (lit< tt) (numbered_no 3 _ _ (lit< tt) (numbered_no 7 _ _ (lit< tt)
    (numbered_word (run 64 (sample_plan w64 (numbers s).records (numbers s).k) (words_of s) 0))))

pub none_refused : (s : List ℕ) (place : ℕ) → Bytes s → (seen_why w64 s place).no ≡ 0 → Allowed (why_refusals w64 s place)
none_refused s place b z = none_applies (why_refusals w64 s place) (numbered s place) (sym (demand1 w64 s place b).lowest ∙ z)

-- ---- what is told

module _ (s : List ℕ) where
  abbrev n : ℕ
  n = (numbers s).records

  abbrev k : ℕ
  k = (numbers s).k

  abbrev plan : List (List ℕ)
  plan = sample_plan w64 n k

  abbrev ts : List Taken
  ts = trace (run 64 plan (words_of s) 0)

  -- the rolls of the draw: those of the reservoir, and those of the final shuffle
  abbrev pub rolled : List ℕ
  rolled = rolls_of 64 plan ts

  abbrev pub later : List ℕ
  later = take (n - k) rolled

  abbrev pub final : ℕ → ℕ
  final = final_slot_of k (drop (n - k) rolled)

  module _ (place : ℕ) (a : Allowed (why_refusals w64 s place)) where
    pub answered : seen_why w64 s place ≡ told (next 0 ts) (rejected 0 ts) final (fate_of_place k later place)
    unfolding why
    answered = ap (shown_why n k place) (allowed_done (why_refusals w64 s place) (from_run 64 plan (words_of s) 0 (λ js. js)) a)

    pub placed : place < n
    placed = leb-false n place (allowed_cons _ _ (allowed_cons _ _ (allowed_cons _ _ a).1).1).0

    other : Refusal
    other = no 7 (leb n place)

    module _ (b : Bytes s) where
      range : T (in_range (sample_bounds n k) rolled)
      unfolding other
      range = roll_range good64 s other a b

      small : k ≤ n
      unfolding other
      small = (size good64 s other a).1

      -- the place is one of the first k, or has a roll
      in_reservoir : place < k + length later
      in_reservoir = omega (arith, placed, small, roll_count n k rolled small range)

      explains : Explains w64 s place (seen_why w64 s place)
      unfolding other
      explains = rw answered (go (fate_of_place k later place) (fate_happened k later place in_reservoir) ends)
        where
          ends : (slot : ℕ) → (fate_of_place k later place ≡ fate.Stayed slot) ⊎ (fate_of_place k later place ≡ fate.RolledIn slot) → EndsIn n k rolled place (final slot)
          ends slot f = final_ends n k rolled small range place slot (rw (roll_count n k rolled small range) at ((fate_drawn k later place slot in_reservoir).0 f))

          go : (f : Fate) → Happened k later place f → ((slot : ℕ) → (f ≡ fate.Stayed slot) ⊎ (f ≡ fate.RolledIn slot) → EndsIn n k rolled place (final slot))
              → Explains w64 s place (told (next 0 ts) (rejected 0 ts) final f)
          go (fate.Stayed slot) h e =
              record { none = (refl, refl); method = method good64 s other a b _ (inl (refl, h, e slot (inl refl), refl, refl, refl)) }
          go (fate.RolledIn slot) h e =
              record { none = (refl, refl); method = method good64 s other a b _ (inr (inl (refl, h, e slot (inr refl), refl, refl, refl))) }
          go (fate.Taken slot by step) h e =
              record { none = (refl, refl); method = method good64 s other a b _ (inr (inr (inl (refl, h, refl, refl)))) }
          go (fate.PassedOver roll) h e =
              record { none = (refl, refl); method = method good64 s other a b _ (inr (inr (inr (refl, h, refl, refl, refl, refl)))) }

pub demand2 : Demand2 w64 (seen_why w64)
demand2 s place b a = explains s place a b

-- ---- one answer

same-fields : (r t : Reason) → (r.no ≡ t.no) × (r.next ≡ t.next) × (r.rejected ≡ t.rejected) × (r.batch ≡ t.batch)
    → (r.reason ≡ t.reason) × (r.slot ≡ t.slot) × (r.final_slot ≡ t.final_slot) × (r.by_place ≡ t.by_place)
    × (r.by_step ≡ t.by_step) × (r.roll ≡ t.roll) → r ≡ t
same-fields r t (a, b, c, d) (e, f, g, h, j, k) = λ i. record {
  no = a i;
  next = b i;
  rejected = c i;
  batch = d i;
  reason = e i;
  slot = f i;
  final_slot = g i;
  by_place = h i;
  by_step = j i;
  roll = k i;
}

-- what tells what happened tells what is computed
module _ (n k : ℕ) (rs : List ℕ) (size : k ≤ n) (t : T (in_range (sample_bounds n k) rs)) (p : ℕ) (h : p < n) (r : Reason) (none : (r.no ≡ 0) × (r.batch ≡ 0)) where
  abbrev js : List ℕ
  js = take (n - k) rs

  abbrev told_of : Fate → Reason
  told_of = told r.next r.rejected (final_slot_of k (drop (n - k) rs))

  -- a place that held its slot to the end, and ends in a slot
  ended : (slot : ℕ) → HeldUntil k js slot p (length js) → EndsIn n k rs p r.final_slot → r.final_slot ≡ final_slot_of k (drop (n - k) rs) slot
  ended slot u e =
      let c = roll_count n k rs size t in
      final_only n k rs size t p slot r.final_slot h (rw c at (u (length js) (omega arith) (omega arith))) e

  tells_told : Tells n k rs p r → r ≡ told_of (fate_of_place k js p)
  tells_told (inl (e, w, f, a, b, c)) =
      same-fields r (told_of (fate.Stayed r.slot)) (none.0, refl, refl, none.1) (e, refl, ended r.slot w.1 f, a, b, c)
      ∙ ap told_of (fate_only k js p (fate.Stayed r.slot) w)
  tells_told (inr (inl (e, w, f, a, b, c))) =
      same-fields r (told_of (fate.RolledIn r.slot)) (none.0, refl, refl, none.1) (e, refl, ended r.slot w.1 f, a, b, c)
      ∙ ap told_of (fate_only k js p (fate.RolledIn r.slot) w)
  tells_told (inr (inr (inl (e, w, f, c)))) =
      same-fields r (told_of (fate.Taken r.slot r.by_place r.by_step)) (none.0, refl, refl, none.1) (e, refl, f, refl, refl, c)
      ∙ ap told_of (fate_only k js p (fate.Taken r.slot r.by_place r.by_step) w)
  tells_told (inr (inr (inr (e, w, d, f, a, b)))) =
      same-fields r (told_of (fate.PassedOver r.roll)) (none.0, refl, refl, none.1) (e, d, f, a, b, refl)
      ∙ ap told_of (fate_only k js p (fate.PassedOver r.roll) w)

-- what explains is what is given
as_ours : (s : List ℕ) (place : ℕ) → Allowed (why_refusals w64 s place) → Bytes s → (r : Reason) → Explains w64 s place r → r ≡ seen_why w64 s place
as_ours s place a b r x =
    let third : Refusal = no 7 (leb (n s) place) in
    let ours = method good64 s third a b (λ rs. rs ≡ rolled s) refl in
    let (e, f, g) = same_outcome 64 (plan s) (words_of s) (rollable good64 s third a) (fits s b).0 0 _ _ _ _ _ _ x.method ours in
    let same : x.method.rolls ≡ rolled s = g ∙ ours.reading in
    let tells : Tells (n s) (k s) (rolled s) place r = rw same at x.method.reading in
    tells_told (n s) (k s) (rolled s) (small s place a b) (range s place a b) place (placed s place a) r x.none tells
    ∙ (λ i. told (e i) (f i) (final s) (fate_of_place (k s) (later s) place)) ∙ sym (answered s place a)

one_answer : (s : List ℕ) (place : ℕ) → Allowed (why_refusals w64 s place) → Bytes s → (a b : Reason) → Explains w64 s place a → Explains w64 s place b → a ≡ b
one_answer s place al bytes a b x y = as_ours s place al bytes a x ∙ sym (as_ours s place al bytes b y)

pub settled : Settled w64
settled a b a1 a2 b1 b2 s place bytes =
    settle (why_refusals w64 s place) (shown_why (numbers s).records (numbers s).k place) (λ (x : Reason). x.no) (numbered s place)
    (a s place) (b s place) (a1 s place bytes) (b1 s place bytes) (λ al. one_answer s place al bytes _ _ (a2 s place bytes al) (b2 s place bytes al))

-- ---- stand-ins

-- two records alike, k = 1 and one word
twins : ℕ → List ℕ
twins word = written (word ∷ []) (7 ∷ 7 ∷ []) 1 1

-- and both of them drawn
both : List ℕ
both = written (0 ∷ []) (7 ∷ 7 ∷ []) 2 1

-- an operation that meets demand 2 gives the answer that is given
as_given : (op : Op) → Demand2 w64 op → (s : List ℕ) (place : ℕ) → Allowed (why_refusals w64 s place) → Bytes s → op s place ≡ seen_why w64 s place
as_given op d s place a b = as_ours s place a b _ (d s place b a)

-- and its reason
reason_given : (op : Op) → Demand2 w64 op → (s : List ℕ) (place : ℕ) → Allowed (why_refusals w64 s place) → Bytes s → (op s place).reason ≡ (seen_why w64 s place).reason
reason_given op d s place a b = ap (λ (r : Reason). r.reason) (as_given op d s place a b)

both_bytes : Bytes both
unfolding both all_below bytes_of area
both_bytes = all_below_lem 256 both tt

twins_bytes : (Bytes (twins 0)) × (Bytes (twins (2 ^ 63)))
unfolding twins all_below bytes_of area
twins_bytes = (all_below_lem 256 (twins 0) tt, all_below_lem 256 (twins (2 ^ 63)) tt)

pub stand_ins : StandIns w64
unfolding twins both why fate_of_place place_of first_of decide run_from find rolls_of next rejected rolls rest product cut cut_from countup size64 shuffle_plan_from countdown shuffle_with exchange little entries bytes_of area
stand_ins = record {
  refuses = λ op r d. let b = twins_bytes.0 in r (twins 0) 0 b (d (twins 0) 0 b refl).none.0;
  by_record = λ op same d.
      let s = twins 0 in
      let b = twins_bytes.0 in
      differ {m = 3} {n = 2} tt (sym (reason_given op d s 0 refl b) ∙ same s 0 1 b refl ∙ reason_given op d s 1 refl b);
  blind = λ op same d.
      let (b, c) = twins_bytes in
      differ {m = 2} {n = 4} tt (sym (reason_given op d (twins 0) 1 refl b) ∙ same (twins 0) (twins (2 ^ 63)) 1 b c refl refl ∙ reason_given op d (twins (2 ^ 63)) 1 refl c);
  -- word 0 exchanges the two slots, so that what slot 0 held is in slot 1
  unmoved = λ op same d.
      let e = as_given op d both 0 refl both_bytes in
      differ {m = 1} {n = 0} tt
      (sym (ap (λ (r : Reason). r.final_slot) e) ∙ same both 0 both_bytes (ap (λ (r : Reason). r.no) e) ∙ ap (λ (r : Reason). r.slot) e);
}
