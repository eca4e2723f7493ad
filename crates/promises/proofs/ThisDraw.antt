-- The draw that the reasons are of: refused as it is, drawn as it is, and each taker followed to the place that was drawn. Assumes nothing.
--
--   as_the_draw    why is refused as the run of the sheet is, or uses the same words
--   this_draw      the reasons of a sheet that was drawn
--   takers         the takers of a slot, up to the one that stayed
--   promise        the promise of why, at 64 bits
use mathlib.Core.Path.{◌≡◌, refl, sym, ap, ◌∙◌}
use mathlib.Core.Logic.{◌↔◌, ◌⊎◌, inl, inr, ◌≢◌}
use mathlib.Core.Bool.{Bool, true, false}
use mathlib.Core.List.{List, [], ◌∷◌, ◌++◌, map, append-nil}
use Prim.Native.Nat.{ℕ, zero, suc, ◌+◌, ◌-◌, ◌<◌, ◌≤◌}
use native.Mathlib.Omega.{arith}
use lib.Dec.{T, leb, ltb}
use lib.ListN.{length, take, drop, get_or, replicate, drop_of_length-le, length-replicate}
use borrow.Author.Tests.{le-ltb, lt-leb}
use Rattle.rules.specs.Cut.{cut, cut_from}
use Rattle.rules.specs.Order.{place_of}
use Rattle.rules.specs.Reservoir.{countup}
use Rattle.rules.specs.Rolls.{product, in_range}
use Rattle.rules.specs.Rolls as word
use Rattle.rules.specs.Run.{Run, Taken, run, run_from, find, trace, rolls_of, next, rejected}
use Rattle.rules.specs.Sample.{sample_bounds, sample_with}
use Rattle.rules.specs.Shuffle.{exchange, shuffle_with, countdown, shuffle_plan_from}
use Rattle.rules.specs.Width.{Width, size64, w64}
use Rattle.rules.proofs.Facts.{clash}
use Rattle.rules.proofs.Rows.{length-countup}
use Rattle.rules.proofs.Samples.{length_drawn, sample-places}
use Rattle.rules.proofs.Widths.{good64}
use Rattle.answers.specs.Outcome.{Outcome, refused, done, Refusal, no, no_word, decide, from_run, left}
use Rattle.answers.proofs.Deciding.{decide_here, decide_past, decide_none, decide-append, in_count}
use Rattle.areas.specs.Area.{little, entries, bytes_of, area}
use Rattle.draws.specs.Sample.{sample_plan, sample_refusals, sampled, sample, seen_sample}
use Rattle.sheet.specs.Sheet.{numbers, words_of, records_of}
use Rattle.sheet.specs.ReadSheet.{unreadable, shown_drawn}
use Rattle.sheet.specs.RunSheet.{sheet_refusals, run_sheet, seen_sheet}
use Rattle.sheet.proofs.Reading.{length_records}
use Rattle.sheet.proofs.Running.{sheet_flat}
use Rattle.reasons.specs.Fate.{fate_of_place, final_slot_of}
use Rattle.reasons.specs.Happened.{Holds}
use Rattle.reasons.specs.Why.{why_refusals, why, told, shown_why, seen_why}
use Rattle.reasons.specs.declared.fate.Fate.{Fate}
use Rattle.reasons.specs.declared.fate.Fate.TheVariants as fate
use Rattle.reasons.specs.declared.reason.Reason.{Reason}
use Rattle.reasons.proofs.Fates.{fate_drawn, fate_next, taken_range}
use Rattle.reasons.proofs.Finals.{roll_count, final_ends, final_only, final-from}
use Rattle.reasons.proofs.Pinned.{reasons_pinned}
use Rattle.promises.specs.Demand2.{Allowed}
use Rattle.promises.specs.Sheet.{Bytes}
use Rattle.promises.specs.Why.{AsTheDraw, DrawnIn, NotDrawn, ThisDraw, Takers, Promise, table}
use Rattle.promises.proofs.Refusing.{allowed_cons, allowed_done, first_past}
use Rattle.promises.proofs.Sheet.{few, size, words_left, roll_range}
use Rattle.promises.proofs.Sheet as sheet
use Rattle.promises.proofs.Which.{differ, neither}
use Rattle.promises.proofs.Why.{can_meet, demand1, when, none_refused, rolled, later, final, answered, placed, demand2, settled, stand_ins}

-- ---- refused as the draw is

-- the same decision of other values
abbrev trade : List ℕ → Outcome → Outcome
trade us (refused n batch) = refused n batch
trade us (done vs ts) = done us ts

traded : (rs : List Refusal) (vs us : List ℕ) (ts : List Taken) → decide rs (done us ts) ≡ trade us (decide rs (done vs ts))
traded [] vs us ts = decide_none (done us ts) ∙ sym (ap (trade us) (decide_none (done vs ts)))
traded (r ∷ rs) vs us ts = go r.applies refl (traded rs vs us ts)
  where
    go : (b : Bool) → r.applies ≡ b → decide rs (done us ts) ≡ trade us (decide rs (done vs ts))
        → decide (r ∷ rs) (done us ts) ≡ trade us (decide (r ∷ rs) (done vs ts))
    go true e ih = decide_here r rs (done us ts) e ∙ sym (ap (trade us) (decide_here r rs (done vs ts) e))
    go false e ih = decide_past r rs (done us ts) e ∙ ih ∙ sym (ap (trade us) (decide_past r rs (done vs ts) e))

-- a refusal in the middle that does not apply may be left out
left_out : (rs : List Refusal) (r : Refusal) (ss : List Refusal) (o : Outcome) → r.applies ≡ false → decide (rs ++ r ∷ ss) o ≡ decide (rs ++ ss) o
left_out rs r ss o e = decide-append rs (r ∷ ss) o ∙ ap (decide rs) (decide_past r ss o e) ∙ sym (decide-append rs ss o)

pub as_the_draw : (W : Width) → AsTheDraw W
unfolding why
as_the_draw W s lent place room h =
    let n : ℕ = (numbers s).records in
    let k : ℕ = (numbers s).k in
    let plan : List (List ℕ) = sample_plan W n k in
    let r : Run = run W.bits plan (words_of s) 0 in
    let rs : List Refusal = unreadable s ++ no_word r ∷ [] in
    let js : List ℕ = rolls_of W.bits plan (trace r) in
    let xs : List ℕ = records_of s in
    let draw : run_sheet W s (length lent) ≡ decide rs (done (sample_with k js xs) (trace r)) =
    sheet_flat W s (length lent) ∙ left_out (unreadable s) (no 6 (ltb (length lent) k)) (no_word r ∷ []) _ (le-ltb (length lent) k room)
    ∙ ap (λ (m : ℕ). decide rs (from_run W.bits (sample_plan W m k) (words_of s) 0 (λ rs. sample_with k rs xs))) (length_records s) in
    let told-too : why W s place ≡ trade js (run_sheet W s (length lent)) =
    left_out (unreadable s) (no 7 (leb n place)) (no_word r ∷ []) _ (lt-leb n place h) ∙ traded rs _ js (trace r) ∙ sym (ap (trade js) draw) in
    rw told-too (go n k js (run_sheet W s (length lent)))
  where
    go : (n k : ℕ) (js : List ℕ) (o : Outcome) → let r : Reason = shown_why n k place (trade js o) in
        (r.no ≡ (shown_drawn s o).no) × (r.next ≡ (shown_drawn s o).next) × (r.rejected ≡ (shown_drawn s o).rejected) × (r.batch ≡ (shown_drawn s o).batch)
    go n k js (refused number batch) = (refl, refl, refl, refl)
    go n k js (done vs ts) = reasons_pinned.answers.used (next 0 ts) (rejected 0 ts) (final_slot_of k (drop (n - k) js)) (fate_of_place k (take (n - k) js) place)

-- ---- drawn or not, as the answer says

-- told to be drawn into the slot
abbrev Is : Fate → ℕ → Type 0
Is f slot = (f ≡ fate.Stayed slot) ⊎ (f ≡ fate.RolledIn slot)

taken_not : (j by step slot : ℕ) → ¬ Is (fate.Taken j by step) slot
taken_not j by step slot (inl e) = clash cc
taken_not j by step slot (inr e) = clash cc

passed_not : (roll slot : ℕ) → ¬ Is (fate.PassedOver roll) slot
passed_not roll slot (inl e) = clash cc
passed_not roll slot (inr e) = clash cc

-- told to be drawn, with this final slot
told_drawn : (f : Fate) (a b : ℕ) (final : ℕ → ℕ) (slot : ℕ) → DrawnIn (told a b final f) slot ↔ ((j : ℕ) × Is f j × (final j ≡ slot))
told_drawn (fate.Stayed i) a b final slot = (λ d. (i, inl refl, d.1), λ (j, e, g). (inl refl, same j e g))
  where
    same : (j : ℕ) → Is (fate.Stayed i) j → final j ≡ slot → final i ≡ slot
    same j (inl e) g = let s : i ≡ j = cc in ap final s ∙ g
    same j (inr e) g = clash cc
told_drawn (fate.RolledIn i) a b final slot = (λ d. (i, inr refl, d.1), λ (j, e, g). (inr refl, same j e g))
  where
    same : (j : ℕ) → Is (fate.RolledIn i) j → final j ≡ slot → final i ≡ slot
    same j (inl e) g = clash cc
    same j (inr e) g = let s : i ≡ j = cc in ap final s ∙ g
told_drawn (fate.Taken i by step) a b final slot =
    (λ d. absurd (neither 3 1 2 (differ tt) (differ tt) d.0), λ (j, e, g). absurd (taken_not i by step j e))
told_drawn (fate.PassedOver roll) a b final slot =
    (λ d. absurd (neither 4 1 2 (differ tt) (differ tt) d.0), λ (j, e, g). absurd (passed_not roll j e))

told_not : (f : Fate) (a b : ℕ) (final : ℕ → ℕ) → NotDrawn (told a b final f) ↔ ((slot : ℕ) → ¬ Is f slot)
told_not (fate.Stayed j) a b final = (λ d. absurd (neither 1 3 4 (differ tt) (differ tt) d), λ n. absurd (n j (inl refl)))
told_not (fate.RolledIn j) a b final = (λ d. absurd (neither 2 3 4 (differ tt) (differ tt) d), λ n. absurd (n j (inr refl)))
told_not (fate.Taken j by step) a b final = (λ d. taken_not j by step, λ n. inl refl)
told_not (fate.PassedOver roll) a b final = (λ d. passed_not roll, λ n. inr refl)

-- ---- this draw

-- the third of some refusals is another, which does not apply
instead : (r t u v : Refusal) (rs : List Refusal) → v.applies ≡ false → Allowed (r ∷ t ∷ u ∷ rs) → Allowed (r ∷ t ∷ v ∷ rs)
instead r t u v rs e a =
    let (er, b) = allowed_cons _ _ a in
    let (et, c) = allowed_cons _ _ b in
    ap (λ (x : Refusal). x.applies) (first_past r _ er ∙ first_past t _ et ∙ first_past v rs e) ∙ (allowed_cons _ _ c).1

-- where nothing refuses, with any third refusal, nothing refuses at any place below n
module _ (s : List ℕ) (other : Refusal)
    (a : Allowed (unreadable s ++ other ∷ no_word (run 64 (sample_plan w64 (numbers s).records (numbers s).k) (words_of s) 0) ∷ [])) (b : Bytes s) where
  abbrev n : ℕ
  n = (numbers s).records

  abbrev k : ℕ
  k = (numbers s).k

  abbrev ts : List Taken
  ts = trace (run 64 (sample_plan w64 n k) (words_of s) 0)

  at_place : (p : ℕ) → p < n → Allowed (why_refusals w64 s p)
  at_place p h = instead _ _ other (no 7 (leb n p)) _ (lt-leb n p h) a

  said : (p : ℕ) → p < n → seen_why w64 s p ≡ told (next 0 ts) (rejected 0 ts) (final s) (fate_of_place k (later s) p)
  said p h = answered s p (at_place p h)

  small : k ≤ n
  small = (size good64 s other a).1

  range : T (in_range (sample_bounds n k) (rolled s))
  range = roll_range good64 s other a b

  rolls : length (later s) ≡ n - k
  rolls = roll_count n k (rolled s) small range

  count : k + length (later s) ≡ n
  count = omega (arith, rolls, small)

  -- the places that the slots hold in the end
  abbrev places : List ℕ
  places = sample_with k (rolled s) (countup n 0)

  -- a slot holds the place when the reservoir is done, exactly where its fate says so
  held : (p j : ℕ) → p < n → Is (fate_of_place k (later s) p) j ↔ Holds k (later s) j p (n - k)
  held p j h = rw rolls at (fate_drawn k (later s) p j (rw count h))

  at_end : (p slot : ℕ) → p < n → DrawnIn (seen_why w64 s p) slot ↔ ((slot < k) × (get_or places slot 0 ≡ p))
  at_end p slot h = rw (said p h) (to, back)
    where
      d : DrawnIn (told (next 0 ts) (rejected 0 ts) (final s) (fate_of_place k (later s) p)) slot ↔ ((j : ℕ) × Is (fate_of_place k (later s) p) j × (final s j ≡ slot))
      d = told_drawn (fate_of_place k (later s) p) (next 0 ts) (rejected 0 ts) (final s) slot

      to : DrawnIn (told (next 0 ts) (rejected 0 ts) (final s) (fate_of_place k (later s) p)) slot → (slot < k) × (get_or places slot 0 ≡ p)
      to x = let (j, y, g) = d.0 x in rw g at (final_ends n k (rolled s) small range p j ((held p j h).0 y))

      back : (slot < k) × (get_or places slot 0 ≡ p) → DrawnIn (told (next 0 ts) (rejected 0 ts) (final s) (fate_of_place k (later s) p)) slot
      back e =
          let (j, y) = final-from n k (rolled s) small range p slot e in
          d.1 (j, (held p j h).1 y, sym (final_only n k (rolled s) small range p j slot h y e))

  not_at_end : (p : ℕ) → p < n → NotDrawn (seen_why w64 s p) ↔ ((slot : ℕ) → slot < k → get_or places slot 0 ≢ p)
  not_at_end p h =
      let d = told_not (fate_of_place k (later s) p) (next 0 ts) (rejected 0 ts) (final s) in
      rw (said p h) (
        λ x slot l e. let (j, y) = final-from n k (rolled s) small range p slot (l, e) in d.0 x j ((held p j h).1 y),
        λ f. d.1 (λ j y. let (l, e) = final_ends n k (rolled s) small range p j ((held p j h).0 y) in f (final s j) l e),
      )

  few_places : k ≤ length (countup n 0)
  few_places = rw (length-countup n 0) (size good64 s other a).1

  -- the sample of the places, into as many slots
  sampled-places : (seen_sample w64 (words_of s) 0 (countup n 0) k (replicate k 0)).1 ≡ places
  unfolding sample
  sampled-places =
      let m = length-countup n 0 in
      let room : List ℕ = replicate k 0 in
      let allowed : Allowed (sample_refusals w64 (words_of s) 0 (length (countup n 0)) k (length room)) = rw (m, length-replicate {A = ℕ} k 0)
      (ap (λ (x : Refusal). x.applies)
      (first_past _ _ (in_count 0 16384 n (omega arith) (few good64 s other a))
      ∙ first_past _ _ (in_count 1 n k (size good64 s other a).0 (size good64 s other a).1) ∙ first_past _ _ (le-ltb k k (omega arith)))
      ∙ words_left good64 s other a) in
      let ran = allowed_done (sample_refusals w64 (words_of s) 0 (length (countup n 0)) k (length room)) (sampled w64 (words_of s) 0 (countup n 0) k) allowed in
      let js : List ℕ = rolls_of 64 (sample_plan w64 (length (countup n 0)) k) (trace (run 64 (sample_plan w64 (length (countup n 0)) k) (words_of s) 0)) in
      let drawn : List ℕ = sample_with k js (countup n 0) in
      ap (left room) ran
      ∙ ap (λ (l : List ℕ). drawn ++ l) (drop_of_length-le room {i = length drawn} (omega (arith, length_drawn k js (countup n 0) few_places, length-replicate {A = ℕ} k 0)))
      ∙ append-nil drawn
      ∙ ap (λ (i : ℕ). sample_with k (rolls_of 64 (sample_plan w64 i k) (trace (run 64 (sample_plan w64 i k) (words_of s) 0))) (countup n 0)) m

pub this_draw : (s lent : List ℕ) → Bytes s → Allowed (sheet_refusals w64 s (length lent)) → ThisDraw w64 s lent
this_draw s lent b a =
    let k : ℕ = (numbers s).k in
    let xs : List ℕ = records_of s in
    let other : Refusal = no 6 (ltb (length lent) k) in
    let js : List ℕ = rolled s in
    let at : ℕ → ℕ = λ p. get_or xs p 0 in
    let ran = sheet_flat w64 s (length lent) ∙ allowed_done (sheet_refusals w64 s (length lent)) (sampled w64 (words_of s) 0 xs k) a in
    let drawn : (seen_sheet w64 s lent).1 ≡ sample_with k js xs ++ drop (length (sample_with k js xs)) lent =
    ap (left lent) (ran ∙ ap (λ (m : ℕ). from_run 64 (sample_plan w64 m k) (words_of s) 0 (λ rs. sample_with k rs xs)) (length_records s)) in
    let fits : k ≤ length xs = rw (length_records s) (size good64 s other a).1 in
    let same : sample_with k js xs ≡ map at (places s other a b) =
    sample-places xs js k fits (rw (length_records s) (range s other a b)) ∙ ap (λ (m : ℕ). map at (sample_with k js (countup m 0))) (length_records s) in
    record {
      places = places s other a b;
      sampled = sampled-places s other a b;
      records = drawn ∙ ap (λ (m : ℕ). sample_with k js xs ++ drop m lent) (length_drawn k js xs fits) ∙ ap (λ (l : List ℕ). l ++ drop k lent) same;
      drawn = at_end s other a b;
      not_drawn = not_at_end s other a b;
    }

-- ---- the takers

-- only an answer that is no refusal has the reason 3, and then it tells of a taker
reason_3 : (f : Fate) (a b : ℕ) (final : ℕ → ℕ) → (told a b final f).reason ≡ 3 → (by : ℕ) × (step : ℕ) × (f ≡ fate.Taken (told a b final f).slot by step)
reason_3 (fate.Stayed slot) a b final e = absurd (differ {m = 1} {n = 3} tt e)
reason_3 (fate.RolledIn slot) a b final e = absurd (differ {m = 2} {n = 3} tt e)
reason_3 (fate.Taken slot by step) a b final e = (by, step, refl)
reason_3 (fate.PassedOver roll) a b final e = absurd (differ {m = 4} {n = 3} tt e)

no_refusal : (n k p : ℕ) (o : Outcome) → (shown_why n k p o).reason ≡ 3 → (shown_why n k p o).no ≡ 0
no_refusal n k p (refused number batch) e = absurd (differ {m = 0} {n = 3} tt e)
no_refusal n k p (done rs ts) e = (reasons_pinned.answers.used (next 0 ts) (rejected 0 ts) (final_slot_of k (drop (n - k) rs)) (fate_of_place k (take (n - k) rs) p)).0

module _ (s : List ℕ) (p : ℕ) (a : Allowed (why_refusals w64 s p)) (b : Bytes s) where
  abbrev third : Refusal
  third = no 7 (leb (numbers s).records p)

  abbrev told_of : Fate → Reason
  told_of = told (next 0 (ts s third a b)) (rejected 0 (ts s third a b)) (final s)

  tells : (q : ℕ) (f : Fate) → q < (numbers s).records → fate_of_place (numbers s).k (later s) q ≡ f → seen_why w64 s q ≡ told_of f
  tells q f h e = said s third a b q h ∙ ap told_of e

  -- where place q was taken by another
  module _ (q slot by step : ℕ) (h : q < (numbers s).records) (e : fate_of_place (numbers s).k (later s) q ≡ fate.Taken slot by step) where
    span : (q < by) × (by < (numbers s).records) × (by ≡ (numbers s).k + step)
    span = let r = taken_range (numbers s).k (later s) q slot by step e in (r.0, rw (← count s third a b) r.1, r.2)

    begun : (ps : List ℕ) × Takers w64 s slot by ps → (ps : List ℕ) × Takers w64 s slot q ps
    begun (ps, rest) =
        let t = tells q (fate.Taken slot by step) h e in (
          by ∷ ps,
          (
            ap (λ (r : Reason). r.reason) t,
            ap (λ (r : Reason). r.slot) t,
            ap (λ (r : Reason). r.by_place) t,
            span.2 ∙ ap (λ (r : Reason). (numbers s).k + r.by_step) (sym t),
            span.0,
            rest,
          ),
        )

    -- the other stayed, or was taken in turn
    after : ((c i : ℕ) → by < c → fate_of_place (numbers s).k (later s) by ≡ fate.Taken slot c i → (ps : List ℕ) × Takers w64 s slot by ps)
        → (ps : List ℕ) × Takers w64 s slot q ps
    after more = go (fate_next (numbers s).k (later s) q slot by step e)
      where
        go : (fate_of_place (numbers s).k (later s) by ≡ fate.RolledIn slot)
            ⊎ ((c : ℕ) × (i : ℕ) × (by < c) × (fate_of_place (numbers s).k (later s) by ≡ fate.Taken slot c i)) → (ps : List ℕ) × Takers w64 s slot q ps
        go (inl g) =
            let t = tells by (fate.RolledIn slot) span.1 g in
            begun ([], (ap (λ (r : Reason). r.reason) t, ap (λ (r : Reason). r.slot) t))
        go (inr (c, i, l, g)) = begun (more c i l g)

  -- no more places are left past the taker than the fuel
  followed : (fuel q slot by step : ℕ) → q < (numbers s).records → (numbers s).records ≤ by + fuel
      → fate_of_place (numbers s).k (later s) q ≡ fate.Taken slot by step → (ps : List ℕ) × Takers w64 s slot q ps
  followed zero q slot by step h f e = absurd (omega (arith, (span q slot by step h e).1))
  followed (suc fuel) q slot by step h f e =
      after q slot by step h e (λ c i l g. followed fuel by slot c i (span q slot by step h e).1 (omega arith) g)

pub takers : (s : List ℕ) (p : ℕ) → Bytes s → let r : Reason = seen_why w64 s p in r.reason ≡ 3 → (ps : List ℕ) × Takers w64 s r.slot p ps
takers s p b e =
    let a = none_refused s p b (no_refusal (numbers s).records (numbers s).k p (why w64 s p) e) in
    let t = answered s p a in
    let (by, step, f) = reason_3 (fate_of_place (numbers s).k (later s) p) _ _ _ (ap (λ (r : Reason). r.reason) (sym t) ∙ e) in
    followed s p a b (numbers s).records p (seen_why w64 s p).slot by step (placed s p a) (omega arith)
    (f ∙ ap (λ (r : Reason). fate.Taken r.slot by step) (sym t))

pub promise : Promise w64
unfolding table why fate_of_place place_of decide find run_from rolls_of next rejected word.rolls word.rest product cut cut_from countup size64 shuffle_plan_from countdown shuffle_with exchange little entries bytes_of area
promise = record {
  numbers = can_meet w64;
  demand1 = demand1 w64;
  when = when w64;
  demand2 = demand2;
  settled = settled;
  stand_ins = stand_ins;
  as_the_draw = as_the_draw w64;
  this_draw = λ s lent b z. this_draw s lent b (sheet.none_refused s lent b z);
  takers = takers;
  examples = tt;
}
