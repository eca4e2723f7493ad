-- What the caller of why sees. Assumes nothing.
--
--   told-done, told-refused     the sample was rolled, or its words did not suffice
--   why_unread                  the sheet was not read: refused as the reading was
--   seen_past, seen_read_lem    it was: refused by 7, or what is told of its sample
use mathlib.Core.Path.{◌≡◌, refl, sym, ap, ap₂, ◌∙◌}
use mathlib.Core.List.{List}
use Prim.Native.Nat.{ℕ, ◌-◌, ◌<◌, ◌≤◌}
use lib.ListN.{take, drop}
use borrow.Author.Tests.{le-leb, lt-leb}
use Rattle.rules.proofs.Facts.{clash}
use Rattle.rules.specs.Run.{Run, ran, short, run, trace, rolls_of}
use Rattle.rules.specs.Width.{w64}
use Rattle.answers.specs.Outcome.{Outcome, refused, decide, from_run}
use Rattle.answers.specs.Supplied.{supplied}
use Rattle.std.specs.Prelude.{Ok, Err}
use Rattle.answers.specs.declared.refusal.Refusal.{Refusal}
use Rattle.answers.specs.declared.refusal.Refusal.TheVariants.{Words}
use Rattle.reasons.specs.Results.{reason_of}
use Rattle.answers.proofs.Deciding.{decide_here, decide_past, decide-append, supplied_enough}
use Rattle.draws.specs.Inner.{rolled_sample}
use Rattle.draws.specs.Sample.{sample_plan}
use Rattle.draws.proofs.Rolled.{rolled-short, rolled-done}
use Rattle.sheet.specs.ReadSheet.{unreadable}
use Rattle.sheet.specs.Sheet.{numbers, words_of}
use Rattle.sheet.specs.declared.drawn.Drawn.{Drawn}
use Rattle.sheet.proofs.Drawing.{Held, words_front}
use Rattle.reasons.specs.Fate.{fate_of_place, final_slot_of}
use Rattle.reasons.specs.Why.{why_refusals, why, told, shown_why, seen_why}
use Rattle.reasons.specs.declared.reason.Reason.{Reason}

module _ (words : List ℕ) (n k place : ℕ) (r : Reason) where
  abbrev plan : List (List ℕ)
  plan = sample_plan w64 n k

  -- by these rolls, with the words used
  abbrev told_by : ℕ → ℕ → List ℕ → Reason
  told_by to more rolls = told to more (final_slot_of k (drop (n - k) rolls)) (fate_of_place k (take (n - k) rolls) place)

  pub told-done : (to more : ℕ) → supplied 0 (run 64 plan words 0) ≡ Ok (record { next = to; rejected = more })
      → (rolls : List ℕ) → rolls ≡ rolls_of 64 plan (trace (run 64 plan words 0)) → r ≡ told_by to more rolls
      → r ≡ shown_why n k place (rolled_sample w64 words 0 n k)
  told-done to more e rolls f t =
      let v = supplied_enough 0 (run 64 plan words 0) to more e in
      t ∙ ap (told_by to more) f
      ∙ ap₂ (λ (a b : ℕ). told_by a b (rolls_of 64 plan (trace (run 64 plan words 0)))) (sym v.place) (sym v.passed)
      ∙ sym (ap (shown_why n k place) (rolled-done words 0 n k to more e))

pub told-refused : (words : List ℕ) (n k place : ℕ) (r : Refusal) → supplied 0 (run 64 (sample_plan w64 n k) words 0) ≡ Err r
    → reason_of (Err r) ≡ shown_why n k place (rolled_sample w64 words 0 n k)
told-refused words n k place r e = go (run 64 (sample_plan w64 n k) words 0) refl e
  where
    go : (x : Run) → run 64 (sample_plan w64 n k) words 0 ≡ x → supplied 0 x ≡ Err r → reason_of (Err r) ≡ shown_why n k place (rolled_sample w64 words 0 n k)
    go (ran ts) f g = clash cc
    go (short j) f g =
        let same : r ≡ Words j = cc in
        ap (λ (x : Refusal). reason_of (Err x)) same ∙ sym (ap (shown_why n k place) (rolled-short words 0 n k j (ap (supplied 0) f)))

-- ---- of a sheet

module _ (s : List ℕ) (place : ℕ) where
  abbrev n : ℕ
  n = (numbers s).records

  abbrev k : ℕ
  k = (numbers s).k

  -- past numbers 1 and 3
  abbrev later : Outcome
  later = decide (drop 2 (why_refusals w64 s place)) (from_run 64 (sample_plan w64 n k) (words_of s) 0 (λ rolls. rolls))

  parted : why w64 s place ≡ decide (unreadable s) later
  unfolding why
  parted = decide-append (unreadable s) (drop 2 (why_refusals w64 s place)) _

  pub why_unread : (m batch : ℕ) → ((o : Outcome) → decide (unreadable s) o ≡ refused m batch) → why w64 s place ≡ refused m batch
  why_unread m batch h = parted ∙ h later

  -- where it was read into two lists, with the six numbers in d
  module _ (wordRoom recordRoom : List ℕ) (d : Drawn) (ws xs : List ℕ) (v : Held s wordRoom recordRoom d ws xs) (r : Reason) where
    same-n : d.records ≡ n
    same-n = ap (λ (x : Drawn). x.records) v.six

    same-k : d.k ≡ k
    same-k = ap (λ (x : Drawn). x.k) v.six

    pub seen_past : d.records ≤ place → r ≡ shown_why 0 0 0 (refused 7 0) → r ≡ seen_why w64 s place
    seen_past h t = t ∙ sym (ap (shown_why n k place) (parted ∙ v.passed later ∙ decide_here _ _ _ (le-leb n place (rw (← same-n) h))))

    pub seen_read_lem : place < d.records → r ≡ shown_why d.records d.k place (rolled_sample w64 (take d.words ws) 0 d.records d.k) → r ≡ seen_why w64 s place
    seen_read_lem h t =
        let e = words_front s wordRoom recordRoom d ws xs v in
        let f = same-n in
        let g = same-k in
        let same : shown_why d.records d.k place (rolled_sample w64 (take d.words ws) 0 d.records d.k) ≡ shown_why n k place (rolled_sample w64 (words_of s) 0 n k) = cc in
        t ∙ same ∙ sym (ap (shown_why n k place) (parted ∙ v.passed later ∙ decide_past _ _ _ (lt-leb n place (rw (← same-n) h))))
