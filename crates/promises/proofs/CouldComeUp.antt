-- Every record can come up in a sample, in every slot. Let the roll of each later place be the place itself, which is k or more, so that no slot
-- gets its record; and let the roll of place i be 0. If i is k or more, slot 0 gets record i and no later record takes it; else slot i keeps
-- record i. Then let the final shuffle exchange that slot with the wanted one, by the rolls behind that order of the slots. All these rolls are
-- below their bounds, so each batch has a run of words behind its part of them; the first word of each run is taken. Over every width. Assumes
-- nothing.
--
--   chosen n k i                      the rolls
--   chosen_length, chosen_here,       how many, that of place i, and those of the other places
--     chosen_elsewhere
--   chosen_range                      they are in range of the bounds k + 1, .., n
--   kept, taken                       a slot that no roll names, and one that a single roll names
--   chosen_slot                       the slot in which the reservoir with these rolls holds record i
--   drawn, held                       a sample whose words suffice is not refused, and holds what its rolls give
--   brings k a b                      the rolls of a final shuffle that exchanges slots a and b
--   comes_up                          the words
use mathlib.Core.Path.{◌≡◌, refl, sym, ap, ◌∙◌, subst}
use mathlib.Core.Logic.{◌≢◌, ⊎_elim}
use mathlib.Core.List.{List, [], ◌∷◌, ◌++◌}
use Prim.Native.Nat.{ℕ, ◌+◌, ◌-◌, ◌^◌, ◌<◌, ◌≤◌, zero-le}
use native.Mathlib.Decide.{ℕ_discrete, dec_lt}
use native.Mathlib.Omega.{arith}
use lib.Dec.{T}
use lib.ListN.{length, take, drop, set, get_or, length-set, length-drop, get_or-append}
use lib.Seq.{get_or-drop, get_or-set_same, get_or-set_other}
use borrow.Author.Tests.{le-ltb}
use Rattle.rules.specs.Limits.{max_records}
use Rattle.rules.specs.Order.{rolls_into, Only}
use Rattle.rules.specs.Pinned.{Nowhere, ReservoirPinned}
use Rattle.rules.specs.Plan.{PlanOf, joined}
use Rattle.rules.specs.Reservoir.{countup, reservoir}
use Rattle.rules.specs.Rolls.{in_range}
use Rattle.rules.specs.Run.{Run, ran, short, run, suffices}
use Rattle.rules.specs.Sample.{sample_bounds, sample_with}
use Rattle.rules.specs.Shuffle.{exchange, shuffle_with, shuffle_bounds}
use Rattle.rules.specs.Width.{Width}
use Rattle.rules.proofs.Counting.{count-exchange}
use Rattle.rules.proofs.Exchanging.{exchange-last}
use Rattle.rules.proofs.Orders.{one_series}
use Rattle.rules.proofs.Pinned.{pinned}
use Rattle.rules.proofs.PinnedReservoir.{reservoir_pinned}
use Rattle.rules.proofs.Range.{range_join}
use Rattle.rules.proofs.Reservoir.{length-sample}
use Rattle.rules.proofs.Rows.{length-countup, get_or-countup}
use Rattle.rules.proofs.Runs.{Rolled}
use Rattle.rules.proofs.Samples.{sample_parts, length_drawn, row_distinct, shuffle-places}
use Rattle.answers.specs.Outcome.{Outcome, decide, no_word}
use Rattle.draws.specs.Sample.{sample_plan, sampled, sample, seen_sample}
use Rattle.promises.specs.Sample.{Holds, ComesUp}
use Rattle.promises.proofs.Firsts.{firsts, firsts_count, firsts_below, firsts_give}

-- ---- the rolls

-- of the places 0 .. n - 1, each itself and place i 0, those from k on
chosen : ℕ → ℕ → ℕ → List ℕ
chosen n k i = drop k (set (countup n 0) i 0)

module _ (n k i : ℕ) where
  chosen_length : length (chosen n k i) ≡ n - k
  unfolding chosen
  chosen_length = rw (length-drop, length-set, length-countup)

  chosen_here : k ≤ i → i < n → get_or (chosen n k i) (i - k) 0 ≡ 0
  unfolding chosen
  chosen_here l h =
      let e : k + (i - k) ≡ i = omega arith in
      get_or-drop k (set (countup n 0) i 0) (i - k) 0 ∙ rw e (get_or-set_same (countup n 0) i 0 0 (rw length-countup h))

  chosen_elsewhere : (p : ℕ) → k + p < n → k + p ≢ i → get_or (chosen n k i) p 0 ≡ k + p
  unfolding chosen
  chosen_elsewhere p h d =
      get_or-drop k (set (countup n 0) i 0) p 0 ∙ get_or-set_other (countup n 0) i (k + p) 0 0 d ∙ get_or-countup n 0 (k + p) h ∙ omega arith

  chosen_range : T (in_range (countup (n - k) (k + 1)) (chosen n k i))
  chosen_range = (pinned.of_tests.range (countup (n - k) (k + 1)) (chosen n k i)).1 (chosen_length ∙ sym (length-countup (n - k) (k + 1)), below)
    where
      below : (p : ℕ) → p < length (countup (n - k) (k + 1)) → get_or (chosen n k i) p 0 < get_or (countup (n - k) (k + 1)) p 0
      below p h =
          let l : p < n - k = rw length-countup at h in
          rw (get_or-countup (n - k) (k + 1) p l) (go l (ℕ_discrete (k + p) i))
        where
          go : p < n - k → Dec (k + p ≡ i) → get_or (chosen n k i) p 0 < k + 1 + p
          go l (yes e) =
              let same : i - k ≡ p = omega arith in
              let z : get_or (chosen n k i) p 0 ≡ 0 = rw same at (chosen_here (omega arith) (omega arith)) in
              omega arith
          go l (no d) = omega (arith, chosen_elsewhere p (omega arith) d)

-- ---- the slot

module _ {k : ℕ} {xs js slots : List ℕ} (r : ReservoirPinned k xs js slots) (j : ℕ) (h : j < k) where
  kept : Nowhere js j → get_or slots j 0 ≡ get_or xs j 0
  kept none = ⊎_elim (λ (q, (a, f, later), w). absurd (none q a f)) (λ (n, w). w) (r.slot j h)

  taken : (q : ℕ) → q < length js → get_or js q 0 ≡ j → ((p : ℕ) → p < length js → get_or js p 0 ≡ j → p ≡ q) → get_or slots j 0 ≡ get_or xs (k + q) 0
  taken q a f one = ⊎_elim (λ (p, (b, g, later), w). w ∙ ap (λ (x : ℕ). get_or xs (k + x) 0) (one p b g)) (λ (n, w). absurd (n q a f)) (r.slot j h)

module _ (n k i : ℕ) (p : 1 ≤ k) (l : k ≤ n) (h : i < n) where
  -- with these rolls slot j holds record i, of any n records
  abbrev Takes : ℕ → Type 0
  Takes j = (xs : List ℕ) → length xs ≡ n → get_or (reservoir (take k xs) (drop k xs) (chosen n k i)) j 0 ≡ get_or xs i 0

  abbrev many : length (chosen n k i) ≡ n - k
  many = chosen_length n k i

  -- below k a roll can only be that of place i
  only : (q j : ℕ) → q < length (chosen n k i) → j < k → get_or (chosen n k i) q 0 ≡ j → k + q ≡ i
  only q j a b f = go (ℕ_discrete (k + q) i)
    where
      go : Dec (k + q ≡ i) → k + q ≡ i
      go (yes e) = e
      go (no d) = absurd (let z : ⊥ = omega (arith, chosen_elsewhere n k i q (omega (arith, many)) d) in z)

  chosen_slot : (j : ℕ) × (j < k) × Takes j
  chosen_slot = go (dec_lt i k)
    where
      go : Dec (i < k) → (j : ℕ) × (j < k) × Takes j
      go (yes b) = (i, b, λ xs e. kept (reservoir_pinned k xs (chosen n k i) (omega (arith, many))) i b (λ q a f. omega (arith, only q i a b f)))
      go (no b) = (
        0,
        p,
        λ xs e.
            let back : k + (i - k) ≡ i = omega arith in
            taken (reservoir_pinned k xs (chosen n k i) (omega (arith, many))) 0 p (i - k) (omega (arith, many)) (chosen_here n k i (omega arith) h)
            (λ q a f. omega (arith, only q 0 a p f))
            ∙ ap (λ (x : ℕ). get_or xs x 0) back,
      )

-- ---- the sample

module _ (W : Width) (words xs : List ℕ) (k : ℕ) (h : length xs ≤ max_records) (p : 1 ≤ k) (l : k ≤ length xs) where
  drawn : (room : ℕ) → k ≤ room → T (suffices (run W.bits (sample_plan W (length xs) k) words 0))
      → sample W words 0 xs k room ≡ sampled W words 0 xs k
  unfolding sample decide
  drawn room r t =
      rw (le-ltb (length xs) 0 zero-le, le-ltb max_records (length xs) h, le-ltb k 1 p, le-ltb (length xs) k l, le-ltb room k r, le-ltb (length words) 0 zero-le)
      (go (run W.bits (sample_plan W (length xs) k) words 0) t)
    where
      go : (r : Run) → T (suffices r) → {o : Outcome} → decide (no_word r ∷ []) o ≡ o
      go (ran ts) t = refl
      go (short k) t = absurd t

  held : (rs lent : List ℕ) (j : ℕ) → k ≤ length lent → j < k
      → Rolled W.bits (sample_plan W (length xs) k) rs (run W.bits (sample_plan W (length xs) k) words 0)
      → Holds (seen_sample W words 0 xs k lent) j (get_or (sample_with k rs xs) j 0)
  held rs lent j room within (t, e) =
      let slots : List ℕ = sample_with k rs xs in
      rw (drawn (length lent) room t, e) (refl, get_or-append slots (drop (length slots) lent) 0 j (rw (length_drawn k rs xs l) within))

-- ---- the slot in the end

-- the rolls that exchange two of k slots and leave the others
abbrev swapped : ℕ → ℕ → ℕ → List ℕ
swapped k a b = exchange (countup k 0) a b

brings : ℕ → ℕ → ℕ → List ℕ
brings k a b = rolls_into k (countup k 0) (swapped k a b)

module _ (k a b : ℕ) (ha : a < k) (hb : b < k) where
  row : Only k (countup k 0) (swapped k a b) (brings k a b)
  unfolding brings
  row =
      let n : length (countup k 0) ≡ k = length-countup k 0 in
      rw n at (one_series (countup k 0) (swapped k a b) (row_distinct k) (λ x. count-exchange x (countup k 0) a b (rw n ha) (rw n hb)))

  brings_range : T (in_range (shuffle_bounds k) (brings k a b))
  brings_range = row.is_in_range

  -- what slot a holds is then in slot b
  brings_there : (slots : List ℕ) → length slots ≡ k → get_or (shuffle_with k (brings k a b) slots) b 0 ≡ get_or slots a 0
  brings_there slots n =
      (rw n at (shuffle-places slots (brings k a b) b (rw n brings_range) (rw n hb)))
      ∙ ap (λ (l : List ℕ). get_or slots (get_or l b 0) 0) row.gives
      ∙ ap (λ (j : ℕ). get_or slots j 0) (exchange-last (countup k 0) a b (rw length-countup hb) ∙ get_or-countup k 0 a ha ∙ omega arith)

pub comes_up : (W : Width) (n k i slot : ℕ) → n ≤ max_records → k ≤ n → i < n → slot < k
    → PlanOf (2 ^ W.bits) (sample_bounds n k) (sample_plan W n k) → ComesUp W (seen_sample W) n k i slot
comes_up W n k i slot h l b within good =
    let p : 1 ≤ k = omega arith in
    let plan : List (List ℕ) = sample_plan W n k in
    let (j, below, takes) = chosen_slot n k i p l b in
    let js : List ℕ = chosen n k i in
    let rs : List ℕ = js ++ brings k j slot in
    let words : List ℕ = firsts W.bits plan rs in
    let range : T (in_range (joined plan) rs) = rw good.same (range_join (countup (n - k) (k + 1)) (shuffle_bounds k) js (brings k j slot) (chosen_range n k i) (brings_range k j slot below within)) in
    let there : (xs : List ℕ) → length xs ≡ n → get_or (sample_with k rs xs) slot 0 ≡ get_or xs i 0
    = λ xs e.
    ap (λ (l : List ℕ). get_or l slot 0) (sample_parts k xs js (brings k j slot) (omega (arith, chosen_length n k i)))
    ∙ brings_there k j slot below within (reservoir (take k xs) (drop k xs) js) (length-sample xs js k (omega arith)) ∙ takes xs e in
    record {
      words = words;
      one_each = firsts_count W.bits plan rs;
      callable = firsts_below W.bits plan rs good.rollable range;
      holds = λ xs lent e room. subst (Holds (seen_sample W words 0 xs k lent) slot) (there xs e)
          (held W words xs k (rw e h) p (rw e l) rs lent slot room within (rw e (firsts_give W.bits plan rs good.rollable range)));
    }
