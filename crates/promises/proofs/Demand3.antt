-- Demand 3: a shuffle that is not refused holds its values, which are the order exactly when each word lies in its run; and the two
-- ways back name those runs. Over every good width. Assumes nothing.
--
--   produces      what the shuffle of the definitions produces
--   same_at       the demand at n records, of a shuffle that produces there what ours does
--   demand3       the demand, up to 16,384 records
--   own_places    the records 0 .. n - 1 are their own places
use mathlib.Core.Path.{◌≡◌, refl, sym, ap, ◌∙◌, subst}
use mathlib.Core.Logic.{◌↔◌}
use mathlib.Core.List.{List, [], ◌∷◌}
use Prim.Native.Nat.{ℕ, ◌-◌, ◌<◌, ◌≤◌, zero-le}
use native.Mathlib.Omega.{arith}
use lib.Dec.{T}
use lib.ListN.{length, get_or, replicate}
use lib.Seq.{ext_get_or}
use borrow.Author.Tests.{le-ltb}
use Rattle.rules.specs.Limits.{max_records}
use Rattle.rules.specs.Order.{Distinct, Reorders, place_of, rolls_into}
use Rattle.rules.specs.Plan.{joined}
use Rattle.rules.specs.Reservoir.{countup}
use Rattle.rules.specs.Rolls.{in_range}
use Rattle.rules.specs.Run.{Taken, Run, ran, short, suffices}
use Rattle.rules.specs.Shuffle.{shuffle_with, shuffle_plan}
use Rattle.rules.specs.Width.{Width}
use Rattle.rules.proofs.Each.{countup_distinct}
use Rattle.rules.proofs.Orders.{Reordered, reordered, place_of_lem, length-shuffle, one_series}
use Rattle.rules.proofs.Rows.{length-countup, get_or-countup}
use Rattle.rules.proofs.Widths.{GoodWidth}
use Rattle.rules.proofs.Writing.{whole_list}
use Rattle.answers.specs.Outcome.{done, decide, no_word, seen}
use Rattle.runs.specs.Behind.{seen_behind}
use Rattle.orders.specs.Order.{seen_order}
use Rattle.shuffles.specs.Shuffle.{shuffle, seen_shuffle}
use Rattle.shuffles.proofs.Reach.{shuffle_run, shuffle_rolls, shuffle-gives, shuffle_in_runs}
use Rattle.answers.specs.declared.answer.Answer.{Answer}
use Rattle.answers.specs.declared.answer.Behind.{Behind}
use Rattle.promises.specs.Behind.{FullRun}
use Rattle.promises.specs.Demand1.{Callable}
use Rattle.promises.specs.Demand3.{Paired, places, runs_named, InRun, Produces, Demand3At, Demand3, OwnPlaces}
use Rattle.promises.specs.Shuffle.{Op}
use Rattle.promises.proofs.Naming.{length-places, get_or-places, rolls_named, runs_full, runs_in}
use Rattle.promises.proofs.Shuffle.{plan_fits}

-- not refused and these values, exactly when the words suffice and the values are these
holds_run : (r : Run) (values xs ys : List ℕ) (us : List Taken) → length values ≡ length xs
    → Produces (seen 0 xs (decide (no_word r ∷ []) (done values us))) ys ↔ (T (suffices r) × (values ≡ ys))
unfolding decide
holds_run (ran ts) values xs ys us n = (λ (z, e). (tt, whole_list values xs n ∙ e), λ (t, e). (refl, sym (whole_list values xs n) ∙ e))
holds_run (short k) values xs ys us n = (λ (z, e). absurd (let f : ⊥ = omega arith in f), λ (t, e). absurd t)

pub produces : (W : Width) (words xs ys : List ℕ) → length xs ≤ max_records
    → Produces (seen_shuffle W words 0 xs) ys
    ↔ (T (suffices (shuffle_run W words 0 xs)) × (shuffle_with (length xs) (shuffle_rolls W words 0 xs) xs ≡ ys))
unfolding shuffle decide
produces W words xs ys h =
    rw (le-ltb (length xs) 0 zero-le, le-ltb max_records (length xs) h, le-ltb (length words) 0 zero-le)
    (holds_run (shuffle_run W words 0 xs) (shuffle_with (length xs) (shuffle_rolls W words 0 xs) xs) xs ys _
    (length-shuffle (length xs) (shuffle_rolls W words 0 xs) xs))

module _ (W : Width) (g : GoodWidth W) (op : Op) where
  -- the demand of one order, whose rolls were named so
  abbrev For : List ℕ → List ℕ → Answer × List ℕ → Type 0
  For xs ys (answer, rs) =
      let plan : List (List ℕ) = shuffle_plan W.size (length xs) in
      let runs : List Behind = runs_named (seen_behind W) plan rs in (answer.no ≡ 0) × Paired (FullRun W.bits) plan runs
      × ((words : List ℕ) → length words ≡ length plan → Callable W.bits words → Produces (op words 0 xs) ys ↔ Paired InRun runs words)

  for_order : (xs ys : List ℕ) → length xs ≤ max_records → Distinct xs → Reorders xs ys
      → ((words : List ℕ) → Callable W.bits words → Produces (op words 0 xs) ys ↔ Produces (seen_shuffle W words 0 xs) ys)
      → For xs ys (seen_order (places xs ys) (replicate (length xs - 1) 0))
  for_order xs ys h d r same =
      let plan : List (List ℕ) = shuffle_plan W.size (length xs) in
      let rs : List ℕ = rolls_into (length xs) xs ys in
      let good = plan_fits W g (length xs) h in
      let range : T (in_range (joined plan) rs) = rw good.same (one_series xs ys d r).is_in_range in
      subst (For xs ys) (sym (rolls_named xs ys d r h)) (
        refl,
        runs_full W plan rs good.rollable range,
        λ words n w.
            let made = same words w in
            let holds = produces W words xs ys h in
            let gives = shuffle-gives W words 0 xs ys h zero-le in
            let runs = shuffle_in_runs W g xs ys words h d r n w in
            let named = runs_in W plan rs words good.rollable range in (
              λ p. named.1 (runs.0 (gives.1 (holds.0 (made.0 p)))),
              λ q. made.1 (holds.1 (gives.0 (runs.1 (named.0 q)))),
            ),
      )

  pub same_at : (n : ℕ) → n ≤ max_records
      → ((xs ys words : List ℕ) → length xs ≡ n → Callable W.bits words → Produces (op words 0 xs) ys ↔ Produces (seen_shuffle W words 0 xs) ys)
      → Demand3At W op (seen_behind W) seen_order n
  same_at n h same xs ys e d r = rw (← e) (for_order xs ys (rw e h) d r (λ words w. same xs ys words e w))

pub demand3 : (W : Width) → GoodWidth W → Demand3 W (seen_shuffle W) (seen_behind W) seen_order
demand3 W g n h = same_at W g (seen_shuffle W) n h (λ xs ys words e w. (λ p. p, λ p. p))

pub own_places : OwnPlaces
own_places n ys r = ext_get_or 0 (places (countup n 0) ys) ys (length-places (countup n 0) ys) at
  where
    o : Reordered (countup n 0) ys
    o = reordered (countup n 0) ys (countup_distinct n) r

    at : (i : ℕ) → i < length (places (countup n 0) ys) → get_or (places (countup n 0) ys) i 0 ≡ get_or ys i 0
    at i h =
        let k : i < length ys = rw length-places at h in
        let (p, l, e) = o.among i k in
        let own : get_or (countup n 0) p 0 ≡ p = get_or-countup n 0 p (rw length-countup at l) ∙ omega arith in
        get_or-places (countup n 0) ys i k ∙ ap (λ (y : ℕ). place_of y (countup n 0)) (sym e) ∙ place_of_lem (countup n 0) p (countup_distinct n) l ∙ sym own ∙ e
