-- The pins of the reasons, each from its law. Assumes nothing.
--
--   reasons_pinned    the statement
use mathlib.Core.Path.{◌≡◌, refl, subst}
use mathlib.Core.Logic.{◌⊎◌, inl, inr}
use mathlib.Core.List.{List}
use Prim.Native.Nat.{ℕ, ◌+◌, ◌-◌, ◌<◌, ◌≤◌}
use native.Mathlib.Omega.{arith}
use lib.Dec.{T}
use lib.ListN.{length, take}
use Rattle.rules.specs.Rolls.{in_range}
use Rattle.rules.specs.Run as run
use Rattle.rules.specs.Sample.{sample_bounds}
use Rattle.answers.specs.Outcome.{done}
use Rattle.reasons.specs.Happened.{Holds, Happened, EndsIn, Tells}
use Rattle.reasons.specs.Pinned.{ReasonsPinned}
use Rattle.reasons.specs.Why.{told, shown_why}
use Rattle.reasons.specs.declared.fate.Fate.{Fate}
use Rattle.reasons.specs.declared.fate.Fate.TheVariants.{Stayed, RolledIn, Taken, PassedOver}
use Rattle.reasons.specs.declared.reason.Reason.{Reason}
use Rattle.reasons.proofs.Slots.{slots-first, slots_gets, slots_stays, slots-last}
use Rattle.reasons.proofs.Fates.{fate_happened, fate_only, fate_drawn}
use Rattle.reasons.proofs.Finals.{roll_count, final_ends, final_only}

tells : (n k : ℕ) (rolls : List ℕ) (p next rejected : ℕ) (final : ℕ → ℕ) (fate : Fate) → Happened k (take (n - k) rolls) p fate
    → ((slot : ℕ) → (fate ≡ Stayed slot) ⊎ (fate ≡ RolledIn slot) → EndsIn n k rolls p (final slot)) → Tells n k rolls p (told next rejected final fate)
tells n k rolls p next rejected final (Stayed slot) h e = inl (refl, h, e slot (inl refl), refl, refl, refl)
tells n k rolls p next rejected final (RolledIn slot) h e = inr (inl (refl, h, e slot (inr refl), refl, refl, refl))
tells n k rolls p next rejected final (Taken slot by step) h e = inr (inr (inl (refl, h, refl, refl)))
tells n k rolls p next rejected final (PassedOver roll) h e = inr (inr (inr (refl, h, refl, refl, refl, refl)))

used : (next rejected : ℕ) (final : ℕ → ℕ) (fate : Fate) → let r : Reason = told next rejected final fate in
    (r.no ≡ 0) × (r.next ≡ next) × (r.rejected ≡ rejected) × (r.batch ≡ 0)
used next rejected final (Stayed slot) = (refl, refl, refl, refl)
used next rejected final (RolledIn slot) = (refl, refl, refl, refl)
used next rejected final (Taken slot by step) = (refl, refl, refl, refl)
used next rejected final (PassedOver roll) = (refl, refl, refl, refl)

shows : (n k p : ℕ) (rolls : List ℕ) (ts : List run.Taken) → k ≤ n → p < n → T (in_range (sample_bounds n k) rolls)
    → Tells n k rolls p (shown_why n k p (done rolls ts))
shows n k p rolls ts h l t =
    let m : length (take (n - k) rolls) ≡ n - k = roll_count n k rolls h t in
    let b : p < k + length (take (n - k) rolls) = omega (arith, m) in
    tells n k rolls p _ _ _ _ (fate_happened k (take (n - k) rolls) p b)
    (λ slot e. final_ends n k rolls h t p slot (subst (Holds k (take (n - k) rolls) slot p) m ((fate_drawn k (take (n - k) rolls) p slot b).0 e)))

pub reasons_pinned : ReasonsPinned
reasons_pinned = record {
  slots = λ k rolls. record {
    first = slots-first k rolls;
    gets = slots_gets k rolls;
    stays = slots_stays k rolls;
    last = slots-last k rolls;
  };
  final = λ n k rolls h t. record { ends = final_ends n k rolls h t; only = final_only n k rolls h t };
  answers = record { tells = tells; shows = shows; used = used; none = λ n k p number batch. refl };
  happened = fate_happened;
  only = fate_only;
}
