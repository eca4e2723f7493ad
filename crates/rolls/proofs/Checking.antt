-- The bounds of one batch, as the code looks at them. Assumes nothing.
--
--   checked-count, checked_none,       the answer, by what the code finds
--     checked_zero, checked-held
--   BoundsRefused, BoundsHeld          what an answer says of the bounds
--   some_bounds, few_bounds,           bounds that are held are 1 to 16, with a product of at most 2^64
--     fit_product
--   told-refused, told_held            the answer, by its variant
use mathlib.Core.Path.{◌≡◌, refl, sym, ap, ◌∙◌}
use mathlib.Core.Bool.{true, false}
use mathlib.Core.List.{List, []}
use Prim.Native.Nat.{ℕ, ◌^◌, ◌<◌, ◌≤◌}
use lib.Dec.{ltb}
use lib.ListN.{length}
use borrow.Author.Tests.{ltb-false, le-ltb, lt-ltb}
use Rattle.rules.specs.Limits.{max_batch}
use Rattle.rules.specs.Rolls.{product, holds_zero}
use Rattle.rules.specs.Width.{w64}
use Rattle.rules.proofs.Facts.{clash, or_left, or_right}
use Rattle.rules.proofs.Products.{product_pos}
use Rattle.std.specs.Prelude.{Option, Some, None, Result, Ok, Err}
use Rattle.arithmetic.specs.Products.{against, unwrap}
use Rattle.arithmetic.specs.declared.bounds.Product.{Product}
use Rattle.arithmetic.proofs.Limits.{held_fits, held_large, unwrap_wrapped}
use Rattle.answers.specs.Results.{number_of, numbered}
use Rattle.answers.specs.declared.refusal.Refusal.{Refusal}
use Rattle.answers.specs.declared.refusal.Refusal.TheVariants as Why
use Rattle.std.specs.Option.{ok_or}
use Rattle.answers.specs.Outcome.{Outcome, refused, done, decide, outside, of_bounds}
use Rattle.answers.proofs.Deciding.{below_count, OfBatch, of_batch, decide-refused, decide_allowed, FitBounds, fit_bounds}
use Rattle.rolls.specs.Inner.{checked}

-- ---- the answer, by what the code finds

module _ (bs : List ℕ) where
  outcome : Outcome
  outcome = decide (of_bounds w64 bs) (done [] [])

  of : OfBatch w64 bs outcome (done [] [])
  unfolding outcome decide
  of = of_batch w64 bs [] (done [] [])

  pub checked-count : outside 1 max_batch (length bs) ≡ true → Err 2 ≡ checked bs (decide (of_bounds w64 bs) (done [] []))
  unfolding outcome
  checked-count e = ap (checked bs) (sym (of.count e))

  pub checked_none : length bs < 1 → Err 2 ≡ checked bs (decide (of_bounds w64 bs) (done [] []))
  checked_none h = checked-count (below_count 1 max_batch (length bs) h)

  module _ (count : outside 1 max_batch (length bs) ≡ false) where
    pub checked_zero : holds_zero bs ≡ true → Err 4 ≡ checked bs (decide (of_bounds w64 bs) (done [] []))
    unfolding outcome
    checked_zero e = ap (checked bs) (sym (of.zeros count e))

    module _ (zeros : holds_zero bs ≡ false) where
      checked_large : against (product bs) ≡ None → Err 5 ≡ checked bs (decide (of_bounds w64 bs) (done [] []))
      unfolding outcome
      checked_large e = ap (checked bs) (sym (of.large count zeros (lt-ltb (2 ^ 64) (product bs) (held_large (product bs) e))))

      checked_fits : (p : Product) → against (product bs) ≡ Some p → Ok p ≡ checked bs (decide (of_bounds w64 bs) (done [] []))
      unfolding outcome
      checked_fits p e =
          let o = held_fits (product bs) p e in
          ap Ok o.1 ∙ ap (checked bs) (sym (of.passed count zeros (le-ltb (2 ^ 64) (product bs) o.0)))

      pub checked-held : (r : Option Product) → r ≡ against (product bs)
          → numbered (ok_or r Why.Product) ≡ checked bs (decide (of_bounds w64 bs) (done [] []))
      checked-held (Some p) e = checked_fits p (sym e)
      checked-held None e = checked_large (sym e)

-- ---- what the answer says

-- any outcome is refused so
pub record BoundsRefused (bs : List ℕ) (n : ℕ) : Type 0 where
  pub batch : ℕ
  pub refuses : (o : Outcome) → decide (of_bounds w64 bs) o ≡ refused n batch

-- no outcome is, and p is the product
pub record BoundsHeld (bs : List ℕ) (p : Product) : Type 0 where
  pub fit : FitBounds w64 bs
  pub passes : (o : Outcome) → decide (of_bounds w64 bs) o ≡ o
  pub held : unwrap 64 p.wrapped ≡ product bs

abbrev number_or : Result Product ℕ → ℕ
number_or (Ok p) = 0
number_or (Err n) = n

abbrev product_or : Result Product ℕ → Product
product_or (Ok p) = p
product_or (Err n) = record { wrapped = 0 }

module _ (bs : List ℕ) (v : FitBounds w64 bs) where
  pub some_bounds : 0 < length bs
  some_bounds = ltb-false (length bs) 1 (or_left (ltb (length bs) 1) (ltb max_batch (length bs)) v.count)

  pub few_bounds : length bs ≤ max_batch
  few_bounds = ltb-false max_batch (length bs) (or_right (ltb (length bs) 1) (ltb max_batch (length bs)) v.count)

  pub fit_product : product bs ≤ 2 ^ 64
  fit_product = ltb-false (2 ^ 64) (product bs) v.fits

module _ (bs : List ℕ) where
  pub told-refused : (r : Refusal) → Err (number_of r) ≡ checked bs (decide (of_bounds w64 bs) (done [] [])) → BoundsRefused bs (number_of r)
  told-refused r e = go (decide (of_bounds w64 bs) (done [] [])) refl e
    where
      go : (x : Outcome) → decide (of_bounds w64 bs) (done [] []) ≡ x → Err (number_of r) ≡ checked bs x → BoundsRefused bs (number_of r)
      go (refused m k) f g =
          let same : m ≡ number_of r = sym (ap number_or g) in
          record { batch = k; refuses = λ o. decide-refused (of_bounds w64 bs) [] [] o m k f ∙ ap (λ (i : ℕ). refused i k) same }
      go (done us ss) f g = clash cc

  pub told_held : (p : Product) → Ok p ≡ checked bs (decide (of_bounds w64 bs) (done [] [])) → BoundsHeld bs p
  told_held p e = go (decide (of_bounds w64 bs) (done [] [])) refl e
    where
      go : (x : Outcome) → decide (of_bounds w64 bs) (done [] []) ≡ x → Ok p ≡ checked bs x → BoundsHeld bs p
      go (refused m k) f g = clash cc
      go (done us ss) f g =
          let fit : FitBounds w64 bs = fit_bounds w64 bs us ss f in
          record {
            fit = fit;
            passes = λ o. decide_allowed (of_bounds w64 bs) [] [] o us ss f;
            held = ap (λ (x : Result Product ℕ). unwrap 64 (product_or x).wrapped) g ∙ unwrap_wrapped 64 (product bs) (product_pos bs fit.zeros) (fit_product bs fit);
          }
