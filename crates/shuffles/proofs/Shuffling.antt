-- The batches of a shuffle as the code has them, and the records placed batch by batch. Assumes nothing.
--
--   down_within, down_begins          the batch that begins at a place: where it ends, and its bounds
--   size_less, product_less           its size, its product
--   down_cut                          the code's cut is that batch
--   Shuffling                         with m records still to place: the list as it stands, and the rest of the run
--   shuffling_never                   no word is missing
--   shuffling_turn                    one turn
--   shuffling_done                    with no batch left the list is shuffled
use Rattle.std.specs.Prelude.{Some, None}
use mathlib.Core.Path.{◌≡◌, sym, ap, ap₂, ◌∙◌}
use mathlib.Core.Bool.{true}
use mathlib.Core.List.{List, [], ◌∷◌}
use Prim.Native.Nat.{ℕ, ◌+◌, ◌-◌, ◌^◌, ◌<◌, ◌≤◌}
use native.Mathlib.Nat.{lt_of_le_of_lt}
use native.Mathlib.Omega.{arith}
use lib.Dec.{lit<}
use lib.ListN.{length, drop}
use Rattle.rules.specs.Rolls.{rolls, product, accepted}
use Rattle.rules.specs.Run.{Found, find, Run, run_from, run, rolls_of, suffices}
use Rattle.rules.specs.Shuffle.{shuffle_with, countdown, shuffle_plan}
use Rattle.rules.specs.Width.{size64}
use Rattle.rules.proofs.Orders.{length-shuffle, shuffle-append}
use Rattle.rules.proofs.Rolls.{length-rolls}
use Rattle.rules.proofs.Rows.{length-countdown}
use Rattle.rules.proofs.Running.{rolled_by}
use Rattle.rules.proofs.ShufflePlans.{GoodSize, size_some, plan_step, sizes64}
use Rattle.arithmetic.proofs.Limits.{unwrap_some}
use Rattle.rolls.specs.Inner.{searched}
use Rattle.rolls.specs.Plan.{begins, BatchAt}
use Rattle.rolls.proofs.Stepping.{hit_suffices, hit_rolled, hit_within, never_missing}

-- ---- one batch

-- of n records those before the place at are placed
module _ (n at : ℕ) (few : n ≤ 16384) (h : at < n - 1) where
  good : GoodSize size64 (2 ^ 56) (n - at)
  good = sizes64 (n - at) (omega arith) (omega arith)

  goes_on : shuffle_plan size64 (n - at) ≡ countdown (size64 (n - at)) (n - at) ∷ shuffle_plan size64 (n - at - size64 (n - at))
  goes_on = plan_step sizes64 (n - at) (omega arith) (omega arith)

  size : length (begins (shuffle_plan size64 (n - at))) ≡ size64 (n - at)
  size = ap (λ (plan : List (List ℕ)). length (begins plan)) goes_on ∙ length-countdown (size64 (n - at)) (n - at)

  module _ (end : ℕ) (e : end ≡ at + length (begins (shuffle_plan size64 (n - at)))) where
    pub down_within : end < n
    down_within = omega (arith, e, size, good.less)

    pub down_begins : begins (shuffle_plan size64 (n - at)) ≡ countdown (end - at) (n - at)
    down_begins =
        let s : size64 (n - at) ≡ end - at = omega (arith, e, size) in
        ap begins goes_on ∙ ap (λ (k : ℕ). countdown k (n - at)) s

  module _ (s : ℕ) (e : s ≡ size64 (n - at)) where
    pub size_less : (0 < s) × (s < n - at)
    size_less = rw e (size_some good, good.less)

    product_word : (0 < product (countdown s (n - at))) × (product (countdown s (n - at)) < 2 ^ 64)
    product_word = rw e (good.rollable.positive, lt_of_le_of_lt good.rollable.fits (lit< tt))

    pub product_less : product (countdown s (n - at)) < 2 ^ 64
    product_less = product_word.1

    pub down_cut : (p : ℕ) → p ≡ product (countdown s (n - at))
        → BatchAt (λ i. shuffle_plan size64 (n - i)) (n - 1) at (record { end = at + s; product = record { wrapped = p } })
    down_cut p f =
        let d : begins (shuffle_plan size64 (n - at)) ≡ countdown s (n - at) = ap begins goes_on ∙ ap (λ (k : ℕ). countdown k (n - at)) (sym e) in
        let on : n - at - size64 (n - at) ≡ n - (at + s) = omega (arith, e) in
        record {
          rest = goes_on ∙ ap₂ (λ (bs : List ℕ) (k : ℕ). bs ∷ shuffle_plan size64 k) (sym (ap begins goes_on)) on;
          end = omega (arith, e, size);
          some = omega (arith, e, size, size_less.0);
          within = omega (arith, size_less.1);
          product = unwrap_some 64 p (λ z. omega (arith, f, product_word.0)) ∙ f ∙ ap product (sym d);
        }

-- ---- the records placed

-- with m records still to place the rest of the run starts at `to` and suffices, and its rolls bring the list as it stands to what the
-- whole shuffle gives
abbrev pub Shuffling : ℕ → List (List ℕ) → List ℕ → ℕ → List (List ℕ) → List ℕ → List ℕ → ℕ → ℕ → Type 0
Shuffling L plan words start left xs₀ xs to m =
    (to ≤ length words) × (length xs ≡ length xs₀)
    × ((batch : ℕ) × (suffices (run_from L left words to batch) ≡ true)
    × (shuffle_with m (rolled_by L left (run_from L left words to batch)) xs
    ≡ shuffle_with (length xs₀) (rolled_by L plan (run L plan words start)) xs₀))

module _ (L : ℕ) (plan : List (List ℕ)) (words : List ℕ) (start : ℕ) (left : List (List ℕ)) (xs₀ xs : List ℕ) (to m : ℕ) (v : Shuffling L plan words start left xs₀ xs to m) where
  module _ (bs : List ℕ) (rest : List (List ℕ)) (e : left ≡ bs ∷ rest) (f : Found) (same : f ≡ find (accepted L bs) (drop to words) to) where
    enough : suffices (run_from L (bs ∷ rest) words to v.2.0) ≡ true
    enough = rw e at v.2.1

    pub shuffling_never : searched to f ≡ None → ⊥
    shuffling_never s = never_missing L bs rest words to v.2.0 f same s enough

    pub shuffling_turn : (w place more : ℕ) → searched to f ≡ Some (record { word = w; place = place; rejected = more })
        → (ys : List ℕ) → ys ≡ shuffle_with m (rolls L bs w) xs → (k : ℕ) → k ≡ m - length bs
        → Shuffling L plan words start rest xs₀ ys (place + 1) k
    shuffling_turn w place more s ys d k g =
        let rs : List ℕ = rolls L bs w in
        let on : Run = run_from L rest words (place + 1) (v.2.0 + 1) in
        let len : k ≡ m - length rs = g ∙ ap (λ (n : ℕ). m - n) (sym (length-rolls L bs w)) in (
          omega (arith, hit_within L bs rest words to v.2.0 f same w place more s),
          ap length d ∙ length-shuffle m rs xs ∙ v.1,
          (
            v.2.0 + 1,
            hit_suffices L bs rest words to v.2.0 f same w place more s enough,
            ap₂ (λ (n : ℕ) (l : List ℕ). shuffle_with n (rolled_by L rest on) l) len d
                ∙ sym (shuffle-append m rs (rolled_by L rest on) xs)
                ∙ ap (λ (l : List ℕ). shuffle_with m l xs) (sym (hit_rolled L bs rest words to v.2.0 f same w place more s enough))
                ∙ (rw e at v.2.2),
          ),
        )

  pub shuffling_done : left ≡ [] → xs ≡ shuffle_with (length xs₀) (rolled_by L plan (run L plan words start)) xs₀
  unfolding run_from rolls_of shuffle_with
  shuffling_done e = rw e at v.2.2
