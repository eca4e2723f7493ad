-- The loops over the bounds of one batch, m, m - 1, .., s of them: their product, the exchanges, and the rolls written to a list. Assumes
-- nothing.
--
--   next                                the bounds from a place on, one at a time
--   Growing, grow_turn, grow_done       the product of the bounds
--   grow_fits                           each product on the way is a word
--   Placing, place_turn, place_done     the records of the batch are placed, one for each bound
--   Writing, write_turn, write_done     its rolls are written, one for each bound
use mathlib.Core.Path.{◌≡◌, sym, ◌∙◌}
use mathlib.Core.List.{List, ◌∷◌, ◌++◌, append_assoc}
use Prim.Native.Nat.{ℕ, ◌+◌, ◌-◌, ◌*◌, ◌/◌, ◌%◌, ◌^◌, ◌<◌, ◌≤◌}
use native.Mathlib.Nat.{le-mul_of_pos_right}
use native.Mathlib.Omega.{arith}
use lib.ListN.{length, take, drop, set, take-append-drop}
use lib.Seq.{drop-set-lt}
use Rattle.rules.specs.Rolls.{rolls, product}
use Rattle.rules.specs.Shuffle.{exchange, shuffle_with, countdown}
use Rattle.rules.proofs.Rows.{countdown-cons, product-countdown}
use Rattle.rules.proofs.Writing.{stored_front}

-- the bounds from the one at place i on are that one and the others
next : (m s i : ℕ) → i < s → countdown (s - i) (m - i) ≡ (m - i) ∷ countdown (s - (i + 1)) (m - (i + 1))
next m s i h =
    let d : s - (i + 1) ≡ s - i - 1 = omega arith in
    let e : m - (i + 1) ≡ m - i - 1 = omega arith in
    rw (d, e) (countdown-cons (s - i) (m - i) (omega arith))

-- ---- the product

-- p is the product of the first i bounds: times that of the others it is the whole
abbrev pub Growing : ℕ → ℕ → ℕ → ℕ → Type 0
Growing m s p i = p * product (countdown (s - i) (m - i)) ≡ product (countdown s m)

module _ (m s p i : ℕ) (v : Growing m s p i) where
  module _ (h : i < s) where
    pub grow_turn : Growing m s (p * (m - i)) (i + 1)
    unfolding product
    grow_turn = omega (arith, rw (next m s i h) at v)

    pub grow_fits : s ≤ m → product (countdown s m) < 2 ^ 64 → p * (m - i) < 2 ^ 64
    grow_fits k f =
        let some : 0 < product (countdown (s - (i + 1)) (m - (i + 1))) = (product-countdown (s - (i + 1)) (m - (i + 1)) m (omega arith) (omega arith)).0 in
        omega (arith, grow_turn, le-mul_of_pos_right (p * (m - i)) some)

  pub grow_done : s ≤ i → p ≡ product (countdown s m)
  unfolding product countdown
  grow_done h = let e : s - i ≡ 0 = omega arith in omega (arith, rw e at v)

-- ---- the exchanges

-- the rolls of the first i bounds are taken out of the word, and r is what they left: those of the others bring the list as it stands to
-- what all of them give
abbrev pub Placing : ℕ → List ℕ → ℕ → ℕ → ℕ → List ℕ → ℕ → ℕ → Type 0
Placing L xs₀ m s word xs r i = shuffle_with (m - i) (rolls L (countdown (s - i) (m - i)) r) xs ≡ shuffle_with m (rolls L (countdown s m) word) xs₀

module _ (L : ℕ) (xs₀ : List ℕ) (m s word : ℕ) (xs : List ℕ) (r i : ℕ) (v : Placing L xs₀ m s word xs r i) where
  pub place_turn : (q t : ℕ) → i < s → q ≡ (m - i) * r / 2 ^ L → t ≡ (m - i) * r % 2 ^ L
      → Placing L xs₀ m s word (exchange xs q (m - i - 1)) t (i + 1)
  unfolding rolls shuffle_with
  place_turn q t h e f =
      let g : m - (i + 1) ≡ m - i - 1 = omega arith in
      rw (g, e, f) (rw (next m s i h, g) at v)

  pub place_done : s ≤ i → xs ≡ shuffle_with m (rolls L (countdown s m) word) xs₀
  unfolding countdown rolls shuffle_with
  place_done h = let e : s - i ≡ 0 = omega arith in rw e at v

-- ---- the rolls written to a list

-- the rolls of the first i bounds are written, and r is what they left: with those of the others they are all of the word's
abbrev pub Writing : ℕ → List ℕ → ℕ → ℕ → ℕ → List ℕ → ℕ → ℕ → Type 0
Writing L out₀ m s word out r i = take i out ++ (rolls L (countdown (s - i) (m - i)) r ++ drop s out) ≡ rolls L (countdown s m) word ++ drop s out₀

module _ (L : ℕ) (out₀ : List ℕ) (m s word : ℕ) (out : List ℕ) (r i : ℕ) (v : Writing L out₀ m s word out r i) where
  pub write_turn : (q t : ℕ) → i < s → s ≤ length out → q ≡ (m - i) * r / 2 ^ L → t ≡ (m - i) * r % 2 ^ L
      → Writing L out₀ m s word (set out i q) t (i + 1)
  unfolding rolls
  write_turn q t h room e f =
      rw (stored_front out i q (omega arith), append_assoc, drop-set-lt s out i q h, e, f) (rw (next m s i h) at v)

  pub write_done : s ≤ i → i ≤ s → out ≡ rolls L (countdown s m) word ++ drop s out₀
  unfolding countdown rolls
  write_done h k =
      let e : s - i ≡ 0 = omega arith in
      let f : i ≡ s = omega arith in
      sym (take-append-drop s out) ∙ (rw (e, f) at v)
