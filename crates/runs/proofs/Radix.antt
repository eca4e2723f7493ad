-- The value of rolls, read from the first roll on; the run of words behind a value. Assumes nothing.
--
--   Reading, reading_turn, reading_done              the loop that reads the value
--   reading_fits, value_fits                         nothing on the way passes the value, which is a word
--   run-last, run_found                              the run of words behind a value, by division
use Rattle.std.proofs.Common.{◌≡◌, ℕ, ◌+◌, ◌-◌, ◌*◌, ◌/◌, ◌^◌, ◌<◌, ◌≤◌, true, List, [], ◌∷◌, sym, ap, ◌∙◌, le-mul_of_pos_right, arith}
use native.Mathlib.Nat.{div-eq-sub-div}
use Rattle.rules.specs.Rolls.{product, value, in_range, up, threshold}
use Rattle.rules.proofs.Range.{range_true, in_range_cons}
use lib.Dec.{T}
use mathlib.Core.Logic.{◌⊎◌, inl, inr}
use Rattle.rules.proofs.Rolls.{value_below}
use Rattle.rules.proofs.Words.{window_fits}
use Rattle.runs.specs.Inner.{run_behind_rolls}

-- a is the value of the rolls read so far: with the rolls rs for the bounds bs still to read, it comes to n
pub record Reading (n a : ℕ) (bs rs : List ℕ) : Type 0 where
  pub range : T (in_range bs rs)
  pub whole : a * product bs + value bs rs ≡ n

module _ {n a b r : ℕ} {bs cs rs ss : List ℕ} (w : Reading n a cs ss) (e : cs ≡ b ∷ bs) (f : ss ≡ r ∷ rs) where
  later : T (in_range bs rs)
  later = ((in_range_cons b bs r rs).0 (rw (e, f) at w.range)).1

  total : (a * b + r) * product bs + value bs rs ≡ n
  unfolding product value
  total = omega (arith, rw (e, f) at w.whole)

  pub reading_turn : Reading n (a * b + r) bs rs
  reading_turn = record { range = later; whole = total }

  -- nothing on the way passes the value
  pub reading_fits : n < 2 ^ 64 → a * b + r < 2 ^ 64
  reading_fits m =
      let p : 0 < product bs = omega (arith, value_below bs rs later) in
      let l : a * b + r ≤ (a * b + r) * product bs = le-mul_of_pos_right _ p in
      omega (arith, l, total)

pub reading_done : {n a : ℕ} (bs rs : List ℕ) → Reading n a bs rs → (bs ≡ []) ⊎ (rs ≡ []) → a ≡ n
unfolding product value in_range
reading_done [] rs w d = omega (arith, w.whole)
reading_done (b ∷ bs) [] w d = absurd w.range
reading_done (b ∷ bs) (r ∷ rs) w (inl e) = cc
reading_done (b ∷ bs) (r ∷ rs) w (inr e) = cc

pub value_fits : (bs rs : List ℕ) → in_range bs rs ≡ true → product bs ≤ 2 ^ 64 → value bs rs < 2 ^ 64
value_fits bs rs e m = omega (arith, value_below bs rs (range_true bs rs e))

-- ---- the run of words behind a value

-- the number of words less one, by zero less b with wrap
words_less_one : (W b r : ℕ) → 0 < b → b ≤ W → r ≡ W - b → r / b + 1 ≡ W / b
words_less_one W b r h l e = rw e (sym (div-eq-sub-div h l))

-- the dividend as the code has it
dividend : (a b t : ℕ) → t ≡ threshold 64 b → a * 2 ^ 64 + t ≡ 2 ^ 64 * a + threshold 64 b
dividend a b t e = omega (arith, e)

module _ (a b t : ℕ) (h : a < b) (l : b < 2 ^ 64) (e : t ≡ threshold 64 b) where
  some : 0 < b
  some = omega (arith, h)

  last_fits : up (2 ^ 64 * a + threshold 64 b) b + 2 ^ 64 / b - 1 < 2 ^ 64
  last_fits = window_fits (2 ^ 64) b a some (omega (arith, l)) h

  module _ (first : ℕ) (f : first ≡ up (a * 2 ^ 64 + t) b) (r : ℕ) (g : r ≡ 2 ^ 64 - b) where
    is_first : first ≡ up (2 ^ 64 * a + threshold 64 b) b
    is_first = f ∙ ap (λ (x : ℕ). up x b) (dividend a b t e)

    is_last : first + r / b ≡ up (2 ^ 64 * a + threshold 64 b) b + 2 ^ 64 / b - 1
    is_last = omega (arith, is_first, words_less_one (2 ^ 64) b r some (omega (arith, l)) g)

    pub run-last : first + r / b < 2 ^ 64
    run-last = rw is_last last_fits

    pub run_found : record { first = first; last = first + r / b } ≡ run_behind_rolls 64 b a
    run_found = λ i. record { first = is_first i; last = is_last i }
