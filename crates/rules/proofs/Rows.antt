-- Numbers in a row, as the bounds of a shuffle and of a sample are. Assumes nothing.
--
--   length-countdown, countdown-cons, get_or-countdown    m, m - 1, ..
--   length-countup, get_or-countup                        i, i + 1, ..
--   countup_add, countup_snoc                             one row after the other, and one number more
--   take-countup, drop-countup                            a row in two parts
--   map-places                                            what stands at each place, in a row, is the list
--   length-shuffle_bounds, no_bounds, bounds_cons         the bounds n, n - 1, .., 2
--   countdown_add                                         one row after the other
--   product-countdown                                     the product of a row is 1 or more, and at most a power
use mathlib.Core.Path.{◌≡◌, refl, sym, ap, ap₂, ◌∙◌}
use mathlib.Core.List.{List, [], ◌∷◌, ◌++◌, map}
use Prim.Native.Nat.{ℕ, zero, suc, ◌+◌, ◌-◌, ◌^◌, ◌<◌, ◌≤◌}
use native.Mathlib.Nat.{not-suc-le-zero, le_of_suc-le-suc, le_refl, mul-pos, mul-le-mul, pow-zero, pow-succ', sub-zero, add-zero, zero-add, suc-add}
use native.Mathlib.Numerals.{add-one}
use native.Mathlib.Omega.{arith}
use lib.ListN.{length, take, drop, get_or}
use lib.Seq.{take_at, drop_at}
use Rattle.rules.specs.Rolls.{product}
use Rattle.rules.specs.Shuffle.{countdown, shuffle_bounds}
use Rattle.rules.specs.Reservoir.{countup}

-- ---- numbers in a row

pub length-countdown : (s m : ℕ) → length (countdown s m) ≡ s
unfolding countdown
length-countdown zero m = refl
length-countdown (suc s) m = ap suc (length-countdown s (m - 1))

pub countdown-cons : (s m : ℕ) → 0 < s → countdown s m ≡ m ∷ countdown (s - 1) (m - 1)
unfolding countdown
countdown-cons zero m h = absurd (not-suc-le-zero h)
countdown-cons (suc s) m h = let e : s ≡ suc s - 1 = omega arith in ap (λ (k : ℕ). m ∷ countdown k (m - 1)) e

pub get_or-countdown : (s m i : ℕ) → i < s → get_or (countdown s m) i 0 ≡ m - i
unfolding countdown
get_or-countdown zero m i h = absurd (not-suc-le-zero h)
get_or-countdown (suc s) m zero h = omega arith
get_or-countdown (suc s) m (suc i) h = get_or-countdown s (m - 1) i (le_of_suc-le-suc h) ∙ omega arith

pub length-countup : (s i : ℕ) → length (countup s i) ≡ s
unfolding countup
length-countup zero i = refl
length-countup (suc s) i = ap suc (length-countup s (i + 1))

pub get_or-countup : (s i k : ℕ) → k < s → get_or (countup s i) k 0 ≡ i + k
unfolding countup
get_or-countup zero i k h = absurd (not-suc-le-zero h)
get_or-countup (suc s) i zero h = omega arith
get_or-countup (suc s) i (suc k) h = get_or-countup s (i + 1) k (le_of_suc-le-suc h) ∙ omega arith

pub countup_add : (s t i : ℕ) → countup s i ++ countup t (i + s) ≡ countup (s + t) i
unfolding countup
countup_add zero t i = rw (add-zero, zero-add)
countup_add (suc s) t i =
    let e : i + suc s ≡ i + 1 + s = omega arith in
    rw (e, suc-add) (ap (λ (l : List ℕ). i ∷ l) (countup_add s t (i + 1)))

pub countup_snoc : (s i : ℕ) → countup (s + 1) i ≡ countup s i ++ (i + s) ∷ []
unfolding countup
countup_snoc s i = sym (countup_add s 1 i)

pub take-countup : (k m : ℕ) → take k (countup (k + m) 0) ≡ countup k 0
take-countup k m = rw (← countup_add k m 0) (take_at (countup k 0) (countup m (0 + k)) k (length-countup k 0))

pub drop-countup : (k m : ℕ) → drop k (countup (k + m) 0) ≡ countup m k
drop-countup k m = rw (← countup_add k m 0) (drop_at (countup k 0) (countup m (0 + k)) k (length-countup k 0) ∙ rw zero-add)

map_next : (f : ℕ → ℕ) (s i : ℕ) → map f (countup s (i + 1)) ≡ map (λ p. f (suc p)) (countup s i)
unfolding countup
map_next f zero i = refl
map_next f (suc s) i = ap₂ (λ (x : ℕ) (l : List ℕ). x ∷ l) (ap f (add-one i)) (map_next f s (i + 1))

pub map-places : (xs : List ℕ) → map (λ p. get_or xs p 0) (countup (length xs) 0) ≡ xs
unfolding countup
map-places [] = refl
map-places (x ∷ xs) = ap (λ (l : List ℕ). x ∷ l) (map_next (λ p. get_or (x ∷ xs) p 0) (length xs) 0 ∙ map-places xs)

pub length-shuffle_bounds : (n : ℕ) → length (shuffle_bounds n) ≡ n - 1
length-shuffle_bounds n = length-countdown (n - 1) n

pub no_bounds : (m : ℕ) → m ≤ 1 → shuffle_bounds m ≡ []
unfolding countdown
no_bounds m h = let e : m - 1 ≡ 0 = omega arith in rw e

pub bounds_cons : (m : ℕ) → 1 < m → shuffle_bounds m ≡ m ∷ shuffle_bounds (m - 1)
bounds_cons m h = countdown-cons (m - 1) m (omega arith)

-- ---- the shuffle's plan

pub countdown_add : (s t m : ℕ) → countdown s m ++ countdown t (m - s) ≡ countdown (s + t) m
unfolding countdown
countdown_add zero t m = rw (sub-zero, zero-add)
countdown_add (suc s) t m =
    let e : m - suc s ≡ m - 1 - s = omega arith in
    rw (e, suc-add) (ap (λ (l : List ℕ). m ∷ l) (countdown_add s t (m - 1)))

-- ---- the sizes at 64 bits

pub product-countdown : (s m top : ℕ) → s ≤ m → m ≤ top → (0 < product (countdown s m)) × (product (countdown s m) ≤ top ^ s)
unfolding product countdown
product-countdown zero m top h k = (omega arith, rw pow-zero (le_refl 1))
product-countdown (suc s) m top h k =
    let p = product-countdown s (m - 1) top (omega arith) (omega arith) in
    (mul-pos (omega arith) p.0, rw pow-succ' (mul-le-mul k p.1))
