-- How often numbers stand in a list. Assumes nothing.
--
--   Among, counted, count_among    a number stands in a list exactly where it is counted
--   count-exchange                 an exchange changes no count
--   distinct_once, once_distinct   no two are alike exactly where each is counted once at most
--   total                          how often 0, .., n - 1 stand in a list, added up
--   total-all, total_below         it is the length exactly where all are below n
--   length_reorders                an order of a list is as long
use mathlib.Core.Path.{◌≡◌, refl, sym, ap, ◌∙◌}
use mathlib.Core.List.{List, [], ◌∷◌}
use Prim.Native.Nat.{ℕ, zero, suc, suc-le-suc, zero-le, ◌+◌, ◌<◌, ◌≤◌}
use native.Mathlib.Nat.{le_of_suc-le-suc, not-suc-le-zero}
use native.Mathlib.Decide.{ℕ_discrete, dec_lt}
use native.Mathlib.Omega.{arith}
use lib.ListN.{length, get_or, set}
use lib.Seq.{get_or-set_same, get_or-set_other, lt-length-set}
use borrow.Author.Tests.{eq-eqb, ne_eqb}
use Rattle.rules.specs.Shuffle.{exchange}
use Rattle.rules.specs.Order.{count, AllBelow, Distinct, Reorders}

-- x stands in xs
abbrev pub Among : ℕ → List ℕ → Type 0
Among x xs = (p : ℕ) × (p < length xs) × (get_or xs p 0 ≡ x)

-- ---- how often a number stands in a list

count_hit : (x y : ℕ) (ys : List ℕ) → x ≡ y → count x (y ∷ ys) ≡ count x ys + 1
unfolding count
count_hit x y ys e = rw (eq-eqb x y e, count)

count_miss : (x y : ℕ) (ys : List ℕ) → (x ≡ y → ⊥) → count x (y ∷ ys) ≡ count x ys
unfolding count
count_miss x y ys n = rw (ne_eqb x y n, count)

count_tail : (x y : ℕ) (ys : List ℕ) → count x ys ≤ count x (y ∷ ys)
count_tail x y ys = go (ℕ_discrete x y)
  where
    go : Dec (x ≡ y) → count x ys ≤ count x (y ∷ ys)
    go (yes e) = omega (arith, count_hit x y ys e)
    go (no n) = omega (arith, count_miss x y ys n)

pub counted : (x : ℕ) (ys : List ℕ) (p : ℕ) → p < length ys → get_or ys p 0 ≡ x → 0 < count x ys
counted x [] p h e = absurd (not-suc-le-zero h)
counted x (y ∷ ys) zero h e = omega (arith, count_hit x y ys (sym e))
counted x (y ∷ ys) (suc p) h e = omega (arith, count_tail x y ys, counted x ys p (le_of_suc-le-suc h) e)

pub count_among : (x : ℕ) (ys : List ℕ) → 0 < count x ys → Among x ys
unfolding count
count_among x [] h = absurd (not-suc-le-zero h)
count_among x (y ∷ ys) h = go (ℕ_discrete x y) (count_among x ys)
  where
    go : Dec (x ≡ y) → (0 < count x ys → Among x ys) → Among x (y ∷ ys)
    go (yes e) ih = (0, suc-le-suc zero-le, sym e)
    go (no n) ih = let a = ih (omega (arith, count_miss x y ys n)) in (suc a.0, suc-le-suc a.1, a.2)

-- ---- after a store, and after an exchange

count-cons : (x y : ℕ) (ys : List ℕ) → count x (y ∷ ys) ≡ count x ys + count x (y ∷ [])
count-cons x y ys = go (ℕ_discrete x y)
  where
    go : Dec (x ≡ y) → count x (y ∷ ys) ≡ count x ys + count x (y ∷ [])
    go (yes e) = unfold count in omega (arith, count_hit x y ys e, count_hit x y [] e)
    go (no n) = unfold count in omega (arith, count_miss x y ys n, count_miss x y [] n)

-- the record at the place goes, and v comes
count_set : (x : ℕ) (xs : List ℕ) (i v : ℕ) → i < length xs → count x (set xs i v) + count x (get_or xs i 0 ∷ []) ≡ count x xs + count x (v ∷ [])
count_set x [] i v h = absurd (not-suc-le-zero h)
count_set x (y ∷ ys) zero v h = omega (arith, count-cons x y ys, count-cons x v ys)
count_set x (y ∷ ys) (suc i) v h =
    omega (arith, count-cons x y (set ys i v), count-cons x y ys, count_set x ys i v (le_of_suc-le-suc h))

pub count-exchange : (x : ℕ) (xs : List ℕ) (i j : ℕ) → i < length xs → j < length xs → count x (exchange xs i j) ≡ count x xs
unfolding exchange
count-exchange x xs i j hi hj =
    let one : List ℕ = set xs i (get_or xs j 0) in
    let same : get_or one j 0 ≡ get_or xs j 0 = go (ℕ_discrete j i) in
    let first = count_set x xs i (get_or xs j 0) hi in
    let second = count_set x one j (get_or xs i 0) (lt-length-set xs i (get_or xs j 0) hj) in
    omega (arith, first, rw same at second)
  where
    go : Dec (j ≡ i) → get_or (set xs i (get_or xs j 0)) j 0 ≡ get_or xs j 0
    go (yes e) = rw e (get_or-set_same xs i (get_or xs i 0) 0 hi)
    go (no n) = get_or-set_other xs i j (get_or xs j 0) 0 n

-- ---- no two alike

pub distinct_once : (ys : List ℕ) → Distinct ys → (x : ℕ) → count x ys ≤ 1
distinct_once [] d x = unfold count in omega arith
distinct_once (y ∷ ys) d x =
    go (ℕ_discrete x y) (dec_lt 0 (count x ys))
    (distinct_once ys (λ i j hi hj e. let s = d (suc i) (suc j) (suc-le-suc hi) (suc-le-suc hj) e in omega arith) x)
  where
    go : Dec (x ≡ y) → Dec (0 < count x ys) → count x ys ≤ 1 → count x (y ∷ ys) ≤ 1
    go (yes e) (yes h) l =
        let a = count_among x ys h in
        let s = d 0 (suc a.0) (suc-le-suc zero-le) (suc-le-suc a.1) (sym e ∙ sym a.2) in
        omega arith
    go (yes e) (no h) l = omega (arith, count_hit x y ys e)
    go (no n) h l = omega (arith, count_miss x y ys n)

pub once_distinct : (ys : List ℕ) → ((x : ℕ) → count x ys ≤ 1) → Distinct ys
once_distinct [] o i j hi hj e = absurd (not-suc-le-zero hi)
once_distinct (y ∷ ys) o zero zero hi hj e = refl
once_distinct (y ∷ ys) o zero (suc j) hi hj e =
    absurd (let z : ⊥ = omega (arith, o y, count_hit y y ys refl, counted y ys j (le_of_suc-le-suc hj) (sym e)) in z)
once_distinct (y ∷ ys) o (suc i) zero hi hj e =
    absurd (let z : ⊥ = omega (arith, o y, count_hit y y ys refl, counted y ys i (le_of_suc-le-suc hi) e) in z)
once_distinct (y ∷ ys) o (suc i) (suc j) hi hj e =
    ap suc (once_distinct ys (λ x. let t = count_tail x y ys in omega (arith, o x)) i j (le_of_suc-le-suc hi) (le_of_suc-le-suc hj) e)

-- ---- how often 0, .., n - 1 stand in a list, added up

unfoldable pub total : ℕ → List ℕ → ℕ
total zero ys = 0
total (suc i) ys = count i ys + total i ys

total-nil : (n : ℕ) → total n [] ≡ 0
unfolding total count
total-nil zero = refl
total-nil (suc i) = omega (arith, total-nil i)

total_miss : (n y : ℕ) (ys : List ℕ) → n ≤ y → total n (y ∷ ys) ≡ total n ys
unfolding total
total_miss zero y ys h = refl
total_miss (suc i) y ys h = omega (arith, count_miss i y ys (λ e. omega arith), total_miss i y ys (omega arith))

total_hit : (n y : ℕ) (ys : List ℕ) → y < n → total n (y ∷ ys) ≡ total n ys + 1
unfolding total
total_hit zero y ys h = absurd (not-suc-le-zero h)
total_hit (suc i) y ys h = go (ℕ_discrete i y) (total_hit i y ys)
  where
    go : Dec (i ≡ y) → (y < i → total i (y ∷ ys) ≡ total i ys + 1) → total (suc i) (y ∷ ys) ≡ total (suc i) ys + 1
    go (yes e) ih = omega (arith, count_hit i y ys e, total_miss i y ys (omega arith))
    go (no n) ih = omega (arith, count_miss i y ys n, ih (omega arith))

total-most : (n : ℕ) (ys : List ℕ) → total n ys ≤ length ys
total-most n [] = omega (arith, total-nil n)
total-most n (y ∷ ys) = go (dec_lt y n) (total-most n ys)
  where
    go : Dec (y < n) → total n ys ≤ length ys → total n (y ∷ ys) ≤ length (y ∷ ys)
    go (yes h) l = omega (arith, total_hit n y ys h)
    go (no h) l = omega (arith, total_miss n y ys (omega arith))

pub total-all : (n : ℕ) (ys : List ℕ) → AllBelow n ys → total n ys ≡ length ys
total-all n [] b = total-nil n
total-all n (y ∷ ys) b = omega (arith, total_hit n y ys (b 0 (suc-le-suc zero-le)), total-all n ys (λ i h. b (suc i) (suc-le-suc h)))

pub total_below : (n : ℕ) (ys : List ℕ) → length ys ≤ total n ys → AllBelow n ys
total_below n [] l i h = absurd (not-suc-le-zero h)
total_below n (y ∷ ys) l i h = go (dec_lt y n) (total_below n ys) i h
  where
    go : Dec (y < n) → (length ys ≤ total n ys → AllBelow n ys) → AllBelow n (y ∷ ys)
    go (yes k) ih zero h = k
    go (yes k) ih (suc i) h = ih (omega (arith, total_hit n y ys k)) i (le_of_suc-le-suc h)
    go (no k) ih i h = absurd (let z : ⊥ = omega (arith, total_miss n y ys (omega arith), total-most n ys) in z)

total-same : (n : ℕ) (xs ys : List ℕ) → Reorders xs ys → total n ys ≡ total n xs
unfolding total
total-same zero xs ys r = refl
total-same (suc i) xs ys r = omega (arith, r i, total-same i xs ys r)

-- ---- the length

-- above every number of the list
top : List ℕ → ℕ
top [] = 0
top (x ∷ xs) = suc x + top xs

below_top : (xs : List ℕ) → AllBelow (top xs) xs
unfolding top
below_top [] i h = absurd (not-suc-le-zero h)
below_top (x ∷ xs) zero h = omega arith
below_top (x ∷ xs) (suc i) h = omega (arith, below_top xs i (le_of_suc-le-suc h))

-- no shorter: all of xs stand in ys as often
no_shorter : (xs ys : List ℕ) → Reorders xs ys → length xs ≤ length ys
no_shorter xs ys r = omega (arith, total-all (top xs) xs (below_top xs), total-same (top xs) xs ys r, total-most (top xs) ys)

pub length_reorders : (xs ys : List ℕ) → Reorders xs ys → length ys ≡ length xs
length_reorders xs ys r = omega (arith, no_shorter xs ys r, no_shorter ys xs (λ x. sym (r x)))
