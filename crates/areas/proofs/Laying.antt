-- The bytes of numbers, laid one behind the other. Assumes nothing.
--
--   length_bytes, length-area    how many bytes a number has, and an area
--   area-append                  the bytes of numbers and more numbers
--   stands_at, laid_at           the numbers stand where their bytes were laid
--   area_known                   where numbers stand, their bytes are laid
use mathlib.Core.Path.{◌≡◌, refl, sym, ap, ap₂, subst, ◌∙◌}
use mathlib.Core.List.{List, [], ◌∷◌, ◌++◌, append_assoc}
use Prim.Native.Nat.{ℕ, zero, suc, suc-le-suc, ◌+◌, ◌*◌, ◌/◌, ◌%◌, ◌^◌, ◌<◌, ◌≤◌}
use native.Mathlib.Nat.{zero-lt-suc, not-suc-le-zero, le_of_suc-le-suc, div-one, pow-succ', div-div-eq-div-mul, mul-le-mul_left}
use native.Mathlib.Omega.{arith}
use lib.ListN.{length, take, drop, get_or, length-append, length-drop, get_or-append}
use lib.Seq.{ext_get_or, get_or-append-add, get_or-take, get_or-drop, take-add, drop-drop, length-take-le}
use Rattle.rules.specs.Order.{AllBelow}
use Rattle.areas.specs.Area.{bytes_of, area}
use Rattle.areas.specs.Pinned.{Stands, Area}

-- ---- how many

pub length_bytes : (size n : ℕ) → length (bytes_of size n) ≡ size
unfolding bytes_of
length_bytes zero n = refl
length_bytes (suc size) n = ap suc (length_bytes size (n / 256))

pub length-area : (size : ℕ) (xs : List ℕ) → length (area size xs) ≡ size * length xs
unfolding area
length-area size [] = omega arith
length-area size (x ∷ xs) = rw (length-append, length_bytes size x, length-area size xs) (omega arith)

pub area-append : (size : ℕ) (xs ys : List ℕ) → area size (xs ++ ys) ≡ area size xs ++ area size ys
unfolding area
area-append size [] ys = refl
area-append size (x ∷ xs) ys = ap (λ (l : List ℕ). bytes_of size x ++ l) (area-append size xs ys) ∙ sym (append_assoc (bytes_of size x) (area size xs) (area size ys))

-- ---- each byte

-- the higher bytes of n are those of n / 256
pub byte_up : (n i : ℕ) → n / 256 ^ suc i % 256 ≡ n / 256 / 256 ^ i % 256
byte_up n i = ap (λ (x : ℕ). x % 256) (ap (λ (x : ℕ). n / x) (pow-succ' 256 i) ∙ sym (div-div-eq-div-mul n 256 (256 ^ i)))

get_or_bytes : (size n i : ℕ) → i < size → get_or (bytes_of size n) i 0 ≡ n / 256 ^ i % 256
unfolding bytes_of
get_or_bytes zero n i h = absurd (not-suc-le-zero h)
get_or_bytes (suc size) n zero h = ap (λ (x : ℕ). x % 256) (sym (div-one n))
get_or_bytes (suc size) n (suc i) h = get_or_bytes size (n / 256) i (le_of_suc-le-suc h) ∙ sym (byte_up n i)

-- ---- numbers whose bytes were laid

pub stands_at : (size n at : ℕ) (s front back : List ℕ) → n < 256 ^ size → at ≡ length front → s ≡ front ++ (bytes_of size n ++ back) → Stands size n at s
stands_at size n at s front back h e f = (
  h,
  λ i k.
      ap₂ (λ (l : List ℕ) (p : ℕ). get_or l (p + i) 0) f e ∙ get_or-append-add front (bytes_of size n ++ back) i 0
      ∙ get_or-append (bytes_of size n) back 0 i (rw (length_bytes size n) k) ∙ get_or_bytes size n i k,
)

each_at : (size : ℕ) (xs : List ℕ) (at : ℕ) (s front back : List ℕ) → AllBelow (256 ^ size) xs → at ≡ length front → s ≡ front ++ (area size xs ++ back)
    → (i : ℕ) → i < length xs → Stands size (get_or xs i 0) (at + size * i) s
unfolding area
each_at size [] at s front back b e f i h = absurd (not-suc-le-zero h)
each_at size (x ∷ xs) at s front back b e f zero h =
    stands_at size x (at + size * 0) s front (area size xs ++ back) (b 0 (zero-lt-suc (length xs))) (omega arith) (f ∙ ap (λ (l : List ℕ). front ++ l) (append_assoc (bytes_of size x) (area size xs) back))
each_at size (x ∷ xs) at s front back b e f (suc i) h =
    let there : at + size + size * i ≡ at + size * suc i = omega arith in
    let long : at + size ≡ length (front ++ bytes_of size x) = rw (length-append, length_bytes size x) (omega arith) in
    let split : s ≡ (front ++ bytes_of size x) ++ (area size xs ++ back) =
    f ∙ ap (λ (l : List ℕ). front ++ l) (append_assoc (bytes_of size x) (area size xs) back) ∙ sym (append_assoc front (bytes_of size x) (area size xs ++ back)) in
    subst (λ (p : ℕ). Stands size (get_or xs i 0) p s) there
    (each_at size xs (at + size) s (front ++ bytes_of size x) back (λ j k. b (suc j) (suc-le-suc k)) long split i (le_of_suc-le-suc h))

pub laid_at : (size : ℕ) (xs : List ℕ) (at : ℕ) (s front back : List ℕ) → AllBelow (256 ^ size) xs → at ≡ length front → s ≡ front ++ (area size xs ++ back) → Area size at xs s
laid_at size xs at s front back b e f = (
  rw (f, length-append, length-append, length-area size xs) (omega arith),
  each_at size xs at s front back b e f,
)

-- ---- bytes of numbers that stand there

bytes_known : (size n at : ℕ) (s : List ℕ) → at + size ≤ length s → Stands size n at s → take size (drop at s) ≡ bytes_of size n
bytes_known size n at s h v = ext_get_or 0 (take size (drop at s)) (bytes_of size n) (long ∙ sym (length_bytes size n)) each
  where
    long : length (take size (drop at s)) ≡ size
    long = length-take-le size (drop at s) (rw length-drop (omega arith))

    each : (i : ℕ) → i < length (take size (drop at s)) → get_or (take size (drop at s)) i 0 ≡ get_or (bytes_of size n) i 0
    each i k =
        let l : i < size = subst (λ (m : ℕ). i < m) long k in
        get_or-take size (drop at s) i 0 l ∙ get_or-drop at s i 0 ∙ v.1 i l ∙ sym (get_or_bytes size n i l)

pub area_known : (size at : ℕ) (xs s : List ℕ) → Area size at xs s → take (size * length xs) (drop at s) ≡ area size xs
unfolding area
area_known size at [] s v = let e : size * 0 ≡ 0 = omega arith in ap (λ (m : ℕ). take m (drop at s)) e
area_known size at (x ∷ xs) s v =
    let e : size * suc (length xs) ≡ size + size * length xs = omega arith in
    ap (λ (m : ℕ). take m (drop at s)) e ∙ take-add size (size * length xs) (drop at s)
    ∙ ap₂ ◌++◌ first (ap (take (size * length xs)) (drop-drop size at s) ∙ area_known size (at + size) xs s (omega (arith, v.0, e), later))
  where
    first : take size (drop at s) ≡ bytes_of size x
    first =
        let here : at + size * 0 ≡ at = omega arith in
        bytes_known size x at s (omega (arith, v.0, mul-le-mul_left size (zero-lt-suc (length xs)))) (subst (λ (p : ℕ). Stands size x p s) here (v.1 0 (zero-lt-suc (length xs))))

    later : (i : ℕ) → i < length xs → Stands size (get_or xs i 0) (at + size + size * i) s
    later i k =
        let there : at + size * suc i ≡ at + size + size * i = omega arith in
        subst (λ (p : ℕ). Stands size (get_or xs i 0) p s) there (v.1 (suc i) (suc-le-suc k))
