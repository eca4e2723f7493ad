-- Numbers in decimal, and bytes written on a page one behind the other. Assumes nothing.
--
--   decimal_one      a number below 10 is one digit
--   decimal-more     a number from 10 on is its tenth and one digit more
--   decimal_longer   so that it has one digit more than its tenth
--   digit-count      how many digits a number has at most
--   same_decimal     the number in decimal that the library writes is this one
--   digit_count      how many digits a number of 64 bits has at most
--   as_long          the list is as long as it was
--   joined           bytes, and others behind them, are written as one
--   none_written     nothing is written
--   same_bytes       what is written, in other words
use mathlib.Core.Path.{◌≡◌, refl, sym, ap, ◌∙◌}
use mathlib.Core.Bool.{Bool, true, false}
use mathlib.Core.List.{List, [], ◌∷◌, ◌++◌}
use Prim.Native.Nat.{ℕ, zero, suc, ◌+◌, ◌/◌, ◌%◌, ◌^◌, ◌<◌, ◌≤◌}
use native.Mathlib.Nat.{pow-suc}
use native.Mathlib.Omega.{arith}
use lib.Dec.{ltb}
use lib.ListN.{length, length-append}
use borrow.Author.Tests.{lt-ltb, le-ltb, ltb-true, ltb-false}
use Rattle.std.specs.Fmt.{decimal as text_of}
use Rattle.std.proofs.lemmas.Fmt.{decimal_by_steps, length-decimal-le}
use Rattle.rules.proofs.Writing.{length-put, put_none, put-put}
use Rattle.rules.specs.Put.{put}
use Rattle.spelling.specs.Decimal.{digit, digits, decimal}
use Rattle.spelling.specs.declared.page.Page.{Page}
use Rattle.spelling.specs.Inner.{Written}

-- ---- a number in decimal

digits_one : (c n : ℕ) → n ≤ c → n < 10 → digits c n ≡ digit n ∷ []
unfolding digits
digits_one zero n h k = let e : n ≡ 0 = omega arith in rw e
digits_one (suc c) n h k = rw (lt-ltb n 10 k, digits)

digits_more : (c n : ℕ) → 10 ≤ n → digits (suc c) n ≡ digits c (n / 10) ++ digit (n % 10) ∷ []
unfolding digits
digits_more c n h = rw (le-ltb n 10 h, digits)

-- the count in front, which n does not pass, changes nothing
digits_same : (c d n : ℕ) → n ≤ c → n ≤ d → digits c n ≡ digits d n
digits_same zero d n h k = digits_one zero n h (omega arith) ∙ sym (digits_one d n k (omega arith))
digits_same (suc c) zero n h k = digits_one (suc c) n h (omega arith) ∙ sym (digits_one zero n k (omega arith))
digits_same (suc c) (suc d) n h k = go (ltb n 10) refl (digits_same c d (n / 10))
  where
    go : (b : Bool) → ltb n 10 ≡ b → (n / 10 ≤ c → n / 10 ≤ d → digits c (n / 10) ≡ digits d (n / 10)) → digits (suc c) n ≡ digits (suc d) n
    go true e f = digits_one (suc c) n h (ltb-true _ _ e) ∙ sym (digits_one (suc d) n k (ltb-true _ _ e))
    go false e f =
        let l : 10 ≤ n = ltb-false _ _ e in
        digits_more c n l ∙ ap (λ (ds : List ℕ). ds ++ digit (n % 10) ∷ []) (f (omega arith) (omega arith)) ∙ sym (digits_more d n l)

pub decimal_one : (n : ℕ) → n < 10 → decimal n ≡ digit n ∷ []
decimal_one n h = digits_one n n (omega arith) h

pub decimal-more : (n : ℕ) → 10 ≤ n → decimal n ≡ decimal (n / 10) ++ digit (n % 10) ∷ []
decimal-more zero h = absurd (omega arith)
decimal-more (suc m) h =
    digits_more m (suc m) h
    ∙ ap (λ (ds : List ℕ). ds ++ digit (suc m % 10) ∷ []) (digits_same m (suc m / 10) (suc m / 10) (omega arith) (omega arith))

pub decimal_longer : (n : ℕ) → 10 ≤ n → length (decimal n) ≡ length (decimal (n / 10)) + 1
decimal_longer n h = ap length (decimal-more n h) ∙ length-append (decimal (n / 10)) _

pub digit-count : (k n : ℕ) → n < 10 ^ suc k → length (decimal n) ≤ suc k
digit-count zero n h = rw (decimal_one n h) (omega arith)
digit-count (suc k) n h = go (ltb n 10) refl (digit-count k (n / 10))
  where
    go : (b : Bool) → ltb n 10 ≡ b → (n / 10 < 10 ^ suc k → length (decimal (n / 10)) ≤ suc k) → length (decimal n) ≤ suc (suc k)
    go true e f = rw (decimal_one n (ltb-true _ _ e)) (omega arith)
    go false e f =
        let m : n / 10 < 10 ^ suc k = omega (arith, pow-suc 10 (suc k)) in
        omega (arith, decimal_longer n (ltb-false _ _ e), f m)

-- the library's own definition goes from the last digit to the first
pub same_decimal : (n : ℕ) → n < 2 ^ 64 → text_of n ≡ decimal n
same_decimal n h =
    decimal_by_steps (λ m ds. ds ≡ decimal m) (λ m k. sym (decimal_one m k))
    (λ m ds k e. ap (λ (l : List ℕ). l ++ digit (m % 10) ∷ []) e ∙ sym (decimal-more m k)) n h

pub digit_count : (k n : ℕ) → 0 < k → n < 10 ^ k → n < 2 ^ 64 → length (decimal n) ≤ k
digit_count k n h i j = rw (← same_decimal n j) (length-decimal-le k n h i j)

-- ---- bytes on a page

pub as_long : {p q : Page} {xs : List ℕ} → Written p xs q → length q.bytes.now ≡ length p.bytes.now
as_long {p = p} {xs = xs} v = ap length v.bytes ∙ length-put p.bytes.now xs p.at (omega arith)

pub joined : {p q r : Page} {xs ys : List ℕ} → Written p xs q → Written q ys r → Written p (xs ++ ys) r
joined {p = p} {q = q} {xs = xs} {ys = ys} v w = record {
  same_list = w.same_list ∙ v.same_list;
  bytes = w.bytes ∙ ap (λ (l : List ℕ). put l q.at ys) v.bytes ∙ put-put p.bytes.now p.at q.at xs ys v.place (omega arith);
  place = omega (arith, length-append xs ys);
  within = omega (arith, as_long v);
}

pub none_written : {p : Page} → p.at ≤ length p.bytes.now → Written p [] p
none_written {p = p} h =
    record { same_list = refl; bytes = sym (put_none p.bytes.now p.at); place = omega arith; within = h }

pub same_bytes : {p q : Page} {xs ys : List ℕ} → xs ≡ ys → Written p xs q → Written p ys q
same_bytes e v = rw (← e) v
