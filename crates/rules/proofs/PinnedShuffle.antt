-- Fisher-Yates, roll by roll: a roll exchanges a place that is still open with the last such place, which no later roll touches. Assumes
-- nothing.
--
--   shuffle_pinned    the pin of the shuffle
use mathlib.Core.Path.{◌≡◌, refl, sym, ◌∙◌}
use mathlib.Core.List.{List, [], ◌∷◌}
use Prim.Native.Nat.{ℕ, zero, suc, suc-le-suc, zero-le, ◌+◌, ◌-◌, ◌<◌, ◌≤◌}
use native.Mathlib.Numerals.{add-one}
use native.Mathlib.Omega.{arith}
use lib.ListN.{length, take, get_or}
use lib.Seq.{take-suc, length-take-le}
use Rattle.rules.specs.Shuffle.{exchange, shuffle_with}
use Rattle.rules.specs.Order.{Reorders}
use Rattle.rules.specs.Pinned.{Open, Exchanged, ShufflePinned}
use Rattle.rules.proofs.Counting.{count-exchange}
use Rattle.rules.proofs.Exchanging.{length-exchange, exchange-first, exchange-last, exchange_other}
use Rattle.rules.proofs.Orders.{length-shuffle, shuffle-append}

-- ---- one roll

exchanged : (xs : List ℕ) (a b : ℕ) → a < length xs → b < length xs → Exchanged a b xs (exchange xs a b)
exchanged xs a b ha hb = record {
  at_a = exchange-first xs a b ha;
  at_b = exchange-last xs a b hb;
  elsewhere = exchange_other xs a b;
  as_long = length-exchange xs a b;
}

one_more : (m : ℕ) (rs xs : List ℕ) (i : ℕ) → i < length rs
    → shuffle_with m (take (i + 1) rs) xs ≡ exchange (shuffle_with m (take i rs) xs) (get_or rs i 0) (m - (i + 1))
unfolding shuffle_with
one_more m rs xs i h =
    let n : length (take i rs) ≡ i = length-take-le i rs (omega arith) in
    let e : m - length (take i rs) - 1 ≡ m - (i + 1) = omega arith in
    rw (add-one i, take-suc rs i 0 h) (rw (← add-one i) (shuffle-append m (take i rs) (get_or rs i 0 ∷ []) xs ∙ rw e))

-- ---- the places that are open

open_cons : (m r : ℕ) (rs : List ℕ) → Open m (r ∷ rs) → (r < m) × Open (m - 1) rs
open_cons m r rs o = (omega (arith, o 0 (suc-le-suc zero-le)), λ i h. omega (arith, o (suc i) (suc-le-suc h)))

kept : (m : ℕ) (rs xs : List ℕ) (k : ℕ) → Open m rs → m ≤ k → get_or (shuffle_with m rs xs) k 0 ≡ get_or xs k 0
unfolding shuffle_with
kept m [] xs k o h = refl
kept m (r ∷ rs) xs k o h =
    let (l, later) = open_cons m r rs o in
    kept (m - 1) rs (exchange xs r (m - 1)) k later (omega arith) ∙ exchange_other xs r (m - 1) k (λ e. omega arith) (λ e. omega arith)

settled : (m : ℕ) (rs xs : List ℕ) → Open m rs → (i k : ℕ) → m - i ≤ k → get_or (shuffle_with m (take i rs) xs) k 0 ≡ get_or (shuffle_with m rs xs) k 0
unfolding shuffle_with
settled m rs xs o zero k h = sym (kept m rs xs k o (omega arith))
settled m [] xs o (suc i) k h = refl
settled m (r ∷ rs) xs o (suc i) k h = settled (m - 1) rs (exchange xs r (m - 1)) (open_cons m r rs o).1 i k (omega arith)

reorders : (m : ℕ) (rs xs : List ℕ) → m ≤ length xs → Open m rs → (i : ℕ) → Reorders xs (shuffle_with m (take i rs) xs)
unfolding shuffle_with
reorders m rs xs h o zero x = refl
reorders m [] xs h o (suc i) x = refl
reorders m (r ∷ rs) xs h o (suc i) x =
    let (l, later) = open_cons m r rs o in
    reorders (m - 1) rs (exchange xs r (m - 1)) (rw length-exchange (omega arith)) later i x
    ∙ count-exchange x xs r (m - 1) (omega arith) (omega arith)

pub shuffle_pinned : (m : ℕ) (xs rs : List ℕ) → m ≤ length xs → Open m rs → ShufflePinned m xs rs
unfolding shuffle_with
shuffle_pinned m xs rs h o = record {
  begun = refl;
  turn = λ i k.
      let n = length-shuffle m (take i rs) xs in
      let l = o i k in
      rw (one_more m rs xs i k) (exchanged (shuffle_with m (take i rs) xs) (get_or rs i 0) (m - (i + 1)) (omega arith) (omega arith));
  settled = settled m rs xs o;
  reorders = reorders m rs xs h o;
}
