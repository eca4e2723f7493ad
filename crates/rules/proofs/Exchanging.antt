-- What stands where after an exchange. Assumes nothing.
--
--   length-exchange                  it keeps the number of records
--   exchange-last, exchange-first,   the two places, and every other
--     exchange_other
--   among_after                      it loses no record
--   exchange_distinct                and keeps different records different
use mathlib.Core.Path.{◌≡◌, sym, ap, ◌∙◌}
use mathlib.Core.Logic.{◌≢◌}
use mathlib.Core.List.{List}
use Prim.Native.Nat.{ℕ, ◌<◌}
use native.Mathlib.Decide.{ℕ_discrete}
use lib.ListN.{length, get_or, set, length-set}
use lib.Seq.{get_or-set_same, get_or-set_other, lt-length-set}
use Rattle.rules.specs.Shuffle.{exchange}
use Rattle.rules.specs.Order.{Distinct}
use Rattle.rules.proofs.Counting.{Among}

-- ---- an exchange

pub length-exchange : (xs : List ℕ) (i j : ℕ) → length (exchange xs i j) ≡ length xs
unfolding exchange
length-exchange xs i j = simp length-set

pub exchange-last : (xs : List ℕ) (i j : ℕ) → j < length xs → get_or (exchange xs i j) j 0 ≡ get_or xs i 0
unfolding exchange
exchange-last xs i j h = get_or-set_same (set xs i (get_or xs j 0)) j (get_or xs i 0) 0 (lt-length-set xs i (get_or xs j 0) h)

pub exchange-first : (xs : List ℕ) (i j : ℕ) → i < length xs → get_or (exchange xs i j) i 0 ≡ get_or xs j 0
unfolding exchange
exchange-first xs i j h = go (ℕ_discrete i j)
  where
    go : Dec (i ≡ j) → get_or (exchange xs i j) i 0 ≡ get_or xs j 0
    go (yes e) = rw (← e) (exchange-last xs i i h)
    go (no e) = get_or-set_other (set xs i (get_or xs j 0)) j i (get_or xs i 0) 0 e ∙ get_or-set_same xs i (get_or xs j 0) 0 h

pub exchange_other : (xs : List ℕ) (i j k : ℕ) → k ≢ i → k ≢ j → get_or (exchange xs i j) k 0 ≡ get_or xs k 0
unfolding exchange
exchange_other xs i j k m n = get_or-set_other (set xs i (get_or xs j 0)) j k (get_or xs i 0) 0 n ∙ get_or-set_other xs i k (get_or xs j 0) 0 m

-- where the record that stands at place k after the exchange stood before it; and that this goes both ways
record Swapped (xs : List ℕ) (i j k : ℕ) : Type 0 where
  from : ℕ
  fits : from < length xs
  same : get_or (exchange xs i j) k 0 ≡ get_or xs from 0
  back : get_or (exchange xs i j) from 0 ≡ get_or xs k 0

module _ (xs : List ℕ) (i j : ℕ) (hi : i < length xs) (hj : j < length xs) where
  swapped : (k : ℕ) → k < length xs → Swapped xs i j k
  swapped k hk = go (ℕ_discrete k j) (ℕ_discrete k i)
    where
      go : Dec (k ≡ j) → Dec (k ≡ i) → Swapped xs i j k
      go (yes e) d = record { from = i; fits = hi; same = rw e (exchange-last xs i j hj); back = rw e (exchange-first xs i j hi) }
      go (no e) (yes f) = record { from = j; fits = hj; same = rw f (exchange-first xs i j hi); back = rw f (exchange-last xs i j hj) }
      go (no e) (no f) = record { from = k; fits = hk; same = exchange_other xs i j k f e; back = exchange_other xs i j k f e }

  pub among_after : (x : ℕ) → Among x xs → Among x (exchange xs i j)
  among_after x (p, h, e) =
      let w = swapped p h in
      (w.from, rw length-exchange w.fits, w.back ∙ e)

  pub exchange_distinct : Distinct xs → Distinct (exchange xs i j)
  exchange_distinct d k l hk hl e =
      let fk : k < length xs = rw length-exchange at hk in
      let fl : l < length xs = rw length-exchange at hl in
      let u = swapped k fk in
      let v = swapped l fl in
      let one : u.from ≡ v.from = d u.from v.from u.fits v.fits (sym u.same ∙ e ∙ v.same) in
      d k l fk fl (sym u.back ∙ ap (λ (n : ℕ). get_or (exchange xs i j) n 0) one ∙ v.back)
