-- The values of numbers, in the loops that read and write them. Assumes nothing.
--
--   values-set, length-values, get_or-values    the values of a list with one number stored; how many there are; the i-th
--   read_turn, write_turn                       one number more is read, or written
use mathlib.Core.Path.{◌≡◌, sym, ap, ap₂, subst, ◌∙◌}
use mathlib.Core.List.{List, map}
use Prim.Native.Nat.{ℕ, ◌+◌, ◌*◌, ◌<◌, ◌≤◌}
use native.Mathlib.Omega.{arith}
use lib.ListN.{length, set, get_or, length-map}
use lib.Seq.{map-set}
use Rattle.std.proofs.lemmas.List.{get_or-map}
use Rattle.rules.specs.Put.{put}
use Rattle.rules.proofs.Writing.{Written, written-turn}
use Rattle.areas.specs.Area.{number, entries, bytes_of}
use Rattle.areas.proofs.Putting.{Laid, laid_turn}
use Rattle.areas.proofs.Reading.{length-entries, get_or-entries}

module _ {N : Type 0} {value : N → ℕ} {values : List N → List ℕ} (each : (ns : List N) → values ns ≡ map value ns) where
  values-set : (ns : List N) (i : ℕ) (n : N) → values (set ns i n) ≡ set (values ns) i (value n)
  values-set ns i n = each (set ns i n) ∙ map-set value ns i n ∙ ap (λ (l : List ℕ). set l i (value n)) (sym (each ns))

  length-values : (ns : List N) → length (values ns) ≡ length ns
  length-values ns = ap length (each ns) ∙ length-map ns value

  get_or-values : (ns : List N) (i : ℕ) (n : N) → i < length ns → n ≡ get_or ns i n → get_or (values ns) i 0 ≡ value n
  get_or-values ns i n h e = ap (λ (l : List ℕ). get_or l i 0) (each ns) ∙ get_or-map value ns i n 0 h ∙ ap value (sym e)

  -- the code goes on by `step` bytes from number to number, which is the size
  pub read_turn : (size count at : ℕ) (s : List ℕ) (before out : List N) (i step : ℕ) (n : N) → Written (entries size count at s) count (values before) (values out) i
      → i < count → count ≤ length before → value n ≡ number size (at + step * i) s → step ≡ size
      → Written (entries size count at s) count (values before) (values (set out i n)) (i + 1)
  read_turn size count at s before out i step n v h room e f =
      let all = entries size count at s in
      let long : count ≤ length (values before) = omega (arith, length-values before) in
      subst (λ (l : List ℕ). Written all count (values before) l (i + 1)) (sym (values-set out i n))
      (written-turn all count (length-entries size count at s) (values before) (values out) i v (value n) h long (e ∙ ap (λ (k : ℕ). number size (at + k * i) s) f ∙ sym (get_or-entries size count at s i h)))

  pub write_turn : (size at : ℕ) (ns : List N) (before out last : List ℕ) (i step : ℕ) (n : N) → Laid size before at (values ns) out i → i < length ns
      → at + size * length ns ≤ length before → n ≡ get_or ns i n → last ≡ put out (at + step * i) (bytes_of size (value n)) → step ≡ size
      → Laid size before at (values ns) last (i + 1)
  write_turn size at ns before out last i step n v h room e k f =
      let long = length-values ns in
      laid_turn v (omega (arith, long)) (rw long room) (k ∙ ap₂ (λ (p m : ℕ). put out (at + p * i) (bytes_of size m)) f (sym (get_or-values ns i n h e)))
