-- Facts of no subject. Assumes nothing.
--
--   both                two tests pass together exactly where each passes
--   truth               a test that passes is true
--   clash               a case that does not arise
--   or_left, or_right   each of two tests fails where neither passes
use mathlib.Core.Path.{◌≡◌, refl}
use mathlib.Core.Logic.{◌↔◌}
use mathlib.Core.Bool.{Bool, true, false, ◌&&◌, ◌||◌}
use Prim.Native.Nat.{ℕ}
use native.Mathlib.Omega.{arith}
use lib.Dec.{T}

pub both : (a b : Bool) → T (a && b) ↔ (T a × T b)
both true b = (λ t. (tt, t), λ p. p.1)
both false b = (λ t. absurd t, λ p. absurd p.0)

pub truth : (b : Bool) → T b → b ≡ true
truth true t = refl
truth false t = absurd t

-- a case that does not arise, where two variants would be one: `clash cc`
pub clash : {A : Type 0} → ◌≡◌ {A = ℕ} 0 1 → A
clash z = absurd (let n : ⊥ = omega arith in n)

-- ---- no bound is 0

pub or_left : (a b : Bool) → (a || b) ≡ false → a ≡ false
or_left true b e = e
or_left false b e = refl

pub or_right : (a b : Bool) → (a || b) ≡ false → b ≡ false
or_right true b e = cc
or_right false b e = e
