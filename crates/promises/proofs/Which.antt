-- Which number is given, of three that are looked for in turn. Assumes nothing.
--
--   differ                                    two numbers that the test tells apart
--   neither                                   a number that differs from two is neither
--   Parted                                    the three numbers and what is said of the rest exclude each other
--   which                                     the statement, of the first refusal of a list whose tests fail exactly where their sentences hold
--   none_applies                              where no number was given no refusal applies
--   tested_sound, tested_size, tested_room    the tests of a sheet fail exactly where their sentences hold
use mathlib.Core.Path.{◌≡◌, refl, sym, ap}
use mathlib.Core.Bool.{Bool, true, false, not, ◌||◌}
use mathlib.Core.Logic.{◌↔◌, ◌≢◌, ◌⊎◌, inl, inr}
use mathlib.Core.List.{List, ◌∷◌}
use Prim.Native.Nat.{ℕ, ◌≤◌}
use native.Mathlib.Omega.{arith}
use lib.Dec.{T, ltb}
use lib.Ieee.Bits.{is_true}
use borrow.Author.Tests.{le-ltb, ltb-true, ltb-false, not-false}
use Rattle.rules.proofs.Facts.{clash}
use Rattle.answers.specs.Outcome.{Refusal, no}
use Rattle.sheet.specs.Sheet.{Sound, is_sound_sheet, is_wrong_size}
use Rattle.sheet.proofs.Reading.{right_size, size_right}
use Rattle.sheet.proofs.Soundness.{sound_known, sound_iff}
use Rattle.promises.specs.Demand1.{first_of, Which}
use Rattle.promises.specs.Demand2.{Allowed}
use Rattle.promises.specs.Sheet.{RightSize}
use Rattle.promises.proofs.Refusing.{Numbered}

never : {A : Type 0} → ◌≡◌ {A = Bool} true false → A
never z = clash cc

pub differ : {m n : ℕ} → T (ltb m n || ltb n m) → m ≢ n
differ {m} {n} t e = go (ltb m n) refl (ltb n m) refl t
  where
    go : (a : Bool) → ltb m n ≡ a → (b : Bool) → ltb n m ≡ b → T (a || b) → ⊥
    go true f b g u = let l = ltb-true m n f in omega (arith, l, e)
    go false f true g u = let l = ltb-true n m g in omega (arith, l, e)
    go false f false g u = u

pub neither : (n a b : ℕ) → n ≢ a → n ≢ b → ¬ ((n ≡ a) ⊎ (n ≡ b))
neither n a b h k (inl e) = h e
neither n a b h k (inr e) = k e

pub record Parted (first second third : ℕ) (Rest : ℕ → Type 0) : Type 0 where
  pub numbers : (first ≢ second) × (first ≢ third) × (second ≢ third)
  pub rests : (¬ Rest first) × (¬ Rest second) × (¬ Rest third)

module _ {first second third : ℕ} {Rest : ℕ → Type 0} {A B C : Type 0} (d : Parted first second third Rest) (rs : List Refusal)
    (later : let n = (first_of rs).number in Rest n × (n ≢ first) × (n ≢ second) × (n ≢ third)) where
  pub which : (a b c : Bool) → (a ≡ false) ↔ A → (b ≡ false) ↔ B → (c ≡ false) ↔ C
      → Which first second third A B C Rest (first_of (no first a ∷ no second b ∷ no third c ∷ rs)).number
  unfolding first_of
  which true b c p q r = record {
    one = (λ e x. never (p.1 x), λ x. refl);
    two = (λ e. absurd (d.numbers.0 e), λ x. never (p.1 x.0));
    three = (λ e. absurd (d.numbers.1 e), λ x. never (p.1 x.0));
    rest = (λ e. absurd (d.rests.0 e), λ x. never (p.1 x.0));
  }
  which false true c p q r = record {
    one = (λ e. absurd (d.numbers.0 (sym e)), λ x. absurd (x (p.0 refl)));
    two = (λ e. (p.0 refl, λ x. never (q.1 x)), λ x. refl);
    three = (λ e. absurd (d.numbers.2 e), λ x. never (q.1 x.1.0));
    rest = (λ e. absurd (d.rests.1 e), λ x. never (q.1 x.1.0));
  }
  which false false true p q r = record {
    one = (λ e. absurd (d.numbers.1 (sym e)), λ x. absurd (x (p.0 refl)));
    two = (λ e. absurd (d.numbers.2 (sym e)), λ x. absurd (x.1 (q.0 refl)));
    three = (λ e. (p.0 refl, (q.0 refl, λ x. never (r.1 x))), λ x. refl);
    rest = (λ e. absurd (d.rests.2 e), λ x. never (r.1 x.1.1));
  }
  which false false false p q r = record {
    one = (λ e. absurd (later.1 e), λ x. absurd (x (p.0 refl)));
    two = (λ e. absurd (later.2 e), λ x. absurd (x.1 (q.0 refl)));
    three = (λ e. absurd (later.3 e), λ x. absurd (x.1.1 (r.0 refl)));
    rest = (λ e. (p.0 refl, (q.0 refl, r.0 refl)), λ x. later.0);
  }

pub none_applies : (rs : List Refusal) → Numbered rs → (first_of rs).number ≡ 0 → Allowed rs
none_applies rs m z = go (first_of rs).applies refl
  where
    go : (b : Bool) → (first_of rs).applies ≡ b → Allowed rs
    go true e = absurd (m e z)
    go false e = e

-- ---- the tests of a sheet

pub tested_sound : (s : List ℕ) → (not (is_sound_sheet s) ≡ false) ↔ Sound s
tested_sound s = (λ e. sound_known s (not-false (is_sound_sheet s) e), λ v. ap not (is_true (is_sound_sheet s) ((sound_iff s).1 v)))

pub tested_size : (n k w : ℕ) → (is_wrong_size n k w ≡ false) ↔ RightSize n k w
tested_size n k w = (right_size n k w, size_right n k w)

pub tested_room : (room n : ℕ) → (ltb room n ≡ false) ↔ (n ≤ room)
tested_room room n = (ltb-false room n, le-ltb room n)
