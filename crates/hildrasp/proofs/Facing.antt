-- What is promised of what the definitions say holds of what the caller gets, which is equal to it. Assumes nothing.
--
--   alone          of an answer
--   beside         of an answer beside a lent list
--   beside_both    of an answer beside two of them
use mathlib.Core.Path.{◌≡◌, sym, subst}

pub alone : {A : Type 0} (P : A → Type 0) (said got : A) → got ≡ said → P said → P got
alone P said got e p = subst P (sym e) p

pub beside : {A B : Type 0} (P : A × B → Type 0) (said : A × B) (a : A) (b : B) → a ≡ said.0 → b ≡ said.1 → P said → P (a, b)
beside P said a b e f p = subst P (λ i. (sym e i, sym f i)) p

pub beside_both : {A B C : Type 0} (P : A × (B × C) → Type 0) (said : A × (B × C)) (a : A) (b : B) (c : C) → a ≡ said.0 → b ≡ said.1.0 → c ≡ said.1.1
    → P said → P (a, (b, c))
beside_both P said a b c e f g p = subst P (λ i. (sym e i, (sym f i, sym g i))) p
