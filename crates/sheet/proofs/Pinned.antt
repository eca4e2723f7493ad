-- A draw sheet is as it is pinned: the six numbers and the areas are those that stand there, soundness is by its sentence. Assumes nothing.
--
--   sheet_pinned   the statement
use mathlib.Core.Path.{◌≡◌, refl, sym, ap, ◌∙◌}
use mathlib.Core.Logic.{◌⊎◌, inl, inr}
use mathlib.Core.Bool.{Bool, true, false}
use mathlib.Core.List.{List}
use Prim.Native.Nat.{ℕ, zero, suc, ◌+◌, ◌*◌, ◌<◌, ◌≤◌, max}
use native.Mathlib.Omega.{arith}
use lib.Dec.{leb}
use lib.ListN.{length}
use borrow.Author.Tests.{leb-true, leb-false}
use Rattle.areas.specs.Area.{little, entries}
use Rattle.areas.proofs.Pinned.{area_pinned}
use Rattle.sheet.specs.Sheet.{Numbers, numbers, words_end, records_end, Sound}
use Rattle.sheet.specs.Pinned.{Header, SheetPinned}
use Rattle.sheet.proofs.Reading.{right_size, size_right}
use Rattle.sheet.proofs.Soundness.{sound_iff}

-- ---- the six numbers

six : (h : Numbers) (s : List ℕ) → Header h s → numbers s ≡ h
six h s v =
    let l = v.long in
    let e0 = area_pinned.one 4 h.words 0 s (omega arith) v.words in
    let e1 = area_pinned.one 4 h.words_at 4 s (omega arith) v.words_at in
    let e2 = area_pinned.one 4 h.records 8 s (omega arith) v.records in
    let e3 = area_pinned.one 4 h.records_at 12 s (omega arith) v.records_at in
    let e4 = area_pinned.one 4 h.k 16 s (omega arith) v.k in
    let e5 = area_pinned.one 4 h.w 20 s (omega arith) v.w in
    rw (e0, e1, e2, e3, e4, e5)

-- ---- when it is sound

-- of two areas that share no byte
apart : (a m b n : ℕ) → ((byte : ℕ) → (a ≤ byte) × (byte < a + 8 * m) → (b ≤ byte) × (byte < b + 4 * n) → ⊥)
    → (m ≡ 0) ⊎ ((n ≡ 0) ⊎ ((a + 8 * m ≤ b) ⊎ (b + 4 * n ≤ a)))
apart a zero b n v = inl refl
apart a (suc m) b zero v = inr (inl refl)
apart a (suc m) b (suc n) v = go (leb (a + 8 * suc m) b) refl (leb (b + 4 * suc n) a) refl
  where
    go : (p : Bool) → leb (a + 8 * suc m) b ≡ p → (q : Bool) → leb (b + 4 * suc n) a ≡ q
        → (suc m ≡ 0) ⊎ ((suc n ≡ 0) ⊎ ((a + 8 * suc m ≤ b) ⊎ (b + 4 * suc n ≤ a)))
    go true e q f = inr (inr (inl (leb-true _ _ e)))
    go false e true f = inr (inr (inr (leb-true _ _ f)))
    go false e false f =
        let h : b < a + 8 * suc m = leb-false _ _ e in
        let k : a < b + 4 * suc n = leb-false _ _ f in
        absurd (v (max a b) (omega arith, omega arith) (omega arith, omega arith))

module _ (s : List ℕ) where
  abbrev h : Numbers
  h = numbers s

  abbrev OneBefore : Type 0
  OneBefore = (h.words ≡ 0) ⊎ ((h.records ≡ 0) ⊎ ((h.words_at + 8 * h.words ≤ h.records_at) ⊎ (h.records_at + 4 * h.records ≤ h.words_at)))

  abbrev Figures : Type 0
  Figures =
      (24 ≤ length s) × (length s ≤ 65535) × (24 ≤ h.words_at) × (24 ≤ h.records_at) × (h.words_at + 8 * h.words ≤ length s)
      × (h.records_at + 4 * h.records ≤ length s) × OneBefore

  by_figures : Sound s → Figures
  by_figures v =
      (v.allowed.0, v.allowed.1, v.offsets.0, v.offsets.1, v.within.0, v.within.1, apart h.words_at h.words h.records_at h.records v.apart)

  none_shared : OneBefore → (byte : ℕ) → (h.words_at ≤ byte) × (byte < words_end h) → (h.records_at ≤ byte) × (byte < records_end h) → ⊥
  none_shared (inl z) byte u v = omega arith
  none_shared (inr (inl z)) byte u v = omega arith
  none_shared (inr (inr (inl z))) byte u v = omega arith
  none_shared (inr (inr (inr z))) byte u v = omega arith

  by_sentence : Figures → Sound s
  by_sentence (a, b, c, d, e, f, g) = record { allowed = (a, b); offsets = (c, d); within = (e, f); apart = none_shared g }

-- ---- the statement

pub sheet_pinned : SheetPinned
unfolding little
sheet_pinned = record {
  six = six;
  example = refl;
  back = λ s next rejected. refl;
  none = λ s n batch. refl;
  words = λ s ws e v. ap (λ (c : ℕ). entries 8 c (numbers s).words_at s) (sym e) ∙ area_pinned.all 8 (numbers s).words_at s ws v;
  records = λ s xs e v. ap (λ (c : ℕ). entries 4 c (numbers s).records_at s) (sym e) ∙ area_pinned.all 4 (numbers s).records_at s xs v;
  sound = λ s. (λ t. by_figures s ((sound_iff s).0 t), λ v. (sound_iff s).1 (by_sentence s v));
  size = λ n k w. (right_size n k w, size_right n k w);
}
