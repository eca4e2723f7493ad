-- When a sheet is sound, and how much it then holds. Assumes nothing.
--
--   sound_known     a sheet that the test passes is sound
--   sound_false     the test fails a sheet that is not sound
--   sound_iff       the test is the sentence of document 01, both ways
--   sound_rest      where all else is as it should be, a sheet is sound if its areas share no byte
--   sheet_words     a sound sheet has at most 8,188 words
--   sheet_records   and at most 16,377 records
--   sheet_parts     and its six numbers, words and records are together no longer than it
use mathlib.Core.Path.{◌≡◌, refl, sym, ap, ◌∙◌}
use mathlib.Core.Logic.{◌↔◌}
use mathlib.Core.Bool.{Bool, true, false, not, not-eq-not, and-eq-true_iff}
use mathlib.Core.List.{List}
use Prim.Native.Nat.{ℕ, ◌+◌, ◌*◌, ◌<◌, ◌≤◌, min, max}
use native.Mathlib.Omega.{arith}
use lib.Dec.{T, ltb}
use lib.Ieee.Bits.{is_true}
use lib.ListN.{length}
use borrow.Author.Tests.{not-true, ltb-true, ltb-false, leb-true, le-leb}
use Rattle.rules.proofs.Facts.{or_left, or_right}
use Rattle.answers.proofs.Deciding.{in_count}
use Rattle.sheet.specs.Sheet.{Numbers, numbers, words_end, records_end, Sound, is_sound_sheet}

-- ---- the test and the sentence

-- the later start and the earlier end of the two areas
abbrev later : Numbers → ℕ
later h = max h.words_at h.records_at

abbrev earlier : Numbers → ℕ
earlier h = min (words_end h) (records_end h)

module _ (s : List ℕ) where
  abbrev h : Numbers
  h = numbers s

  pub sound_known : is_sound_sheet s ≡ true → Sound s
  sound_known e =
      let (e4, shared) = (and-eq-true_iff _ _).0 e in
      let (e3, recordsIn) = (and-eq-true_iff _ _).0 e4 in
      let (e2, words_in) = (and-eq-true_iff _ _).0 e3 in
      let (e1, recordsFrom) = (and-eq-true_iff _ _).0 e2 in
      let (range, wordsFrom) = (and-eq-true_iff _ _).0 e1 in
      let in_range = not-true _ range in
      let last : earlier h ≤ later h = ltb-false _ _ (not-true _ shared) in
      record {
        allowed = (ltb-false _ _ (or_left _ _ in_range), ltb-false _ _ (or_right (ltb (length s) 24) _ in_range));
        offsets = (leb-true _ _ wordsFrom, leb-true _ _ recordsFrom);
        within = (leb-true _ _ words_in, leb-true _ _ recordsIn);
        apart = λ byte u v. omega arith;
      }

  -- where all else is as it should be, what is left to test is whether the areas share a byte
  test_left : (24 ≤ length s) × (length s ≤ 65535) → (24 ≤ h.words_at) × (24 ≤ h.records_at) → (words_end h ≤ length s) × (records_end h ≤ length s)
      → is_sound_sheet s ≡ not (ltb (later h) (earlier h))
  test_left allowed offsets within = rw (
    in_count 24 65535 (length s) allowed.0 allowed.1,
    le-leb 24 h.words_at offsets.0,
    le-leb 24 h.records_at offsets.1,
    le-leb (words_end h) (length s) within.0,
    le-leb (records_end h) (length s) within.1,
  )

  sound_true : Sound s → is_sound_sheet s ≡ true
  sound_true v = test_left v.allowed v.offsets v.within ∙ ap not {y = false} (not-eq-not.0 shared)
    where
      shared : ltb (later h) (earlier h) ≡ true → ⊥
      shared t =
          let l : later h < earlier h = ltb-true _ _ t in
          v.apart (later h) (omega arith, omega arith) (omega arith, omega arith)

  pub sound_false : (Sound s → ⊥) → is_sound_sheet s ≡ false
  sound_false n = not-eq-not.0 (λ e. n (sound_known e))

  pub sound_iff : T (is_sound_sheet s) ↔ Sound s
  sound_iff = (λ t. sound_known (is_true _ t), λ v. rw (sound_true v) tt)

  -- the same of the areas as the code has them, from a to e and from b to f
  pub sound_rest : (a e b f : ℕ) (r : Bool) → r ≡ ltb (max a b) (min e f) → (a ≡ h.words_at) × (e ≡ words_end h) → (b ≡ h.records_at) × (f ≡ records_end h)
      → (24 ≤ length s) × (length s ≤ 65535) → (24 ≤ a) × (24 ≤ b) → (e ≤ length s) × (f ≤ length s) → not r ≡ is_sound_sheet s
  sound_rest a e b f r t words records allowed offsets within =
      rw (t, words.0, words.1, records.0, records.1) (sym (test_left allowed (omega arith, omega arith) (omega arith, omega arith)))

-- ---- what a sound sheet holds

module _ (s : List ℕ) (v : Sound s) where
  pub sheet_words : (numbers s).words ≤ 8188
  sheet_words = omega (arith, v.allowed.1, v.offsets.0, v.within.0)

  pub sheet_records : (numbers s).records ≤ 16377
  sheet_records = omega (arith, v.allowed.1, v.offsets.1, v.within.1)

  -- the areas share no byte, stand behind the six numbers and end within the sheet
  pub sheet_parts : 24 + 8 * (numbers s).words + 4 * (numbers s).records ≤ length s
  sheet_parts = go (ltb (later (numbers s)) (earlier (numbers s))) refl
    where
      go : (b : Bool) → ltb (later (numbers s)) (earlier (numbers s)) ≡ b → 24 + 8 * (numbers s).words + 4 * (numbers s).records ≤ length s
      go true e =
          let l : later (numbers s) < earlier (numbers s) = ltb-true _ _ e in
          absurd (v.apart (later (numbers s)) (omega arith, omega arith) (omega arith, omega arith))
      go false e =
          let l : earlier (numbers s) ≤ later (numbers s) = ltb-false _ _ e in
          omega (arith, v.offsets.0, v.offsets.1, v.within.0, v.within.1)
