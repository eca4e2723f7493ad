-- What is read from a written sheet, whatever stands behind it. Assumes nothing.
--
--   length-written                        the bytes of a written sheet
--   Fitting                               words, records, k and w that a writer accepts, each as large as its bytes can hold
--   laid_six, laid_words, laid_records    where its six numbers, its words and its records stand
--   written-numbers                       its six numbers
--   written_words, written_records        its words and its records
--   written_sound                         it is sound
--   written_known                         bytes in which all this stands are the written sheet
use mathlib.Core.Path.{◌≡◌, refl, sym, ap, ap₂, subst, ◌∙◌}
use mathlib.Core.List.{List, [], ◌++◌, append_assoc}
use Prim.Native.Nat.{ℕ, zero, suc, ◌+◌, ◌*◌, ◌^◌, ◌<◌, ◌≤◌}
use native.Mathlib.Omega.{arith}
use lib.Dec.{lit<}
use lib.ListN.{length, take, get_or, length-append}
use lib.Seq.{take-add}
use Rattle.rules.specs.Order.{AllBelow}
use Rattle.areas.specs.Area.{number, entries, area}
use Rattle.areas.specs.Pinned.{Stands, Area}
use Rattle.areas.proofs.Laying.{length-area, laid_at, area_known}
use Rattle.areas.proofs.Pinned.{area_pinned}
use Rattle.sheet.specs.Sheet.{Numbers, numbers, words_of, records_of, Sound}
use Rattle.writer.specs.WriteSheet.{length_of, header, written}

pub length-written : (ws xs : List ℕ) (k w : ℕ) → length (written ws xs k w) ≡ length_of ws xs
length-written ws xs k w =
    rw (
      length-append,
      length-append,
      length-area 4 (header (length ws) (length xs) k w),
      length-area 8 ws,
      length-area 4 xs,
    ) (omega arith)

pub record Fitting (ws xs : List ℕ) (k w : ℕ) : Type 0 where
  pub words : AllBelow (2 ^ 64) ws
  pub records : AllBelow (2 ^ 32) xs
  pub long : length_of ws xs ≤ 65535
  pub size : (1 ≤ k) × (k ≤ length xs) × (w ≤ k)

module _ (ws xs : List ℕ) (k w : ℕ) (v : Fitting ws xs k w) (back : List ℕ) where
  abbrev h : List ℕ
  h = header (length ws) (length xs) k w

  abbrev s : List ℕ
  s = written ws xs k w ++ back

  six_below : AllBelow (2 ^ 32) h
  six_below zero l = omega (arith, v.long)
  six_below (suc zero) l = lit< tt
  six_below (suc (suc zero)) l = omega (arith, v.long)
  six_below (suc (suc (suc zero))) l = omega (arith, v.long)
  six_below (suc (suc (suc (suc zero)))) l = omega (arith, v.long, v.size.1)
  six_below (suc (suc (suc (suc (suc zero))))) l = omega (arith, v.long, v.size.1, v.size.2)
  six_below (suc (suc (suc (suc (suc (suc i)))))) l = absurd (omega (arith, l))

  -- where its parts stand

  pub laid_six : Area 4 0 h s
  laid_six = laid_at 4 h 0 s [] ((area 8 ws ++ area 4 xs) ++ back) six_below refl (append_assoc (area 4 h) (area 8 ws ++ area 4 xs) back)

  pub laid_words : Area 8 24 ws s
  laid_words =
      laid_at 8 ws 24 s (area 4 h) (area 4 xs ++ back) v.words (sym (length-area 4 h))
      (append_assoc (area 4 h) (area 8 ws ++ area 4 xs) back ∙ ap (λ (l : List ℕ). area 4 h ++ l) (append_assoc (area 8 ws) (area 4 xs) back))

  pub laid_records : Area 4 (24 + 8 * length ws) xs s
  laid_records =
      laid_at 4 xs (24 + 8 * length ws) s (area 4 h ++ area 8 ws) back v.records (rw (length-append, length-area 4 h, length-area 8 ws) refl)
      (ap (λ (l : List ℕ). l ++ back) (sym (append_assoc (area 4 h) (area 8 ws) (area 4 xs))) ∙ append_assoc (area 4 h ++ area 8 ws) (area 4 xs) back)

  -- what is read from it

  one_number : (i n : ℕ) → i < 6 → n ≡ 4 * i → number 4 n s ≡ get_or h i 0
  one_number i n l e =
      let here : 0 + 4 * i ≡ n = omega (arith, e) in
      area_pinned.one 4 (get_or h i 0) n s (omega (arith, laid_six.0)) (subst (λ (p : ℕ). Stands 4 (get_or h i 0) p s) here (laid_six.1 i l))

  pub written-numbers : numbers s ≡ record { words = length ws; words_at = 24; records = length xs; records_at = 24 + 8 * length ws; k = k; w = w }
  written-numbers = rw (
    one_number 0 0 (lit< tt) refl,
    one_number 1 4 (lit< tt) refl,
    one_number 2 8 (lit< tt) refl,
    one_number 3 12 (lit< tt) refl,
    one_number 4 16 (lit< tt) refl,
    one_number 5 20 (lit< tt) refl,
  )

  pub written_words : words_of s ≡ ws
  written_words = ap (λ (n : Numbers). entries 8 n.words n.words_at s) written-numbers ∙ area_pinned.all 8 24 s ws laid_words

  pub written_records : records_of s ≡ xs
  written_records = ap (λ (n : Numbers). entries 4 n.records n.records_at s) written-numbers ∙ area_pinned.all 4 (24 + 8 * length ws) s xs laid_records

  pub written_sound : length s ≤ 65535 → Sound s
  written_sound l =
      let n : length s ≡ length_of ws xs + length back = length-append (written ws xs k w) back ∙ ap (λ (m : ℕ). m + length back) (length-written ws xs k w) in
      let e1 = ap (λ (x : Numbers). x.words) written-numbers in
      let e2 = ap (λ (x : Numbers). x.words_at) written-numbers in
      let e3 = ap (λ (x : Numbers). x.records) written-numbers in
      let e4 = ap (λ (x : Numbers). x.records_at) written-numbers in
      record {
        allowed = (omega (arith, n), l);
        offsets = (omega (arith, e2), omega (arith, e4));
        within = (omega (arith, n, e1, e2), omega (arith, n, e3, e4));
        apart = λ byte a b. omega (arith, a.1, b.0, e1, e2, e4);
      }

-- ---- a sheet by what stands in it

pub written_known : (ws xs : List ℕ) (k w : ℕ) (s : List ℕ) → Area 4 0 (header (length ws) (length xs) k w) s → Area 8 24 ws s → Area 4 (24 + 8 * length ws) xs s
    → take (length_of ws xs) s ≡ written ws xs k w
written_known ws xs k w s six words records =
    take-add (24 + 8 * length ws) (4 * length xs) s
    ∙ ap₂ ◌++◌ (take-add 24 (8 * length ws) s ∙ ap₂ ◌++◌ (area_known 4 0 (header (length ws) (length xs) k w) s six) (area_known 8 24 ws s words))
    (area_known 4 (24 + 8 * length ws) xs s records)
    ∙ append_assoc (area 4 (header (length ws) (length xs) k w)) (area 8 ws) (area 4 xs)
