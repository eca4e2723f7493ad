-- Cutting a list of bounds into batches, over every limit; and the cut that the code makes, at 64 bits. Assumes nothing.
--
--   part bs at end                        the bounds from a place up to another
--   Begun, begun                          how the first batch of a list stands in it
--   Cutting, cut-first, cut-turn          the loop that finds the end of a batch
--   cut_list_ends, cut_full, cut-passes   the batch ends where the list does, or it has sixteen bounds, or its product passes the limit
--   cut_found, cut_ended                  what is answered then; and of the last batch of the list
--   cut_filled                            the batch ends where it has sixteen bounds
use mathlib.Core.Path.{◌≡◌, refl, sym, ap, ap₂, ◌∙◌, subst}
use mathlib.Core.Bool.{Bool, true, false, ◌&&◌, and-false}
use mathlib.Core.List.{List, [], ◌∷◌, ◌++◌, append-nil}
use Prim.Native.Nat.{ℕ, suc, ◌+◌, ◌-◌, ◌*◌, ◌%◌, ◌^◌, ◌<◌, ◌≤◌}
use native.Mathlib.Nat.{mul-one, not-suc-le-zero}
use native.Mathlib.Omega.{arith}
use lib.Dec.{leb, ltb}
use lib.ListN.{length, take, drop, get_or, length-append, length-drop, drop_of_length-le}
use lib.Seq.{take-suc, length-take-le, get_or-drop, append_snoc}
use borrow.Author.Tests.{lt-ltb, le-ltb, ltb-true}
use Rattle.rules.specs.Rolls.{product}
use Rattle.rules.proofs.Facts.{clash}
use Rattle.rules.proofs.Products.{product_snoc}
use Rattle.rules.specs.Width.{w64}
use Rattle.rules.specs.Cut.{joins, cut_from, cut}
use Rattle.arithmetic.specs.Products.{wrap}
use Rattle.rolls.specs.Plan.{begins}
use Rattle.lists.specs.Inner.{cut_at}
use Rattle.rules.proofs.Writing.{drop-next}

abbrev pub part : List ℕ → ℕ → ℕ → List ℕ
part bs at end = take (end - at) (drop at bs)

-- ---- one step

cut-more : (limit : ℕ) (batch : List ℕ) (b : ℕ) (bs : List ℕ) → joins limit batch b ≡ true
    → cut_from limit batch (b ∷ bs) ≡ cut_from limit (batch ++ b ∷ []) bs
unfolding cut_from
cut-more limit batch b bs e = rw (e, cut_from)

cut_here : (limit : ℕ) (batch : List ℕ) (b : ℕ) (bs : List ℕ) → joins limit batch b ≡ false
    → cut_from limit batch (b ∷ bs) ≡ batch ∷ cut limit (b ∷ bs)
unfolding cut_from cut
cut_here limit batch b bs e = rw (e, cut_from)

-- ---- the first batch of a list

-- the batch is the front of the list, of 1 to 16 bounds, and the plan goes on with what is left
pub record Begun (limit : ℕ) (bs batch : List ℕ) : Type 0 where
  pub rest : cut limit bs ≡ batch ∷ cut limit (drop (length batch) bs)
  pub front : batch ≡ take (length batch) bs
  pub within : length batch ≤ length bs
  pub some : 0 < length batch
  pub few : length batch ≤ 16

-- a batch that is begun, taken out of a longer list, with n further bounds
record Grown (limit : ℕ) (batch bs : List ℕ) : Type 0 where
  more : ℕ
  rest : cut_from limit batch bs ≡ (batch ++ take more bs) ∷ cut limit (drop more bs)
  within : more ≤ length bs
  few : length batch + more ≤ 16

grown : (limit : ℕ) (batch bs : List ℕ) → length batch ≤ 16 → Grown limit batch bs
unfolding cut_from cut
grown limit batch [] h = record { more = 0; rest = ap (λ (l : List ℕ). l ∷ []) (sym (append-nil batch)); within = omega arith; few = omega arith }
grown limit batch (b ∷ bs) h = go (joins limit batch b) refl (grown limit (batch ++ b ∷ []) bs)
  where
    room : joins limit batch b ≡ true → length batch < 16
    room e = lemma (ltb (length batch) 16) refl e
      where
        lemma : (t : Bool) → ltb (length batch) 16 ≡ t → (t && leb (product batch * b) limit) ≡ true → length batch < 16
        lemma true f e = ltb-true (length batch) 16 f
        lemma false f e = clash cc

    go : (t : Bool) → joins limit batch b ≡ t → (length (batch ++ b ∷ []) ≤ 16 → Grown limit (batch ++ b ∷ []) bs) → Grown limit batch (b ∷ bs)
    go true e ih =
        let n = length-append batch (b ∷ []) in
        let g = ih (omega (arith, n, room e)) in
        record {
          more = suc g.more;
          rest = cut-more limit batch b bs e ∙ g.rest ∙ ap (λ (l : List ℕ). l ∷ cut limit (drop g.more bs)) (append_snoc batch b (take g.more bs));
          within = omega (arith, g.within);
          few = omega (arith, n, g.few);
        }
    go false e ih = record { more = 0; rest = cut_here limit batch b bs e ∙ ap (λ (l : List ℕ). l ∷ cut limit (b ∷ bs)) (sym (append-nil batch)); within = omega arith; few = omega arith }

pub begun : (limit : ℕ) (bs : List ℕ) → 0 < length bs → Begun limit bs (begins (cut limit bs))
unfolding cut
begun limit [] h = absurd (not-suc-le-zero h)
begun limit (b ∷ bs) h =
    let g = grown limit (b ∷ []) bs (omega arith) in
    let m : ℕ = g.more in
    let n : length (take m bs) ≡ m = length-take-le m bs g.within in
    subst (Begun limit (b ∷ bs)) (sym (ap begins g.rest)) (record {
      rest = rw n g.rest;
      front = ap (λ (k : ℕ). b ∷ take k bs) (sym n);
      within = omega (arith, n, g.within);
      some = omega arith;
      few = omega (arith, n, g.few);
    })

-- ---- the loop that finds the end of a batch

-- the bounds from `at` up to `end` have joined one batch, p is their product, and the cut goes on with the bounds behind them
abbrev pub Cutting : ℕ → List ℕ → ℕ → ℕ → ℕ → Type 0
Cutting limit bs at p end =
    (at < end) × (end ≤ length bs) × (end - at ≤ 16) × (p ≡ product (part bs at end))
    × (cut_from limit (part bs at end) (drop end bs) ≡ cut limit (drop at bs))

length_part : (bs : List ℕ) (at end : ℕ) → end ≤ length bs → length (part bs at end) ≡ end - at
length_part bs at end h = length-take-le (end - at) (drop at bs) (rw length-drop (omega arith))

part-more : (bs : List ℕ) (at end : ℕ) → at ≤ end → end < length bs → part bs at (end + 1) ≡ part bs at end ++ get_or bs end 0 ∷ []
part-more bs at end h k =
    let e : end + 1 - at ≡ suc (end - at) = omega arith in
    let f : at + (end - at) ≡ end = omega arith in
    rw e (take-suc (drop at bs) (end - at) 0 (rw length-drop (omega arith)) ∙ rw (get_or-drop, f))

pub cut-first : (limit : ℕ) (bs : List ℕ) (at : ℕ) → at < length bs → Cutting limit bs at (get_or bs at 0) (at + 1)
unfolding cut product
cut-first limit bs at h =
    let e : at + 1 - at ≡ 1 = omega arith in
    (omega arith, omega arith, omega arith, rw (e, drop-next bs at h) (sym (mul-one _)), rw (e, drop-next bs at h))

module _ (limit : ℕ) (bs : List ℕ) (at p end : ℕ) (v : Cutting limit bs at p end) where
  len : length (part bs at end) ≡ end - at
  len = length_part bs at end v.1

  joined : (s t : Bool) → ltb (length (part bs at end)) 16 ≡ s → leb (p * get_or bs end 0) limit ≡ t
      → joins limit (part bs at end) (get_or bs end 0) ≡ (s && t)
  joined s t e f = ap₂ ◌&&◌ e (rw (← v.3) f)

  pub cut-turn : end < length bs → end - at < 16 → leb (p * get_or bs end 0) limit ≡ true → Cutting limit bs at (p * get_or bs end 0) (end + 1)
  cut-turn h k e =
      let more : part bs at (end + 1) ≡ part bs at end ++ get_or bs end 0 ∷ [] = part-more bs at end (omega arith) h in (
        omega arith,
        omega arith,
        omega arith,
        sym (ap product more ∙ product_snoc (part bs at end) (get_or bs end 0) ∙ ap (λ (x : ℕ). x * get_or bs end 0) (sym v.3)),
        ap (λ (l : List ℕ). cut_from limit l (drop (end + 1) bs)) more
            ∙ sym (ap (cut_from limit (part bs at end)) (drop-next bs end h) ∙ cut-more limit (part bs at end) (get_or bs end 0) (drop (end + 1) bs) (joined true true (lt-ltb (length (part bs at end)) 16 (rw len k)) e))
            ∙ v.4,
      )

  pub cut_list_ends : length bs ≤ end → part bs at end ≡ begins (cut limit (drop at bs))
  unfolding cut_from
  cut_list_ends h = ap begins (sym (ap (cut_from limit (part bs at end)) (drop_of_length-le bs h)) ∙ v.4)

  no_more : end < length bs → joins limit (part bs at end) (get_or bs end 0) ≡ false → part bs at end ≡ begins (cut limit (drop at bs))
  no_more h e = ap begins (sym (ap (cut_from limit (part bs at end)) (drop-next bs end h) ∙ cut_here limit (part bs at end) (get_or bs end 0) (drop (end + 1) bs) e) ∙ v.4)

  pub cut-passes : end < length bs → leb (p * get_or bs end 0) limit ≡ false → part bs at end ≡ begins (cut limit (drop at bs))
  cut-passes h e = no_more h (joined _ false refl e ∙ and-false (ltb (length (part bs at end)) 16))

  pub cut_full : end < length bs → 16 ≤ end - at → part bs at end ≡ begins (cut limit (drop at bs))
  cut_full h k = no_more h (joined false _ (le-ltb (length (part bs at end)) 16 (rw len k)) refl)

  cut_end : part bs at end ≡ begins (cut limit (drop at bs))
      → (end ≡ at + length (begins (cut limit (drop at bs)))) × (p ≡ product (begins (cut limit (drop at bs))))
  cut_end e = (omega (arith, sym len ∙ ap length e), v.3 ∙ ap product e)

-- ---- the cut that the code makes

-- a product that is a word wraps to itself
wrapped_word : (p n : ℕ) → p < 2 ^ 64 → p ≡ n → record { wrapped = p } ≡ wrap n
wrapped_word p n h e = let f : p ≡ n % 2 ^ 64 = omega arith in ap (λ (x : ℕ). record { wrapped = x }) f

pub cut_found : (bs : List ℕ) (at p end : ℕ) → p < 2 ^ 64 → Cutting (2 ^ 56) bs at p end → part bs at end ≡ begins (cut (2 ^ 56) (drop at bs))
    → record { end = end; product = record { wrapped = p } } ≡ cut_at w64 bs at
cut_found bs at p end h v e =
    let f = cut_end (2 ^ 56) bs at p end v e in
    let q = wrapped_word p _ h f.1 in
    λ i. record { end = f.0 i; product = q i }

-- the last batch of the list
pub cut_ended : (bs : List ℕ) (at p end : ℕ) → p < 2 ^ 64 → Cutting (2 ^ 56) bs at p end → length bs ≤ end
    → record { end = length bs; product = record { wrapped = p } } ≡ cut_at w64 bs at
cut_ended bs at p end h v k =
    let e : length bs ≡ end = omega arith in
    ap (λ (n : ℕ). record { end = n; product = record { wrapped = p } }) e ∙ cut_found bs at p end h v (cut_list_ends (2 ^ 56) bs at p end v k)

-- a batch of sixteen bounds, where the code stops
pub cut_filled : (bs : List ℕ) (at end : ℕ) → at < end → end < length bs → 16 ≤ end - at → product (part bs at end) < 2 ^ 64
    → cut_from (2 ^ 56) (part bs at end) (drop end bs) ≡ cut (2 ^ 56) (drop at bs)
    → (part bs at end ≡ begins (cut (2 ^ 56) (drop at bs))) × (length (part bs at end) ≡ end - at) × (product (part bs at end) % 2 ^ 64 ≡ product (part bs at end))
cut_filled bs at end h k f l e =
    let n : length (part bs at end) ≡ end - at = length_part bs at end (omega arith) in
    let j : joins (2 ^ 56) (part bs at end) (get_or bs end 0) ≡ false
    = ap (λ (t : Bool). t && leb (product (part bs at end) * get_or bs end 0) (2 ^ 56)) (le-ltb (length (part bs at end)) 16 (rw n f)) in
    let g = ap (cut_from (2 ^ 56) (part bs at end)) (drop-next bs end k) ∙ cut_here (2 ^ 56) (part bs at end) (get_or bs end 0) (drop (end + 1) bs) j in
    (ap begins (sym g ∙ e), n, omega arith)
