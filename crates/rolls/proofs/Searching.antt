-- The search for a batch's word, as the code makes it. Assumes nothing.
--
--   find_batch                       the test by the low half of the product finds what the test of the last r finds
--   passes_tested                    that test, as the code makes it
--   searched_here                    the answer of a search at a word that passes it
--   searched_hit, searched_missing   what the answer of a search says of it
--   found_by                         the search for a batch's word, by the batch's product
--   hit_before                       a word that is found is one of the list
use Rattle.std.specs.Prelude.{Option, Some, None}
use mathlib.Core.Path.{◌≡◌, refl, sym, ap, ap₂, ◌∙◌}
use mathlib.Core.Bool.{Bool}
use mathlib.Core.List.{List, [], ◌∷◌}
use Prim.Native.Nat.{ℕ, ◌-◌, ◌*◌, ◌%◌, ◌^◌, ◌<◌, ◌≤◌}
use native.Mathlib.Nat.{not-suc-le-zero, zero-mul, zero-mod, mul-mod_right}
use native.Mathlib.Decide.{ℕ_discrete}
use lib.Dec.{leb}
use lib.ListN.{length, get_or, drop}
use borrow.Author.Tests.{le-leb}
use Rattle.rules.specs.Rolls.{product, threshold, accepted}
use Rattle.rules.specs.Run.{Found, found, missing, find}
use Rattle.rules.proofs.Facts.{clash}
use Rattle.rules.proofs.Finding.{find_hit, find_within, find-same}
use Rattle.rules.proofs.Rolls.{rest_low}
use Rattle.arithmetic.specs.Products.{unwrap}
use Rattle.arithmetic.specs.declared.bounds.Product.{Product}
use Rattle.arithmetic.proofs.Limits.{unwrap_whole, unwrap_some}
use Rattle.rolls.specs.Inner.{passes, searched}
use Rattle.rolls.specs.declared.search.Hit.{Hit}

-- ---- the test that the code makes

passes-accepted : (L : ℕ) (bs : List ℕ) (b : ℕ) → 0 < length bs → b ≡ product bs → (w : ℕ) → passes L b w ≡ accepted L bs w
passes-accepted L [] b h e w = absurd (not-suc-le-zero h)
passes-accepted L (c ∷ bs) b h e w =
    ap₂ leb (ap (threshold L) e) (ap (λ (n : ℕ). n * w % 2 ^ L) e ∙ sym (rest_low L c bs w))

-- the search by that test finds the batch's word
pub find_batch : (L : ℕ) (bs : List ℕ) (b : ℕ) → 0 < length bs → b ≡ product bs
    → (words : List ℕ) (at : ℕ) → find (passes L b) words at ≡ find (accepted L bs) words at
find_batch L bs b h e = find-same (passes L b) (accepted L bs) (passes-accepted L bs b h e)

-- a product that wraps leaves the same low half
low_unwrap : (L b w : ℕ) → b * w % 2 ^ L ≡ unwrap L b * w % 2 ^ L
low_unwrap L b w = go (ℕ_discrete b 0)
  where
    go : Dec (b ≡ 0) → b * w % 2 ^ L ≡ unwrap L b * w % 2 ^ L
    go (yes e) =
        ap (λ (n : ℕ). n * w % 2 ^ L) e ∙ ap (λ (n : ℕ). n % 2 ^ L) (zero-mul w) ∙ zero-mod (2 ^ L)
        ∙ sym (ap (λ (n : ℕ). n * w % 2 ^ L) (unwrap_whole L b e) ∙ mul-mod_right (2 ^ L) w)
    go (no n) = ap (λ (m : ℕ). m * w % 2 ^ L) (sym (unwrap_some L b n))

pub passes_tested : (L b t r w : ℕ) (p : Bool) → t ≡ threshold L (unwrap L b) → r ≡ b * w % 2 ^ L → leb t r ≡ p → passes L (unwrap L b) w ≡ p
passes_tested L b t r w p e f g = sym (ap₂ leb e (f ∙ low_unwrap L b w)) ∙ g

-- ---- a search's answer

-- at a place such that the search from there finds what the search from the start finds
pub searched_here : (words : List ℕ) (start at b rejected : ℕ) → at < length words → rejected ≡ at - start
    → threshold 64 (unwrap 64 b) ≤ b * get_or words at 0 % 2 ^ 64
    → find (passes 64 (unwrap 64 b)) (drop at words) at ≡ find (passes 64 (unwrap 64 b)) (drop start words) start
    → Some (record { word = get_or words at 0; place = at; rejected = rejected }) ≡ searched start (find (passes 64 (unwrap 64 b)) (drop start words) start)
searched_here words start at b rejected h e l f =
    let w : ℕ = get_or words at 0 in
    let p = passes_tested 64 b (threshold 64 (unwrap 64 b)) (b * w % 2 ^ 64) w _ refl refl (le-leb _ _ l) in
    ap (λ (n : ℕ). Some (record { word = w; place = at; rejected = n })) e ∙ ap (searched start) (sym (find_hit (passes 64 (unwrap 64 b)) words at h p) ∙ f)

abbrev hit_or : Option Hit → Hit
hit_or (Some h) = h
hit_or None = record { word = 0; place = 0; rejected = 0 }

pub searched_hit : (start : ℕ) (f : Found) (w place m : ℕ) → searched start f ≡ Some (record { word = w; place = place; rejected = m })
    → (f ≡ found (record { place = place; word = w })) × (m ≡ place - start)
searched_hit start (found t) w place m e =
    let p : t.place ≡ place = ap (λ (o : Option Hit). (hit_or o).place) e in
    let q : t.word ≡ w = ap (λ (o : Option Hit). (hit_or o).word) e in
    let r : t.place - start ≡ m = ap (λ (o : Option Hit). (hit_or o).rejected) e in
    ((λ i. found (record { place = p i; word = q i })), sym r ∙ ap (λ (n : ℕ). n - start) p)
searched_hit start missing w place m e = clash cc

pub searched_missing : (start : ℕ) (f : Found) → searched start f ≡ None → f ≡ missing
searched_missing start (found t) e = clash cc
searched_missing start missing e = refl

-- ---- the search for a batch's word, by the batch's product

-- from the place `to` of the words on
pub found_by : (bs : List ℕ) (p : Product) → 0 < length bs → unwrap 64 p.wrapped ≡ product bs → (words list : List ℕ) (to next : ℕ) (r : Option Hit)
    → r ≡ searched next (find (passes 64 (unwrap 64 p.wrapped)) (drop next list) next) → list ≡ words → next ≡ to
    → r ≡ searched to (find (accepted 64 bs) (drop to words) to)
found_by bs p some same words list to next r e l n =
    e ∙ ap₂ (λ (ws : List ℕ) (i : ℕ). searched i (find (passes 64 (unwrap 64 p.wrapped)) (drop i ws) i)) l n
    ∙ ap (searched to) (find_batch 64 bs (unwrap 64 p.wrapped) some same (drop to words) to)

-- a word that is found is one of the list
pub hit_before : (test : ℕ → Bool) (words : List ℕ) (to : ℕ) (h : Hit) → searched to (find test (drop to words) to) ≡ Some h → h.place < length words
hit_before test words to h e = (find_within test words to (searched_hit to _ h.word h.place h.rejected e).0).1
