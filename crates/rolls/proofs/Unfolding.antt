-- The loop that writes a word's rolls to the front of a lent list. Over every width. Assumes nothing.
--
--   Unfolding      the rolls of the first bounds are written, and r is what they left
--   unfold_turn    one turn
--   unfold_done    all are written, and the rest of the list is as it was
use mathlib.Core.Path.{◌≡◌, sym, ◌∙◌}
use mathlib.Core.List.{List, [], ◌∷◌, ◌++◌, append_assoc, append-nil}
use Prim.Native.Nat.{ℕ, ◌+◌, ◌*◌, ◌/◌, ◌%◌, ◌^◌, ◌<◌, ◌≤◌}
use native.Mathlib.Omega.{arith}
use lib.ListN.{length, take, drop, set, get_or, length-set, take-append-drop, drop_of_length-le}
use Rattle.rules.specs.Rolls.{rolls}
use Rattle.rules.proofs.Writing.{drop-next, stored_front, stored_back}

-- ---- the rolls of a word

rolls_step : (L : ℕ) (bs : List ℕ) (r i : ℕ) → i < length bs
    → rolls L (drop i bs) r ≡ get_or bs i 0 * r / 2 ^ L ∷ rolls L (drop (i + 1) bs) (get_or bs i 0 * r % 2 ^ L)
unfolding rolls
rolls_step L bs r i h = rw (drop-next bs i h)

rolls_end : (L : ℕ) (bs : List ℕ) (r i : ℕ) → length bs ≤ i → rolls L (drop i bs) r ≡ []
unfolding rolls
rolls_end L bs r i h = rw (drop_of_length-le bs h)

-- the rolls of the first i bounds are written, and r is what they left
abbrev pub Unfolding : ℕ → List ℕ → List ℕ → ℕ → List ℕ → ℕ → ℕ → Type 0
Unfolding L out₀ bs word out r i =
    (i ≤ length bs) × (length out ≡ length out₀) × (take i out ++ rolls L (drop i bs) r ≡ rolls L bs word) × (drop i out ≡ drop i out₀)

module _ (L : ℕ) (out₀ bs : List ℕ) (word : ℕ) (out : List ℕ) (r i : ℕ) (v : Unfolding L out₀ bs word out r i) where
  pub unfold_turn : (q s : ℕ) → i < length bs → length bs ≤ length out₀ → q ≡ get_or bs i 0 * r / 2 ^ L → s ≡ get_or bs i 0 * r % 2 ^ L
      → Unfolding L out₀ bs word (set out i q) s (i + 1)
  unfold_turn q s h room e f = (
    omega arith,
    length-set out i q ∙ v.1,
    rw (stored_front out i q (omega arith), append_assoc, e, f) (rw (rolls_step L bs r i h) at v.2),
    stored_back out out₀ i q v.3,
  )

  pub unfold_done : length bs ≤ i → out ≡ rolls L bs word ++ drop (length bs) out₀
  unfold_done h =
      let front : take i out ≡ rolls L bs word = sym (append-nil (take i out)) ∙ (rw (rolls_end L bs r i h) at v.2) in
      let e : i ≡ length bs = omega arith in
      sym (take-append-drop i out) ∙ rw (front, v.3, e)
