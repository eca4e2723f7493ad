-- Lists that a call can hold, number by number. Assumes nothing.
--
--   below_nil, below_cons                              no number, and one number more
--   one_number                                         a list of one number
--   all_below, all_below_lem                           a test of a whole list
--   word_0, word_half, words_01, words_10, words_11    the words of the calls on which the stand-ins are tried
use mathlib.Core.Bool.{Bool, true, ◌&&◌}
use mathlib.Core.List.{List, [], ◌∷◌}
use Prim.Native.Nat.{ℕ, zero, suc, ◌^◌, ◌<◌}
use native.Mathlib.Nat.{not-suc-le-zero, le_of_suc-le-suc}
use lib.Dec.{T, ltb, ltb→lt, lit<}
use Rattle.rules.specs.Order.{AllBelow}
use Rattle.rules.proofs.Facts.{both}
use Rattle.promises.specs.Demand1.{Callable}

pub below_nil : {top : ℕ} → AllBelow top []
below_nil i h = absurd (not-suc-le-zero h)

pub below_cons : {top : ℕ} (w : ℕ) (ws : List ℕ) → w < top → AllBelow top ws → AllBelow top (w ∷ ws)
below_cons w ws h b zero k = h
below_cons w ws h b (suc i) k = b i (le_of_suc-le-suc k)

pub one_number : {top : ℕ} (w : ℕ) → w < top → AllBelow top (w ∷ [])
one_number w h = below_cons w [] h below_nil

unfoldable pub all_below : ℕ → List ℕ → Bool
all_below top [] = true
all_below top (x ∷ xs) = ltb x top && all_below top xs

pub all_below_lem : (top : ℕ) (xs : List ℕ) → T (all_below top xs) → AllBelow top xs
unfolding all_below
all_below_lem top [] t = below_nil
all_below_lem top (x ∷ xs) t =
    let (h, b) = (both (ltb x top) (all_below top xs)).0 t in
    below_cons x xs (ltb→lt x top h) (all_below_lem top xs b)

-- ---- the words that stand-ins are tried on, at 64 bits

pub word_0 : Callable 64 (0 ∷ [])
word_0 = one_number 0 (lit< tt)

-- the first word whose roll for bound 2 is 1
pub word_half : Callable 64 (2 ^ 63 ∷ [])
word_half = one_number (2 ^ 63) (lit< tt)

pub words_01 : Callable 64 (0 ∷ 1 ∷ [])
words_01 = below_cons 0 (1 ∷ []) (lit< tt) (one_number 1 (lit< tt))

pub words_10 : Callable 64 (1 ∷ 0 ∷ [])
words_10 = below_cons 1 (0 ∷ []) (lit< tt) word_0

pub words_11 : Callable 64 (1 ∷ 1 ∷ [])
words_11 = below_cons 1 (1 ∷ []) (lit< tt) (one_number 1 (lit< tt))
