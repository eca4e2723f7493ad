-- Writing a draw sheet: demands 1 and 2 of it, that they settle its answer and the lent list, and its stand-ins. No width plays a part.
--
-- Document 02, M-100: "from words, records, k and w into a lent byte list, words at 24, records straight after, bytes past the sheet
-- untouched. [..] Refusals: 2 if the sheet would pass 65,535 bytes, 3 as on a sheet, 6 if it doesn't fit the list."
--
--   Op                                           the operation as its caller observes it: words, records, k, w, the lent list of bytes
--   Callable ws xs                               a call can hold these words and records
--   CanMeet                                      the numbers that it can meet, in the order of document 02
--   Refuses, Writes, Gives ws xs k w lent got    demands 1 and 2, of one call and what the caller got: each byte of the sheet by the number
--                                                that stands there; the bytes past it as they were
--   When ws xs k w lent no                       which number is given: 2 where the sheet would pass 65,535 bytes, then 3 as on a sheet, then 6 where it
--                                                does not fit the list; else none
--   Demand1 op, Demand2 op                       the demands, on every call
--   Settled, StandIns, Promise                   as of one batch
use Rattle.std.specs.Prelude.{◌≡◌, ◌≢◌, List, [], ◌∷◌, ℕ, ◌+◌, ◌*◌, ◌^◌, ◌≤◌, length, drop}
use Rattle.rules.specs.Order.{AllBelow}
use Rattle.areas.specs.Pinned.{Area}
use Rattle.writer.specs.WriteSheet.{write_refusals, shown_written, seen_write}
use Rattle.writer.specs.declared.written.Written.{Written}
use Rattle.promises.specs.Demand1.{AsRefused, Which, numbers_of}
use Rattle.promises.specs.Demand2.{Allowed}
use Rattle.promises.specs.Sheet.{RightSize}

abbrev pub Op : Type 0
Op = List ℕ → List ℕ → ℕ → ℕ → List ℕ → Written × List ℕ

abbrev pub Callable : List ℕ → List ℕ → Type 0
Callable ws xs = AllBelow (2 ^ 64) ws × AllBelow (2 ^ 32) xs

abbrev pub CanMeet : Type 0
CanMeet = (ws xs : List ℕ) (k w room : ℕ) → numbers_of (write_refusals ws xs k w room) ≡ 2 ∷ 3 ∷ 6 ∷ []

abbrev pub Refuses : List ℕ → List ℕ → ℕ → ℕ → List ℕ → Written × List ℕ → Type 0
Refuses ws xs k w lent got = AsRefused (write_refusals ws xs k w (length lent)) (λ o. (shown_written o, lent)) got.0.no got

pub record Writes (ws xs : List ℕ) (k w : ℕ) (lent : List ℕ) (got : Written × List ℕ) : Type 0 where
  pub none : (got.0.no ≡ 0) × (got.0.next ≡ 0) × (got.0.rejected ≡ 0)
  pub long : got.0.length ≡ 24 + 8 * length ws + 4 * length xs
  pub six : Area 4 0 (length ws ∷ 24 ∷ length xs ∷ (24 + 8 * length ws) ∷ k ∷ w ∷ []) got.1
  pub words : Area 8 24 ws got.1
  pub records : Area 4 (24 + 8 * length ws) xs got.1
  pub past : drop got.0.length got.1 ≡ drop got.0.length lent

abbrev pub Gives : List ℕ → List ℕ → ℕ → ℕ → List ℕ → Written × List ℕ → Type 0
Gives ws xs k w lent got = Allowed (write_refusals ws xs k w (length lent)) → Writes ws xs k w lent got

abbrev pub When : List ℕ → List ℕ → ℕ → ℕ → List ℕ → ℕ → Type 0
When ws xs k w lent number =
    let long : ℕ = 24 + 8 * length ws + 4 * length xs in
    Which 2 3 6 (long ≤ 65535) (RightSize (length xs) k w) (long ≤ length lent) (λ n. n ≡ 0) number

abbrev pub Demand1 : Op → Type 0
Demand1 op = (ws xs : List ℕ) (k w : ℕ) (lent : List ℕ) → Callable ws xs → Refuses ws xs k w lent (op ws xs k w lent)

abbrev pub Demand2 : Op → Type 0
Demand2 op = (ws xs : List ℕ) (k w : ℕ) (lent : List ℕ) → Callable ws xs → Gives ws xs k w lent (op ws xs k w lent)

abbrev pub Settled : Type 0
Settled = (a b : Op) → Demand1 a → Demand2 a → Demand1 b → Demand2 b → (ws xs : List ℕ) (k w : ℕ) (lent : List ℕ) → Callable ws xs
    → a ws xs k w lent ≡ b ws xs k w lent

pub record StandIns : Type 0 where
  -- refusing every call
  pub refuses : (op : Op) → ((ws xs : List ℕ) (k w : ℕ) (lent : List ℕ) → Callable ws xs → (op ws xs k w lent).0.no ≢ 0) → ¬ Demand2 op
  -- writing nothing
  pub keeps : (op : Op) → ((ws xs : List ℕ) (k w : ℕ) (lent : List ℕ) → Callable ws xs → (op ws xs k w lent).1 ≡ lent) → ¬ Demand2 op

pub record Promise : Type 0 where
  pub numbers : CanMeet
  pub demand1 : Demand1 seen_write
  pub when : (ws xs : List ℕ) (k w : ℕ) (lent : List ℕ) → When ws xs k w lent (seen_write ws xs k w lent).0.no
  pub demand2 : Demand2 seen_write
  pub settled : Settled
  pub stand_ins : StandIns
