-- Running a sheet: the refusals of reading it, and then those of its sample. Assumes nothing.
--
--   sheet_flat      a sheet is drawn by its own list of refusals
--   sheet_refusal   a refusal of a sheet has one of the numbers 1, 3, 6 and 10
--   four_only       none of these is 0, 2 or 9
--   sheet_count     number 2 cannot be met on a sheet
--   sheet_start     number 9 cannot be met on a sheet
--   sheet_unsound   a sheet that is not sound is refused by 1
--   drawn_room      the k that comes back is within the room
use mathlib.Core.Path.{◌≡◌, refl, sym, ap, ◌∙◌}
use mathlib.Core.Logic.{◌⊎◌, inl, inr}
use mathlib.Core.Bool.{Bool, true, false, not}
use mathlib.Core.List.{List, [], ◌∷◌}
use Prim.Native.Nat.{ℕ, ◌≤◌, zero-le}
use native.Mathlib.Omega.{arith}
use lib.Dec.{ltb}
use lib.ListN.{length}
use borrow.Author.Tests.{le-ltb, ltb-false, not-false}
use Rattle.rules.specs.Run.{Taken, Run, ran, short, run}
use Rattle.rules.specs.Width.{Width, w64}
use Rattle.rules.proofs.Facts.{clash, or_left}
use Rattle.answers.specs.Outcome.{Outcome, refused, done, Refusal, no, no_word, decide, outside}
use Rattle.answers.proofs.Deciding.{decide_here, decide_past, decide_none, decide_under, in_count}
use Rattle.draws.specs.Sample.{sample_plan, sampled, sample}
use Rattle.sheet.specs.Sheet.{numbers, words_of, records_of, is_sound_sheet, is_wrong_size}
use Rattle.sheet.specs.ReadSheet.{shown_drawn}
use Rattle.sheet.specs.RunSheet.{sheet_refusals, run_sheet}
use Rattle.sheet.specs.declared.drawn.Drawn.{Drawn}
use Rattle.sheet.proofs.Reading.{length_records}
use Rattle.sheet.proofs.Soundness.{sound_known, sheet_records}

-- ---- the sheet's own list of refusals

-- 6 and 10, which a sample from start 0 can meet where its count and its size are allowed
abbrev six_or_ten : Width → List ℕ → ℕ → ℕ → ℕ → List Refusal
six_or_ten W words k room n = no 6 (ltb room k) ∷ no_word (run W.bits (sample_plan W n k) words 0) ∷ []

sample_met : (W : Width) (words xs : List ℕ) (k room : ℕ) → length xs ≤ 16384 → outside 1 (length xs) k ≡ false
    → sample W words 0 xs k room ≡ decide (six_or_ten W words k room (length xs)) (sampled W words 0 xs k)
unfolding sample
sample_met W words xs k room h size =
    decide_past _ _ _ (in_count 0 16384 (length xs) zero-le h) ∙ decide_past _ _ _ size
    ∙ decide_under (no 6 (ltb room k)) _ _ _ _ (λ fits. decide_past _ _ _ (le-ltb (length words) 0 zero-le))

pub sheet_flat : (W : Width) (s : List ℕ) (room : ℕ)
    → run_sheet W s room ≡ decide (sheet_refusals W s room) (sampled W (words_of s) 0 (records_of s) (numbers s).k)
unfolding run_sheet
sheet_flat W s room =
    decide_under (no 1 (not (is_sound_sheet s))) _ _ _ _ (λ e.
    decide_under (no 3 (is_wrong_size (numbers s).records (numbers s).k (numbers s).w)) _ _ _ _ (λ f.
    let v = sound_known s (not-false (is_sound_sheet s) e) in
    let n = length_records s in
    let o : Outcome = sampled W (words_of s) 0 (records_of s) (numbers s).k in
    decide_none _ ∙ sample_met W (words_of s) (records_of s) (numbers s).k room (omega (arith, sheet_records s v)) (rw n (or_left _ _ f))
    ∙ ap (λ (m : ℕ). decide (six_or_ten W (words_of s) (numbers s).k room m) o) n))

-- ---- the numbers of a refusal

-- n is the number of one of the refusals
abbrev NumberAmong : ℕ → List Refusal → Type 0
NumberAmong n [] = ⊥
NumberAmong n (r ∷ rs) = (n ≡ r.number) ⊎ NumberAmong n rs

-- a refusal that is given is one of the list
given : (rs : List Refusal) (drawn : List ℕ) (ts : List Taken) (n batch : ℕ) → decide rs (done drawn ts) ≡ refused n batch → NumberAmong n rs
unfolding decide
given [] drawn ts n batch e = clash cc
given (r ∷ rs) drawn ts n batch e = go r.applies refl (given rs drawn ts n batch)
  where
    go : (b : Bool) → r.applies ≡ b → (decide rs (done drawn ts) ≡ refused n batch → NumberAmong n rs) → NumberAmong n (r ∷ rs)
    go true f others = inl (let g = sym (decide_here r rs (done drawn ts) f) ∙ e in cc)
    go false f others = inr (others (sym (decide_past r rs (done drawn ts) f) ∙ e))

-- n is 1, 3, 6 or 10
abbrev OneOfFour : ℕ → Type 0
OneOfFour n = (n ≡ 1) ⊎ ((n ≡ 3) ⊎ ((n ≡ 6) ⊎ (n ≡ 10)))

pub sheet_refusal : (W : Width) (s : List ℕ) (room n batch : ℕ) → run_sheet W s room ≡ refused n batch → OneOfFour n
sheet_refusal W s room n batch e =
    go (run W.bits (sample_plan W (numbers s).records (numbers s).k) (words_of s) 0) (given (sheet_refusals W s room) _ _ n batch (sym (sheet_flat W s room) ∙ e))
  where
    go : (r : Run) → NumberAmong n (no 1 (not (is_sound_sheet s)) ∷ no 3 false ∷ no 6 false ∷ no_word r ∷ []) → OneOfFour n
    go r (inl f) = inl f
    go r (inr (inl f)) = inr (inl f)
    go r (inr (inr (inl f))) = inr (inr (inl f))
    go (ran ts) (inr (inr (inr (inl f)))) = inr (inr (inr f))
    go (short k) (inr (inr (inr (inl f)))) = inr (inr (inr f))
    go r (inr (inr (inr (inr f)))) = absurd f

-- 0 is no refusal's number; 2: a sound sheet has at most 16,377 records; 9: its draw starts at 0
pub four_only : (n : ℕ) → OneOfFour n → (n ≡ 0 → ⊥) × (n ≡ 2 → ⊥) × (n ≡ 9 → ⊥)
four_only n (inl f) = (λ e. omega arith, λ e. omega arith, λ e. omega arith)
four_only n (inr (inl f)) = (λ e. omega arith, λ e. omega arith, λ e. omega arith)
four_only n (inr (inr (inl f))) = (λ e. omega arith, λ e. omega arith, λ e. omega arith)
four_only n (inr (inr (inr f))) = (λ e. omega arith, λ e. omega arith, λ e. omega arith)

pub sheet_count : (W : Width) (s : List ℕ) (room batch : ℕ) → run_sheet W s room ≡ refused 2 batch → ⊥
sheet_count W s room batch e = (four_only 2 (sheet_refusal W s room 2 batch e)).1 refl

pub sheet_start : (W : Width) (s : List ℕ) (room batch : ℕ) → run_sheet W s room ≡ refused 9 batch → ⊥
sheet_start W s room batch e = (four_only 9 (sheet_refusal W s room 9 batch e)).2 refl

-- a draw that was done had room for its k
room_known : (unsound size small : Bool) (r : Refusal) (o : Outcome) (drawn : List ℕ) (ts : List Taken)
    → decide (no 1 unsound ∷ no 3 size ∷ no 6 small ∷ r ∷ []) o ≡ done drawn ts → small ≡ false
unfolding decide
room_known true size small r o drawn ts e = clash cc
room_known false true small r o drawn ts e = clash cc
room_known false false true r o drawn ts e = clash cc
room_known false false false r o drawn ts e = refl

sheet_room : (W : Width) (s : List ℕ) (room : ℕ) (drawn : List ℕ) (ts : List Taken) → run_sheet W s room ≡ done drawn ts → (numbers s).k ≤ room
sheet_room W s room drawn ts e = ltb-false room (numbers s).k (room_known _ _ _ _ _ drawn ts (sym (sheet_flat W s room) ∙ e))

pub sheet_unsound : (W : Width) (s : List ℕ) (room : ℕ) → is_sound_sheet s ≡ false → run_sheet W s room ≡ refused 1 0
unfolding run_sheet
sheet_unsound W s room e = decide_here (no 1 (not (is_sound_sheet s))) _ _ (ap not e)

-- the k that comes back is never above the room: it is 0 on a refusal
pub drawn_room : (s : List ℕ) (room : ℕ) (d : Drawn) → d ≡ shown_drawn s (run_sheet w64 s room) → d.k ≤ room
drawn_room s room d e = go (run_sheet w64 s room) refl
  where
    go : (o : Outcome) → run_sheet w64 s room ≡ o → d.k ≤ room
    go (refused n batch) f = let h : d.k ≡ 0 = ap (λ (x : Drawn). x.k) (e ∙ ap (shown_drawn s) f) in omega arith
    go (done values ts) f =
        let h : d.k ≡ (numbers s).k = ap (λ (x : Drawn). x.k) (e ∙ ap (shown_drawn s) f) in
        omega (arith, sheet_room w64 s room values ts f)
