-- Sheets written, read, run and written again. Assumes nothing.
--
--   round_trip    the statement
use mathlib.Core.Path.{◌≡◌, refl, sym, ap, ap₂, subst, ◌∙◌}
use mathlib.Core.Bool.{Bool, false, true, not, ◌||◌}
use mathlib.Core.List.{List, [], ◌∷◌, ◌++◌}
use Prim.Native.Nat.{ℕ, ◌+◌, ◌-◌, ◌*◌, ◌≤◌}
use native.Mathlib.Omega.{arith}
use lib.Dec.{ltb}
use lib.Ieee.Bits.{is_true}
use lib.ListN.{length, take, drop, length-take}
use lib.Seq.{take-append-add, take-append_seam, take_at}
use borrow.Author.Tests.{le-ltb, not-false}
use Rattle.rules.specs.Cut.{cut, cut_from}
use Rattle.rules.specs.Reservoir.{countup, reservoir}
use Rattle.rules.specs.Rolls.{product, rolls, rest}
use Rattle.rules.specs.Run.{find, run_from, rolls_of, next, rejected}
use Rattle.rules.specs.Sample.{sample_with}
use Rattle.rules.specs.Shuffle.{shuffle_plan_from, shuffle_with}
use Rattle.rules.specs.Width.{Width, w64}
use Rattle.answers.specs.Outcome.{Refusal, no, decide}
use Rattle.areas.specs.Area.{little, entries, bytes_of, area}
use Rattle.draws.specs.Sample.{sample}
use Rattle.sheet.specs.Sheet.{Numbers, numbers, words_of, records_of, Sound, is_sound_sheet, is_wrong_size}
use Rattle.sheet.specs.ReadSheet.{unreadable, seen_read}
use Rattle.sheet.specs.RunSheet.{run_sheet}
use Rattle.sheet.specs.declared.drawn.Drawn.{Drawn}
use Rattle.sheet.proofs.Reading.{length_words, length_records, size_right}
use Rattle.sheet.proofs.Soundness.{sound_known, sound_iff, sheet_parts}
use Rattle.writer.specs.WriteSheet.{length_of, written, write_refusals, seen_write}
use Rattle.writer.specs.declared.written.Written.{Written}
use Rattle.writer.proofs.Laid.{length-written, Fitting, written-numbers, written_words, written_records, written_sound}
use Rattle.promises.specs.Demand1.{first_of}
use Rattle.promises.specs.Demand2.{Allowed}
use Rattle.promises.specs.RoundTrip.{Back, WrittenBack, Again, ReadAgain, table, RoundTrip}
use Rattle.promises.specs.Sheet.{Bytes}
use Rattle.promises.proofs.Read as read
use Rattle.promises.proofs.Read.{read_allowed}
use Rattle.promises.proofs.Refusing.{first_past, allowed_cons, allowed_done}
use Rattle.promises.proofs.Sheet.{fits}
use Rattle.promises.proofs.Write.{write_allowed, fitting, wrote}

-- ---- none applies

allowed_past : (n : ℕ) (b : Bool) (rs : List Refusal) → b ≡ false → Allowed rs → Allowed (no n b ∷ rs)
allowed_past n b rs e a = ap (λ (r : Refusal). r.applies) (first_past (no n b) rs e) ∙ a

allowed_nil : Allowed []
unfolding first_of
allowed_nil = refl

-- ---- a written sheet, with bytes behind it

module _ (W : Width) (ws xs : List ℕ) (k w : ℕ) (back : List ℕ) (v : Fitting ws xs k w) (l : length (written ws xs k w ++ back) ≤ 65535) where
  abbrev s : List ℕ
  s = written ws xs k w ++ back

  six : numbers s ≡ record { words = length ws; words_at = 24; records = length xs; records_at = 24 + 8 * length ws; k = k; w = w }
  six = written-numbers ws xs k w v back

  sound : is_sound_sheet s ≡ true
  sound = is_true _ ((sound_iff s).1 (written_sound ws xs k w v back l))

  size : is_wrong_size (numbers s).records (numbers s).k (numbers s).w ≡ false
  size = ap (λ (h : Numbers). is_wrong_size h.records h.k h.w) six ∙ size_right (length xs) k w v.size

  readable : Allowed (unreadable s)
  readable = allowed_past 1 _ _ (ap not sound) (allowed_past 3 _ _ size allowed_nil)

  module _ (words records : List ℕ) (h : length ws ≤ length words) (j : length xs ≤ length records) where
    room : (ltb (length words) (numbers s).words || ltb (length records) (numbers s).records) ≡ false
    room =
        ap (λ (n : Numbers). ltb (length words) n.words || ltb (length records) n.records) six
        ∙ ap₂ ◌||◌ (le-ltb (length words) (length ws) h) (le-ltb (length records) (length xs) j)

    read_back : seen_read s words records
        ≡ (
          record { no = 0; next = 0; rejected = 0; batch = 0; words = length ws; words_at = 24; records = length xs; records_at = 24 + 8 * length ws; k = k; w = w },
          (ws ++ drop (length ws) words, xs ++ drop (length xs) records),
        )
    read_back =
        let r = (read.promise).demand2 s words records (allowed_past 1 _ _ (ap not sound) (allowed_past 3 _ _ size (allowed_past 6 _ _ room allowed_nil))) in
        let d = r.six ∙ ap (λ (n : Numbers). record { no = 0; next = 0; rejected = 0; batch = 0; words = n.words; words_at = n.words_at; records = n.records; records_at = n.records_at; k = n.k; w = n.w }) six in
        let f = r.front_words ∙ ap₂ (λ (m : List ℕ) (n : ℕ). m ++ drop n words) (written_words ws xs k w v back) (ap (λ (n : Numbers). n.words) six) in
        let g = r.front_records ∙ ap₂ (λ (m : List ℕ) (n : ℕ). m ++ drop n records) (written_records ws xs k w v back) (ap (λ (n : Numbers). n.records) six) in
        λ i. (d i, (f i, g i))

    write_again : (into : List ℕ) → let got = seen_read s words records in
        seen_write (take got.0.words got.1.0) (take got.0.records got.1.1) got.0.k got.0.w into ≡ seen_write ws xs k w into
    write_again into =
        ap (λ (got : Drawn × (List ℕ × List ℕ)). seen_write (take got.0.words got.1.0) (take got.0.records got.1.1) got.0.k got.0.w into) read_back
        ∙ ap₂ (λ (a b : List ℕ). seen_write a b k w into) (take-append_seam ws (drop (length ws) words)) (take-append_seam xs (drop (length xs) records))

  draw : (room : ℕ) → run_sheet W s room ≡ sample W ws 0 xs k room
  unfolding run_sheet
  draw room =
      let e = written_words ws xs k w v back in
      let f = written_records ws xs k w v back in
      let g : (numbers s).k ≡ k = ap (λ (n : Numbers). n.k) six in
      let same : sample W (words_of s) 0 (records_of s) (numbers s).k room ≡ sample W ws 0 xs k room = cc in
      allowed_done (unreadable s) (sample W (words_of s) 0 (records_of s) (numbers s).k room) readable ∙ same

  kept : Back W ws xs k w s
  kept = record { sound = written_sound ws xs k w v back l; read = read_back; again = λ words records into h j. write_again words records h j into; draw = draw }

-- the first n bytes of what a writer left, from the sheet's length on, are the sheet and bytes behind it
first_bytes : (sheet rest : List ℕ) (n : ℕ) → length sheet ≤ n → take n (sheet ++ rest) ≡ sheet ++ take (n - length sheet) rest
first_bytes sheet rest n h =
    let e : n ≡ length sheet + (n - length sheet) = omega arith in
    ap (λ (m : ℕ). take m (sheet ++ rest)) e ∙ take-append-add sheet rest (n - length sheet)

module _ (ws xs : List ℕ) (k w : ℕ) (lent : List ℕ) (a : Allowed (write_refusals ws xs k w (length lent))) where
  long : (seen_write ws xs k w lent).0.length ≡ length (written ws xs k w)
  long = ap (λ (x : Written × List ℕ). x.0.length) (wrote ws xs k w lent a) ∙ sym (length-written ws xs k w)

  -- the sheet and bytes behind it, among the first n of what a writer left
  pub left_sheet : (n : ℕ) → (seen_write ws xs k w lent).0.length ≤ n → n ≤ 65535
      → (back : List ℕ) × (take n (seen_write ws xs k w lent).1 ≡ written ws xs k w ++ back) × (length (written ws xs k w ++ back) ≤ 65535)
  left_sheet n h l =
      let rest = drop (length_of ws xs) lent in
      let same = ap (λ (x : Written × List ℕ). take n x.1) (wrote ws xs k w lent a) ∙ first_bytes (written ws xs k w) rest n (omega (arith, h, long)) in
      (take (n - length (written ws xs k w)) rest, same, omega (arith, l, ap length same, length-take n (seen_write ws xs k w lent).1))

written_back : (W : Width) → WrittenBack W
written_back W ws xs k w lent b z =
    let a = write_allowed ws xs k w lent z in
    let v = fitting ws xs k w lent a b in (
      omega (arith, v.long, long ws xs k w lent a, length-written ws xs k w),
      λ n h l.
          let (back, same, fit) = left_sheet ws xs k w lent a n h l in
          subst (λ (s : List ℕ). Back W ws xs k w s) (sym same) (kept W ws xs k w back v fit),
    )

-- ---- a sheet that was read

module _ (W : Width) (s lent : List ℕ) (b : Bytes s) (a : Allowed (unreadable s)) (room : 24 + 8 * (numbers s).words + 4 * (numbers s).records ≤ length lent) where
  abbrev ws : List ℕ
  ws = words_of s

  abbrev xs : List ℕ
  xs = records_of s

  abbrev k : ℕ
  k = (numbers s).k

  abbrev w : ℕ
  w = (numbers s).w

  known : Sound s
  known = sound_known s (not-false (is_sound_sheet s) (allowed_cons _ _ a).0)

  short : length_of ws xs ≤ length s
  short = omega (arith, sheet_parts s known, length_words s, length_records s)

  can_write : Allowed (write_refusals ws xs k w (length lent))
  can_write =
      allowed_past 2 _ _ (le-ltb 65535 (length_of ws xs) (omega (arith, short, known.allowed.1)))
      (allowed_past 3 _ _ (ap (λ (n : ℕ). is_wrong_size n k w) (length_records s) ∙ (allowed_cons _ _ (allowed_cons _ _ a).1).0)
      (allowed_past 6 _ _ (le-ltb (length lent) (length_of ws xs) (omega (arith, room, length_words s, length_records s))) allowed_nil))

  again : Again W s (seen_write ws xs k w lent)
  unfolding run_sheet
  again =
      let e = wrote ws xs k w lent can_write in
      let n = ap (λ (x : Written × List ℕ). x.0.length) e in
      let v = fitting ws xs k w lent can_write (fits s b) in
      let (back, same, fit) = left_sheet ws xs k w lent can_write (seen_write ws xs k w lent).0.length (omega arith) (omega (arith, n, short, known.allowed.1)) in
      record {
        none = ap (λ (x : Written × List ℕ). x.0.no) e;
        no_gap = omega (arith, n, length_words s, length_records s);
        fits = omega (arith, n, short);
        words = ap words_of same ∙ written_words ws xs k w v back;
        records = ap records_of same ∙ written_records ws xs k w v back;
        size = (
          ap (λ (t : List ℕ). (numbers t).k) same ∙ ap (λ (h : Numbers). h.k) (written-numbers ws xs k w v back),
          ap (λ (t : List ℕ). (numbers t).w) same ∙ ap (λ (h : Numbers). h.w) (written-numbers ws xs k w v back),
        );
        draw = λ m. ap (λ (t : List ℕ). run_sheet W t m) same ∙ draw W ws xs k w back v fit m
            ∙ sym (allowed_done (unreadable s) (sample W ws 0 xs k m) a);
      }

-- a list of refusals of which the first two do not apply
first_two : (r t : Refusal) (rs : List Refusal) → Allowed (r ∷ t ∷ rs) → Allowed (r ∷ t ∷ [])
first_two r t rs a =
    let (e, later) = allowed_cons _ _ a in
    ap (λ (x : Refusal). x.applies) (first_past r (t ∷ []) e) ∙ ap (λ (x : Refusal). x.applies) (first_past t [] (allowed_cons _ _ later).0) ∙ allowed_nil

read_again : (W : Width) → ReadAgain W
read_again W s words records lent b z room =
    let a = read_allowed s words records z in
    let r = (read.promise).demand2 s words records a in
    let n = ap (λ (d : Drawn). d.words) r.six in
    let m = ap (λ (d : Drawn). d.records) r.six in
    let front = ap₂ (λ (i : ℕ) (l : List ℕ). take i l) n r.front_words ∙ take_at (words_of s) _ (numbers s).words (length_words s) in
    let back = ap₂ (λ (i : ℕ) (l : List ℕ). take i l) m r.front_records ∙ take_at (records_of s) _ (numbers s).records (length_records s) in
    let k = ap (λ (d : Drawn). d.k) r.six in
    let w = ap (λ (d : Drawn). d.w) r.six in
    rw (front, back, k, w) (again W s lent b (first_two _ _ _ a) (omega (arith, room, n, m)))

pub round_trip : RoundTrip w64
unfolding table run_sheet sample sample_with decide find run_from rolls_of next rejected rolls rest product cut cut_from countup reservoir shuffle_plan_from shuffle_with little entries bytes_of area
round_trip = record { written_back = written_back w64; read_again = read_again w64; examples = tt }
