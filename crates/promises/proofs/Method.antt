-- Lemire's method as demand 2 states it, and the definitions of rolls: each says what the other says, over every width. Assumes nothing.
--
--   accepts_iff                   a word is accepted with these rolls exactly where it gives them
--   Ran, RanAs, follows_run       the run of a plan follows the method
--   RunBy, run_follows            and what follows the method is that run
--   by_method                     so what is read off the run is what the method gives
--   rolled_range, rolled-count    rolls in range, and as many as bounds
--   suffice, one_outcome          number 10 applies exactly where the method gives nothing; and it gives one outcome
--   same_outcome, same_seen       two that go by the method have the same words and rolls, and give the same
use mathlib.Core.Path.{◌≡◌, refl, sym, ap, ap₂, ◌∙◌, subst}
use mathlib.Core.Logic.{◌↔◌}
use mathlib.Core.Bool.{Bool, true, false}
use mathlib.Core.List.{List, [], ◌∷◌, ◌++◌}
use Prim.Native.Nat.{ℕ, zero, suc, ◌+◌, ◌-◌, ◌*◌, ◌/◌, ◌%◌, ◌^◌, ◌<◌, ◌≤◌}
use native.Mathlib.Nat.{le_of_suc-le-suc}
use native.Mathlib.Omega.{arith}
use lib.Arith.{digits_div, digits_mod}
use lib.ListN.{length, take, drop, get_or, length-drop, take-append-drop}
use lib.Seq.{get_or-drop, take_at, drop_at}
use borrow.Author.Tests.{leb-true, leb-false, le-leb, lt-leb}
use Rattle.rules.proofs.Facts.{clash, truth}
use Rattle.rules.specs.Rolls.{rolls, rest, product, value, threshold, accepted, in_range}
use Rattle.rules.proofs.Rolls.{key_law, rest_below, length-rolls, rolls_in_range, value_one}
use lib.Dec.{T}
use borrow.Author.Tests.{ltb-false}
use Rattle.rules.specs.Plan.{joined}
use Rattle.rules.proofs.Range.{length_in_range}
use Rattle.rules.proofs.Reach.{rolled_in_range}
use Rattle.answers.specs.Outcome.{no_word, of_words}
use Rattle.answers.specs.declared.answer.Answer.{Answer}
use Rattle.rules.specs.Run.{run, trace, suffices, Taken, Found, found, missing, find, Run, ran, short, after, run_from, rolls_of, next, rejected}
use Rattle.rules.proofs.Finding.{find_hit, find_miss}
use Rattle.rules.proofs.Running.{run_hit, run_missing}
use Rattle.rules.specs.Order.{AllBelow}
use Rattle.rules.specs.Plan.{RollablePlan}
use Rattle.promises.specs.Demand1.{Callable}
use Rattle.promises.specs.Demand2.{Allowed, Unfolded, Accepts, Rejects, First, Follows, Lemire, ByMethod, Suffice, OneOutcome}
use Rattle.promises.proofs.Refusing.{allowed_cons}

-- ---- one word

module _ (L : ℕ) (bs : List ℕ) (p : 0 < product bs) (w : ℕ) (h : w < 2 ^ L) where
  unfolded : Unfolded L bs w (rolls L bs w) (rest L bs w)
  unfolded = record { range = rolls_in_range L bs w p h; rest = rest_below L bs w h; law = key_law L bs w }

  -- two ways to write a number with a rest below 2^L
  unfolded_one : (rs : List ℕ) (r : ℕ) → Unfolded L bs w rs r → (rolls L bs w ≡ rs) × (rest L bs w ≡ r)
  unfolded_one rs r u =
      let below : rest L bs w < 2 ^ L = rest_below L bs w h in
      let same : value bs (rolls L bs w) * 2 ^ L + rest L bs w ≡ value bs rs * 2 ^ L + r = omega (arith, key_law L bs w, u.law) in (
        value_one bs (rolls L bs w) rs (rolls_in_range L bs w p h) u.range
            (sym (digits_div (value bs (rolls L bs w)) below) ∙ ap (λ (n : ℕ). n / 2 ^ L) same ∙ digits_div (value bs rs) u.rest),
        sym (digits_mod (value bs (rolls L bs w)) below) ∙ ap (λ (n : ℕ). n % 2 ^ L) same ∙ digits_mod (value bs rs) u.rest,
      )

  pub accepts_iff : (rs : List ℕ) → Accepts L bs w rs ↔ ((accepted L bs w ≡ true) × (rolls L bs w ≡ rs))
  accepts_iff rs = (
    λ (r, u, t). let (e, f) = unfolded_one rs r u in (le-leb (threshold L (product bs)) (rest L bs w) (rw f t), e),
    λ (t, e). (rest L bs w, subst (λ (l : List ℕ). Unfolded L bs w l (rest L bs w)) e unfolded, leb-true (threshold L (product bs)) (rest L bs w) t),
  )

  rejects_iff : Rejects L bs w ↔ (accepted L bs w ≡ false)
  rejects_iff = (
    λ (rs, r, u, t). lt-leb (threshold L (product bs)) (rest L bs w) (rw (unfolded_one rs r u).1 t),
    λ t. (rolls L bs w, rest L bs w, unfolded, leb-false (threshold L (product bs)) (rest L bs w) t),
  )

-- ---- the first word that is accepted

record At (test : ℕ → Bool) (ws : List ℕ) (place : ℕ) (t : Taken) : Type 0 where
  from : place ≤ t.place
  within : t.place < place + length ws
  word : get_or ws (t.place - place) 0 ≡ t.word
  passes : test t.word ≡ true
  before : (i : ℕ) → i < t.place - place → test (get_or ws i 0) ≡ false

found_at : (test : ℕ → Bool) (ws : List ℕ) (place : ℕ) (t : Taken) → find test ws place ≡ found t → At test ws place t
unfolding find
found_at test [] place t h = clash cc
found_at test (w ∷ ws) place t h = go (test w) refl (found_at test ws (place + 1) t)
  where
    go : (b : Bool) → test w ≡ b → (find test ws (place + 1) ≡ found t → At test ws (place + 1) t) → At test (w ∷ ws) place t
    go true e ih =
        let f : found (record { place = place; word = w }) ≡ found t = rw (e, find) at h in
        let p : place ≡ t.place = cc in
        let q : w ≡ t.word = cc in
        let z : t.place - place ≡ 0 = omega arith in
        record {
          from = omega arith;
          within = omega arith;
          word = ap (λ (n : ℕ). get_or (w ∷ ws) n 0) z ∙ q;
          passes = rw (← q) e;
          before = λ i l. absurd (let n : ⊥ = omega arith in n);
        }
    go false e ih =
        let g = ih (rw (e, find) at h) in
        let z : t.place - place ≡ suc (t.place - (place + 1)) = omega (arith, g.from) in
        record {
          from = omega (arith, g.from);
          within = omega (arith, g.within);
          word = ap (λ (n : ℕ). get_or (w ∷ ws) n 0) z ∙ g.word;
          passes = g.passes;
          before = λ i l. passed i (omega arith) g.before;
        }
      where
        passed : (i : ℕ) → i < suc (t.place - (place + 1)) → ((i : ℕ) → i < t.place - (place + 1) → test (get_or ws i 0) ≡ false)
            → test (get_or (w ∷ ws) i 0) ≡ false
        passed zero l b = e
        passed (suc i) l b = b i (le_of_suc-le-suc l)

module _ (L : ℕ) (bs words : List ℕ) (p : 0 < product bs) (w : AllBelow (2 ^ L) words) where
  found_first : (from : ℕ) (t : Taken) → from ≤ length words → find (accepted L bs) (drop from words) from ≡ found t
      → First L bs words from t.place (rolls L bs t.word)
  found_first from t l e =
      let a = found_at (accepted L bs) (drop from words) from t e in
      let fits : t.place < length words = omega (arith, a.within, length-drop from words) in
      let back : from + (t.place - from) ≡ t.place = omega (arith, a.from) in
      let word : get_or words t.place 0 ≡ t.word = sym (get_or-drop from words (t.place - from) 0 ∙ ap (λ (n : ℕ). get_or words n 0) back) ∙ a.word in
      record {
        here = (a.from, fits);
        gives = (accepts_iff L bs p (get_or words t.place 0) (w t.place fits) (rolls L bs t.word)).1 (rw word (a.passes, refl));
        before = λ i h k.
            let same : from + (i - from) ≡ i = omega arith in
            let missed : accepted L bs (get_or words i 0) ≡ false =
            ap (accepted L bs) (ap (λ (n : ℕ). get_or words n 0) (sym same) ∙ sym (get_or-drop from words (i - from) 0))
            ∙ a.before (i - from) (omega arith) in
            (rejects_iff L bs p (get_or words i 0) (w i (omega arith))).1 missed;
      }

  first_found : (from place : ℕ) (rs : List ℕ) → First L bs words from place rs
      → (find (accepted L bs) (drop from words) from ≡ found (record { place = place; word = get_or words place 0 }))
      × (rolls L bs (get_or words place 0) ≡ rs)
  first_found from place rs f = (
    hits (place - from) from (omega (arith, f.here)) f.before,
    ((accepts_iff L bs p (get_or words place 0) (w place f.here.1) rs).0 f.gives).1,
  )
    where
      hits : (d at : ℕ) → at + d ≡ place → ((i : ℕ) → at ≤ i → i < place → Rejects L bs (get_or words i 0))
          → find (accepted L bs) (drop at words) at ≡ found (record { place = place; word = get_or words place 0 })
      hits zero at e b =
          let same : at ≡ place = omega arith in
          rw same (find_hit (accepted L bs) words place f.here.1 ((accepts_iff L bs p (get_or words place 0) (w place f.here.1) rs).0 f.gives).0)
      hits (suc d) at e b =
          let l : at < length words = omega (arith, f.here) in
          find_miss (accepted L bs) words at l ((rejects_iff L bs p (get_or words at 0) (w at l)).0 (b at (omega arith) (omega arith)))
          ∙ hits d (at + 1) (omega arith) (λ i h k. b i (omega arith) k)

-- ---- a plan

pub record Ran (L : ℕ) (plan : List (List ℕ)) (words : List ℕ) (start : ℕ) (ts : List Taken) : Type 0 where
  pub follows : Follows L plan words start (next start ts) (rolls_of L plan ts)
  pub used : next start ts ≡ start + (length plan + rejected start ts)

abbrev pub RanAs : ℕ → List (List ℕ) → List ℕ → ℕ → Run → Type 0
RanAs L plan words start (ran ts) = Ran L plan words start ts
RanAs L plan words start (short k) = Unit

ran-after : (L : ℕ) (bs : List ℕ) (plan : List (List ℕ)) (words : List ℕ) (start : ℕ) (t : Taken) (r : Run)
    → First L bs words start t.place (rolls L bs t.word) → RanAs L plan words (t.place + 1) r → RanAs L (bs ∷ plan) words start (after t r)
unfolding rolls_of next rejected
ran-after L bs plan words start t (ran ts) f g =
    let n : length (rolls L bs t.word) ≡ length bs = length-rolls L bs t.word in
    record {
      follows = (
        t.place,
        subst (First L bs words start t.place) (sym (take_at (rolls L bs t.word) (rolls_of L plan ts) (length bs) n)) f,
        subst (Follows L plan words (t.place + 1) (next (t.place + 1) ts))
            (sym (drop_at (rolls L bs t.word) (rolls_of L plan ts) (length bs) n)) g.follows,
      );
      used = omega (arith, g.used, f.here);
    }
ran-after L bs plan words start t (short k) f g = tt

module _ (L : ℕ) (words : List ℕ) (w : AllBelow (2 ^ L) words) where
  pub follows_run : (plan : List (List ℕ)) (start batch : ℕ) → RollablePlan (2 ^ L) plan → start ≤ length words
      → RanAs L plan words start (run_from L plan words start batch)
  unfolding run_from rolls_of next rejected
  follows_run [] start batch g l = record { follows = (refl, refl); used = omega arith }
  follows_run (bs ∷ plan) start batch (b, g) l = go (find (accepted L bs) (drop start words) start) refl (λ at batch. follows_run plan at batch g)
    where
      go : (f : Found) → find (accepted L bs) (drop start words) start ≡ f
          → ((at batch : ℕ) → at ≤ length words → RanAs L plan words at (run_from L plan words at batch))
          → RanAs L (bs ∷ plan) words start (run_from L (bs ∷ plan) words start batch)
      go missing e ih = rw (run_missing L bs plan words start batch e) tt
      go (found t) e ih =
          let f = found_first L bs words b.positive w start t l e in
          rw (run_hit L bs plan words start batch e)
          (ran-after L bs plan words start t (run_from L plan words (t.place + 1) (batch + 1)) f (ih (t.place + 1) (batch + 1) (omega (arith, f.here))))

  pub record RunBy (plan : List (List ℕ)) (from to batch : ℕ) (rs : List ℕ) : Type 0 where
    pub taken : List Taken
    pub runs : run_from L plan words from batch ≡ ran taken
    pub rolled : rolls_of L plan taken ≡ rs
    pub ends : next from taken ≡ to

  pub run_follows : (plan : List (List ℕ)) (from to batch : ℕ) (rs : List ℕ) → RollablePlan (2 ^ L) plan
      → Follows L plan words from to rs → RunBy plan from to batch rs
  unfolding run_from rolls_of next
  run_follows [] from to batch rs g f = record { taken = []; runs = refl; rolled = sym f.1; ends = sym f.0 }
  run_follows (bs ∷ plan) from to batch rs (b, g) (p, f, later) =
      let hit = first_found L bs words b.positive w from p (take (length bs) rs) f in
      let t : Taken = record { place = p; word = get_or words p 0 } in
      let r = run_follows plan (p + 1) to (batch + 1) (drop (length bs) rs) g later in
      record {
        taken = t ∷ r.taken;
        runs = run_hit L bs plan words from batch hit.0 ∙ ap (after t) r.runs;
        rolled = ap₂ ◌++◌ hit.1 r.rolled ∙ take-append-drop (length bs) rs;
        ends = r.ends;
      }

-- ---- what is read off a run

module _ (L : ℕ) (plan : List (List ℕ)) (words : List ℕ) (start : ℕ) (a : Allowed (of_words L plan words start)) where
  abbrev ts : List Taken
  ts = trace (run L plan words start)

  starts : start ≤ length words
  starts = ltb-false (length words) start (allowed_cons _ _ a).0

  enough : T (suffices (run L plan words start))
  enough = go (run L plan words start) (allowed_cons _ _ (allowed_cons _ _ a).1).0
    where
      go : (r : Run) → (no_word r).applies ≡ false → T (suffices r)
      go (ran ts) e = tt
      go (short k) e = clash cc

  module _ (g : RollablePlan (2 ^ L) plan) (w : Callable L words) where
    pub by_method : (Read : List ℕ → Type 0) → Read (rolls_of L plan ts) → Lemire L plan words start (next start ts) (rejected start ts) Read
    by_method Read x = go (run L plan words start) enough (follows_run L words w plan start 0 g starts) x
      where
        go : (r : Run) → T (suffices r) → RanAs L plan words start r → Read (rolls_of L plan (trace r))
            → Lemire L plan words start (next start (trace r)) (rejected start (trace r)) Read
        go (ran ts) t f x = record { rolls = rolls_of L plan ts; follows = f.follows; used = f.used; reading = x }
        go (short k) t f x = absurd t

    pub rolled_range : (bs : List ℕ) → joined plan ≡ bs → T (in_range bs (rolls_of L plan ts))
    rolled_range bs e = rw e at (rolled_in_range L words w plan start 0 g enough)

    pub rolled-count : (bs : List ℕ) → joined plan ≡ bs → length (rolls_of L plan ts) ≡ length bs
    rolled-count bs e = length_in_range bs (rolls_of L plan ts) (truth _ (rolled_range bs e))

-- ---- one outcome

pub suffice : (L : ℕ) → Suffice L
suffice L plan words g w start h = (to (run L plan words start) (follows_run L words w plan start 0 g h), from)
  where
    to : (r : Run) → RanAs L plan words start r → T (suffices r) → (next rejected : ℕ) × Lemire L plan words start next rejected (λ rs. Unit)
    to (ran ts) f t = (
      next start ts,
      rejected start ts,
      record { rolls = rolls_of L plan ts; follows = f.follows; used = f.used; reading = tt },
    )
    to (short k) f t = absurd t

    from : (next rejected : ℕ) × Lemire L plan words start next rejected (λ rs. Unit) → T (suffices (run L plan words start))
    from (n, r, a) = rw (run_follows L words w plan start n 0 a.rolls g a.follows).runs tt

pub one_outcome : (L : ℕ) → OneOutcome L
one_outcome L plan words g w start m n r s xs ys a b =
    let x = run_follows L words w plan start m 0 a.rolls g a.follows in
    let y = run_follows L words w plan start n 0 b.rolls g b.follows in
    let same : x.taken ≡ y.taken = sym (ap trace x.runs) ∙ ap trace y.runs in
    let ends : m ≡ n = sym x.ends ∙ ap (next start) same ∙ y.ends in
    (ends, omega (arith, a.used, b.used), sym a.reading ∙ sym x.rolled ∙ ap (rolls_of L plan) same ∙ y.rolled ∙ b.reading)

module _ (L : ℕ) (plan : List (List ℕ)) (words : List ℕ) (g : RollablePlan (2 ^ L) plan) (w : Callable L words) (start : ℕ) where
  pub same_outcome : (m n r s : ℕ) (P Q : List ℕ → Type 0) (a : Lemire L plan words start m r P) (b : Lemire L plan words start n s Q)
      → (m ≡ n) × (r ≡ s) × (a.rolls ≡ b.rolls)
  same_outcome m n r s P Q a b =
      one_outcome L plan words g w start m n r s a.rolls b.rolls
      (record { rolls = a.rolls; follows = a.follows; used = a.used; reading = refl })
      (record { rolls = b.rolls; follows = b.follows; used = b.used; reading = refl })

  pub same_seen : (read : List ℕ → List ℕ) (x y : Answer × List ℕ) → ByMethod L plan words start read x → ByMethod L plan words start read y → x ≡ y
  same_seen read x y a b =
      let (e, f, h) = same_outcome _ _ _ _ _ _ a.method b.method in
      let after : x.1 ≡ y.1 = a.method.reading ∙ ap read h ∙ sym b.method.reading in
      let (n, c) = a.none in
      let (m, d) = b.none in
      λ i. (record { no = (n ∙ sym m) i; next = e i; rejected = f i; batch = (c ∙ sym d) i }, after i)
