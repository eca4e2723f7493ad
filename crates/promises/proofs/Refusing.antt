-- The first refusal of a list, over every operation. Assumes nothing.
--
--   Named, named_nil, named_no, named_word, named_words, named_bounds    no number but 10 names a batch
--   Ten, ten_no, ten_word, ten_words, names_batch    number 10 names the batch at which the run ended
--   as_refused                  a refusal is the first one, alone, whatever an operation's answer looks like
--   beside_refused              and so of an answer beside a lent list
--   allowed_cons, allowed_done  where no refusal applies: none of the list does, and the outcome is not refused
--   first_is_lowest             of refusals whose numbers rise the first that applies is the lowest
--   ten_last                    a list that ends with number 10
--   first_here, first_past      the first refusal, one by one
--   Numbered, numbered_nil,     a refusal that applies has a number above 0
--     numbered_no, numbered_word, numbered_words, numbered_bounds
--   settle                      two answers that are as refused agree, where they do with no refusal
use mathlib.Core.Path.{subst, ◌≡◌, refl, sym, ap, ◌∙◌}
use mathlib.Core.Bool.{Bool, true, false}
use mathlib.Core.Logic.{◌≢◌}
use mathlib.Core.List.{List, [], ◌∷◌, ◌++◌}
use Prim.Native.Nat.{ℕ, ◌<◌, ◌≤◌}
use native.Mathlib.Nat.{le_refl, le_of_lt, le_trans}
use native.Mathlib.Omega.{arith}
use lib.Dec.{lit<}
use Rattle.rules.specs.Run.{Taken, Run, ran, short, run}
use Rattle.rules.specs.Width.{Width}
use Rattle.rules.proofs.Facts.{clash}
use Rattle.answers.specs.Outcome.{Outcome, refused, Refusal, decide}
use Rattle.answers.proofs.Deciding.{decide_here, decide_past, decide_none}
use Rattle.answers.specs.Outcome.{done, no, no_word, of_bounds, of_words, shown, seen}
use Rattle.answers.specs.declared.answer.Answer.{Answer}
use Rattle.promises.specs.Demand1.{first_of, AsRefused, numbers_of, Rising, Lowest, FirstIsLowest}
use Rattle.promises.specs.Demand2.{Allowed}

module _ (r : Refusal) (rs : List Refusal) where
  pub first_here : r.applies ≡ true → first_of (r ∷ rs) ≡ r
  unfolding first_of
  first_here e = ap (λ (b : Bool). elim b as (λ x. Refusal) [ true ↦ r | false ↦ first_of rs ]) e

  pub first_past : r.applies ≡ false → first_of (r ∷ rs) ≡ first_of rs
  unfolding first_of
  first_past e = rw (e, first_of)

-- ---- only number 10 names a batch

abbrev pub Named : List Refusal → Type 0
Named rs = (first_of rs).number ≢ 10 → (first_of rs).batch ≡ 0

pub named_nil : Named []
unfolding first_of
named_nil h = refl

pub named_no : (n : ℕ) (b : Bool) (rs : List Refusal) → Named rs → Named (no n b ∷ rs)
unfolding first_of
named_no n true rs m h = refl
named_no n false rs m h = m h

pub named_word : (r : Run) → Named (no_word r ∷ [])
unfolding first_of
named_word (ran ts) h = refl
named_word (short k) h = absurd (h refl)

pub named_words : (L : ℕ) (plan : List (List ℕ)) (words : List ℕ) (start : ℕ) → Named (of_words L plan words start)
named_words L plan words start = named_no 9 _ _ (named_word (run L plan words start))

pub named_bounds : (W : Width) (bs : List ℕ) (rs : List Refusal) → Named rs → Named (of_bounds W bs ++ rs)
named_bounds W bs rs m = named_no 2 _ _ (named_no 4 _ _ (named_no 5 _ _ m))

-- ---- and it names the one at which the run ended

abbrev pub Ten : Run → List Refusal → Type 0
Ten r rs = (first_of rs).number ≡ 10 → r ≡ short (first_of rs).batch

pub ten_no : (r : Run) (n : ℕ) (b : Bool) (rs : List Refusal) → n ≢ 10 → Ten r rs → Ten r (no n b ∷ rs)
unfolding first_of
ten_no r n true rs h t z = absurd (h z)
ten_no r n false rs h t z = t z

pub ten_word : (r : Run) → Ten r (no_word r ∷ [])
unfolding first_of
ten_word (ran ts) z = clash cc
ten_word (short k) z = refl

pub ten_words : (L : ℕ) (plan : List (List ℕ)) (words : List ℕ) (start : ℕ) → Ten (run L plan words start) (of_words L plan words start)
ten_words L plan words start = ten_no (run L plan words start) 9 _ _ (λ z. omega arith) (ten_word (run L plan words start))

pub names_batch : {A : Type 0} (rs : List Refusal) (saying : Outcome → A) (number : ℕ) (got : A) (batch : A → ℕ) → ((n b : ℕ) → batch (saying (refused n b)) ≡ b)
    → AsRefused rs saying number got → (r : Run) → Ten r rs → number ≡ 10 → r ≡ short (batch got)
names_batch rs saying number got batch says a r t z =
    t (sym a.lowest ∙ z) ∙ ap short (sym (ap batch (a.whole (λ y. omega (arith, y, z))) ∙ says (first_of rs).number (first_of rs).batch))

-- ---- the first refusal is given

-- what a caller gets of an outcome, with its number; where nothing is refused the outcome is o
module _ {A : Type 0} (show saying : Outcome → A) (number : A → ℕ) (says : (n batch : ℕ) → show (refused n batch) ≡ saying (refused n batch))
    (numbers : (n batch : ℕ) → number (saying (refused n batch)) ≡ n) (o : Outcome) (none : number (show o) ≡ 0) where
  abbrev told : Refusal → A
  told r = saying (refused r.number r.batch)

  refused-so : (rs : List Refusal) (got : A) → got ≡ show (decide rs o) → (number got ≡ (first_of rs).number) × (number got ≢ 0 → got ≡ told (first_of rs))
  unfolding first_of
  refused-so [] got e =
      let z : number got ≡ 0 = ap number (e ∙ ap show (decide_none o)) ∙ none in
      (z, λ n. absurd (n z))
  refused-so (r ∷ rs) got e = go r.applies refl (refused-so rs got)
    where
      go : (b : Bool) → r.applies ≡ b → (got ≡ show (decide rs o) → (number got ≡ (first_of rs).number) × (number got ≢ 0 → got ≡ told (first_of rs)))
          → (number got ≡ (first_of (r ∷ rs)).number) × (number got ≢ 0 → got ≡ told (first_of (r ∷ rs)))
      go true f ih =
          let said : got ≡ told r = e ∙ ap show (decide_here r rs o f) ∙ says r.number r.batch in
          let first : r ≡ first_of (r ∷ rs) = sym (first_here r rs f) in
          (ap number said ∙ numbers r.number r.batch ∙ ap (λ (x : Refusal). x.number) first, λ n. said ∙ ap told first)
      go false f ih =
          let g = ih (e ∙ ap show (decide_past r rs o f)) in
          let first : first_of rs ≡ first_of (r ∷ rs) = sym (first_past r rs f) in
          (g.0 ∙ ap (λ (x : Refusal). x.number) first, λ n. g.1 n ∙ ap told first)

  pub as_refused : (rs : List Refusal) → Named rs → (got : A) → got ≡ show (decide rs o) → AsRefused rs saying (number got) got
  as_refused rs named got e = let so = refused-so rs got e in record { lowest = so.0; whole = so.1; named = λ h. named (λ z. h (so.0 ∙ z)) }

-- an operation that gives an answer beside a lent list, and whose outcome is decided by its refusals and else done
pub beside_refused : (start : ℕ) (lent : List ℕ) (refusals : List Refusal) → Named refusals → (values : List ℕ) (ts : List Taken) (got : Answer × List ℕ)
    → got ≡ seen start lent (decide refusals (done values ts)) → AsRefused refusals (λ o. (shown start o, lent)) got.0.no got
beside_refused start lent refusals named values ts got e =
    as_refused (seen start lent) (λ o. (shown start o, lent)) (λ (x : Answer × List ℕ). x.0.no) (λ n b. refl) (λ n b. refl)
    (done values ts) refl refusals named got e

-- ---- where no refusal applies

pub allowed_cons : (r : Refusal) (rs : List Refusal) → Allowed (r ∷ rs) → (r.applies ≡ false) × Allowed rs
allowed_cons r rs a = go r.applies refl
  where
    go : (b : Bool) → r.applies ≡ b → (r.applies ≡ false) × Allowed rs
    go true e =
        let z : ◌≡◌ {A = Bool} true false = sym e ∙ ap (λ (x : Refusal). x.applies) (sym (first_here r rs e)) ∙ a in
        clash cc
    go false e = (e, ap (λ (x : Refusal). x.applies) (sym (first_past r rs e)) ∙ a)

pub allowed_done : (rs : List Refusal) (o : Outcome) → Allowed rs → decide rs o ≡ o
allowed_done [] o a = decide_none o
allowed_done (r ∷ rs) o a = let (e, later) = allowed_cons r rs a in decide_past r rs o e ∙ allowed_done rs o later

-- ---- the numbers of a list that ends with number 10

pub ten_last : (r : Run) (ns : List ℕ) → ns ++ (no_word r).number ∷ [] ≡ ns ++ 10 ∷ []
ten_last (ran ts) ns = refl
ten_last (short k) ns = refl

-- ---- the lowest

-- below the numbers of a rising list
above : (n : ℕ) (rs : List Refusal) → Rising (n ∷ numbers_of rs) → (m : ℕ) → m ≤ n → Lowest m rs
above n [] v m h = tt
above n (r ∷ []) (l, v) m h = (λ e. le_trans h (le_of_lt l), tt)
above n (r ∷ s ∷ rs) (l, v) m h = (λ e. le_trans h (le_of_lt l), above r.number (s ∷ rs) v m (le_trans h (le_of_lt l)))

rising_tail : (n : ℕ) (ns : List ℕ) → Rising (n ∷ ns) → Rising ns
rising_tail n [] v = tt
rising_tail n (m ∷ ns) v = v.1

pub first_is_lowest : FirstIsLowest
first_is_lowest [] v = tt
first_is_lowest (r ∷ rs) v = go r.applies refl (first_is_lowest rs (rising_tail r.number (numbers_of rs) v))
  where
    go : (b : Bool) → r.applies ≡ b → Lowest (first_of rs).number rs → Lowest (first_of (r ∷ rs)).number (r ∷ rs)
    go true e ih =
        subst (λ (x : Refusal). Lowest x.number (r ∷ rs)) (sym (first_here r rs e)) (λ f. le_refl r.number, above r.number rs v r.number (le_refl r.number))
    go false e ih =
        subst (λ (x : Refusal). Lowest x.number (r ∷ rs)) (sym (first_past r rs e)) (λ f. let z : ◌≡◌ {A = Bool} false true = sym e ∙ f in clash cc, ih)

-- ---- a refusal that applies has a number above 0

abbrev pub Numbered : List Refusal → Type 0
Numbered rs = (first_of rs).applies ≡ true → (first_of rs).number ≢ 0

pub numbered_nil : Numbered []
unfolding first_of
numbered_nil e = clash cc

numbered_cons : (r : Refusal) (rs : List Refusal) → r.number ≢ 0 → Numbered rs → Numbered (r ∷ rs)
numbered_cons r rs n m = go r.applies refl
  where
    go : (b : Bool) → r.applies ≡ b → Numbered (r ∷ rs)
    go true e h z = n (ap (λ (x : Refusal). x.number) (sym (first_here r rs e)) ∙ z)
    go false e h z =
        let same = first_past r rs e in
        m (ap (λ (x : Refusal). x.applies) (sym same) ∙ h) (ap (λ (x : Refusal). x.number) (sym same) ∙ z)

pub numbered_no : (n : ℕ) (b : Bool) (rs : List Refusal) → 0 < n → Numbered rs → Numbered (no n b ∷ rs)
numbered_no n b rs p m = numbered_cons (no n b) rs (λ z. let f : ⊥ = omega arith in f) m

pub numbered_word : (r : Run) → Numbered (no_word r ∷ [])
numbered_word r = numbered_cons (no_word r) [] (ten r) numbered_nil
  where
    ten : (r : Run) → (no_word r).number ≢ 0
    ten (ran ts) z = let f : ⊥ = omega arith in f
    ten (short k) z = let f : ⊥ = omega arith in f

pub numbered_words : (L : ℕ) (plan : List (List ℕ)) (words : List ℕ) (start : ℕ) → Numbered (of_words L plan words start)
numbered_words L plan words start = numbered_no 9 _ _ (lit< tt) (numbered_word (run L plan words start))

pub numbered_bounds : (W : Width) (bs : List ℕ) (rs : List Refusal) → Numbered rs → Numbered (of_bounds W bs ++ rs)
numbered_bounds W bs rs m = numbered_no 2 _ _ (lit< tt) (numbered_no 4 _ _ (lit< tt) (numbered_no 5 _ _ (lit< tt) m))

module _ {A : Type 0} (refusals : List Refusal) (saying : Outcome → A) (number : A → ℕ) (p : Numbered refusals) (x y : A) where
  pub settle : AsRefused refusals saying (number x) x → AsRefused refusals saying (number y) y → (Allowed refusals → x ≡ y) → x ≡ y
  settle a b f = go (first_of refusals).applies refl
    where
      go : (t : Bool) → (first_of refusals).applies ≡ t → x ≡ y
      go true e = a.whole (λ z. p e (sym a.lowest ∙ z)) ∙ sym (b.whole (λ z. p e (sym b.lowest ∙ z)))
      go false e = f e
