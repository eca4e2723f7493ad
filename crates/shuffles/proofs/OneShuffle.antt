-- A shuffle, refusal by refusal. Assumes nothing.
--
--   shuffle-count, shuffle_start   numbers 2 and 9
--   supplied_for                   the dry run over the words and the records as the code holds them
--   short_seen                     number 10, as the caller sees it
--   shuffled_seen                  done, where none of them applies, as the caller sees it
use mathlib.Core.Path.{◌≡◌, refl, sym, ap, ◌∙◌}
use mathlib.Core.Bool.{true}
use mathlib.Core.List.{List}
use Prim.Native.Nat.{ℕ, ◌-◌, ◌<◌, ◌≤◌}
use native.Mathlib.Omega.{arith}
use lib.ListN.{length}
use Rattle.std.specs.Prelude.{Result, Ok, Err}
use Rattle.rules.specs.Limits.{max_records}
use Rattle.rules.specs.Run.{Run, ran, short, run, trace, rolls_of}
use Rattle.rules.specs.Shuffle.{shuffle_with, shuffle_plan}
use Rattle.rules.specs.Width.{Width}
use Rattle.rules.proofs.Facts.{clash}
use Rattle.rules.proofs.Orders.{length-shuffle}
use Rattle.rules.proofs.Writing.{whole_list}
use Rattle.answers.specs.Outcome.{refused, decide, outside, of_words, from_run, shown, left}
use Rattle.answers.specs.Results.{answer_of}
use Rattle.answers.specs.Supplied.{supplied}
use Rattle.answers.specs.declared.refusal.Refusal.{Refusal}
use Rattle.answers.specs.declared.refusal.Refusal.TheVariants.{Words}
use Rattle.answers.specs.declared.results.Used.{Used}
use Rattle.answers.proofs.Deciding.{decide_here, decide_past, in_count, no_start, words_short, words_drawn, refused-seen, done-seen}
use Rattle.shuffles.specs.Shuffle.{shuffle}

module _ (W : Width) (words : List ℕ) (start : ℕ) (xs : List ℕ) where
  pub shuffle-count : outside 0 max_records (length xs) ≡ true → shuffle W words start xs ≡ refused 2 0
  unfolding shuffle
  shuffle-count e = decide_here _ _ _ e

  abbrev plan : List (List ℕ)
  plan = shuffle_plan W.size (length xs)

  module _ (few : length xs ≤ max_records) where
    rest : shuffle W words start xs
        ≡ decide (of_words W.bits plan words start) (from_run W.bits plan words start (λ rs. shuffle_with (length xs) rs xs))
    unfolding shuffle
    rest = decide_past _ _ _ (in_count 0 max_records (length xs) (omega arith) few)

    pub shuffle_start : length words < start → shuffle W words start xs ≡ refused 9 0
    shuffle_start h = rest ∙ no_start W.bits plan words start _ h

    module _ (h : start ≤ length words) (r : Result Used Refusal) (e : r ≡ supplied start (run W.bits plan words start)) where
      -- a dry run refuses by number 10 alone
      pub short_seen : (why : Refusal) → r ≡ Err why
          → (answer_of start (Err why) ≡ shown start (shuffle W words start xs)) × (xs ≡ left xs (shuffle W words start xs))
      short_seen why f = go (run W.bits plan words start) refl
        where
          go : (x : Run) → run W.bits plan words start ≡ x
              → (answer_of start (Err why) ≡ shown start (shuffle W words start xs)) × (xs ≡ left xs (shuffle W words start xs))
          go (ran ts) g = clash (let z = sym f ∙ e ∙ ap (supplied start) g in cc)
          go (short k) g =
              let s : supplied start (run W.bits plan words start) ≡ Err (Words k) = ap (supplied start) g in
              let z : why ≡ Words k = (let y = sym f ∙ e ∙ s in cc) in
              refused-seen _ 10 k start xs _ (rest ∙ words_short W.bits plan words start _ h k s) (ap (λ (x : Refusal). answer_of start (Err x)) z)

      pub shuffled_seen : (used : Used) → r ≡ Ok used
          → (out : List ℕ) → out ≡ shuffle_with (length xs) (rolls_of W.bits plan (trace (run W.bits plan words start))) xs
          → (answer_of start (Ok used) ≡ shown start (shuffle W words start xs)) × (out ≡ left xs (shuffle W words start xs))
      shuffled_seen used f out g =
          let s : supplied start (run W.bits plan words start) ≡ Ok used = sym e ∙ f in
          done-seen _ _ start (run W.bits plan words start) used.next used.rejected xs out _
          (rest ∙ words_drawn W.bits plan words start _ h used.next used.rejected s) s refl
          (g ∙ whole_list _ xs (length-shuffle (length xs) _ xs))

  pub supplied_for : (r : Result Used Refusal) (list : List ℕ) (to n : ℕ) → r ≡ supplied to (run W.bits (shuffle_plan W.size (n - 0)) list to)
      → list ≡ words → to ≡ start → n ≡ length xs → r ≡ supplied start (run W.bits (shuffle_plan W.size (length xs)) words start)
  supplied_for r list to n e l s k =
      let m : n - 0 ≡ length xs = omega (arith, k) in
      e ∙ (λ i. supplied (s i) (run W.bits (shuffle_plan W.size (m i)) (l i) (s i)))
