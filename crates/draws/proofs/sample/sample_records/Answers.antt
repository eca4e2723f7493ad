-- `draws::sample::sample_records` meets its contract, refusal by refusal (OneSample). Assumes nothing.
use mathlib.Core.Path.{◌≡◌, refl, ◌∙◌, ap, subst}
use lib.ListN.{length}
use borrow.Author.Tests.{lt-ltb, le-ltb}
use mathlib.Core.List.{List}
use Prim.Native.Nat.{ℕ}
use Rattle.std.specs.Prelude.{Result, Err}
use Rattle.answers.specs.declared.refusal.Refusal as refusal
use Rattle.answers.specs.declared.results.Used.{Used}
use Rattle.draws.specs.Sample.{seen_sample}
use Rattle.answers.specs.Results.{answer_of}
use Rattle.answers.proofs.Deciding.{in_count, below_count, above_count, refused-seen}
use Rattle.rules.specs.Width.{w64}
use Rattle.draws.proofs.OneSample.{sample-count, sample_size, sample-room, sample_start}
use borrow.Author.Rules.{rules}
use Rattle.draws.proofs.sample.sample_records.Goals as goal

-- the sample with the words and from the place that the cursor has
module _ (records : List ℕ) (k : ℕ) (slots out : List ℕ) (words list : List ℕ) (start next : ℕ) (l : list ≡ words) (n : next ≡ start) where
  drawn_from : (r : Result Used refusal.Refusal) → answer_of next r ≡ (seen_sample w64 list next records k slots).0
      → answer_of start r ≡ (seen_sample w64 words start records k slots).0
  drawn_from r e =
      let P : List ℕ → ℕ → Type 0 = λ ws i. answer_of i r ≡ (seen_sample w64 ws i records k slots).0 in
      subst (λ i. P words i) n (subst (λ ws. P ws next) l e)

  left_from : out ≡ (seen_sample w64 list next records k slots).1 → out ≡ (seen_sample w64 words start records k slots).1
  left_from e =
      let P : List ℕ → ℕ → Type 0 = λ ws i. out ≡ (seen_sample w64 ws i records k slots).1 in
      subst (λ i. P words i) n (subst (λ ws. P ws next) l e)

pub returns-then-n-gt-MAX_RECORDS : goal.returns-then-n-gt-MAX_RECORDS
returns-then-n-gt-MAX_RECORDS c = let args = c.args in
    let seen = refused-seen _ 2 0 args.start args.slots.now _
    (sample-count w64 args.words.now args.start args.records.now args.k (length args.slots.now) (above_count 0 16384 (length args.records.now) c.if-n-gt-MAX_RECORDS.true)) refl in
    record { answer = seen.0; slots = seen.1 }

pub returns-then-k-lt1 : goal.returns-then-k-lt1
returns-then-k-lt1 c = let args = c.args in
    let seen = refused-seen _ 3 0 args.start args.slots.now _
    (sample_size w64 args.words.now args.start args.records.now args.k (length args.slots.now) (in_count 0 16384 (length args.records.now) (search rules) c.if-n-gt-MAX_RECORDS.false)
    (below_count 1 (length args.records.now) args.k c.if-k-lt1.true)) refl in
    record { answer = seen.0; slots = seen.1 }

pub returns-then-n-k : goal.returns-then-n-k
returns-then-n-k c = let args = c.args in
    let seen = refused-seen _ 3 0 args.start args.slots.now _
    (sample_size w64 args.words.now args.start args.records.now args.k (length args.slots.now) (in_count 0 16384 (length args.records.now) (search rules) c.if-n-gt-MAX_RECORDS.false)
    (above_count 1 (length args.records.now) args.k c.if-n-k.true)) refl in
    record { answer = seen.0; slots = seen.1 }

pub returns-then-slots-k : goal.returns-then-slots-k
returns-then-slots-k c = let args = c.args in
    let seen = refused-seen _ 6 0 args.start args.slots.now _
    (sample-room w64 args.words.now args.start args.records.now args.k (length args.slots.now) (in_count 0 16384 (length args.records.now) (search rules) (search rules))
    (in_count 1 (length args.records.now) args.k (search rules) (search rules)) (lt-ltb _ _ c.if-slots-k.true)) refl in
    record { answer = seen.0; slots = seen.1 }

pub returns-in_err-words : goal.returns-in_err-words
returns-in_err-words c = let args = c.args in
    let e : c.from_residual.result ≡ Err c.in_err-words.field-0.0 = search rules in
    let why = c.in_err-words.ensures in
    let seen = refused-seen _ 9 0 args.start args.slots.now _
    (sample_start w64 args.words.now args.start args.records.now args.k (length args.slots.now) (in_count 0 16384 (length args.records.now) (search rules) (search rules))
    (in_count 1 (length args.records.now) args.k (search rules) (search rules)) (le-ltb _ _ c.if-slots-k.false) why.1) (ap (answer_of args.start) (e ∙ ap Err why.0)) in
    record { answer = seen.0; slots = seen.1 }

pub returns : goal.returns
returns c = let args = c.args in
    let from = c.in_ok-words.ensures in
    let drawn = c.draw_sample.ensures in
    record {
      answer = drawn_from args.records.now args.k args.slots.now c.draw_sample.new.slots args.words.now _ args.start _ from.0 from.1 c.draw_sample.result drawn.answer;
      slots = left_from args.records.now args.k args.slots.now c.draw_sample.new.slots args.words.now _ args.start _ from.0 from.1 drawn.slots;
    }
