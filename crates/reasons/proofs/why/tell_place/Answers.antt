-- `reasons::why::tell_place` meets its contract: what became of the place by the rolls of the reservoir, and its final slot by the others. Assumes
-- nothing.
use mathlib.Core.Path.{◌≡◌, ◌∙◌, sym, ap₂, subst}
use mathlib.Core.Bool.{true}
use mathlib.Core.List.{List}
use Prim.Native.Nat.{ℕ, ◌+◌, ◌-◌, ◌<◌, ◌≤◌}
use native.Mathlib.Omega.{arith}
use lib.ListN.{length, take}
use Rattle.rules.specs.Rolls.{in_range}
use Rattle.rules.specs.Sample.{sample_bounds}
use Rattle.draws.proofs.Sampling.{later_fits, later-count, others, others_range}
use Rattle.reasons.specs.Fate.{Within, final_slot_of}
use Rattle.reasons.specs.Why.{told}
use Rattle.reasons.specs.declared.fate.Fate.{Fate}
use Rattle.reasons.proofs.Finals.{fate_within}
use Rattle.reasons.proofs.why.tell_place.Goals as goal

-- every place has its roll, or is one of the first k
placed : (n k place : ℕ) (rolls : List ℕ) → n ≤ 16384 → k ≤ n → place < n → in_range (sample_bounds n k) rolls ≡ true
    → let js = take (n - k) rolls in (place < k + length js) × (k + length js ≤ 16384)
placed n k place rolls small most below t =
    let count = later-count n k rolls t in
    (omega (arith, count, most, below), omega (arith, count, small, most))

pub slice_bounds-fate_of-end : goal.slice_bounds-fate_of-end
slice_bounds-fate_of-end c = let s = c.args.size in later-count s.n s.k c.args.rolls.now c.requires.1

pub fate_of-fate-requires : goal.fate_of-fate-requires
fate_of-fate-requires c = let s = c.args.size in placed s.n s.k c.args.place c.args.rolls.now s.few s.within c.requires.0 c.requires.1

pub slice_bounds-tell-count : goal.slice_bounds-tell-count
slice_bounds-tell-count c = let s = c.args.size in later_fits s.n s.k c.args.rolls.now c.requires.1

pub slice_bounds-tell-start : goal.slice_bounds-tell-start
slice_bounds-tell-start c = let s = c.args.size in later_fits s.n s.k c.args.rolls.now c.requires.1

pub tell-requires : goal.tell-requires
tell-requires c =
    let a = c.args in
    let s = a.size in
    let place = placed s.n s.k a.place a.rolls.now s.few s.within c.requires.0 c.requires.1 in
    (subst (Within s.k) (sym c.fate_of-fate.ensures) (fate_within s.k (take (s.n - s.k) a.rolls.now) a.place place.0), others_range s.n s.k a.rolls.now c.requires.1)

pub returns : goal.returns
returns c =
    let a = c.args in
    let s = a.size in
    c.tell.ensures
    ∙ ap₂ (λ (l : List ℕ) (fate : Fate). told a.used.next a.used.rejected (final_slot_of s.k l) fate) (others s.n s.k a.rolls.now c.requires.1) c.fate_of-fate.ensures
