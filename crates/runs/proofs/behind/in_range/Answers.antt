-- `runs::behind::in_range` meets its contract: where there is a roll for each bound, whether each pair passes is the definition's test.
-- Assumes nothing.
use Rattle.std.proofs.Common.{◌≡◌, ℕ, Bool, List, [], ◌∷◌, ◌&&◌, length, ap, refl, ◌∙◌, rules, ltb, tests}
use Rattle.std.specs.List.{list_all, zip}
use Rattle.std.proofs.lemmas.Iterator.{YieldsList-from_slice, YieldsList-from_zip}
use Rattle.std.proofs.lemmas.Iterator.Search.{all_from_yields_List}
use Rattle.rules.specs.Rolls.{in_range}
use Rattle.rules.proofs.Range.{range_count}
use Rattle.runs.proofs.behind.in_range.Goals as goal

pair_by_pair : (bs rs : List ℕ) → length bs ≡ length rs → list_all (λ p. ltb p.0 p.1) (zip rs bs) ≡ in_range bs rs
unfolding in_range
pair_by_pair [] [] h = refl
pair_by_pair [] (r ∷ rs) h = cc
pair_by_pair (b ∷ bs) [] h = cc
pair_by_pair (b ∷ bs) (r ∷ rs) h = ap (λ (t : Bool). ltb r b && t) (pair_by_pair bs rs cc)

pub returns-then-bounds-rolls : goal.returns-then-bounds-rolls
returns-then-bounds-rolls c =
    let a = c.args in
    all_from_yields_List (λ p. ltb p.0 p.1) c.all.new.self _ _ c.all.ensures.ran
    (YieldsList-from_zip (YieldsList-from_slice a.rolls.now cc) (YieldsList-from_slice a.bounds.now cc))
    (λ x b q k. search (rules, tests))
    ∙ pair_by_pair _ _ (search rules)

pub returns-else-bounds-rolls : goal.returns-else-bounds-rolls
returns-else-bounds-rolls c = search (rules, range_count)
