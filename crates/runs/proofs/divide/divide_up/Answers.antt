-- `runs::divide::divide_up` meets its contract: the quotient where the remainder is 0, and one more where it is not.
-- Assumes nothing.
use Rattle.std.proofs.Common.{◌≡◌, ◌≢◌, ℕ, ◌+◌, ◌*◌, ◌/◌, ◌%◌, ◌^◌, ◌<◌, sym, ap, ◌∙◌, rules}
use Rattle.rules.specs.Rolls.{up}
use Rattle.runs.proofs.LongDivision.{up_exact, up_more}
use Rattle.runs.proofs.divide.divide_up.Goals as goal

more : (x b q r : ℕ) → 0 < b → q ≡ x / b → r ≡ x % b → r ≢ 0 → q + 1 ≡ up x b
more x b q r h e f g = ap (λ (n : ℕ). n + 1) e ∙ up_more x b h (λ k. g (f ∙ k))

pub returns-then-division-eq0 : goal.returns-then-division-eq0
returns-then-division-eq0 c = let a = c.args in
    let d = c.divide-division.ensures in
    d.0 ∙ up_exact (a.high * 2 ^ 64 + a.low) a.b (search rules) (sym d.1 ∙ c.if-division-eq0.true)

pub overflow_add-result : goal.overflow_add-result
overflow_add-result c = let a = c.args in
    let d = c.divide-division.ensures in
    record { fits = rw (more (a.high * 2 ^ 64 + a.low) a.b _ _ (search rules) d.0 d.1 c.if-division-eq0.false) c.requires.1 }

pub returns : goal.returns
returns c = let a = c.args in
    let d = c.divide-division.ensures in
    more (a.high * 2 ^ 64 + a.low) a.b _ _ (search rules) d.0 d.1 c.if-division-eq0.false
