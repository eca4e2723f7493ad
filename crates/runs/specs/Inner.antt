-- What the inner functions answer.
--
--   run_behind_rolls L b a    the run of words behind the value a of a batch with product b
use Rattle.std.specs.Prelude.{ℕ, ◌+◌, ◌-◌, ◌*◌, ◌/◌, ◌^◌}
use Rattle.rules.specs.Rolls.{threshold, up}
use Rattle.answers.specs.declared.results.WordRun.{WordRun}

abbrev pub run_behind_rolls : ℕ → ℕ → ℕ → WordRun
run_behind_rolls L b a =
    let first : ℕ = up (2 ^ L * a + threshold L b) b in
    record { first = first; last = first + 2 ^ L / b - 1 }
