-- `sheet::read::is_sound` meets its contract. Where all tests pass, what is left is that the areas share no byte; where one fails, the check
-- finds by itself that the sheet is not sound. Assumes nothing.
use Prim.Native.Nat.{◌+◌, ◌*◌}
use Rattle.sheet.proofs.Soundness.{sound_rest}
use borrow.Author.Rules.{rules}
use Rattle.sheet.proofs.read.is_sound.Goals as goal

pub returns : goal.returns
returns c =
    let at = c.read-words_at.result in
    let from = c.read-records_at.result in
    sound_rest c.args.sheet.now at (at + 8 * c.read.result) from (from + 4 * c.read-2.result) _ c.share_byte.ensures
    (search rules) (search rules) (search rules) (search rules) (search rules)
