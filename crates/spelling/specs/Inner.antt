-- What the functions of a page ask and answer.
--
--   Room page n            there is room for n bytes more
--   Written page bs last   last is the page with the bytes at its place: the list is the same one, all else in it is as it was, and the
--                          place is the one after them, which is within the list
use Rattle.std.specs.Prelude.{◌≡◌, List, ℕ, ◌+◌, ◌≤◌, length}
use Rattle.rules.specs.Put.{put}
use Rattle.spelling.specs.declared.page.Page.{Page}

abbrev pub Room : Page → ℕ → Type 0
Room page n = page.at + n ≤ length page.bytes.now

pub record Written (page : Page) (bs : List ℕ) (last : Page) : Type 0 where
  pub same_list : last.bytes.ghost_name ≡ page.bytes.ghost_name
  pub bytes : last.bytes.now ≡ put page.bytes.now page.at bs
  pub place : last.at ≡ page.at + length bs
  pub within : last.at ≤ length page.bytes.now
