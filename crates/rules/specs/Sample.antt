-- The sample with given rolls: a reservoir, and then a shuffle of its slots. The letters k, n are those of document 01.
--
--   sample_bounds n k      the bounds of a sample of k from n records: k + 1, .., n, then k, k - 1, .., 2
--   sample_with k rs xs    k of the records xs in a drawn order: the reservoir by the first n - k of the rolls rs, then its slots shuffled by the
--                          others
use Rattle.std.specs.Prelude.{List, ◌++◌, ℕ, ◌+◌, ◌-◌, length, take, drop}
use Rattle.rules.specs.Reservoir.{countup, reservoir}
use Rattle.rules.specs.Shuffle.{shuffle_with, shuffle_bounds}

abbrev pub sample_bounds : ℕ → ℕ → List ℕ
sample_bounds n k = countup (n - k) (k + 1) ++ shuffle_bounds k

-- The first k records are put in the slots, each later one has its roll; then the k slots are shuffled, with all of them still to place.
unfoldable pub sample_with : ℕ → List ℕ → List ℕ → List ℕ
sample_with k rs xs =
    let later : ℕ = length xs - k in
    shuffle_with k (drop later rs) (reservoir (take k xs) (drop k xs) (take later rs))
