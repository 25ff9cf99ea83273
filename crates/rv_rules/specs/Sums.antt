-- Sums of digests, and the lanes for tests.
use Rattle.std.specs.Prelude.{ℕ, ◌+◌, ◌%◌, ◌^◌, List, map, slice_index, replicate}
use Rattle.rv_spec.specs.Digest.{Lanes, lane_numbers}

-- the lane-wise sum of two digests, modulo 2 ^ 64
abbrev pub add_lanes : List ℕ → List ℕ → List ℕ
add_lanes xs ys = map (λ j. (slice_index xs j + slice_index ys j) % 2 ^ 64) lane_numbers

-- lanes that tell no tuples apart, for tests
abbrev pub tiny_lanes : Lanes
tiny_lanes t = replicate 16 0
