-- How much a closed tree weighs, and how far its range reaches.
use Rattle.std.specs.Prelude.{ℕ, []}
use Rattle.ln_algebra.specs.Tree.{Tree}
use Rattle.ln_interval.specs.Range.{Range, magnitude}
use Rattle.ln_bound.specs.Ranges.{range_over}
use Rattle.ln_bound.specs.Value.{weight_over}

-- the weight of a closed tree
abbrev pub weighs : (ℕ → ℕ) → Tree → ℕ
weighs w e = weight_over w [] e

-- the magnitude of its range
abbrev pub reaches : (ℕ → Range) → Tree → ℕ
reaches r e = magnitude (range_over r [] e)
