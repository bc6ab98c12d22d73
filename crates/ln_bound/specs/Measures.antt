-- Measures of nodes in code: a pair and a size.
use Rattle.std.specs.Prelude.{◌≡◌, ℕ, ◌≤◌, max, Option, Some, None}
use Rattle.ln_bound.specs.declared.measure.Measure.{Measure}
use Rattle.ln_interval.specs.Range.{Range, magnitude, most}
use Rattle.ln_interval.specs.View.{range}

-- the range of a measure
abbrev pub range_in : Measure → Range
range_in m = range m.pair

-- the size of a measure
abbrev pub size_in : Measure → ℕ
size_in m = m.size

-- both
abbrev pub seen : Measure → Range × ℕ
seen m = (range m.pair, m.size)

-- the measure has this range and this size, both within the limit
pub record IsMeasure (m : Measure) (p : Range) (s : ℕ) : Type 0 where
  pub same_range : range m.pair ≡ p
  pub same_size : m.size ≡ s
  pub small : max (magnitude p) s ≤ most

-- no measure where there is none
abbrev pub tested : Option Measure → Option ℕ
tested None = None
tested (Some m) = Some 0
