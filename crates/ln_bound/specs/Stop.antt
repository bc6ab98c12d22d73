-- Why a predicate has no weights.
use Rattle.std.specs.Prelude.{◌≡◌, ℕ, ◌<◌, List, Option, Some, None}
use Rattle.ln_base.specs.declared.span.Span.{Span}
use Rattle.ln_bound.specs.declared.weigh.BoundStop.{BoundStop}
use Rattle.ln_bound.specs.declared.weigh.BoundStop.TheVariants.{Bound, NoMemory}
use Rattle.ln_bound.specs.Light.{most, IsBoundFault}

-- the stop is the first node whose weight is too large
abbrev pub StopsWeighing : List (Span × ℕ) → BoundStop → Type 0
StopsWeighing nodes (Bound at) = IsBoundFault nodes at
StopsWeighing nodes (NoMemory _) = Unit {0}

-- a weight that has no number of 128 bits, or is too large
abbrev pub IsHeavy : Option ℕ → Type 0
IsHeavy None = Unit {0}
IsHeavy (Some w) = most < w

-- the stop names this node, whose weight is too large, or is out of memory
abbrev pub IsHeavyOrNoMemory : Span → Option ℕ → BoundStop → Type 0
IsHeavyOrNoMemory at weight (Bound s) = (s ≡ at) × IsHeavy weight
IsHeavyOrNoMemory at weight (NoMemory _) = Unit {0}
