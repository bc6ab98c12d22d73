-- Defines what emission has to know of a line: by which power of 2 a pushed number is divided, and the width of what is pushed from
-- outside. So blocks and filters are emitted alike.
use Rattle.std.specs.Prelude.{List, [], ◌∷◌}
use Rattle.ln_interval.specs.Range.{Range, magnitude}
use Rattle.ln_bound.specs.declared.fitted.Width.TheVariants.{W64}
use Rattle.ln_bound.specs.Widths.{least}
use Rattle.ln_code.specs.declared.op.Triple.{Triple}
use Rattle.ln_code.specs.Engine.{Line}
use Rattle.ln_code.specs.Part.{Code, FilterCode, lines_of}
use Rattle.ln_cemit.specs.declared.slot.Way.{Way}

-- of a line of a block, whose range tells the width
abbrev pub block_way : Range → Way
block_way p = record { shift = 0; width = least (magnitude p) }

-- of a line of a filter, which is 64 bits wide
abbrev pub filter_way : Triple → Way
filter_way a = record { shift = a.k; width = W64 }

-- the same lines with their ways
abbrev pub ways : {B : Type 0} → (B → Way) → List (Line B) → List (Line Way)
ways g [] = []
ways g (x ∷ xs) = record { op = x.op; bound = g x.bound } ∷ ways g xs

-- the lines of a block, with what emission has to know of each
abbrev pub block_lines : Code → List (Line Way)
block_lines c = ways block_way (lines_of c.ops c.pairs)

-- the lines of a filter, with what emission has to know of each
abbrev pub lines_of_filter : FilterCode → List (Line Way)
lines_of_filter f = ways filter_way (lines_of f.ops f.triples)
