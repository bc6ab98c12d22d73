-- Pairs of the program, seen as ranges.
use Rattle.ln_interval.specs.Range.{Range}
use Rattle.ln_interval.specs.declared.pair.Pair.{Pair}

-- the range of a pair
abbrev pub range : Pair → Range
range p = record { low = p.low; high = p.high }
