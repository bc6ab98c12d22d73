-- Why a predicate has no normal polynomial.
use Rattle.std.specs.Prelude.{ℕ, List}
use Rattle.ln_base.specs.declared.span.Span.{Span}
use Rattle.ln_algebra.specs.Tree.{Tree}
use Rattle.ln_poly.specs.declared.expansion.PolyStop.{PolyStop}
use Rattle.ln_poly.specs.declared.expansion.PolyStop.TheVariants.{Terms, NoMemory}
use Rattle.ln_poly.specs.Expansion.{IsTermsFault}

-- the stop is the first node that has too many terms
abbrev pub StopsExpanding : ℕ → List (Span × Tree) → PolyStop → Type 0
StopsExpanding n nodes (Terms at) = IsTermsFault n nodes at
StopsExpanding n nodes (NoMemory _) = Unit {0}
