-- Invariants and measures of `funs` in src/file.rt.
use Rattle.std.proofs.Common.{length, map}
use Rattle.ln_csyn.specs.Seen.{tokens_of}
use Rattle.ln_csyn.specs.View.{fun_tree}
use Rattle.ln_csyn.specs.Reading.{block_at}
use Rattle.ln_csyn.proofs.Reading.FunLoops.{Read}
use Rattle.ln_csyn.proofs.file.funs.Given as goal

abbrev pub invariant-funs : goal.invariant-funs
invariant-funs l = Read (block_at l.depths.outer l.depths.inner l.braces) (tokens_of l.tokens) (map fun_tree l.funs.items) (tokens_of l.rest)

abbrev pub decreases-funs : goal.decreases-funs
decreases-funs l = length (tokens_of l.rest)
