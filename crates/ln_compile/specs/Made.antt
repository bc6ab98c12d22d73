-- Blocks as they are made.
use Rattle.std.specs.Prelude.{◌≤◌, List, length}
use Rattle.ln_tree.specs.Exps.{Pairs}
use Rattle.ln_tree.specs.Table.{PredOf}
use Rattle.ln_poly.specs.Sparse.{Sparse}
use Rattle.ln_code.specs.Part.{Code}
use Rattle.ln_due.specs.Blocks.{AreBlocksOf}
use Rattle.ln_compile.specs.Compiled.{IsFromExact, IsOwn}

-- blocks for these exponents, of which the first is the predicate's own
pub record AreOwnBlocks (p : PredOf) (f : Sparse) (exps : List Pairs) (blocks : List Code) : Type 0 where
  pub first : Code
  pub own : IsOwn p first
  pub small : length first.ops ≤ 524352
  pub made : AreBlocksOf (IsFromExact p.vars f) p.vars f first exps blocks
