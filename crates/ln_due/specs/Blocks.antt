-- Blocks as they are made, one for each stage.
use Rattle.std.specs.Prelude.{◌≡◌, ◌+◌, ◌*◌, ◌≤◌, All, List, length, map, slice_get, Some}
use Rattle.ln_tree.specs.declared.shape.VarInfo.{VarInfo}
use Rattle.ln_tree.specs.Exps.{Pairs, vector}
use Rattle.ln_poly.specs.Derivative.{all_covering}
use Rattle.ln_poly.specs.Sparse.{Sparse}
use Rattle.ln_code.specs.Part.{Code, ops_in_blocks}
use Rattle.ln_due.specs.Derivative.{IsDerivativeBlock}

-- blocks for these exponents, of which the first is this one, with at most 4,096 operations in each other for each term that covers
-- its exponents and 68 more; what holds of each block that is made, and of the first, holds of all
pub record AreBlocksOf (IsMade : Code → Type 0) (vars : List VarInfo) (f : Sparse) (own : Code) (exps : List Pairs) (blocks : List Code) : Type 0 where
  pub first : slice_get blocks 0 ≡ Some own
  pub vectors : map (λ c. vector (length vars) c.exps) blocks ≡ map (vector (length vars)) exps
  pub each : All (IsDerivativeBlock vars f) blocks
  pub made : IsMade own → All IsMade blocks
  pub few : ops_in_blocks blocks ≤ length own.ops + 4096 * all_covering (length vars) f (map (vector (length vars)) exps) + 68 * length exps
