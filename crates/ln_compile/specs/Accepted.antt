-- Defines which sources are accepted: those that have a table in which no predicate has a fault.
use Rattle.std.specs.Prelude.{ℕ, List, map}
use Rattle.ln_algebra.specs.Tree.{Tree}
use Rattle.ln_tree.specs.Formula.{tree}
use Rattle.ln_tree.specs.Table.{PredOf, TableOf}
pub use Rattle.ln_poly.specs.OfPred.{expanded_of, loaded_of, root_of}
pub use Rattle.ln_stage.specs.Sound.{AreSound, IsHeavyFault, IsSound, IsStagesFault}
use Rattle.ln_parse.specs.Text.{TextOf}

-- the lets of a predicate as they are in the source
abbrev pub lets_of : PredOf → List Tree
lets_of p = map (tree p.vars) p.lets

-- its root as it is in the source, where a let is a variable
abbrev pub own_root : PredOf → Tree
own_root p = tree p.vars p.root

-- the source has this table, and no predicate of it has a fault
pub record Accepted (bytes : List ℕ) (t : TableOf) : Type 0 where
  pub text : TextOf bytes t
  pub sound : AreSound t.preds
