-- The result of weighing an expression.
use Rattle.std.specs.Prelude.{◌≡◌, List, ◌++◌, map}
use Rattle.ln_tree.specs.declared.shape.VarInfo.{VarInfo}
use Rattle.ln_tree.specs.Formula.{Formula, tree}
use Rattle.ln_bound.specs.declared.measure.Measure.{Measure}
use Rattle.ln_bound.specs.Light.{AreLight}
use Rattle.ln_bound.specs.Loads.{loaded, measured, node_measures}
use Rattle.ln_bound.specs.Measures.{IsMeasure, range_in, seen, size_in}
use Rattle.ln_bound.specs.Ranges.{range_over, ranges, size_over}

-- after lets of these measures the expression has this measure; those of its nodes follow the ones before, and no node's weight is too large
pub record IsWeighed (vars : List VarInfo) (lets : List Measure) (e : Formula) (before after : List Measure) (w : Measure) : Type 0 where
  pub measure : IsMeasure w (range_over (ranges vars) (map range_in lets) (tree vars e)) (size_over (map size_in lets) (tree vars e))
  pub nodes : map seen after ≡ map seen before ++ node_measures (measured vars (map range_in lets) (map size_in lets) e)
  pub light : AreLight (loaded vars (map range_in lets) (map size_in lets) e)
