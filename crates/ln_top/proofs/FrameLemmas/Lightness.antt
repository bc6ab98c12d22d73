-- The expression of a predicate without a fault is light, and its inputs are the predicate's variables.
use Rattle.std.proofs.Common.{length, map}
use Rattle.ln_algebra.specs.Sizes.{two}
use Rattle.ln_bound.specs.Light.{AreLight}
use Rattle.ln_tree.specs.declared.pred.Pred.{Pred}
use Rattle.ln_tree.specs.Formula.{formula, tree}
use Rattle.ln_tree.specs.Table.{pred_of}
use Rattle.ln_poly.specs.Expansion.{closed_lets}
use Rattle.ln_poly.specs.Ready.{IsLight}
use Rattle.ln_poly.proofs.Expansions.Lets.{root-light}
use Rattle.ln_poly.proofs.Loads.Sizing.{pred-expands}
use Rattle.ln_compile.specs.Accepted.{IsSound, loaded_of, root_of}

-- where no node is too large
pub light_by : (p : Pred) → AreLight (loaded_of (pred_of p)) → IsLight (length p.shape.vars) two (root_of (pred_of p))
light_by p light =
    root-light (length p.shape.vars) two (closed_lets p.shape.vars (map formula p.lets)) (tree p.shape.vars (formula p.root))
    (pred-expands p.args p.shape.vars p.lets (length p.let_names) p.root p.kept light).1

-- the expression of a predicate without a fault is light
pub light_of : (p : Pred) → IsSound (pred_of p) → IsLight (length p.shape.vars) two (root_of (pred_of p))
light_of p sound = light_by p sound.light
