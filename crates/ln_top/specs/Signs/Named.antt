-- What the named predicates are, as they are run.
use Rattle.std.specs.Prelude.{◌≡◌, List, [], ◌∷◌}
use Rattle.ln_tree.specs.Table.{PredOf, pred_of}
use Rattle.ln_rows.specs.Header.{columns_of}
use Rattle.ln_top.specs.Frame.Given.{Given}
use Rattle.ln_top.specs.Target.Factors.{AreProgramsAt, FactorsOf}
use Rattle.ln_top.specs.Target.Target.{TargetOf, pred_in}

-- it is the one predicate that is given, with the names of its columns
pub record IsGivenBy (g : Given) (t : TargetOf) : Type 0 where
  pub pred : g.preds ≡ pred_in t ∷ []
  pub names : t.names ≡ columns_of g.table (pred_in t)

-- they are the predicates that are given, with the names of the columns
pub record AreGivenBy (g : Given) (t : FactorsOf) : Type 0 where
  pub others : List PredOf
  pub preds : g.preds ≡ pred_of t.pred ∷ others
  pub names : t.names ≡ columns_of g.table (pred_of t.pred)
  pub programs : AreProgramsAt t.programs t.which g.preds
