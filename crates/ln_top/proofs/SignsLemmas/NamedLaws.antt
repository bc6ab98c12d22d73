-- The named predicates are those that are given.
use Rattle.std.proofs.Common.{◌≡◌, ℕ, ◌≤◌, List, [], ◌∷◌, length, map, Some, ap, sym, ◌∙◌}
use Rattle.std.specs.Prelude.{slice_get, slice_index_or}
use Rattle.ln_tree.specs.declared.pred.Pred.{Pred}
use Rattle.ln_tree.specs.declared.table.Table.{Table}
use Rattle.ln_tree.specs.Table.{PredOf, pred_of}
use Rattle.ln_rows.specs.Header.{columns_of, names_of}
use Rattle.ln_rows.proofs.HeaderLaws.{columns_like}
use Rattle.ln_compile.specs.Compiled.{AreNumbered}
use Rattle.ln_top.specs.Frame.Given.{Given}
use Rattle.ln_top.specs.Frame.Source.{view}
use Rattle.ln_top.specs.Target.Factors.{AreProgramsAt, FactorsOf}
use Rattle.ln_top.specs.Target.Target.{TargetOf, pred_in}
use Rattle.ln_top.proofs.TargetLemmas.FactorsLaws.{first_pred}
use Rattle.ln_top.specs.Signs.Named.{AreGivenBy, IsGivenBy}

-- the one predicate of what the table stands for is what is given
pub given_by : (g : Given) (t : TargetOf) (table : Table) → g.table ≡ view table → g.preds ≡ pred_in t ∷ []
    → t.names ≡ names_of table t.pred → IsGivenBy g t
given_by g t table e f n =
    record { pred = f; names = n ∙ columns_like table.sites table.params t.pred.args ∙ ap (λ v. columns_of v (pred_in t)) (sym e) }

module _ (t : Table) (numbers : List ℕ) (pred : Pred) where
  -- they are the predicates that are given, with the names of the columns and, for each, its program
  pub factors_given : (g : Given) (f : FactorsOf) → g.table ≡ view t → AreNumbered (map pred_of t.preds) numbers g.preds
      → 1 ≤ length numbers → slice_get t.preds (slice_index_or numbers 0 0) ≡ Some pred → f.pred ≡ pred → f.names ≡ names_of t f.pred
      → ((ps : List PredOf) → AreNumbered (map pred_of t.preds) numbers ps → AreProgramsAt f.programs f.which ps) → AreGivenBy g f
  factors_given g f e n l there same names programs =
      let first = first_pred t.preds pred numbers g.preds n l there in
      record {
        others = first.0;
        preds = first.1 ∙ ap (λ (p : Pred). pred_of p ∷ first.0) (sym same);
        names = names ∙ columns_like t.sites t.params f.pred.args ∙ ap (λ v. columns_of v (pred_of f.pred)) (sym e);
        programs = programs g.preds n;
      }
