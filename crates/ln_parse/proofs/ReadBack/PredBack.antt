-- A predicate of a canonical text says that of the table, and its tokens have no fault.
use Rattle.std.proofs.Common.{◌≡◌, ℕ, true, List, [], length, map, refl, ap, sym, ◌∙◌, subst, arith, append-nil}
use Rattle.std.specs.Prelude.{count_by}
use Rattle.std.proofs.lemmas.List.{length-map}
use Rattle.ln_names.specs.Rules.{RawLet, scope}
use Rattle.ln_syntax.specs.Raw.{text}
use Rattle.ln_syntax.specs.File.{Lets}
use Rattle.ln_names.specs.Visits.{visits_by, arg_visits, let_visits, pred_visits, nodes_before}
use Rattle.ln_names.specs.First.{Clean}
use Rattle.ln_parse.specs.Says.{tree, PredOf, TableOf, PredSays, vars_behind, is_site_said}
use Rattle.ln_tree.specs.Fits.{is_fit}
use Rattle.ln_parse.specs.ReadsBack.{PredWritten}
use Rattle.ln_parse.specs.Spanless.{pred_spanless}
use Rattle.ln_parse.specs.WholeTable.{PredKept}
use Rattle.ln_parse.proofs.Building.Predicates.{PredAt, pred_said, one_pred, same_pred}
use Rattle.ln_names.specs.Nodes.{Begins}
use Rattle.ln_parse.proofs.ReadBack.CleanValue.{clean_join}
use Rattle.ln_parse.proofs.ReadBack.ScopeNames.{PredIn, InScope}
use Rattle.ln_parse.proofs.ReadBack.ValueBack.{RemainingLets, value_back, lets_back}
use Rattle.ln_parse.proofs.ReadBack.ArgsBack.{Declared, args_back}
use Rattle.ln_parse.proofs.Wholes.WholeParts.{PredParts}

-- a predicate in a text says the table's
pub record PredBack (r : PredAt) (t : TableOf) (p : PredOf) : Type 0 where
  pub pred : PredOf
  pub says : (u : TableOf) → u.sites ≡ t.sites → u.params ≡ t.params → PredSays r.bytes r.ts r.before u r.name r.args r.lets r.root pred
  pub same : pred_spanless pred ≡ pred_spanless p
  pub clean : Clean r.bytes (pred_visits r.ts r.before r.args r.lets r.root)

-- a predicate of a canonical text says the table's, and its tokens have no fault
pub pred_back : (r : PredAt) (t : TableOf) (p : PredOf) {i k : ℕ} → Declared r.bytes r.before t → Lets r.ts i k r.lets → Begins r.ts r.root.from
    → PredWritten r.bytes r.ts t r.name r.args r.lets r.root p → PredKept p → PredParts t.sites t.params p → PredBack r t p
pred_back r t p d dl fr w k h =
    let z3 : nodes_before r.ts [] ≡ 0 = refl in
    let c1 = k.few_lets in let c2 = k.as_many in let c3 = k.few_nodes in
    let a = args_back r.bytes r.before t p d r.args w.args_are k h in
    let g : PredIn r.bytes r.before r.args t p = record {
      args = w.args_are;
      sites = d.sites;
      site_names = d.facts.site_names;
      site_parts = d.facts.site_parts;
      differ = h.names;
      good = record { sites = d.facts.short_sites; params = d.facts.short_params; args = k.args; lets = k.let_names };
      vars = h.vars;
    } in
    let start : RemainingLets r.bytes r.ts (scope r.before r.args []) t p r.lets p.let_names p.lets =
    record { pred = g; names = refl; writes = w.lets_are; few = omega arith; fit = k.lets_fit; nodes = omega arith } in
    let l = lets_back r.bytes r.ts (scope r.before r.args []) t p dl p.let_names p.lets start in
    let named : map (λ (m : RawLet). text r.bytes m.name) r.lets ≡ p.let_names = l.named in
    let v : InScope r.bytes (scope r.before r.args r.lets) t p =
    record { pred = g; more = []; lets = sym named ∙ sym (append-nil (map (λ (m : RawLet). text r.bytes m.name) r.lets)) } in
    let many : length p.lets ≡ length r.lets =
    sym k.as_many ∙ ap (λ (x : List (List ℕ)). length x) (sym named) ∙ length-map r.lets (λ (m : RawLet). text r.bytes m.name) in
    let rf : is_fit (length p.vars) (length r.lets) (tree p.vars p.root) ≡ true =
    subst (λ (m : ℕ). is_fit (length p.vars) m (tree p.vars p.root) ≡ true) many k.root_fit in
    let x = value_back r.bytes r.ts (scope r.before r.args r.lets) t p v p.root rf r.root w.root_is fr in
    let lc = l.count in
    let args = a.say in
    record {
      pred = pred_said r t.sites t.params l.formulas x.formula;
      says = λ u s q. one_pred r u t.sites t.params l.formulas x.formula s q l.say x.says;
      same = same_pred (pred_spanless (pred_said r t.sites t.params l.formulas x.formula)) (pred_spanless p) (record {
        name = w.name_is;
        at = refl;
        args = args;
        shape_name = w.name_is ∙ sym h.shape_name;
        sites = ap (count_by is_site_said) args ∙ sym h.sites;
        vars = ap (vars_behind t.sites t.params 0 0) args ∙ sym h.vars;
        let_names = l.named;
        lets = l.same;
        root = x.same;
      });
      clean = clean_join r.bytes (visits_by (arg_visits r.before) [] r.args) _ a.clean
          (clean_join r.bytes (visits_by (let_visits r.ts r.before r.args) [] r.lets) _ l.clean (x.clean (nodes_before r.ts r.lets) (omega arith)));
    }
