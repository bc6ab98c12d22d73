use Rattle.std.proofs.Common.{◌≡◌, true, List, map, refl, subst}
use Rattle.std.specs.List.{list_all}
use Rattle.ln_syntax.specs.Raw.{items}
use Rattle.ln_tree.specs.declared.items.Site.{Site}
use Rattle.ln_tree.specs.declared.items.Param.{Param}
use Rattle.ln_parse.specs.Says.{TableOf, site_of, param_of, pred_fits, table_of, ItemsSay}
use Rattle.ln_parse.proofs.Building.Kept.{table_kept}
use Rattle.ln_parse.proofs.build.build.Goals as goal

pub invariant_of-result : goal.invariant_of-result
invariant_of-result c =
    let bytes = c.args.bytes.now in
    let ts = c.args.ts.now in
    let is = items c.args.its.now in
    let sites = c.in_ok-sites.sites in
    let params = c.in_ok-params.params in
    let preds = c.in_ok-preds.preds in
    let f = subst (λ (w : List Site). list_all (pred_fits w params) preds ≡ true) c.as_slice.ensures
    (subst (λ (w : List Param). list_all (pred_fits c.as_slice.result.now w) preds ≡ true) c.as_slice-2.ensures c.in_ok-preds.ensures.fits) in
    let q = λ (t : TableOf) (s : t.sites ≡ map site_of sites) (p : t.params ≡ map param_of params).
    c.in_ok-preds.ensures.says t (rw c.as_slice.ensures s) (rw c.as_slice-2.ensures p) in
    let said : ItemsSay bytes ts is (table_of sites params preds) =
    record { sites_are = c.in_ok-sites.ensures; params_are = c.in_ok-params.ensures; preds_are = q (table_of sites params preds) refl refl } in
    record {
      kept = table_kept bytes ts is sites params preds c.requires.ready c.in_ok-sites.ensures c.in_ok-params.ensures f q;
      whole = c.requires.whole (table_of sites params preds) said;
    }
