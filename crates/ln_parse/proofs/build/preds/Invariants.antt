use Rattle.std.proofs.Common.{◌≡◌, true, map}
use Rattle.std.specs.List.{list_all}
use Rattle.ln_tree.specs.Table.{TableOf, site_of, param_of, pred_of, pred_fits}
use Rattle.ln_parse.proofs.Building.Said.{PredsOn}
use Rattle.ln_parse.proofs.build.preds.Given as goal

abbrev pub invariant-items : goal.invariant-items
invariant-items l = record {
  says : (t : TableOf) → t.sites ≡ map site_of l.sites → t.params ≡ map param_of l.params → PredsOn l.s.bytes.now l.s.ts.now t l.its l.i (map pred_of l.preds);
  fits : list_all (pred_fits l.sites l.params) l.preds ≡ true;
}
