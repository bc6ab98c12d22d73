use Rattle.std.proofs.Common.{ap}
use Rattle.ln_tree.proofs.KeptLemmas.{laid_out}
use Rattle.ln_tree.specs.declared.pred.Pred.{Pred}
use Rattle.ln_tree.specs.Table.{pred_of}
use Rattle.ln_stage.proofs.Accepting.{light-whole}
use Rattle.ln_verify.proofs.cases.case_of.Goals as goal

pub all_orders-requires : goal.all_orders-requires
all_orders-requires c = let s = c.pred-p.result.now.shape in (laid_out s.sites s.vars s.kept).few_sites

pub returns-clause-shape : goal.returns-clause-shape
returns-clause-shape c = ap (λ (p : Pred). p.shape) c.pred-p.ensures.value

pub returns-clause-normal : goal.returns-clause-normal
returns-clause-normal c = rw c.poly.ensures c.pred-p.ensures.kept.expanded.normal

pub returns-clause-case : goal.returns-clause-case
returns-clause-case c =
    let a = c.args.a.now in let k = c.pred-p.ensures.kept in let n = k.expanded.normal in
    rw (c.poly.ensures, c.stages.ensures) (record {
      form = n.form;
      below = rw c.pred-p.ensures.value n.below;
      light = rw c.pred-p.ensures.value (light-whole (pred_of a.pred) a.poly k.expanded.sound n);
      staged = rw c.pred-p.ensures.value k.stages;
      ordered = c.in_ok-orders.ensures;
    })
