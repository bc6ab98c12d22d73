use Rattle.std.proofs.Common.{◌+◌, arith, map}
use Rattle.std.proofs.lemmas.Result.{IfOk-weaker}
use Rattle.ln_bound.specs.Typed.{cost, costs}
use Rattle.ln_bound.specs.View.{typed}
use Rattle.ln_due.proofs.Derivatives.Blocks.{both}
use Rattle.ln_compile.proofs.Making.MakingLemmas.{filter-carries, filter-of, filter-small}
use Rattle.ln_compile.proofs.Smallness.SmallBlocks.{filter-pushes}
use Rattle.ln_compile.proofs.program.filter.Goals as goal

pub returns-clause-filter : goal.returns-clause-filter
returns-clause-filter c =
    let s = c.in_ok-sized.sized in let e = c.in_ok-sized.ensures in
    let has = rw e.shape at c.plan-planned.ensures.where_ in
    let value = rw e.shape at c.plan-planned.ensures.value in
    IfOk-weaker c.plan-planned.result _ _ (λ o h. filter-of c.args.p.now s.lets s.root o e.lets e.root h.0 h.1) (both c.plan-planned.result _ _ has value)

pub returns-clause-rules : goal.returns-clause-rules
returns-clause-rules c = rw c.in_ok-sized.ensures.shape at c.plan-planned.ensures.rules

pub returns-clause-whole : goal.returns-clause-whole
returns-clause-whole c =
    let s = c.in_ok-sized.sized in let e = c.in_ok-sized.ensures in
    let rules = rw e.shape at c.plan-planned.ensures.rules in
    let whole = rw e.shape at c.plan-planned.ensures.whole in
    IfOk-weaker c.plan-planned.result _ _ (λ o q f h. filter-carries c.args.p.now s.lets s.root o f e.lets e.root q.0 q.1 h)
    (both c.plan-planned.result _ _ rules whole)

pub returns-clause-pushes : goal.returns-clause-pushes
returns-clause-pushes c =
    let s = c.in_ok-sized.sized in let e = c.in_ok-sized.ensures in
    let nodes = rw e.shape at c.plan-planned.ensures.nodes in
    IfOk-weaker c.plan-planned.result _ _ (λ o q few. filter-pushes c.args.p.now s.lets s.root e.lets e.root c.requires.light few o q) nodes

pub returns-clause-small : goal.returns-clause-small
returns-clause-small c =
    let s = c.in_ok-sized.sized in
    IfOk-weaker c.plan-planned.result _ _ (λ o q. filter-small o (cost (typed s.root) + costs (map typed s.lets)) q (omega (arith, s.cheap)))
    c.plan-planned.ensures.small
