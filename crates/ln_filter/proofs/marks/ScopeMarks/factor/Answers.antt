use Rattle.std.proofs.Common.{subst, sym}
use Rattle.ln_bound.specs.View.{typed}
use Rattle.ln_filter.proofs.Operations.Marks.{Divides, factor_joins}
use Rattle.ln_filter.proofs.marks.ScopeMarks.factor.Goals as goal

pub product-requires-clause-left : goal.product-requires-clause-left
product-requires-clause-left c =
    let h = c.requires.good in
    (factor_joins c.args.self.now.vars.now c.args.self.now.lets.now (typed c.args._x.now) c.args._m h.0 h.1 c.args._w c.args.p c.args.a
    h.2 h.3 c.requires.power c.requires.base).0

pub undivided-requires-clause-divides : goal.undivided-requires-clause-divides
undivided-requires-clause-divides c =
    let h = c.requires.good in
    subst Divides (sym c.product.ensures.value) (factor_joins c.args.self.now.vars.now c.args.self.now.lets.now (typed c.args._x.now) c.args._m
    h.0 h.1 c.args._w c.args.p c.args.a h.2 h.3 c.requires.power c.requires.base).1
