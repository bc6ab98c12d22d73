use Rattle.ln_bound.proofs.Trees.Views.{named_exact}
use Rattle.ln_bound.proofs.size.named.Goals as goal

pub returns-clause-exact : goal.returns-clause-exact
returns-clause-exact c = named_exact c.args.lets.now c.args.j c.from.result c.index-lets-from.result c.least_for.result c.wider.result
    c.requires c.from.ensures c.index-lets-from.is c.least_for.ensures c.wider.ensures
