use Rattle.ln_edges.proofs.ThreeLemmas.{tables_three}
use Rattle.ln_edges.proofs.laws.tables_give_three.Goals as goal

pub returns : goal.returns
returns c = tables_three
