use Rattle.std.proofs.Common.{◌∙◌, ap, arith, slice_set}
use Rattle.ln_nest.proofs.Terms.Vectors.{within, set_is}
use Rattle.ln_nest.proofs.work.lower.Goals as goal

pub index-requires : goal.index-requires
index-requires c = omega (arith, within c.args.v c.args.term.now.exponents.items c.requires, c.args.term.now.exponents.ok.0)

pub index_mut-requires : goal.index_mut-requires
index_mut-requires c = omega (arith, within c.args.v c.args.term.now.exponents.items c.requires, c.args.term.now.exponents.ok.0)

pub returns-clause-exponents : goal.returns-clause-exponents
returns-clause-exponents c =
    ap (slice_set c.args.term.now.exponents.items c.args.v) c.saturating_sub.ensures
    ∙ set_is c.args.e c.args.v c.args.term.now.exponents.items c.index.result.now c.index.ensures (within c.args.v c.args.term.now.exponents.items c.requires)
