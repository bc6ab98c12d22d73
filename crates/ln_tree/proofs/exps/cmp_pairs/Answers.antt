use Rattle.std.proofs.Common.{◌∙◌, sym, arith}
use Rattle.ln_tree.proofs.Monomials.{ended}
use Rattle.ln_tree.proofs.exps.cmp_pairs.Goals as goal

pub returns : goal.returns
returns c = c.cmp.ensures ∙ sym (ended c.args.a.now c.args.b.now c.pairs.i (omega (arith, c.pairs.auto.i-end, c.min-n.ensures))
    (omega (arith, c.pairs.auto.i-end, c.min-n.ensures)) (λ l m. omega (arith, c.pairs-test.false, c.min-n.ensures))) ∙ c.pairs.invariant
