use Rattle.std.proofs.Common.{refl}
use Rattle.ln_top.proofs.TargetLemmas.FactorsLaws.{some_of_two}
use Rattle.ln_top.proofs.SignsLemmas.NamedLaws.{factors_given}
use Rattle.ln_top.proofs.signs.named.product_factors.Goals as goal

pub returns-clause-given : goal.returns-clause-given
returns-clause-given c = λ given s.
    factors_given c.args.ready.now.compiled.table c.args.ready.now.numbers.items c.in_ok-factors.factors.pred given
    c.in_ok-factors.factors s.table s.numbered (some_of_two _ c.requires.fit.least)
    (rw c.as_slice.ensures.value at c.in_ok-factors.ensures.pred) refl c.in_ok-factors.ensures.names
    (rw c.as_slice.ensures.value at c.in_ok-factors.ensures.programs)
