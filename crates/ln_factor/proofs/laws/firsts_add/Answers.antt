use Rattle.ln_factor.proofs.Sums.{firsts-add, firsts-are-sums, signs-are-products, zero-where-one-is}
use Rattle.ln_factor.proofs.laws.firsts_add.Goals as goal

pub returns-clause-first : goal.returns-clause-first
returns-clause-first c = firsts-add

pub returns-clause-sums : goal.returns-clause-sums
returns-clause-sums c = firsts-are-sums

pub returns-clause-signs : goal.returns-clause-signs
returns-clause-signs c = signs-are-products

pub returns-clause-zero : goal.returns-clause-zero
returns-clause-zero c = zero-where-one-is
