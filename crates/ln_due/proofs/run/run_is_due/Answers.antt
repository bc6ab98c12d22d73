use Rattle.ln_algebra.specs.Orders.{BySmallest}
use Rattle.ln_due.proofs.Verdicts.Composition.{signs-perturbed, verdicts-due}
use Rattle.ln_due.proofs.Verdicts.PlainLemmas.{plain-decides}
use Rattle.ln_due.proofs.Verdicts.UniqueLemmas.{due-sign, due-unique, never-zero}
use Rattle.ln_due.proofs.run.run_is_due.Goals as goal

pub returns-clause-due : goal.returns-clause-due
returns-clause-due c = verdicts-due BySmallest

pub returns-clause-perturbed : goal.returns-clause-perturbed
returns-clause-perturbed c = signs-perturbed BySmallest

pub returns-clause-sign : goal.returns-clause-sign
returns-clause-sign c = λ s. due-sign BySmallest s.vars

pub returns-clause-never_zero : goal.returns-clause-never_zero
returns-clause-never_zero c = never-zero BySmallest

pub returns-clause-unique : goal.returns-clause-unique
returns-clause-unique c = due-unique BySmallest

pub returns-clause-plain : goal.returns-clause-plain
returns-clause-plain c = plain-decides BySmallest
