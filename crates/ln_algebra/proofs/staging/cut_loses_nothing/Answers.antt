use Rattle.ln_algebra.proofs.Walking.Cut.{first-stage, perturbed-last, perturbed-uncovered, stage-first}
use Rattle.ln_algebra.proofs.Walking.Along.{sign-along}
use Rattle.std.proofs.Common.{sym, ◌∙◌}
use Rattle.ln_algebra.proofs.staging.cut_loses_nothing.Goals as goal

pub returns-clause-uncovered : goal.returns-clause-uncovered
returns-clause-uncovered c = λ n sites e x a below. perturbed-uncovered n sites x e below a

pub returns-clause-last : goal.returns-clause-last
returns-clause-last c = λ n sites e x a below over last. (
  perturbed-last n sites x e below a over last,
  λ zero. last.monomial.nonzero (sym (perturbed-last n sites x e below a over last) ∙ zero),
)

pub returns-clause-first : goal.returns-clause-first
returns-clause-first c = λ n sites e x a below. first-stage n sites x e below a

pub returns-clause-found : goal.returns-clause-found
returns-clause-found c = λ n sites e x a below differ. stage-first n sites x e below differ a

pub returns-clause-nothing : goal.returns-clause-nothing
returns-clause-nothing c = λ n sites e x below zeros a first. first.nonzero (zeros a (first-stage n sites x e below a first))

pub returns-clause-sign : goal.returns-clause-sign
returns-clause-sign c = sign-along
