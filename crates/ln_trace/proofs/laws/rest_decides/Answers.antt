use Rattle.ln_algebra.proofs.Ordering.Order.{earlier-irreflexive}
use Rattle.ln_trace.proofs.Telling.{first-left, none-left, other-stands}
use Rattle.ln_trace.proofs.laws.rest_decides.Goals as goal

pub returns-clause-first : goal.returns-clause-first
returns-clause-first c = λ n sites e stood left a differ h. first-left n sites e differ stood left a h

pub returns-clause-none : goal.returns-clause-none
returns-clause-none c = λ n sites e stood left h. none-left n sites e (earlier-irreflexive sites) stood left h

pub returns-clause-other : goal.returns-clause-other
returns-clause-other c = λ n sites e stood left a z differ o h d i. other-stands n sites e differ stood left a z o h d i
