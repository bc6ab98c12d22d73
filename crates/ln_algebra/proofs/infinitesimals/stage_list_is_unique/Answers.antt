use Rattle.ln_algebra.specs.Earlier.{Earlier}
use Rattle.ln_algebra.proofs.Ordering.Order.{earlier-irreflexive}
use Rattle.ln_algebra.proofs.Ordering.Unique.{in_order-once, stage_list-unique}
use Rattle.ln_algebra.proofs.infinitesimals.stage_list_is_unique.Goals as goal

pub returns-clause-unique : goal.returns-clause-unique
returns-clause-unique c = stage_list-unique

pub returns-clause-once : goal.returns-clause-once
returns-clause-once c = λ sites. in_order-once (Earlier sites) (earlier-irreflexive sites)
