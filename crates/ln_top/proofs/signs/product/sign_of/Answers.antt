use Rattle.ln_top.specs.Target.Line.{due, refused_}
use Rattle.ln_top.proofs.signs.product.sign_of.Goals as goal

pub returns-in-Ok-clause-says : goal.returns-in-Ok-clause-says
returns-in-Ok-clause-says c = λ fields r ps a. due _ _ (rw c.in-Ok.is at r.ok) (c.verdicts.ensures.due ps a, c.verdicts.ensures.sign)

pub returns-in-Err-clause-says : goal.returns-in-Err-clause-says
returns-in-Err-clause-says c = λ fields r ps a. refused_ _ (rw c.in-Err.is at r.err)
