use Rattle.std.proofs.lemmas.Result.{IfOk-weaker, MatchResult-weaker}
use Rattle.ln_algebra.specs.Tree.{Neg}
use Rattle.ln_poly.proofs.Expansions.Normals.{neg-normal}
use Rattle.ln_poly.proofs.expansion.negation.Goals as goal

pub returns-clause-ok : goal.returns-clause-ok
returns-clause-ok c =
    IfOk-weaker c.counted.result _ _ (λ h r n e p. r n (Neg e) (neg-normal n e c.args.f _ p c.negated.ensures)) c.counted.ensures.ok

pub returns-clause-err : goal.returns-clause-err
returns-clause-err c = MatchResult-weaker c.counted.result c.counted.ensures.err (λ h t. tt)
    (λ s r n e p. r n (Neg e) (neg-normal n e c.args.f _ p c.negated.ensures))
