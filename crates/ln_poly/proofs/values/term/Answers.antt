use Rattle.std.proofs.Common.{FitsSigned, rules}
use Rattle.std.proofs.lemmas.Int.{to_z-of_z}
use mir.Syntax.{w128}
use Rattle.ln_poly.proofs.values.term.Goals as goal

pub returns-then-is_covered-clause-small : goal.returns-then-is_covered-clause-small
returns-then-is_covered-clause-small c =
    let fr : FitsSigned w128 c.product.result = search rules in
    rw (to_z-of_z w128 c.product.result fr) c.product.ensures.small
