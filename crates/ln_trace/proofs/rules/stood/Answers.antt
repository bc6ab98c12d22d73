use Rattle.std.proofs.Common.{FitsSigned, ap, rules, ◌∙◌}
use Rattle.std.proofs.lemmas.Int.{to_z-of_z}
use mir.Syntax.{w128}
use Rattle.ln_code.specs.Verdict.{sign_of}
use Rattle.ln_due.specs.Due.{sign_number}
use Rattle.ln_due.proofs.Verdicts.DueLemmas.{sign-same}
use Rattle.ln_trace.proofs.rules.stood.Goals as goal

pub returns-clause-sign : goal.returns-clause-sign
returns-clause-sign c =
    let fits : FitsSigned w128 c.args.z = search rules in
    ap sign_number (c.sign_of-sign.ensures ∙ ap sign_of (to_z-of_z w128 c.args.z fits)) ∙ sign-same c.args.z
