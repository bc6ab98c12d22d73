use Rattle.std.proofs.Common.{to_z-of_z, rules, FitsSigned}
use Rattle.std.specs.Int.{w128}
use Rattle.ln_cmean.proofs.Carrying.CallLaws.{word_number}
use Rattle.ln_cmean.proofs.program.calls.number.Goals as goal

pub returns : goal.returns
returns c =
    let fits : FitsSigned w128 c.in_ok-z.z = search rules in
    word_number c.args.word.now _ c.in_ok-z.z c.try_from.result c.ok.result (to_z-of_z fits) c.try_from.ensures c.ok.ensures.value
    c.in_ok-z.ensures.some.0 c.in_ok-z.ensures.some.1
