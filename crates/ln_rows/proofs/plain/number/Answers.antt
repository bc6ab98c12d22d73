use Rattle.std.proofs.Common.{to_z-of_z, rules, w64}
use mir.Val.{SFits}
use Rattle.ln_rows.proofs.Records.PlainLemmas.{some_by, signed_number, plain_number}
use Rattle.ln_rows.proofs.plain.number.Goals as goal

pub returns-in-Some : goal.returns-in-Some
returns-in-Some c =
    let low : SFits w64 c.args.lo = search rules in
    let high : SFits w64 c.args.hi = search rules in
    let same = rw (to_z-of_z low, to_z-of_z high) at c.found.ensures in
    some_by c.found.result _ _ (λ r h. signed_number _ _ _ _ _ _ c.in-Some.ensures h) same

pub returns-in-None : goal.returns-in-None
returns-in-None c =
    let low : SFits w64 c.args.lo = search rules in
    let high : SFits w64 c.args.hi = search rules in
    let same = rw (to_z-of_z low, to_z-of_z high) at c.found-in-None.ensures in
    some_by c.found-in-None.result _ _ (λ r h. plain_number _ _ _ _ _ h) same
