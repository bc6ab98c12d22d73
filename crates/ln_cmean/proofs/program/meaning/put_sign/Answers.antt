use Rattle.std.proofs.Common.{rules, ap, ◌∙◌, ◌++◌, FitsSigned, to_z-of_z, w32}
use Rattle.std.proofs.lemmas.Result.{IfOk-weaker}
use Rattle.std.specs.Fmt.{signed_decimal}
use Rattle.ln_cmean.proofs.Carrying.CallLaws.{two_numbers}
use Rattle.ln_cmean.proofs.program.meaning.put_sign.Goals as goal

pub returns : goal.returns
returns c =
    let fits : FitsSigned w32 c.args.a.sign = search rules in
    let text = c.as_bytes.ensures.value ∙ c.format.ensures.text ∙ ap signed_decimal (to_z-of_z fits) in
    IfOk-weaker c.put_number-2.result _ _ (λ _ p. two_numbers c.args.out.now.items c.put.new.out.items c.put_number.new.out.items
    c.put_number-2.new.out.items (signed_decimal c.args.a.sign) c.args.a.wide c.args.a.calls
    (c.in_ok-put.ensures ∙ ap (λ z. c.args.out.now.items ++ z) text)
    (record { written = c.from.result; puts = c.in_ok-put_number.ensures; same = c.from.ensures })
    (record { written = c.from-2.result; puts = p; same = c.from-2.ensures }))
    c.put_number-2.ensures
