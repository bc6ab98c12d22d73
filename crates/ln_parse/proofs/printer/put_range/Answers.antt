use Rattle.std.proofs.Common.{rules, FitsSigned}
use Rattle.std.proofs.lemmas.Int.{to_z-of_z}
use mir.Syntax.{w64}
use Rattle.ln_base.proofs.Texts.Putting.{puts_last, puts_then}
use Rattle.ln_parse.proofs.printer.put_range.Goals as goal

pub returns : goal.returns
returns c =
    let low : FitsSigned w64 c.args.lo = search rules in
    let high : FitsSigned w64 c.args.hi = search rules in
    puts_last c.put_tokens-3.result _ _ (puts_then c.in_ok-put_name.ensures (puts_then c.in_ok-put_tokens.ensures
    (puts_then (simp to_z-of_z at c.in_ok-put_signed.ensures) (puts_then c.in_ok-put_tokens-2.ensures (simp to_z-of_z at c.in_ok-put_signed-2.ensures)))))
    c.put_tokens-3.ensures
