-- Answers to the goals of `line` in src/judging.rt.
use Rattle.std.proofs.Common.{FitsSigned, ◌≡◌, ap, rules, sym, ◌∙◌}
use Rattle.std.proofs.Math.IntN.{ℤ}
use Rattle.std.proofs.lemmas.Int.{to_z-of_z}
use mir.Syntax.{w128}
use mir.Val.{of_z, to_z}
use Rattle.std.proofs.lemmas.Result.{IfOk-weaker}
use Rattle.ln_trace.specs.declared.line.TraceLine.TheVariants as line
use Rattle.ln_trace.proofs.judging.line.Goals as goal

pub returns-in-Refused : goal.returns-in-Refused
returns-in-Refused c =
    IfOk-weaker c.refused.result _ _ (λ ok h. rw c.in-Refused.is (h c.args.grounds.now.poly.now c.args.grounds.now.stages.now)) c.refused.ensures

pub returns-in-Row : goal.returns-in-Row
returns-in-Row c =
    let g = c.args.grounds.now in
    IfOk-weaker c.row.result _ _ (λ ok h. rw c.in-Row.is (h g.poly.now g.stages.now c.requires.case)) c.row.ensures

pub returns-in-At : goal.returns-in-At
returns-in-At c =
    let fits : FitsSigned w128 c.in-At.z = search rules in
    let e : c.args.line.now ≡ line.At c.as_slice.result.now (to_z w128 (of_z w128 c.in-At.z)) =
    c.in-At.is ∙ ap (λ x. line.At x c.in-At.z) (sym c.as_slice.ensures)
    ∙ ap (λ (y : ℤ). line.At c.as_slice.result.now y) (sym (to_z-of_z w128 c.in-At.z fits)) in
    IfOk-weaker c.at.result _ _ (λ ok h. rw e (h c.args.rows.now)) c.at.ensures

pub returns-in-Sign : goal.returns-in-Sign
returns-in-Sign c = rw c.in-Sign.is (c.sign.ensures c.args.rows.now)
