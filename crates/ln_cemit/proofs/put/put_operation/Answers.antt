-- Answers to the goals of `put_operation` in src/put.rt.
use Rattle.std.proofs.Common.{FitsSigned, rules, ◌≡◌, ◌∙◌}
use Rattle.std.proofs.lemmas.Int.{to_z-of_z}
use Rattle.std.proofs.lemmas.Result.{IfOk-weaker}
use mir.Syntax.{w128}
use Rattle.ln_code.specs.Numbers.{cut_by}
use Rattle.ln_cemit.proofs.Writing.Loops.{does_get, does_push}
use Rattle.ln_cemit.proofs.put.put_operation.Goals as goal

pub returns-in_ok-declare-in-Push-clause-put : goal.returns-in_ok-declare-in-Push-clause-put
returns-in_ok-declare-in-Push-clause-put c =
    let f : FitsSigned w128 c.cut.result = search rules in
    let e : c.cut.result ≡ cut_by c.args.way.shift c.in-Push.z = search rules in
    does_push c.args.op c.args.way c.args.n c.args.stack.now.items c.declare.new.stack.items c.args.locals.now c.in-Push.z _ c.in-Push.is
    (to_z-of_z w128 c.cut.result f ∙ e) c.in_ok-declare-in-Push.ensures

pub returns-in-Get-clause-put : goal.returns-in-Get-clause-put
returns-in-Get-clause-put c = IfOk-weaker c.may_load.result _ _ (λ more p. does_get c.args.op c.args.way c.args.n c.args.stack.now.items
    c.may_load.new.stack.items c.args.locals.now more c.in-Get.j _ c.in-Get.is c.slot_at-slot.ensures p) c.may_load.ensures
