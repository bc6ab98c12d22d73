-- Answers to the goals of `push_number` in src/steps.rt.
use Rattle.std.proofs.Common.{FitsSigned, length, refl, rules, subst}
use Rattle.std.specs.Prelude.{ℤ}
use Rattle.std.proofs.lemmas.Int.{to_z-of_z}
use mir.Syntax.{w128}
use Rattle.std.proofs.lemmas.Result.{IfOk-weaker}
use Rattle.ln_code.specs.declared.op.Op.TheVariants.{Push}
use Rattle.ln_verify.specs.Values.{IsFor, IsMade}
use Rattle.ln_verify.proofs.Engines.Steps.{pushed-came}
use Rattle.ln_verify.proofs.steps.push_number.Goals as goal

pub returns : goal.returns
returns g c = IfOk-weaker c.push.result _ _ (λ ok p v vars b h s i.
    let n = length vars in
    let e = g.L.Limits.rules v vars in
    let f : FitsSigned w128 c.args.c = search rules in
    let m = subst (λ (z : ℤ). IsMade (IsFor g.L.Limits.known n) g.L.Limits.tree n c.in_ok-v.v (e.push z b)) (to_z-of_z w128 c.args.c f)
    (c.in_ok-v.ensures v vars n b h) in
    pushed-came (IsFor g.L.Limits.known n) g.L.Limits.tree n e (g.met.L.Limits.stacked v vars).room s
    (Push c.args.c) b refl s.stack c.args.on.now.values.items i.stack
    c.args.on.now.locals.items i.size i.locals c.in_ok-v.v (e.push c.args.c b) c.push.new.values.items ok refl m p) c.push.ensures
