-- Answers to the goals of `with_one` in src/steps.rt.
use Rattle.std.proofs.Common.{List, ap, length, refl}
use Rattle.std.proofs.lemmas.Result.{IfOk-weaker}
use Rattle.ln_code.specs.declared.op.Op.TheVariants.{Neg}
use Rattle.ln_code.specs.Engine.{step}
use Rattle.ln_verify.specs.Values.{IsFor}
use Rattle.ln_verify.proofs.Engines.Steps.{popped, pushed-came}
use Rattle.ln_verify.proofs.steps.with_one.Goals as goal

pub returns : goal.returns
returns g c = IfOk-weaker c.push.result _ _ (λ ok p v vars b h s i.
    let n = length vars in
    let e = g.L.Limits.rules v vars in
    let room = (g.met.L.Limits.stacked v vars).room in
    let mid = c.pop.new.values.items in
    let o = popped (IsFor g.L.Limits.known n) c.args.on.now.values.items mid c.in-Some.x s.stack c.in-Some.ensures i.stack in
    pushed-came (IsFor g.L.Limits.known n) g.L.Limits.tree n e room s (Neg c.args.w) b refl o.rest mid o.below c.args.on.now.locals.items i.size i.locals
    c.minus-v.result (e.minus c.args.w b o.top) c.push.new.values.items ok
    (ap (λ (z : List g.L.Limits.Known). step e (Neg c.args.w) b s.locals z) o.is)
    (c.minus-v.ensures v vars n b o.top h o.for_it) p) c.push.ensures
