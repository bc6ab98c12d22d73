-- Answers to the goals of `with_two` in src/steps.rt.
use Rattle.std.proofs.Common.{length}
use Rattle.std.proofs.lemmas.Result.{IfOk-weaker}
use Rattle.ln_verify.specs.Values.{IsFor}
use Rattle.ln_code.specs.Engine.{op_of}
use Rattle.ln_verify.proofs.Engines.Steps.{op-pushes, popped, pushed-came, two-step}
use Rattle.ln_verify.proofs.steps.with_two.Goals as goal

pub returns : goal.returns
returns g c = IfOk-weaker c.push.result _ _ (λ ok p v vars b h s i.
    let n = length vars in
    let e = g.L.Limits.rules v vars in
    let room = (g.met.L.Limits.stacked v vars).room in
    let op = op_of c.args.t c.args.w in
    let mid = c.pop.new.values.items in
    let low = c.pop-2.new.values.items in
    let o = popped (IsFor g.L.Limits.known n) c.args.on.now.values.items mid c.in-Some.y s.stack c.in-Some.ensures i.stack in
    let q = popped (IsFor g.L.Limits.known n) mid low c.in-Some-pop.x o.rest c.in-Some-pop.ensures o.below in
    pushed-came (IsFor g.L.Limits.known n) g.L.Limits.tree n e room s op b
    (op-pushes (IsFor g.L.Limits.known n) g.L.Limits.tree n e room c.args.t c.args.w) q.rest low
    q.below c.args.on.now.locals.items i.size i.locals c.in_ok-v.v (e.two c.args.t c.args.w b q.top o.top) c.push.new.values.items ok
    (two-step (IsFor g.L.Limits.known n) g.L.Limits.tree n e room c.args.t c.args.w b s.locals s.stack o.rest q.rest o.top q.top o.is q.is)
    (c.in_ok-v.ensures v vars n b q.top o.top h q.for_it o.for_it) p) c.push.ensures
