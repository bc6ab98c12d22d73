-- Answers to the goals of `get` in src/steps.rt.
use Rattle.std.proofs.Common.{◌≡◌, ◌<◌, ℕ, List, arith, get_or, length, refl, subst}
use Rattle.std.specs.Prelude.{None, Option, Some}
use Rattle.std.proofs.lemmas.Result.{IfOk-weaker}
use Rattle.ln_code.specs.declared.op.Op.TheVariants.{Get}
use Rattle.ln_verify.specs.Values.{IsFor}
use Rattle.ln_verify.specs.declared.value.Value.{Value}
use Rattle.ln_verify.proofs.Engines.Steps.{get-lacks, get-step, local-there, pushed-came}
use Rattle.ln_verify.proofs.steps.get.Goals as goal

pub returns-in_default : goal.returns-in_default
returns-in_default g c v vars b h s i t q =
    let n = length vars in
    let e = g.L.Limits.rules v vars in
    let z = g.met.L.Limits.stacked v vars in
    let k : c.args.j < 256 = omega (arith, c.ranges.j.fits) in
    let d : get_or c.args.on.now.locals.items c.args.j None ≡ None =
    subst (λ (ls : List (Option (Value _))). get_or ls c.args.j None ≡ None) c.as_slice.ensures.value
    (subst (λ (q : ℕ). get_or c.as_slice.result.now q None ≡ None) c.from-j.ensures c.in_default.ensures) in
    get-lacks (IsFor g.L.Limits.known n) g.L.Limits.tree n e z.room z.got z.put c.args.j b s.locals s.stack
    (get_or c.args.on.now.locals.items c.args.j None) t d (i.locals c.args.j k) q.0

pub returns : goal.returns
returns g c = IfOk-weaker c.push.result _ _ (λ ok p v vars b h s i.
    let n = length vars in
    let e = g.L.Limits.rules v vars in
    let z = g.met.L.Limits.stacked v vars in
    let k : c.args.j < 256 = omega (arith, c.ranges.j.fits) in
    let d : get_or c.args.on.now.locals.items c.args.j None ≡ Some c.in-Some.x.now =
    subst (λ (ls : List (Option (Value _))). get_or ls c.args.j None ≡ Some c.in-Some.x.now) c.as_slice.ensures.value
    (subst (λ (q : ℕ). get_or c.as_slice.result.now q None ≡ Some c.in-Some.x.now) c.from-j.ensures c.in-Some.ensures) in
    let o = local-there (IsFor g.L.Limits.known n) (get_or c.args.on.now.locals.items c.args.j None) c.in-Some.x.now (s.locals c.args.j) d
    (i.locals c.args.j k) in
    pushed-came (IsFor g.L.Limits.known n) g.L.Limits.tree n e z.room s (Get c.args.j) b refl s.stack c.args.on.now.values.items i.stack
    c.args.on.now.locals.items i.size i.locals c.in_ok-v.v (e.again o.0 b) c.push.new.values.items ok
    (get-step (IsFor g.L.Limits.known n) g.L.Limits.tree n e z.room z.got z.put c.args.j b s.locals s.stack o.0 o.1)
    (c.in_ok-v.ensures v vars n b o.0 h o.2) p) c.push.ensures
