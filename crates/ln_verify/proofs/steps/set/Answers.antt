-- Answers to the goals of `set` in src/steps.rt.
use Rattle.std.proofs.Common.{◌≡◌, ◌<◌, ℕ, arith, length, subst}
use Rattle.std.specs.Prelude.{Some, slice_set}
use Rattle.ln_verify.specs.Values.{IsFor}
use Rattle.ln_verify.proofs.Engines.Steps.{set-came}
use Rattle.ln_verify.proofs.steps.set.Goals as goal

pub returns : goal.returns
returns g c v vars b s i =
    let n = length vars in
    let z = g.met.L.Limits.stacked v vars in
    let new = c.put.new.locals.items in
    let k : c.args.j < length c.args.on.now.locals.items = omega (arith, c.if-j-len.false, c.len.ensures, c.from-j.ensures) in
    let l : new ≡ slice_set c.args.on.now.locals.items c.args.j (Some c.in-Some.x) =
    subst (λ (q : ℕ). new ≡ slice_set c.args.on.now.locals.items q (Some c.in-Some.x)) c.from-j.ensures c.put.ensures in
    set-came (IsFor g.L.Limits.known n) g.L.Limits.tree n (g.L.Limits.rules v vars) z.room z.got z.put s c.args.on.now.values.items
    c.pop.new.values.items c.args.on.now.locals.items new c.args.j b c.in-Some.x c.in-Some.ensures l k i
