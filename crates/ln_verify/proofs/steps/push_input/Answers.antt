-- Answers to the goals of `push_input` in src/steps.rt.
use Rattle.std.proofs.Common.{List, length, refl, subst}
use Rattle.std.proofs.lemmas.Result.{IfOk-weaker}
use Rattle.ln_tree.specs.declared.shape.VarInfo.{VarInfo}
use Rattle.ln_code.specs.declared.op.Op.TheVariants.{Input}
use Rattle.ln_verify.specs.Values.{IsFor, IsMade}
use Rattle.ln_verify.specs.Versions.{version_of}
use Rattle.ln_verify.proofs.Engines.Steps.{pushed-came}
use Rattle.ln_verify.proofs.steps.push_input.Goals as goal

pub returns : goal.returns
returns g c = IfOk-weaker c.push.result _ _ (λ ok p b h s i.
    let v = version_of c.args.version in
    let vars = c.args.case.now.shape.now.vars in
    let n = length vars in
    let e = g.L.Limits.rules v vars in
    let m = subst (λ (vs : List VarInfo). IsMade (IsFor g.L.Limits.known (length vs)) g.L.Limits.tree (length vs) c.in_ok-v.v
    ((g.L.Limits.rules v vs).input c.args.k b)) c.as_slice.ensures (c.in_ok-v.ensures b h) in
    pushed-came (IsFor g.L.Limits.known n) g.L.Limits.tree n e (g.met.L.Limits.stacked v vars).room s (Input c.args.k) b refl s.stack
    c.args.on.now.values.items i.stack c.args.on.now.locals.items i.size i.locals c.in_ok-v.v
    (e.input c.args.k b) c.push.new.values.items ok refl m p) c.push.ensures
