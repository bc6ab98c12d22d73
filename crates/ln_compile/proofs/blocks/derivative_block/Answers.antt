use Rattle.std.proofs.Common.{length, map, refl}
use Rattle.std.proofs.lemmas.Result.{IfOk-weaker}
use Rattle.ln_bound.specs.Typed.{cost, costs}
use Rattle.ln_bound.specs.View.{typed}
use Rattle.ln_tree.specs.Exps.{vector}
use Rattle.ln_stage.specs.Lists.{covering}
use Rattle.ln_due.proofs.Derivatives.Deriving.{derivative-degrees, derivative-few, derivative-light}
use Rattle.ln_due.proofs.Derivatives.Blocks.{both, derivative-block, derivative-ops, derivative-pushes, no-costs, of-sites}
use Rattle.ln_compile.proofs.Making.MakingLemmas.{derivative-exact}
use Rattle.ln_compile.proofs.blocks.derivative_block.Goals as goal

pub nest-nested-requires-clause-degrees : goal.nest-nested-requires-clause-degrees
nest-nested-requires-clause-degrees c =
    derivative-degrees (length c.args.s.now.vars) c.args.f.now c.in_ok-h.h c.args.a.now c.in_ok-h.ensures.derivative 126 c.requires.degrees

pub nest-nested-requires-clause-small : goal.nest-nested-requires-clause-small
nest-nested-requires-clause-small c =
    derivative-light (length c.args.s.now.vars) c.args.f.now c.in_ok-h.h c.args.a.now c.in_ok-h.ensures.derivative c.args.s.now.vars refl c.requires.weight

pub lower-made-requires-clause-exps : goal.lower-made-requires-clause-exps
lower-made-requires-clause-exps c = of-sites c.args.s.now.vars c.args.a.now c.in_ok-h.ensures.rising c.requires.exps c.requires.sites

pub returns-clause-block : goal.returns-clause-block
returns-clause-block c =
    let b = c.lower-made.ensures in
    let o = of-sites c.args.s.now.vars c.args.a.now c.in_ok-h.ensures.rising c.requires.exps c.requires.sites in
    IfOk-weaker c.lower-made.result _ _ (λ b q. derivative-block c.args.s.now.vars c.args.f.now c.in_ok-h.h c.args.a.now _
    (typed c.in_ok-t.t) b c.in_ok-h.ensures.derivative c.new.ensures q.0.0 o q.0.1 c.in_ok-t.ensures.same q.1.0
    (derivative-pushes c.args.s.now.vars c.args.f.now c.in_ok-h.h c.args.a.now _
    (typed c.in_ok-t.t) b c.in_ok-h.ensures.derivative c.requires.terms c.new.ensures c.in_ok-t.ensures.lean q.1.1))
    (both c.lower-made.result _ _ (both c.lower-made.result _ _ b.exps b.rules) (both c.lower-made.result _ _ b.root b.nodes))

pub returns-clause-exact : goal.returns-clause-exact
returns-clause-exact c =
    let t = c.in_ok-t.ensures in let b = c.lower-made.ensures in
    IfOk-weaker c.lower-made.result _ _ (λ b q. derivative-exact c.args.s.now.vars c.args.f.now c.in_ok-h.h c.args.a.now _ (typed c.in_ok-t.t) b
    c.in_ok-h.ensures.derivative c.new.ensures q.0 t.exact t.form q.1) (both c.lower-made.result _ _ b.exps b.code)

pub returns-clause-few : goal.returns-clause-few
returns-clause-few c =
    let few = derivative-few (length c.args.s.now.vars) c.args.f.now c.in_ok-h.h c.args.a.now c.in_ok-h.ensures.derivative in
    IfOk-weaker c.lower-made.result _ _ (λ b small. derivative-ops (length b.ops) (cost (typed c.in_ok-t.t)) (costs (map typed c.new.result))
    (length c.in_ok-h.h) (covering (length c.args.s.now.vars) c.args.f.now (vector (length c.args.s.now.vars) c.args.a.now))
    small (no-costs c.new.result c.new.ensures) c.in_ok-t.ensures.cheap few) c.lower-made.ensures.small
