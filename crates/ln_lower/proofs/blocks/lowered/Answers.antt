use Rattle.std.proofs.Common.{map, subst, sym}
use Rattle.std.proofs.lemmas.Result.{IfOk-weaker}
use Rattle.ln_bound.specs.View.{typed}
use Rattle.ln_lower.specs.Lowered.{IsLoweredBlock}
use Rattle.ln_lower.proofs.Operations.Sealed.{sealed}
use Rattle.ln_lower.proofs.blocks.lowered.Goals as goal

pub finished-requires : goal.finished-requires
finished-requires c =
    (sealed c.args.s.now.vars c.args.a.now (typed c.args.t.now) c.args.lets.now _ c.built.result c.requires.few c.requires.lets
    c.requires.root (rw c.as_slice.ensures at c.in_ok-code.ensures) c.built.ensures.lines c.built.ensures.bounded).block

pub returns : goal.returns
returns c =
    let x = sealed c.args.s.now.vars c.args.a.now (typed c.args.t.now) c.args.lets.now _ c.built.result c.requires.few c.requires.lets
    c.requires.root (rw c.as_slice.ensures at c.in_ok-code.ensures) c.built.ensures.lines c.built.ensures.bounded in
    IfOk-weaker c.finished.result _ _ (λ b e. subst (λ k. IsLoweredBlock c.args.s.now.vars c.args.a.now (map typed c.args.lets.now)
    (typed c.args.t.now) k) (sym e) x)
    c.finished.ensures
