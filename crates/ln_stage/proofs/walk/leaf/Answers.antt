use Rattle.std.proofs.Common.{◌∙◌, subst}
use Rattle.std.proofs.lemmas.Result.{err_from_is_err_and}
use Rattle.ln_stage.specs.Tally.{IsOver, IsStoppedBy, Tallied}
use Rattle.ln_stage.proofs.Walks.StepLemmas.{leaf-cut, leaf-sees}
use Rattle.ln_stage.proofs.walk.leaf.Goals as goal

pub returns-clause-ok : goal.returns-clause-ok
returns-clause-ok c = record {
  seen = c.in_ok-see.ensures.ok ∙ leaf-sees c.args.f.now c.args.kept.now c.args.p.now c.args.tally.now _ c.requires.step c.in_ok-a.ensures;
  cut = c.are_all-cut.ensures ∙ leaf-cut c.args.f.now c.args.kept.now c.args.p.now _ c.requires.step c.in_ok-a.ensures;
}

pub returns-in_err-see-clause-err : goal.returns-in_err-see-clause-err
returns-in_err-see-clause-err c =
    let e = leaf-sees c.args.f.now c.args.kept.now c.args.p.now c.args.tally.now _ c.requires.step c.in_ok-a.ensures in
    let p = err_from_is_err_and c.from_residual-in_err-see.result c.from_residual-in_err-see.ensures.1 in
    rw (p.1, p.2) (subst (λ (z : Tallied). IsStoppedBy c.in_err-see.field-0.0 (IsOver z)) e c.in_err-see.ensures.err)
