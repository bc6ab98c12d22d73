use Rattle.std.proofs.Common.{◌∙◌, subst}
use Rattle.std.proofs.lemmas.List.{take_all, take_more}
use Rattle.std.proofs.lemmas.Slice.Zip.{all_zipped_more}
use Rattle.std.proofs.lemmas.Option.{get_or_from_slice_get}
use Rattle.ln_code.specs.Memory.{MadeFor}
use Rattle.ln_code.specs.Part.{Part}
use Rattle.ln_top.proofs.TargetLemmas.FactorsLaws.{IsMadeAt, made_for}
use Rattle.ln_top.proofs.target.factors.scratches.Goals as goal

pub each-preserved : goal.each-preserved
each-preserved c =
    rw (c.in_ok-push.ensures.items, take_more c.args.which.now c.each.i-index 0 c.each-test.true)
    (all_zipped_more (IsMadeAt c.args.programs.now) _ c.each.scratches.items _ c.in_ok-scratch.scratch c.each.invariant
    (λ p e. subst (λ (q : Part). MadeFor q c.in_ok-scratch.scratch)
    (c.index-programs-i.is ∙ get_or_from_slice_get c.args.programs.now _ p _ e) c.in_ok-scratch.ensures))

pub returns : goal.returns
returns c = made_for c.args.programs.now _ c.each.scratches.items (rw (take_all _ c.args.which.now c.each-test.false) at c.each.invariant)
