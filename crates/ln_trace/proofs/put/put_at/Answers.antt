use Rattle.std.proofs.Common.{rules}
use Rattle.std.proofs.lemmas.Int.{to_z-of_z}
use Rattle.std.proofs.lemmas.Result.{IfOk-weaker}
use Rattle.std.specs.Int.{w128}
use Rattle.std.specs.Prelude.{FitsSigned}
use Rattle.ln_trace.proofs.BlockLaw.{at_is}
use Rattle.ln_trace.proofs.put.put_at.Goals as goal

pub returns : goal.returns
returns c =
    let fits : FitsSigned w128 c.args.value = search rules in
    IfOk-weaker c.put-2.result _ _ (λ x h. at_is c.args.out.now.items c.put.new.out.items c.put_exponents.new.out.items c.put_word.new.out.items
    c.put_signed.new.out.items c.put-2.new.out.items c.as_slice.result.now c.as_slice-2.result.now c.args.exps.now c.args.value _ c.in_ok-put.ensures
    c.as_slice.ensures c.in_ok-put_exponents.ensures c.in_ok-put_word.ensures c.as_slice-2.ensures c.in_ok-put_signed.ensures
    (to_z-of_z w128 c.args.value fits) (rw c.as_slice-3.ensures at h)) c.put-2.ensures
