-- Answers to the goals of `put_funs` in src/file.rt.
use Rattle.std.proofs.lemmas.Result.{IfOk-weaker}
use Rattle.ln_cemit.specs.Whole.{Entered}
use Rattle.ln_cemit.proofs.Writing.Loops.{program_put}
use Rattle.ln_cemit.proofs.Writing.Whole.{one_after}
use Rattle.ln_cemit.proofs.file.put_funs.Goals as goal

pub returns : goal.returns
returns c =
    let x : Entered = record { entry = c.args.entry; part = c.args.p.now } in
    IfOk-weaker c.put_call.result _ _ (λ _ p. one_after c.args.out.now.items c.put_call.new.out.items x
    (program_put x c.in_ok-put_filter_of.ensures.put c.in_ok-put_blocks_of.ensures p) c.in_ok-put_filter_of.ensures.kept) c.put_call.ensures
