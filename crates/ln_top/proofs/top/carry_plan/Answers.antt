use Rattle.std.proofs.Common.{sym, ◌∙◌}
use Rattle.std.specs.Prelude.{string_bytes}
use Rattle.std.proofs.lemmas.List.{length-map}
use Rattle.ln_top.specs.Plan.{with_bytes}
use Rattle.ln_top.proofs.Theorem.Standing.{ready_for}
use Rattle.ln_top.proofs.Steps.TopLaws.{work_carried, stop_carried, says_read, err_same}
use Rattle.ln_top.proofs.top.carry_plan.Goals as goal

pub returns-in-Ok-clause-done : goal.returns-in-Ok-clause-done
returns-in-Ok-clause-done g c =
    let r = c.in-Ok.ensures.ok in work_carried (with_bytes c.args.plan)
    (g.F.Files.told c.args.files.now) _ r.given _ _ _ _ _ r.prepared (c.work-ended.ensures r.given r.stands)

pub returns-in-Err-clause-done : goal.returns-in-Err-clause-done
returns-in-Err-clause-done g c =
    stop_carried (with_bytes c.args.plan) (g.F.Files.told c.args.files.now) _ _ _ _ _ _ _ c.in-Err.ensures.err c.say.ensures

pub returns-in-Err-clause-quiet : goal.returns-in-Err-clause-quiet
returns-in-Err-clause-quiet g c n m =
    c.prepare.ensures.quiet (λ e. says_read _ _ _ _ _ (err_same (sym c.in-Err.is ∙ e)) n m c.say.ensures)

pub work-ended-requires : goal.work-ended-requires
work-ended-requires g c =
    ready_for (with_bytes c.args.plan) (g.F.Files.told c.args.files.now) c.in-Ok.ready c.in-Ok.ensures.ok c.requires
    (c.in-Ok.ensures.numbers ∙ sym (length-map c.args.plan.names.now string_bytes))
    (c.in-Ok.ensures.texts ∙ sym (length-map c.args.plan.files.now string_bytes)) c.in-Ok.ensures.kept
