-- Answers to the goals of `carry_plan` in src/unfiltered.rt.
use Rattle.std.proofs.Common.{sym, ◌∙◌}
use Rattle.std.specs.Prelude.{string_bytes}
use Rattle.std.proofs.lemmas.List.{length-map}
use Rattle.ln_top.specs.Plan.{with_bytes}
use Rattle.ln_top.proofs.Theorem.Standing.{ready_for}
use Rattle.ln_top.proofs.Steps.TopLaws.{err_same, says_read}
use Rattle.ln_top.proofs.ExactLemmas.AnswerLaws.{stop_carried, work_carried}
use Rattle.ln_top.proofs.unfiltered.carry_plan.Goals as goal

pub returns-in-Ok-clause-done : goal.returns-in-Ok-clause-done
returns-in-Ok-clause-done g c =
    λ words f e. let r = c.in-Ok.ensures.ok in work_carried words c.args.style (with_bytes c.args.plan)
    (g.F.Files.told c.args.files.now) r.given _ _ _ _ _ f e r.prepared (c.work.ensures r.given r.stands)

pub returns-in-Err-clause-done : goal.returns-in-Err-clause-done
returns-in-Err-clause-done g c =
    λ words f e. stop_carried words (with_bytes c.args.plan) (g.F.Files.told c.args.files.now) _ _ _ _ _ _ f c.in-Err.ensures.err c.say.ensures

pub returns-in-Err-clause-quiet : goal.returns-in-Err-clause-quiet
returns-in-Err-clause-quiet g c n m =
    c.prepare.ensures.quiet (λ e. says_read _ _ _ _ _ (err_same (sym c.in-Err.is ∙ e)) n m c.say.ensures)

pub work-requires : goal.work-requires
work-requires g c =
    (ready_for (with_bytes c.args.plan) (g.F.Files.told c.args.files.now) c.in-Ok.ready c.in-Ok.ensures.ok c.requires
    (c.in-Ok.ensures.numbers ∙ sym (length-map c.args.plan.names.now string_bytes))
    (c.in-Ok.ensures.texts ∙ sym (length-map c.args.plan.files.now string_bytes)) c.in-Ok.ensures.kept).stands
