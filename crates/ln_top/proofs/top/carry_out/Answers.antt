use Rattle.std.proofs.Common.{sym}
use Rattle.ln_top.specs.Plan.{with_bytes}
use Rattle.ln_top.proofs.Steps.TopLaws.{plan_carried, usage_carried}
use Rattle.ln_top.proofs.top.carry_out.Goals as goal

pub returns-in-Some-clause-done : goal.returns-in-Some-clause-done
returns-in-Some-clause-done g c =
    plan_carried _ (with_bytes c.in-Some.plan) (g.F.Files.told c.args.files.now) _ _ _ _ _ _
    (sym c.in-Some.ensures.is) c.carry_plan.ensures.done

pub returns-in-None-clause-done : goal.returns-in-None-clause-done
returns-in-None-clause-done g c = usage_carried _ (g.F.Files.told c.args.files.now) _ _ _ _ _ _ (sym c.in-None.ensures.is) c.say.ensures
