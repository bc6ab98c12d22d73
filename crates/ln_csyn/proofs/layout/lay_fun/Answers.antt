-- Answers to the goals of `lay_fun` in src/layout.rt.
use Rattle.std.proofs.Common.{◌∙◌}
use Rattle.std.proofs.lemmas.Result.{IfOk-weaker}
use Rattle.ln_csyn.proofs.Writing.Lays.{fun_laid}
use Rattle.ln_csyn.proofs.layout.lay_fun.Goals as goal

pub returns : goal.returns
returns c =
    IfOk-weaker c.lay.result _ _
    (λ _ h. fun_laid c.args.out.now.items c.lay.new.out.items c.args.tokens.now.items c.as_slice.result.now
    (c.as_slice.ensures.value ∙ c.in_ok-push.ensures.items) h)
    c.lay.ensures
