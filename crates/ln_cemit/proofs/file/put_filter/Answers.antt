-- Answers to the goals of `put_filter` in src/file.rt.
use Rattle.std.proofs.Common.{◌∙◌}
use Rattle.std.proofs.lemmas.Result.{IfOk-weaker}
use Rattle.ln_cemit.specs.Names.{filter_name}
use Rattle.ln_cemit.specs.Whole.{filter_body}
use Rattle.ln_cemit.proofs.Writing.Loops.{named_laid}
use Rattle.ln_cemit.proofs.file.put_filter.Goals as goal

pub returns : goal.returns
returns c =
    IfOk-weaker c.lay_fun.result _ _
    (λ _ h. named_laid c.as_slice.result.now (filter_name c.args.name.now) (filter_body c.args.filter.now) c.new-tokens.ensures.items
    (c.as_slice.ensures.value ∙ c.in_ok-title.ensures) c.in_ok-put_filter_fun.ensures h)
    c.lay_fun.ensures
