-- Answers to the goals of `put_indent` in src/layout.rt.
use Rattle.std.proofs.lemmas.Result.{IfOk-weaker}
use Rattle.ln_csyn.proofs.Writing.Lays.{indent_more}
use Rattle.ln_csyn.proofs.layout.+put_indent.Goals as goal

pub returns : goal.returns
returns t c =
    IfOk-weaker c.put_indent.result _ _
    (λ _ h. indent_more c.args.out.now.items c.extend_from_slice.new.self.items c.put_indent.new.out.items c.as_slice.result.now
    c.args.depth c.if-depth-eq0.false c.in_ok-extend_from_slice.ensures.items c.as_slice.ensures h)
    c.put_indent.ensures
