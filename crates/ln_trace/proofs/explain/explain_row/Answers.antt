use Rattle.std.proofs.Common.{◌++◌, ap, ◌∙◌}
use Rattle.ln_code.specs.RowOf.{row_of}
use Rattle.ln_trace.proofs.BlockLaw.{told-behind}
use Rattle.ln_trace.proofs.explain.explain_row.Goals as goal

pub returns-clause-ok : goal.returns-clause-ok
returns-clause-ok c =
    let p = c.args.p.now in
    let old = c.args.out.now.items in
    told-behind p (row_of p.shape.sites p.shape.vars c.args.r.now) c.args.n old _ c.extend_from_slice.new.self.items c.in_ok-text.ensures.told
    (c.in_ok-extend_from_slice.ensures.items ∙ ap (λ y. old ++ y) c.as_slice.ensures.value)
