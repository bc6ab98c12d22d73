use Rattle.std.proofs.Common.{◌∙◌, ◌<◌, arith, sym, take}
use Rattle.std.proofs.lemmas.List.{get_or_default, get_or-take, length-take-le}
use Rattle.ln_trace.proofs.rules.order_at.Goals as goal

pub unreachable-requires : goal.unreachable-requires
unreachable-requires c =
    let f = rw c.from.ensures at c.in-Err.ensures.first in
    let i : f.earlier.0 < c.in-Err.field-0.0 = omega (
      arith,
      f.earlier.1,
      f.within,
      length-take-le c.in-Err.field-0.0 (take c.args.shape.now.sites c.args.row.now.index) (omega (arith, f.within)),
    ) in
    c.requires.differ f.earlier.0 _ _ i f.within (sym (get_or-take _ _ f.earlier.0 _ i) ∙ f.earlier.2 ∙ get_or_default _ _ _ _ f.within)
