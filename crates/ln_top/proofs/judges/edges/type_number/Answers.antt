use Rattle.std.proofs.Common.{sym, ◌∙◌}
use Rattle.ln_top.proofs.JudgesLemmas.EdgesLaws.{first_there, first_typed, number_is}
use Rattle.ln_top.proofs.judges.edges.type_number.Goals as goal

pub bounds-as_slice-0 : goal.bounds-as_slice-0
bounds-as_slice-0 c = rw c.as_slice.ensures (first_there c.args.p.now.args c.requires)

pub unreachable-requires : goal.unreachable-requires
unreachable-requires c =
    first_typed c.args.p.now.args _ c.requires (rw c.as_slice.ensures at c.index-as_slice-0.is) (sym c.in-None.is ∙ c.type_of.ensures)

pub returns : goal.returns
returns c =
    number_is c.args.p.now.args _ _ c.requires (rw c.as_slice.ensures at c.index-as_slice-0.is) (sym c.in-Some.is ∙ c.type_of.ensures)
