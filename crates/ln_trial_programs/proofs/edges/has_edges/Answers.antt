-- Answers to the goals of `has_edges` in src/edges.rt.
use Rattle.ln_trial_programs.proofs.ThreeSites.{three_sites}
use Rattle.ln_trial_programs.proofs.edges.has_edges.Goals as goal

pub have_edges-requires : goal.have_edges-requires
have_edges-requires c =
    let e = c.in-Some.ensures in
    three_sites c.args.c.now.table c.in-Some.site.now c.in-Some.pred.now c.in-Some.program.now c.as_slice.result.now e.0 e.1 e.2 e.3
    c.as_slice.ensures (c.are_three.ensures c.if-not-are_three.false)
