-- Answers to the goals of `have_edges` in src/edges.rt.
use Rattle.ln_edges.specs.Read.{coords_of}
use Rattle.ln_trial_programs.proofs.ThreeSites.{found_fit}
use Rattle.ln_trial_programs.proofs.edges.have_edges.Goals as goal

pub are_pairs-requires-clause-points : goal.are_pairs-requires-clause-points
are_pairs-requires-clause-points c =
    rw c.as_slice.ensures.value (found_fit (coords_of c.args.site.now) _ _ c.in-Points.points c.args.program.now.shape.sites
    c.args.program.now.shape.vars c.requires.0 c.requires.1 c.requires.2 c.in-Points.is c.in_ok-points.ensures)
