-- What goes through the loop of `walk_at`.
use Rattle.std.proofs.Common.{length}
use Rattle.ln_stage.specs.Degrees.{listed_degree, listed_degree_from}
use Rattle.ln_stage.specs.Tally.{EndsAs}
use Rattle.ln_stage.proofs.layers.+walk_at.Given as goal

abbrev pub decreases-walk_at : goal.decreases-walk_at
decreases-walk_at l = length l.vs.now

abbrev pub invariant-exponents : goal.invariant-exponents
invariant-exponents l = EndsAs (length l.p) l.f l.tally (listed_degree_from l.f l.vs l.kept l.p l.d l.e) l.fn.tally (listed_degree l.f l.vs l.kept l.p l.d)
