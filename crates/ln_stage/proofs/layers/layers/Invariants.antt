-- What goes through the loop of `layers`.
use Rattle.std.proofs.Common.{◌+◌, ◌-◌, length}
use Rattle.ln_stage.specs.Degrees.{largest_degree, listed_graded, listed_layers}
use Rattle.ln_stage.specs.Tally.{EndsAs}
use Rattle.ln_stage.proofs.layers.layers.Given as goal

abbrev pub invariant-degrees : goal.invariant-degrees
invariant-degrees l = EndsAs (length l.p) l.f l.tally (listed_layers l.f l.vs l.kept l.p (largest_degree l.f l.vs l.kept + 1 - l.d) l.d)
    l.fn.tally (listed_graded l.f l.vs l.kept l.p)
