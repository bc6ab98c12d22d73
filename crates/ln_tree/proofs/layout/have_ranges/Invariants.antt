use Rattle.std.proofs.Common.{◌≡◌, drop}
use Rattle.std.specs.List.{list_all}
use Rattle.ln_tree.specs.Variables.{has_range}
use Rattle.ln_tree.proofs.layout.have_ranges.Given as goal

abbrev pub invariant-each : goal.invariant-each
invariant-each l = list_all has_range (drop l.i-index l.vars) ≡ list_all has_range l.vars
