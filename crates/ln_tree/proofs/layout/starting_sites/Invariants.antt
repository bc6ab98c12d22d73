use Rattle.std.proofs.Common.{◌≡◌, take}
use Rattle.std.specs.List.{count_by}
use Rattle.ln_tree.specs.Variables.{starts_site}
use Rattle.ln_tree.proofs.layout.starting_sites.Given as goal

abbrev pub invariant-each : goal.invariant-each
invariant-each l = l.n ≡ count_by starts_site (take l.i-index l.vars)
