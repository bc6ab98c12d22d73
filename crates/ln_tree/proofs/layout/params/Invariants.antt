use Rattle.std.proofs.Common.{◌≡◌, take}
use Rattle.std.specs.List.{count_by}
use Rattle.ln_tree.specs.Variables.{is_param}
use Rattle.ln_tree.proofs.layout.params.Given as goal

abbrev pub invariant-each : goal.invariant-each
invariant-each l = l.n ≡ count_by is_param (take l.i-index l.vars)
