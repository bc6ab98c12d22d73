use Rattle.std.proofs.Common.{◌≡◌, drop}
use Rattle.std.specs.List.{position_from}
use Rattle.ln_tree.specs.Variables.{is_var}
use Rattle.ln_tree.proofs.layout.place_in.Given as goal

abbrev pub invariant-each : goal.invariant-each
invariant-each l = position_from (is_var l.v.arg l.v.coord) l.k (drop l.k l.vars) ≡ position_from (is_var l.v.arg l.v.coord) 0 l.vars
