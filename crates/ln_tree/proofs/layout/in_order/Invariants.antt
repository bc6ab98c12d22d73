use Rattle.std.proofs.Common.{◌≡◌, ◌≤◌, drop}
use Rattle.ln_tree.specs.Variables.{in_order, no_var}
use Rattle.ln_tree.proofs.layout.in_order.Given as goal

abbrev pub invariant-vars : goal.invariant-vars
invariant-vars l = (in_order l.args l.sites l.before (drop l.i-index l.vars) ≡ in_order 0 0 no_var l.vars) × (l.args ≤ l.i-index) × (l.sites ≤ l.i-index)
