-- What goes through the loop of `degree_on`.
use Rattle.std.proofs.Common.{◌≡◌, ◌+◌, ◌*◌, ◌≤◌, drop}
use Rattle.ln_stage.specs.Degrees.{pairs_degree}
use Rattle.ln_stage.proofs.layers.degree_on.Given as goal

abbrev pub invariant-vars : goal.invariant-vars
invariant-vars l = record { sum : l.sum + pairs_degree (drop l.v-index l.vs) l.pairs ≡ pairs_degree l.vs l.pairs; small : l.sum ≤ 128 * l.v-index }
