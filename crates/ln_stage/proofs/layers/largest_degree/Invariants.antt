-- What goes through the loop of `largest_degree`.
use Rattle.std.proofs.Common.{◌≡◌, ◌*◌, ◌≤◌, drop, max}
use Rattle.ln_stage.specs.Degrees.{largest_degree}
use Rattle.ln_stage.proofs.layers.largest_degree.Given as goal

abbrev pub invariant-kept : goal.invariant-kept
invariant-kept l = record {
  all : max l.largest (largest_degree l.f l.vs (drop l.i-index l.kept)) ≡ largest_degree l.f l.vs l.kept;
  small : l.largest ≤ 128 * 168;
}
