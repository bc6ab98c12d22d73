use Rattle.std.proofs.Common.{◌≡◌, ◌≤◌, take}
use Rattle.ln_syntax.specs.Raw.{items}
use Rattle.ln_names.specs.Nodes.{LetsNodes}
use Rattle.ln_names.specs.Visits.{let_visits, nodes_before}
use Rattle.ln_names.proofs.Walking.{Left}
use Rattle.ln_names.proofs.walk.lets_nodes.Given as goal

abbrev pub invariant-loop-i : goal.invariant-loop-i
invariant-loop-i l = record {
  few : l.n ≤ 2048;
  count : l.n ≡ nodes_before l.ts (take l.i l.lets);
  faults : Left l.bytes (let_visits l.ts (items l.its) l.args) l.lets l.i;
  nodes : LetsNodes l.bytes l.ts (items l.its) l.args (take l.i l.lets) l.values;
}
