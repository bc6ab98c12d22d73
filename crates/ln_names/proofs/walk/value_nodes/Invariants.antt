use Rattle.std.proofs.Common.{◌≡◌, ◌≤◌, ◌+◌, ◌-◌, []}
use Rattle.ln_names.specs.Machine.{machine, read, machine_in}
use Rattle.ln_names.specs.Resolve.{visible}
use Rattle.ln_names.specs.Visits.{first_fault, expr_visits, value_visits, value_nodes, nodes}
use Rattle.ln_names.proofs.walk.value_nodes.Given as goal

abbrev pub invariant-loop-k : goal.invariant-loop-k
invariant-loop-k l = record {
  few : l.count ≤ 2048;
  count : l.count + nodes l.ts l.k (l.fn.p.to - l.k) ≡ l.n + value_nodes l.ts l.fn.p;
  faults : first_fault l.bytes (expr_visits l.ts (visible l.seen) l.count l.k (l.fn.p.to - l.k))
      ≡ first_fault l.bytes (value_visits l.ts (visible l.seen) l.n l.fn.p);
  read : read l.bytes l.ts (visible l.seen) l.k (l.fn.p.to - l.k) (machine_in l.reading)
      ≡ read l.bytes l.ts (visible l.seen) l.fn.p.from (l.fn.p.to - l.fn.p.from) (machine [] []);
}
