use Rattle.std.proofs.Common.{◌≤◌, [], length}
use Rattle.ln_code.specs.Memory.{MadeFor}
use Rattle.ln_edges.specs.Lines.{EdgesSoFar}
use Rattle.ln_edges.proofs.lines.edge_lines.Given as goal

abbrev pub invariant-first : goal.invariant-first
invariant-first l = record {
  made : MadeFor l.p l.s;
  within : l.i ≤ length l.points;
  so_far : EdgesSoFar l.p l.points [] l.i 0 l.text.items;
}
