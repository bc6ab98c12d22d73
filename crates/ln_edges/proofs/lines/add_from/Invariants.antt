use Rattle.std.proofs.Common.{◌≤◌, ℕ, List, length}
use Rattle.ln_code.specs.Memory.{MadeFor}
use Rattle.ln_edges.specs.Lines.{EdgesSoFar}
use Rattle.ln_edges.proofs.lines.add_from.Given as goal

abbrev pub invariant-second : goal.invariant-second
invariant-second l = record {
  made : MadeFor l.p l.s;
  within : l.j ≤ length l.points;
  so_far : (start : List ℕ) → EdgesSoFar l.p l.points start l.i 0 l.initial.text.items
      → EdgesSoFar l.p l.points start l.i l.j l.text.items;
}
