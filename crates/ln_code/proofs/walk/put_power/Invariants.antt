use Rattle.std.proofs.Common.{◌≤◌}
use Rattle.ln_bound.specs.View.{typed}
use Rattle.ln_code.proofs.Building.Walks.{Raises}
use Rattle.ln_code.proofs.walk.put_power.Given as goal

abbrev pub invariant-factors : goal.invariant-factors
invariant-factors g l = record {
  within : l.j ≤ l.n;
  so_far : Raises g.M.Marks.told (g.M.Marks.style l.m) (typed l.x) l.t.width l.j l.fn.draft l.draft l.p;
}
