use Rattle.std.proofs.Common.{length, ◌-◌, ◌+◌}
use Rattle.ln_poly.proofs.Sorting.Steps.{AreMerging}
use Rattle.ln_poly.proofs.merge.merge.Given as goal

abbrev pub invariant-both : goal.invariant-both
invariant-both g l = AreMerging g.K.Ordered.IsBefore l.initial.out l.out l.initial.f l.f l.initial.g l.g l.i l.j l.k

abbrev pub decreases-both : goal.decreases-both
decreases-both g l = (length l.f - l.i) + (length l.g - l.j)
