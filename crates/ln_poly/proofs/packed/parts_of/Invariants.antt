use Rattle.std.proofs.Common.{length, ◌-◌}
use Rattle.ln_poly.proofs.Packing.Whole.{ArePartsDone}
use Rattle.ln_poly.proofs.packed.parts_of.Given as goal

abbrev pub invariant-parts : goal.invariant-parts
invariant-parts g l = ArePartsDone l.room.out.items l.room.aside.items l.f l.g l.done.items l.i l.most

abbrev pub decreases-parts : goal.decreases-parts
decreases-parts g l = length l.f - l.i
