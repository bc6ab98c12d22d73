use Rattle.std.proofs.Common.{drop}
use Rattle.ln_csyn.specs.Spelling.{Goes}
use Rattle.ln_cemit.specs.Puts.{open_guards}
use Rattle.ln_cemit.proofs.walk.put_guards.Given as goal

abbrev pub invariant-others : goal.invariant-others
invariant-others l = Goes l.fn.out.items l.out.items (open_guards l.i (drop l.j-index l.others)) (open_guards l.i l.others)
