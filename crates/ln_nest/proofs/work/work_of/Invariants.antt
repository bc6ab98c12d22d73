use Rattle.std.proofs.Common.{◌≡◌, take}
use Rattle.ln_poly.specs.Sparse.{terms_of}
use Rattle.ln_nest.specs.View.{terms_in}
use Rattle.ln_nest.proofs.work.work_of.Given as goal

abbrev pub invariant-terms : goal.invariant-terms
invariant-terms l = terms_in l.out.items ≡ terms_of l.n (take l.t-index l.f)
