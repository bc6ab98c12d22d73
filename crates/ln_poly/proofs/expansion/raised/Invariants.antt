use Rattle.std.proofs.Common.{ℕ}
use Rattle.ln_algebra.specs.Tree.{Pow, Tree}
use Rattle.ln_poly.specs.Expansion.{IsNormal, powers}
use Rattle.ln_poly.specs.Ready.{Expands}
use Rattle.ln_poly.proofs.expansion.raised.Given as goal

abbrev pub invariant-powers : goal.invariant-powers
invariant-powers l = (n : ℕ) (e : Tree) → IsNormal n e l.f → Expands n (powers l.at e l._j) (Pow e l._j) l.p
