-- Defines the polynomial of what an operation on two values makes, and what its triple covers.
use Rattle.std.specs.Prelude.{◌≡◌, ◌==◌, ◌&&◌, ◌*◌, ◌+◌, ℕ, ◌≤◌, Bool, Option, None, Some}
use Rattle.std.specs.Prelude.{List}
use Rattle.std.proofs.Math.IntN.{◌+ℤ◌}
use Rattle.ln_algebra.specs.Tree.{Tree}
use Rattle.ln_bound.specs.declared.fitted.Two.{Two}
use Rattle.ln_bound.specs.declared.fitted.Two.TheVariants.{Minus, Plus, Times}
use Rattle.ln_bound.specs.Typed.{bound_of, two_of}
use Rattle.ln_poly.specs.Expansion.{IsNormal}
use Rattle.ln_poly.specs.Sparse.{AreBelow, IsPoly, Sparse, coefficient_at, size_of}
use Rattle.ln_code.specs.declared.op.Triple.{Triple}
use Rattle.ln_code.specs.FilterRules.{covers}
use Rattle.ln_due.specs.Small.{IsSmall}

-- the polynomial is the sum of two
pub record IsSum (f g h : Sparse) : Type 0 where
  pub coefficients : (n : ℕ) (m : List ℕ) → coefficient_at n h m ≡ coefficient_at n f m +ℤ coefficient_at n g m
  pub size : size_of h ≤ size_of f + size_of g
  pub form : IsPoly h
  pub below : (n : ℕ) → AreBelow n f → AreBelow n g → AreBelow n h

-- the polynomial of a sum, a difference or a product of two expressions with these polynomials; or there is none, and what the
-- operation makes isn't small
abbrev pub Joined : Two → Sparse → Sparse → Option Sparse → Type 0
Joined t f g (Some h) =
    (size_of h ≤ bound_of t (size_of f) (size_of g)) × ((n : ℕ) (d e : Tree) → IsNormal n d f → IsNormal n e g → IsNormal n (two_of t d e) h)
Joined t f g None = (n : ℕ) (d e : Tree) → IsNormal n d f → IsNormal n e g → IsSmall n (two_of t d e) → ⊥

-- the triple covers that of a sum, a difference or a product
abbrev pub two_covers : Two → Triple → Triple → Triple → Bool
two_covers Plus x y a = (x.k == y.k) && covers x.k (x.h + y.h) (x.e + y.e) a
two_covers Minus x y a = (x.k == y.k) && covers x.k (x.h + y.h) (x.e + y.e) a
two_covers Times x y a = covers (x.k + y.k) (x.h * y.h) (x.h * y.e + y.h * x.e + x.e * y.e) a
