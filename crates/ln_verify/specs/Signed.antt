-- Polynomials with a sign beside them.
use Rattle.std.specs.Prelude.{Bool, true, false}
use Rattle.ln_poly.specs.Sparse.{Sparse, negated}

-- minus the polynomial, or the polynomial
abbrev pub signed : Bool → Sparse → Sparse
signed true f = negated f
signed false f = f
