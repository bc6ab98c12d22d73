-- Polynomials as lists of terms, and their scaled derivatives.
use Rattle.std.specs.Prelude.{◌≡◌, ℕ, ◌+◌, ◌*◌, false, ℤ, pos, ◌*ℤ◌, List, length, [], ◌∷◌, if◌then◌else◌}
use Rattle.std.proofs.Common.{zero, suc}
use Rattle.ln_algebra.specs.Vector.{sum_over}
pub use Rattle.ln_algebra.specs.Vector.{same_vector, covers, minus}
use Rattle.ln_algebra.specs.Coefficient.{normal_coefficient, product}
use Rattle.ln_algebra.specs.Tree.{Tree}

-- An integer times the monomial of these exponents.
pub record Term : Type 0 where
  pub exponents : List ℕ
  pub factor : ℤ

-- The coefficient of a list of terms at m: the sum of the factors of the terms that have the exponents m.
abbrev pub factor_at : List Term → List ℕ → ℤ
factor_at f m = sum_over (λ t. if same_vector t.exponents m then t.factor else pos 0) f

-- Each term is over n variables.
abbrev pub Over : ℕ → List Term → Type 0
Over n [] = Unit {0}
Over n (t ∷ f) = (length t.exponents ≡ n) × Over n f

-- No term has the exponents m.
abbrev pub Lacks : List Term → List ℕ → Type 0
Lacks [] m = Unit {0}
Lacks (t ∷ f) m = (same_vector t.exponents m ≡ false) × Lacks f m

-- Like monomials are collected: no two terms have the same exponents.
abbrev pub IsCollected : List Term → Type 0
IsCollected [] = Unit {0}
IsCollected (t ∷ f) = Lacks f t.exponents × IsCollected f

-- f has the coefficients of the normal polynomial of e, over n variables.
pub record IsNormalOf (n : ℕ) (e : Tree) (f : List Term) : Type 0 where
  pub over : Over n f
  pub coefficients : (m : List ℕ) → length m ≡ n → factor_at f m ≡ normal_coefficient e m

-- h has the coefficients of the product of f and g, over n variables.
pub record IsProductOf (n : ℕ) (f g h : List Term) : Type 0 where
  pub left : Over n f
  pub right : Over n g
  pub over : Over n h
  pub coefficients : (m : List ℕ) → length m ≡ n → factor_at h m ≡ product (factor_at f) (factor_at g) m

-- ---- values
-- The n-th power of x.
abbrev pub power_of : ℤ → ℕ → ℤ
power_of x zero = pos 1
power_of x (suc n) = x *ℤ power_of x n

-- The value of the monomial m at x.
abbrev pub monomial : (ℕ → ℤ) → List ℕ → ℤ
monomial x [] = pos 1
monomial x (n ∷ m) = power_of (x 0) n *ℤ monomial (λ v. x (suc v)) m

-- The value of a list of terms at x.
abbrev pub value : (ℕ → ℤ) → List Term → ℤ
value x f = sum_over (λ t. t.factor *ℤ monomial x t.exponents) f

-- ---- scaled derivatives
-- The number of ways to choose k of n, by Pascal's rule.
abbrev pub binomial : ℕ → ℕ → ℕ
binomial n zero = 1
binomial zero (suc k) = 0
binomial (suc n) (suc k) = binomial n k + binomial n (suc k)

-- The product, over the variables, of the binomials of m's exponent and a's.
abbrev pub binomials : List ℕ → List ℕ → ℕ
binomials [] a = 1
binomials (n ∷ m) [] = 1
binomials (n ∷ m) (k ∷ a) = binomial n k * binomials m a

-- The scaled (Hasse) derivative by a: x^m becomes C(m, a) times x^(m - a) where m covers a, and vanishes where not. It is the
-- partial derivative divided by the factorials of a.
abbrev pub derived : List ℕ → List Term → List Term
derived a [] = []
derived a (t ∷ f) = if covers t.exponents a
    then (record { exponents = minus t.exponents a; factor = t.factor *ℤ pos (binomials t.exponents a) } ∷ derived a f)
    else derived a f
