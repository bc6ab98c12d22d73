-- The laws of coefficients and of scaled derivatives.
use Rattle.std.specs.Prelude.{◌≡◌, ℕ, ◌<◌, Bool, ℤ, pos, ◌*ℤ◌, List, ◌∷◌, length, map}
use Rattle.ln_algebra.specs.Vector.{plus, sum_over, splits, total_degree, ways}
use Rattle.ln_algebra.specs.Coefficient.{coefficient, product, product_at}
use Rattle.ln_algebra.specs.Earlier.{IsOver, Sites}
use Rattle.ln_algebra.specs.Sign.{perturbed}
use Rattle.ln_algebra.specs.Terms.{IsProductOf, Over, Term, binomials, derived, factor_at, value}
use Rattle.ln_algebra.specs.Tree.{InputsBelow, Tree, degree_of, multiplied}
pub use Rattle.ln_algebra.specs.Vector.{Within}
pub use Rattle.ln_algebra.specs.Terms.{IsNormalOf}

-- The coefficient of a product of any number of factors is the sum, over all ways to write the vector as a sum of one vector for
-- each factor, of the product of the factors' coefficients at these vectors.
abbrev pub ProductsAreSumsOverWays : Type 0
ProductsAreSumsOverWays =
    (p : ℕ → Bool) (x : ℕ → ℤ) (e : Tree) (es : List Tree) (a : List ℕ) →
    coefficient p x (multiplied e es) a
    ≡ sum_over (product_at (map (coefficient p x) (e ∷ es))) (ways (length (e ∷ es)) a)

-- The coefficient is 0 at every vector whose total degree is above the syntactic degree.
abbrev pub CoefficientsVanishAboveDegree : Type 0
CoefficientsVanishAboveDegree =
    (p : ℕ → Bool) (x : ℕ → ℤ) (e : Tree) (a : List ℕ) →
    degree_of e < total_degree a → coefficient p x e a ≡ pos 0

-- The coefficient at m of the scaled derivative by a is the polynomial's at m + a, times the binomials of m + a and a.
abbrev pub DerivedCoefficients : Type 0
DerivedCoefficients =
    (a : List ℕ) (f : List Term) (m : List ℕ) → Over (length a) f → length m ≡ length a →
    factor_at (derived a f) m ≡ factor_at f (plus m a) *ℤ pos (binomials (plus m a) a)

-- The product rule: the scaled derivative of a product by a is the sum, over all a = b + c, of the derivative of one factor by b
-- times that of the other by c; here at each coefficient.
abbrev pub ProductRule : Type 0
ProductRule =
    (n : ℕ) (f g h : List Term) (a m : List ℕ) → IsProductOf n f g h → length a ≡ n → length m ≡ n →
    factor_at (derived a h) m
    ≡ sum_over (λ s. product (factor_at (derived s.0 f)) (factor_at (derived s.1 g)) m) (splits a)

-- The same for the values at any point.
abbrev pub ProductRuleOfValues : Type 0
ProductRuleOfValues =
    (n : ℕ) (f g h : List Term) (x : ℕ → ℤ) (a : List ℕ) →
    IsProductOf n f g h → length a ≡ n →
    value x (derived a h) ≡ sum_over (λ s. value x (derived s.0 f) *ℤ value x (derived s.1 g)) (splits a)

-- Where f is the normal polynomial of e, the value on a row of its scaled derivative by a is the perturbed coefficient of e at a,
-- for every a over the perturbed variables.
abbrev pub DerivativesAreCoefficients : Type 0
DerivativesAreCoefficients =
    (n : ℕ) (e : Tree) (f : List Term) (p : ℕ → Bool) (x : ℕ → ℤ) (a : List ℕ) →
    InputsBelow n e → IsNormalOf n e f → length a ≡ n → Within p a →
    value x (derived a f) ≡ coefficient p x e a

-- The same for a row: with the infinitesimals of the sites, at every vector over their variables.
abbrev pub DerivativesOnRows : Type 0
DerivativesOnRows =
    (n : ℕ) (sites : Sites) (e : Tree) (f : List Term) (x : ℕ → ℤ) (a : List ℕ) →
    InputsBelow n e → IsNormalOf n e f → IsOver n sites a →
    value x (derived a f) ≡ perturbed sites x e a
