-- Scaled derivatives, by one variable and by several.
use Rattle.std.specs.Prelude.{◌≡◌, ℕ, ◌+◌, ◌-◌, ◌<◌, ◌≤◌, ◌+ℤ◌, ◌*ℤ◌, ℤ, pos, List, [], ◌∷◌, ◌++◌, length, slice_index, slice_index_or}
use Rattle.std.specs.Prelude.{drop, take, All, count_by}
use Rattle.std.specs.declared.cmp.Ordering.TheVariants.{Less}
use Rattle.ln_algebra.specs.Terms.{Term, binomial, derived, factor_at}
use Rattle.ln_algebra.specs.Vector.{covers}
use Rattle.ln_algebra.specs.Weights.{weighted_sum}
use Rattle.ln_tree.specs.Exps.{IsRising, Pairs, exponent, pairs_cmp, vector}
use Rattle.ln_poly.specs.Sparse.{AreBelow, AreRising, AreSorted, IsPoly, Sparse, coefficient_at, size_of, terms_of}
use Rattle.ln_poly.specs.Times.{power_at}

-- the scaled derivative by variable v, n times, over k variables
abbrev pub derivative : ℕ → ℕ → ℕ → Sparse → List Term
derivative k v n f = derived (vector k ((v, n) ∷ [])) (terms_of k f)

-- the exponents of e, with that of v lowered by n
pub record IsLowered (exps e : Pairs) (v n : ℕ) : Type 0 where
  pub exponents : (u : ℕ) → exponent u exps + power_at u (v, n) ≡ exponent u e
  pub rising : IsRising exps

-- out has the first i pairs, with the exponent of v lowered by n
pub record IsLowering (out ps : Pairs) (v n i : ℕ) : Type 0 where
  pub exponents : (u : ℕ) → exponent u out ≡ exponent u (take i ps) - power_at u (v, n)
  pub rising : IsRising out

-- the binomials of k, k + 1, .. and k, the first n of them
abbrev pub IsColumn : List ℕ → ℕ → ℕ → Type 0
IsColumn c k n = (j : ℕ) → j < n → slice_index c j ≡ binomial (k + j) k

-- out is old with the derivative of the term t appended
pub record IsDerivedPut (out old : Sparse) (t : Pairs × ℤ) (v n : ℕ) : Type 0 where
  pub exps : Pairs
  pub put : out ≡ old ++ ((exps, t.1 *ℤ pos (binomial (exponent v t.0) n)) ∷ [])
  pub lowered : IsLowered exps t.0 v n

-- out has the derivatives of the first i terms, in order, and is before the derivative of what comes after these terms
pub record IsDeriving (out f : Sparse) (k v n i : ℕ) (w : ℕ → ℕ) : Type 0 where
  pub coefficients : (m : List ℕ) → coefficient_at k out m +ℤ factor_at (derivative k v n (drop i f)) m ≡ factor_at (derivative k v n f) m
  pub size : size_of out + weighted_sum w (derivative k v n (drop i f)) ≤ weighted_sum w (derivative k v n f)
  pub rising : AreRising out
  pub below : AreBelow k out
  pub sorted : AreSorted out
  pub before : (a e : Pairs) → IsRising a → ((j : ℕ) (d : Pairs × ℤ) → j < i → pairs_cmp (slice_index_or f j d).0 a ≡ Less) →
      IsLowered e a v n → All (λ y. pairs_cmp y.0 e ≡ Less) out

-- h is the scaled derivative of f by the exponents a, over n variables
pub record IsDerivative (n : ℕ) (f : Sparse) (a : Pairs) (h : Sparse) : Type 0 where
  pub form : IsPoly h
  pub below : AreBelow n h
  pub coefficients : (m : List ℕ) → length m ≡ n → coefficient_at n h m ≡ factor_at (derived (vector n a) (terms_of n f)) m

-- how many terms cover a; the terms of a polynomial are its monomials, each once
abbrev pub covering : ℕ → Sparse → List ℕ → ℕ
covering n f a = count_by (λ t. covers (vector n t.0) a) f

-- how many terms cover each of the vectors, taken together
abbrev pub all_covering : ℕ → Sparse → List (List ℕ) → ℕ
all_covering n f [] = 0
all_covering n f (a ∷ as') = covering n f a + all_covering n f as'
