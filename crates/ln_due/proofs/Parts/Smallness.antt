-- Proves, from coefficients and from weights, which expressions have small polynomials.
use Rattle.std.proofs.Common.{◌≡◌, ◌≢◌, inl, ℕ, ◌+◌, ◌*◌, ◌^◌, ◌<◌, ◌≤◌, zero, suc, Bool, true, false, List, [], ◌∷◌, length, get_or, refl}
use Rattle.std.proofs.Common.{◌∙◌, ap, arith, unsigned_abs}
use Rattle.std.proofs.Math.IntN.{ℤ, pos, ◌+ℤ◌}
use Rattle.std.proofs.Math.Nat.{mul-le-mul_right}
use Rattle.std.proofs.lemmas.Int.{ints}
use Rattle.ln_algebra.proofs.Expanded.Expansion.{expanded}
use Rattle.ln_algebra.proofs.Expanded.Normal.{normal_is, same_vector-is}
use Rattle.ln_algebra.proofs.Bounding.Weights.{weighted-expanded}
use Rattle.ln_algebra.specs.Coefficient.{normal_coefficient}
use Rattle.ln_algebra.specs.Stage.{IsMonomial}
use Rattle.ln_algebra.specs.Terms.{Term, factor_at}
use Rattle.ln_algebra.specs.Tree.{Pow, Tree}
use Rattle.ln_algebra.specs.Vector.{is_zero, same_vector, total_degree, zeros}
use Rattle.ln_algebra.specs.Weights.{monomial_weight, weight, weighted_sum}
use Rattle.ln_bound.specs.Light.{most}
use Rattle.ln_poly.specs.Expansion.{HasTooManyTerms}
use Rattle.ln_poly.specs.Ready.{IsLight}
use Rattle.ln_poly.proofs.Expansions.Lets.{degree-weight}
use Rattle.ln_poly.proofs.TermLists.Counting.{distinct-length}
use Rattle.ln_poly.proofs.Loads.Room.{AreTwo, two-power}
use Rattle.ln_due.specs.Small.{IsSmall}

-- ---- by coefficients
-- a monomial of one is one of each with the same coefficients
monomial-same : (n : ℕ) (d e : Tree) (m : List ℕ) → ((k : List ℕ) → normal_coefficient d k ≡ normal_coefficient e k) → IsMonomial n d m → IsMonomial n e m
monomial-same n d e m h k = record { size = k.size; nonzero = λ z. k.nonzero (h m ∙ z) }

-- so an expression with the coefficients of a small one is small
pub small-same : (n : ℕ) (d e : Tree) → ((k : List ℕ) → normal_coefficient d k ≡ normal_coefficient e k) → IsSmall n e → IsSmall n d
small-same n d e h s = record {
  few = λ t. s.few (record { vectors = t.vectors; distinct = t.distinct; monomials = λ m i. monomial-same n d e m h (t.monomials m i); many = t.many });
  low = λ m v k. s.low m v (monomial-same n d e m h k);
}

-- ---- by weight
-- the absolute coefficient at a vector, times the vector's weight, is at most the weight of all terms
coefficient-weight : (w : ℕ → ℕ) (m : List ℕ) (g : List Term) → unsigned_abs (factor_at g m) * monomial_weight w m ≤ weighted_sum w g
coefficient-weight w m [] = omega arith
coefficient-weight w m (t ∷ g) = by_case (same_vector t.exponents m) refl (coefficient-weight w m g) where
  by_case : (b : Bool) → same_vector t.exponents m ≡ b → unsigned_abs (factor_at g m) * monomial_weight w m ≤ weighted_sum w g
      → unsigned_abs (factor_at (t ∷ g) m) * monomial_weight w m ≤ weighted_sum w (t ∷ g)
  by_case true e ih =
      let abs : unsigned_abs (t.factor +ℤ factor_at g m) ≤ unsigned_abs t.factor + unsigned_abs (factor_at g m) = omega (arith, ints) in
      let q : unsigned_abs t.factor * monomial_weight w t.exponents ≡ unsigned_abs t.factor * monomial_weight w m =
      ap (λ z. unsigned_abs t.factor * monomial_weight w z) (same_vector-is t.exponents m e) in
      rw e (omega (arith, ih, q, mul-le-mul_right (monomial_weight w m) abs))
  by_case false e ih =
      let z : pos 0 +ℤ factor_at g m ≡ factor_at g m = omega (arith, ints) in
      rw e (rw z (omega (arith, ih)))

-- a product is at least each factor, where the other is above 0
times-right : (a b : ℕ) → 0 < a → b ≤ a * b
times-right (suc a) b h = omega arith
times-right zero b h = absurd (omega (arith, h))

-- no exponent is more than all together
exponent-within : (m : List ℕ) (v : ℕ) → get_or m v 0 ≤ total_degree m
exponent-within [] zero = omega arith
exponent-within [] (suc v) = omega arith
exponent-within (k ∷ m) zero = omega arith
exponent-within (k ∷ m) (suc v) = omega (arith, exponent-within m v)

-- a number that isn't 0
abs-some : (z : ℤ) → z ≢ pos 0 → 0 < unsigned_abs z
abs-some z h = by_case (unsigned_abs z) refl where
  by_case : (k : ℕ) → unsigned_abs z ≡ k → 0 < unsigned_abs z
  by_case zero e = absurd (h (omega (arith, ints, e)))
  by_case (suc k) e = omega (arith, e)

-- no monomial of a light expression has an exponent above 127
pub light-low : (n : ℕ) (w : ℕ → ℕ) (e : Tree) (m : List ℕ) (v : ℕ) → AreTwo n w → IsLight n w e → IsMonomial n e m → get_or m v 0 < 128
light-low n w e m v t l k =
    let c : normal_coefficient e m ≡ factor_at (expanded n e) m = normal_is n e l.inputs m k.size in
    let s : 0 < unsigned_abs (factor_at (expanded n e) m) = abs-some (factor_at (expanded n e) m) (λ z. k.nonzero (c ∙ z)) in
    let a : 2 ^ total_degree m ≤ monomial_weight w m = degree-weight n w m t k.size in
    let b : unsigned_abs (factor_at (expanded n e) m) * monomial_weight w m ≤ weighted_sum w (expanded n e) = coefficient-weight w m (expanded n e) in
    let d : monomial_weight w m ≤ unsigned_abs (factor_at (expanded n e) m) * monomial_weight w m =
    times-right (unsigned_abs (factor_at (expanded n e) m)) (monomial_weight w m) s in
    let x : weighted_sum w (expanded n e) ≡ weight w e = weighted-expanded w n e l.inputs in
    let r : total_degree m < 127 = two-power (total_degree m) most (omega (arith, a, b, d, x, l.light)) (omega arith) in
    omega (arith, r, exponent-within m v)

-- ---- the power 0
-- a vector without exponents is that of zeros
zero-is : (m : List ℕ) → is_zero m ≡ true → m ≡ zeros (length m)
zero-is [] e = refl
zero-is (zero ∷ m) e = ap (λ z. 0 ∷ z) (zero-is m e)
zero-is (suc k ∷ m) e = cc

-- it has one term
pub zeroth-few : (n : ℕ) (d : Tree) → HasTooManyTerms n (Pow d 0) → ⊥
zeroth-few n d h =
    let l : length h.vectors ≤ length (zeros n ∷ []) = distinct-length h.vectors (zeros n ∷ []) h.distinct (λ m i. inl (only m (h.monomials m i))) in
    absurd (omega (arith, l, h.many)) where
      only : (m : List ℕ) → IsMonomial n (Pow d 0) m → m ≡ zeros n
      only m k = by_case (is_zero m) refl where
        by_case : (b : Bool) → is_zero m ≡ b → m ≡ zeros n
        by_case true e = zero-is m e ∙ ap zeros k.size
        by_case false e = absurd (k.nonzero (none e)) where
          none : is_zero m ≡ false → normal_coefficient (Pow d 0) m ≡ pos 0
          none q = rw q refl
