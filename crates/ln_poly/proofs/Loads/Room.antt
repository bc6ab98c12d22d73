-- Where the weight of a closed tree isn't too large, its normal polynomial may be computed with in 128 bits.
use Rattle.std.proofs.Common.{◌≡◌, ℕ, ◌+◌, ◌*◌, ◌<◌, ◌≤◌, ◌^◌, zero, suc, arith, All, [], ◌∷◌, length, get_or, unsigned_abs, ◌⊎◌, inl, inr}
use Rattle.std.proofs.Common.{eqb, Bool, true, false, if◌then◌else◌}
use Rattle.std.proofs.Math.IntN.{ℤ}
use Rattle.std.proofs.Math.Nat.{le-mul_of_pos_right, pow-zero, pow-le-pow_left, pow-le-pow_right}
use Rattle.std.proofs.lemmas.Bool.{cases_lt}
use Rattle.std.proofs.lemmas.Nat.{mul-le, pow-add}
use Rattle.std.proofs.lemmas.List.Elements.{All-head, All-tail}
use Rattle.ln_algebra.proofs.Bounding.Weights.{weighted-normal}
use Rattle.ln_algebra.specs.Tree.{Add, InputsBelow, Tree}
use Rattle.ln_algebra.specs.Weights.{weight}
use Rattle.ln_bound.specs.Light.{most}
use Rattle.ln_algebra.specs.Sizes.{two}
use Rattle.ln_tree.specs.Exps.{IsAbove, Pairs, exponent}
use Rattle.ln_poly.specs.Sparse.{AreBelow, IsFactor, Sparse, size_of, terms_of}
use Rattle.ln_poly.specs.Rows.{PowersFit}
use Rattle.ln_poly.specs.Weight.{pairs_weight, total_weight}
use Rattle.ln_poly.specs.Expansion.{IsNormal}
use Rattle.ln_poly.specs.Ready.{IsLight}
use Rattle.ln_poly.proofs.TermLists.Coefficients.{size-cons, size-nil}
use Rattle.ln_poly.proofs.Sorting.Collected.{collected}
use Rattle.ln_poly.proofs.Loads.Weighing.{abs-some, pow-some, total-cons, total-weight, weight-some}

-- each of the first n weights is at least 2
abbrev pub AreTwo : ℕ → (ℕ → ℕ) → Type 0
AreTwo n w = (v : ℕ) → v < n → 2 ≤ w v

-- so it is where each variable counts 2
pub two-sizes : (n : ℕ) → AreTwo n two
two-sizes n v h = omega arith

-- ---- weights of pairs
-- a number is at most its product with one above 0
pub times-le-left : (a b : ℕ) → 0 < b → a ≤ b * a
times-le-left a b h = omega (arith, le-mul_of_pos_right a h)

-- where each variable weighs at least 2, the weight of pairs is above 0
pairs-some : (n : ℕ) (w : ℕ → ℕ) (ps : Pairs) → AreTwo n w → IsAbove ps n → 0 < pairs_weight w ps
pairs-some n w ps t a = weight-some n w (λ v l. omega (arith, t v l)) ps a

-- 2 to the power of an exponent is at most the weight of the pairs
pub exponent-weight : (n : ℕ) (w : ℕ → ℕ) (v : ℕ) (ps : Pairs) → AreTwo n w → IsAbove ps n → 2 ^ exponent v ps ≤ pairs_weight w ps
exponent-weight n w v [] t a = omega (arith, pow-zero 2)
exponent-weight n w v (p ∷ ps) t a = by_case (eqb p.0 v) (exponent-weight n w v ps t a.1) where
  by_case : (b : Bool) → 2 ^ exponent v ps ≤ pairs_weight w ps → 2 ^ ((if b then p.1 else 0) + exponent v ps) ≤ w p.0 ^ p.1 * pairs_weight w ps
  by_case true ih = rw pow-add (mul-le _ _ _ _ (pow-le-pow_left (t p.0 a.0) p.1) ih)
  by_case false ih =
      let z : 0 + exponent v ps ≡ exponent v ps = omega arith in
      rw z (omega (arith, ih, times-le-left (pairs_weight w ps) (w p.0 ^ p.1) (pow-some (w p.0) p.1 (omega (arith, t p.0 a.0)))))

-- ---- weights of polynomials
-- the sum of the absolute factors is at most the weight
pub size-weight : (n : ℕ) (w : ℕ → ℕ) (f : Sparse) → AreTwo n w → AreBelow n f → size_of f ≤ total_weight w f
size-weight n w [] t b = omega (arith, size-nil)
size-weight n w (x ∷ f) t b =
    omega (
      arith,
      size-cons x f,
      total-cons w x f,
      size-weight n w f t (All-tail (λ z. IsAbove z.0 n) x f b),
      le-mul_of_pos_right (unsigned_abs x.1) (pairs-some n w x.0 t (All-head (λ z. IsAbove z.0 n) x f b)),
    )

-- a term's factor has an absolute value above 0
pub factor-some : (z : ℤ) → IsFactor z → 0 < unsigned_abs z
factor-some z f = abs-some z f.0

-- 2 to the power of an exponent of a term is at most the weight
pub term-exponent : (n : ℕ) (w : ℕ → ℕ) (f : Sparse) (k : ℕ) (d : Pairs × ℤ) (v : ℕ) → AreTwo n w → AreBelow n f → All (λ t. IsFactor t.1) f
    → k < length f → 2 ^ exponent v (get_or f k d).0 ≤ total_weight w f
term-exponent n w [] k d v t b s l = absurd (omega arith)
term-exponent n w (x ∷ f) zero d v t b s l =
    omega (
      arith,
      total-cons w x f,
      exponent-weight n w v x.0 t (All-head (λ z. IsAbove z.0 n) x f b),
      times-le-left (pairs_weight w x.0) (unsigned_abs x.1) (factor-some x.1 (All-head (λ z. IsFactor z.1) x f s)),
    )
term-exponent n w (x ∷ f) (suc k) d v t b s l =
    omega (arith, total-cons w x f, term-exponent n w f k d v t (All-tail (λ z. IsAbove z.0 n) x f b) (All-tail (λ z. IsFactor z.1) x f s) (omega arith))

-- a normal polynomial weighs at most its tree
pub normal-weight : (n : ℕ) (w : ℕ → ℕ) (e : Tree) (f : Sparse) → InputsBelow n e → IsNormal n e f → total_weight w f ≤ weight w e
normal-weight n w e f i p = omega (arith, total-weight w n f p.below, weighted-normal n e (terms_of n f) w i p.normal (collected n f p.form p.below))

-- the absolute factors of a normal polynomial add up to at most its tree's weight, where each variable weighs at least 2
pub normal-size : (n : ℕ) (w : ℕ → ℕ) (e : Tree) (f : Sparse) → AreTwo n w → InputsBelow n e → IsNormal n e f → size_of f ≤ weight w e
normal-size n w e f t i p = omega (arith, size-weight n w f t p.below, normal-weight n w e f i p)

-- ---- room for the operations
-- where a sum weighs at most 2^127 - 1, there is room for the sum of the operands' polynomials
pub sum-room : (n : ℕ) (w : ℕ → ℕ) (d e : Tree) (f g : Sparse) → AreTwo n w → IsLight n w (Add d e) → IsNormal n d f → IsNormal n e g
    → size_of f + size_of g < 2 ^ 127
sum-room n w d e f g t l p q = omega (arith, l.light, normal-size n w d f t l.inputs.0 p, normal-size n w e g t l.inputs.1 q)

-- a power of 2 that is at most a number below 2^127 has an exponent below 127
pub two-power : (a b : ℕ) → 2 ^ a ≤ b → b < 2 ^ 127 → a < 127
two-power a b h l = by_case (cases_lt a 127) where
  by_case : (a < 127) ⊎ (127 ≤ a) → a < 127
  by_case (inl k) = k
  by_case (inr k) = let m : 2 ^ 127 ≤ 2 ^ a = pow-le-pow_right {n = 2} (omega arith) {i = 127} {j = a} k in absurd (omega (arith, m))

-- there is room for the product of two normal polynomials where the product of their trees' weights is within the limit
pub product-room : (n : ℕ) (w : ℕ → ℕ) (d e : Tree) (f g : Sparse) → AreTwo n w → InputsBelow n d → InputsBelow n e
    → weight w d * weight w e ≤ most → IsNormal n d f → IsNormal n e g → size_of f * size_of g < 2 ^ 127
product-room n w d e f g t i j l p q = omega (arith, l, mul-le _ _ _ _ (normal-size n w d f t i p) (normal-size n w e g t j q))

-- no exponent of the product exceeds 127 where the product of the trees' weights is within the limit
pub product-powers : (n : ℕ) (w : ℕ → ℕ) (d e : Tree) (f g : Sparse) → AreTwo n w → InputsBelow n d → InputsBelow n e
    → weight w d * weight w e ≤ most → IsNormal n d f → IsNormal n e g → All (λ s. PowersFit s g) f
product-powers n w d e f g t i j l p q k x kl m y ml v =
    let a : 2 ^ exponent v (get_or f k x).0 ≤ weight w d = omega (arith, term-exponent n w f k x v t p.below p.form.factors kl, normal-weight n w d f i p) in
    let b : 2 ^ exponent v (get_or g m y).0 ≤ weight w e = omega (arith, term-exponent n w g m y v t q.below q.form.factors ml, normal-weight n w e g j q) in
    let c : 2 ^ (exponent v (get_or f k x).0 + exponent v (get_or g m y).0) ≤ weight w d * weight w e = rw pow-add (mul-le _ _ _ _ a b) in
    omega (arith, two-power (exponent v (get_or f k x).0 + exponent v (get_or g m y).0) (weight w d * weight w e) c (omega (arith, l)))
