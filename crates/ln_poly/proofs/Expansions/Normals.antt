-- Polynomials of nodes from those of their operands.
use Rattle.std.proofs.Common.{◌≡◌, ℕ, ◌+◌, ◌<◌, zero, suc, refl, sym, ◌∙◌, ap, arith, subst, List, [], ◌∷◌, length, get_or, eqb, eq-eqb}
use Rattle.std.proofs.Common.{false, true, Bool, if◌then◌else◌, ◌++◌, ◌≢◌, ◌^◌, unsigned_abs, ◌⊎◌, inl, inr}
use Rattle.std.specs.Prelude.{slice_index_or}
use Rattle.std.proofs.Math.IntN.{ℤ, pos, ◌+ℤ◌, ◌-ℤ◌}
use Rattle.std.proofs.lemmas.Bool.{ne_eqb}
use Rattle.std.proofs.lemmas.Int.{ints}
use Rattle.std.proofs.lemmas.List.Elements.{All-cons, All-nil}
use Rattle.ln_algebra.proofs.Expanded.Expansion.{zeros, unit_vector}
use Rattle.ln_algebra.proofs.Expanded.Normal.{normal_is, zero_cases}
use Rattle.ln_algebra.proofs.Expanded.Shift.{product-same, product_is}
use Rattle.ln_algebra.specs.Coefficient.{normal_coefficient, product}
use Rattle.ln_algebra.specs.Vector.{same_vector}
use Rattle.ln_algebra.specs.Terms.{factor_at}
use Rattle.ln_algebra.specs.Tree.{Add, Input, Mul, Neg, Num, Pow, Sub, Tree}
use Rattle.ln_tree.specs.Exps.{IsAbove, Pairs, exponents_from, vector}
use Rattle.ln_poly.specs.Sparse.{AreBelow, IsPoly, Sparse, coefficient_at, negated}
use Rattle.ln_poly.specs.Expansion.{HasTooManyTerms, IsNormal}
use Rattle.ln_poly.specs.Ready.{AreNormal}
use Rattle.ln_poly.specs.Within.{TakesMore}
use Rattle.ln_poly.proofs.TermLists.Leaves.{no-terms, one-term}
use Rattle.ln_poly.proofs.TermLists.Negating.{below-negated, coefficient-negated, poly-negated}
use Rattle.ln_poly.proofs.TermLists.Products.{over-terms}
use Rattle.ln_poly.proofs.TermLists.Vectors.{exponents-after}

-- ---- vectors of leaves
-- no exponents are those of the vector of zeros
pub vector-none : (v n : ℕ) → exponents_from v n [] ≡ zeros n
vector-none v zero = refl
vector-none v (suc n) = ap (λ z. 0 ∷ z) (vector-none (suc v) n)

-- a variable that came before
vector-before : (v n u : ℕ) → u < v → exponents_from v n ((u, 1) ∷ []) ≡ zeros n
vector-before v n u h = exponents-after v n u 1 [] h ∙ vector-none v n

vector-unit : (v n u x : ℕ) → x ≡ v + u → exponents_from v n ((x, 1) ∷ []) ≡ unit_vector n u
vector-unit v zero u x q = refl
vector-unit v (suc n) zero x q = let t : eqb x v ≡ true = eq-eqb x v (omega arith) in rw t (ap (λ z. 1 ∷ z) (vector-before (suc v) n x (omega arith)))
vector-unit v (suc n) (suc u) x q = rw (ne_eqb x v (λ e. absurd (omega (arith, e, q)))) (ap (λ z. 0 ∷ z) (vector-unit (suc v) n u x (omega arith)))

-- ---- leaves
module _ (n : ℕ) where
  -- a polynomial over n variables with the normal coefficients of an expression is its normal polynomial
  pub normal-of : (e : Tree) (f : Sparse) → IsPoly f → AreBelow n f
      → ((m : List ℕ) → length m ≡ n → coefficient_at n f m ≡ normal_coefficient e m) → IsNormal n e f
  unfolding coefficient_at
  normal-of e f p b c = record { normal = record { over = over-terms n f; coefficients = c }; form = p; below = b }

  coefficients-of : (e : Tree) (f : Sparse) → IsNormal n e f → (m : List ℕ) → length m ≡ n → coefficient_at n f m ≡ normal_coefficient e m
  unfolding coefficient_at
  coefficients-of e f p m h = p.normal.coefficients m h

  none-coefficient : (m : List ℕ) → coefficient_at n [] m ≡ factor_at (record { exponents = zeros n; factor = pos 0 } ∷ []) m
  unfolding coefficient_at
  none-coefficient m = by_case (same_vector (zeros n) m) where
    by_case : (b : Bool) → pos 0 ≡ (if b then pos 0 else pos 0) +ℤ pos 0
    by_case true = refl
    by_case false = refl

  some-coefficient : (ps : Pairs) (v : List ℕ) (c : ℤ) (m : List ℕ) → vector n ps ≡ v
      → coefficient_at n ((ps, c) ∷ []) m ≡ factor_at (record { exponents = v; factor = c } ∷ []) m
  unfolding coefficient_at
  some-coefficient ps v c m h = ap (λ u. factor_at (record { exponents = u; factor = c } ∷ []) m) h

  one-below : (ps : Pairs) (c : ℤ) → IsAbove ps n → AreBelow n ((ps, c) ∷ [])
  one-below ps c a = All-cons (λ t. IsAbove t.0 n) (ps, c) [] a (All-nil (λ t. IsAbove t.0 n))

  -- the number 0 has the polynomial without terms
  pub number-none : IsNormal n (Num (pos 0)) []
  number-none = normal-of (Num (pos 0)) [] no-terms (All-nil (λ t. IsAbove t.0 n)) (λ m h. none-coefficient m ∙ sym (normal_is n (Num (pos 0)) tt m h))

  -- a number that isn't 0 and is within the limit has the polynomial of one term without exponents
  pub number-some : (c : ℤ) → IsPoly (([], c) ∷ []) → IsNormal n (Num c) (([], c) ∷ [])
  number-some c p = normal-of (Num c) (([], c) ∷ []) p (one-below [] c tt)
      (λ m h. some-coefficient [] (zeros n) c m (vector-none 0 n) ∙ sym (normal_is n (Num c) tt m h))

  -- a variable
  pub input-normal : (v : ℕ) → v < n → IsPoly (((v, 1) ∷ [], pos 1) ∷ []) → IsNormal n (Input v) (((v, 1) ∷ [], pos 1) ∷ [])
  input-normal v l p = normal-of (Input v) (((v, 1) ∷ [], pos 1) ∷ []) p (one-below ((v, 1) ∷ []) (pos 1) (l, tt))
      (λ m h. some-coefficient ((v, 1) ∷ []) (unit_vector n v) (pos 1) m (vector-unit 0 n v v (omega arith)) ∙ sym (normal_is n (Input v) l m h))

  -- ---- operations
  -- the terms with the other sign are the normal polynomial of the operand's opposite
  pub neg-normal : (e : Tree) (f h : Sparse) → IsNormal n e f → h ≡ negated f → IsNormal n (Neg e) h
  neg-normal e f h p q = subst (IsNormal n (Neg e)) (sym q) (normal-of (Neg e) (negated f) (poly-negated f p.form) (below-negated n f p.below)
      (λ m l. omega (arith, ints, coefficient-negated n m f, coefficients-of e f p m l)))

  -- a polynomial with the sums of two operands' coefficients is the normal polynomial of their sum
  pub add-normal : (d e : Tree) (f g h : Sparse) → IsNormal n d f → IsNormal n e g → IsPoly h → AreBelow n h
      → ((m : List ℕ) → coefficient_at n h m ≡ coefficient_at n f m +ℤ coefficient_at n g m) → IsNormal n (Add d e) h
  add-normal d e f g h p q r b c = normal-of (Add d e) h r b (λ m l. omega (arith, ints, c m, coefficients-of d f p m l, coefficients-of e g q m l))

  -- a polynomial with the differences of two operands' coefficients is the normal polynomial of their difference
  pub sub-normal : (d e : Tree) (f g h : Sparse) → IsNormal n d f → IsNormal n e g → IsPoly h → AreBelow n h
      → ((m : List ℕ) → coefficient_at n h m ≡ coefficient_at n f m -ℤ coefficient_at n g m) → IsNormal n (Sub d e) h
  sub-normal d e f g h p q r b c = normal-of (Sub d e) h r b (λ m l. omega (arith, ints, c m, coefficients-of d f p m l, coefficients-of e g q m l))

  -- a polynomial with the coefficients of the product of two operands' polynomials is the normal polynomial of their product
  pub mul-normal : (d e : Tree) (f g h : Sparse) → IsNormal n d f → IsNormal n e g → IsPoly h → AreBelow n h
      → ((m : List ℕ) → length m ≡ n → coefficient_at n h m ≡ product (coefficient_at n f) (coefficient_at n g) m) → IsNormal n (Mul d e) h
  mul-normal d e f g h p q r b c =
      normal-of (Mul d e) h r b (λ m l.
      c m l
      ∙ product-same (coefficient_at n f) (coefficient_at n g) (normal_coefficient d) (normal_coefficient e) n (coefficients-of d f p)
      (coefficients-of e g q) m l
      ∙ sym (product_is (normal_coefficient d) (normal_coefficient e) m))

  -- a product of more than 1,024 terms is that of an expression with as many
  pub mul-many : (d e : Tree) (f g : Sparse) → IsNormal n d f → IsNormal n e g → TakesMore f g 1024 → HasTooManyTerms n (Mul d e)
  mul-many d e f g p q t =
      let h = t n p.below q.below in
      record {
        vectors = h.vectors;
        distinct = h.distinct;
        monomials = λ m i. record {
          size = h.sizes m i;
          nonzero = λ z. h.nonzero m i (product-same (coefficient_at n f) (coefficient_at n g) (normal_coefficient d) (normal_coefficient e) n
              (coefficients-of d f p) (coefficients-of e g q) m (h.sizes m i) ∙ sym (product_is (normal_coefficient d) (normal_coefficient e) m) ∙ z);
        };
        many = h.many;
      }

  -- e^0 has the polynomial of 1
  pub power-none : (e : Tree) (f : Sparse) → IsNormal n (Num (pos 1)) f → IsNormal n (Pow e 0) f
  power-none e f p = normal-of (Pow e 0) f p.form p.below (coefficients-of (Num (pos 1)) f p)

  -- e^(k + 1) has the polynomial of e^k times e
  pub power-more : (e : Tree) (k : ℕ) (f : Sparse) → IsNormal n (Mul (Pow e k) e) f → IsNormal n (Pow e (suc k)) f
  power-more e k f p = normal-of (Pow e (suc k)) f p.form p.below (coefficients-of (Mul (Pow e k) e) f p)

  -- an expression with the normal coefficients of one that has too many terms has too many
  many-same : (d e : Tree) → ((m : List ℕ) → normal_coefficient d m ≡ normal_coefficient e m) → HasTooManyTerms n d → HasTooManyTerms n e
  many-same d e s h = record {
    vectors = h.vectors;
    distinct = h.distinct;
    monomials = λ m i. let t = h.monomials m i in record { size = t.size; nonzero = λ z. t.nonzero (s m ∙ z) };
    many = h.many;
  }

  -- e^(k + 1) has too many terms where e^k times e has
  pub power-many : (e : Tree) (k : ℕ) → HasTooManyTerms n (Mul (Pow e k) e) → HasTooManyTerms n (Pow e (suc k))
  power-many e k = many-same (Mul (Pow e k) e) (Pow e (suc k)) (λ m. refl)

  -- e^k times e has too many terms where e^(k + 1) has
  pub power-many-back : (e : Tree) (k : ℕ) → HasTooManyTerms n (Pow e (suc k)) → HasTooManyTerms n (Mul (Pow e k) e)
  power-many-back e k = many-same (Pow e (suc k)) (Mul (Pow e k) e) (λ m. refl)

  -- ---- lets
  -- the polynomial at place j is the normal polynomial of the let there
  pub let-normal : (es : List Tree) (fs : List Sparse) (j : ℕ) (d : Sparse) → AreNormal n es fs → j < length fs
      → IsNormal n (slice_index_or es j (Num (pos 0))) (get_or fs j d)
  let-normal [] [] j d a l = absurd (omega arith)
  let-normal [] (f ∷ fs) j d a l = absurd a
  let-normal (e ∷ es) [] j d a l = absurd a
  let-normal (e ∷ es) (f ∷ fs) zero d a l = a.0
  let-normal (e ∷ es) (f ∷ fs) (suc j) d a l = let-normal es fs j d a.1 (omega arith)

  -- with one let and its normal polynomial more, each polynomial is still that of its let
  pub lets-more : (es : List Tree) (fs : List Sparse) (e : Tree) (f : Sparse) → AreNormal n es fs → IsNormal n e f → AreNormal n (es ++ e ∷ []) (fs ++ f ∷ [])
  lets-more [] [] e f a p = (p, tt)
  lets-more [] (g ∷ fs) e f a p = absurd a
  lets-more (d ∷ es) [] e f a p = absurd a
  lets-more (d ∷ es) (g ∷ fs) e f a p = (a.0, lets-more es fs e f a.1 p)

  -- the polynomial of a number below 2^127 in size has no term where the number is 0, else one without exponents
  pub number-normal : (c : ℤ) (f : Sparse) → unsigned_abs c < 2 ^ 127 → (c ≡ pos 0 → f ≡ []) → (c ≢ pos 0 → f ≡ ([], c) ∷ []) → IsNormal n (Num c) f
  number-normal c f l h k = by_case (zero_cases c) where
    by_case : (c ≡ pos 0) ⊎ (c ≡ pos 0 → ⊥) → IsNormal n (Num c) f
    by_case (inl e) = subst (λ z. IsNormal n (Num z) f) (sym e) (subst (IsNormal n (Num (pos 0))) (sym (h e)) number-none)
    by_case (inr d) = subst (IsNormal n (Num c)) (sym (k d)) (number-some c (one-term [] c tt d l))

  -- the polynomial of one of the n variables is its first power with the factor 1
  pub input-at : (v : ℕ) (f : Sparse) → v < n → f ≡ ((v, 1) ∷ [], pos 1) ∷ [] → IsNormal n (Input v) f
  input-at v f l h =
      subst (IsNormal n (Input v)) (sym h) (input-normal v l (one-term ((v, 1) ∷ []) (pos 1) (omega arith, omega arith, tt, tt) (λ e. cc) (omega arith)))

  -- the polynomial at the place of a let is the normal polynomial of that let
  pub let-at : (es : List Tree) (fs : List Sparse) (j : ℕ) (d f : Sparse) → AreNormal n es fs → j < length fs → f ≡ get_or fs j d
      → IsNormal n (slice_index_or es j (Num (pos 0))) f
  let-at es fs j d f a l h = subst (IsNormal n (slice_index_or es j (Num (pos 0)))) (sym h) (let-normal es fs j d a l)
