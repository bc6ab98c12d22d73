-- Where the size of a closed tree is within the limit, it has a normal polynomial.
use Rattle.std.proofs.Common.{◌≡◌, ◌⊎◌, inl, inr, ℕ, ◌*◌, ◌<◌, ◌≤◌, ◌^◌, refl, sym, ◌∙◌, ap, subst, arith, true, Bool, false}
use Rattle.std.proofs.Common.{if◌then◌else◌, List, [], ◌∷◌, length, map, unsigned_abs}
use Rattle.std.proofs.Math.Nat.{le-mul_of_pos_right}
use Rattle.std.proofs.lemmas.Int.{ints}
use Rattle.std.proofs.lemmas.Nat.{pow_pos}
use Rattle.std.proofs.lemmas.List.Elements.{All-cons, All-nil}
use Rattle.std.proofs.Math.IntN.{pos}
use Rattle.ln_algebra.proofs.Bounding.Weights.{weighted-expanded}
use Rattle.ln_algebra.proofs.Expanded.Expansion.{Over-expanded, expanded}
use Rattle.ln_algebra.proofs.Expanded.Normal.{normal_is, zero_cases}
use Rattle.ln_algebra.specs.Sizes.{two}
use Rattle.ln_algebra.specs.Terms.{Over, Term, factor_at}
use Rattle.ln_algebra.specs.Tree.{Tree}
use Rattle.ln_algebra.specs.Vector.{same_vector, total_degree}
use Rattle.ln_algebra.specs.Weights.{monomial_weight, weighted_sum}
use Rattle.ln_bound.specs.Light.{AreLight as HaveWeights, most}
use Rattle.ln_bound.specs.Loads.{loaded_pred}
use Rattle.ln_tree.specs.declared.shape.VarInfo.{VarInfo}
use Rattle.ln_tree.specs.Exps.{IsAbove, Pairs, exponents_from, vector}
use Rattle.ln_tree.specs.Fits.{is_fit, lets_fit}
use Rattle.ln_tree.specs.Formula.{Formula, tree}
use Rattle.ln_poly.specs.Expansion.{HasNormal, closed_lets, closed_root}
use Rattle.ln_poly.specs.Packed.{pairs_from}
use Rattle.ln_poly.specs.Ready.{IsLight}
use Rattle.ln_poly.specs.Sparse.{AreBelow, IsPoly, Sparse, coefficient_at, part_at, size_of}
use Rattle.ln_poly.proofs.Expansions.Lets.{degree-weight, root-light}
use Rattle.ln_poly.proofs.Expansions.Normals.{normal-of}
use Rattle.ln_poly.proofs.Loads.Room.{times-le-left, two-power, two-sizes}
use Rattle.ln_poly.proofs.Loads.Sizing.{light-pred}
use Rattle.ln_poly.proofs.Loads.Weighing.{abs-some}
use Rattle.ln_poly.proofs.Sorting.Added.{HasSum, sum-exists}
use Rattle.ln_poly.proofs.TermLists.Coefficients.{coefficient_at-cons, coefficient_at-nil, size-cons, size-nil}
use Rattle.ln_poly.proofs.TermLists.Leaves.{no-terms, one-term}
use Rattle.ln_poly.proofs.TermLists.Vectors.{pairs-above, pairs-rising, pairs-vector}

-- ---- one term
-- the polynomial of one term over n variables
record HasTerm (n : ℕ) (t : Term) : Type 0 where
  pairs : Pairs
  form : IsPoly ((pairs, t.factor) ∷ [])
  below : IsAbove pairs n
  vector_is : vector n pairs ≡ t.exponents
  small : unsigned_abs t.factor ≤ unsigned_abs t.factor * monomial_weight two t.exponents

term-exists : (n : ℕ) (t : Term) → length t.exponents ≡ n → (t.factor ≡ pos 0 → ⊥)
    → unsigned_abs t.factor * monomial_weight two t.exponents ≤ most → HasTerm n t
term-exists n t e z l =
    let m = t.exponents in
    let w = monomial_weight two m in
    let d : 2 ^ total_degree m ≤ w = degree-weight n two m (two-sizes n) e in
    let s : w ≤ unsigned_abs t.factor * w = times-le-left w (unsigned_abs t.factor) (abs-some t.factor z) in
    let some : 0 < w = omega (arith, d, pow_pos (total_degree m)) in
    let a : total_degree m < 127 = two-power (total_degree m) w d (omega (arith, s, l)) in
    let c : unsigned_abs t.factor ≤ unsigned_abs t.factor * w = le-mul_of_pos_right (unsigned_abs t.factor) some in
    record {
      pairs = pairs_from 0 m;
      form = one-term (pairs_from 0 m) t.factor (pairs-rising 0 m (omega (arith, a))) z (omega (arith, c, l));
      below = pairs-above 0 n m (omega (arith, e));
      vector_is = subst (λ k. exponents_from 0 k (pairs_from 0 m) ≡ m) e (pairs-vector 0 m);
      small = c;
    }

-- ---- a list of terms
-- a polynomial that has its coefficients
record HasPoly (n : ℕ) (g : List Term) : Type 0 where
  poly : Sparse
  form : IsPoly poly
  below : AreBelow n poly
  size : size_of poly ≤ weighted_sum two g
  coefficients : (m : List ℕ) → coefficient_at n poly m ≡ factor_at g m

part-is : (n : ℕ) (ps : Pairs) (t : Term) (m : List ℕ) → vector n ps ≡ t.exponents
    → part_at n (ps, t.factor) m ≡ (if same_vector t.exponents m then t.factor else pos 0)
unfolding part_at
part-is n ps t m e = ap (λ (u : List ℕ). if same_vector u m then t.factor else pos 0) e

one-coefficient : (n : ℕ) (ps : Pairs) (t : Term) (m : List ℕ) → vector n ps ≡ t.exponents
    → coefficient_at n ((ps, t.factor) ∷ []) m ≡ (if same_vector t.exponents m then t.factor else pos 0)
one-coefficient n ps t m e = omega (arith, ints, coefficient_at-cons n m (ps, t.factor) [], coefficient_at-nil n m, part-is n ps t m e)

-- one term more
put-term : (n : ℕ) (t : Term) (g : List Term) → weighted_sum two (t ∷ g) ≤ most → HasTerm n t → HasPoly n g → HasPoly n (t ∷ g)
put-term n t g l o h =
    let f : Sparse = (o.pairs, t.factor) ∷ [] in
    let b : size_of f ≡ unsigned_abs t.factor = omega (arith, size-cons (o.pairs, t.factor) [], size-nil) in
    let s : HasSum f h.poly = sum-exists f h.poly o.form h.form (omega (arith, b, o.small, h.size, l)) in
    record {
      poly = s.poly;
      form = s.form;
      below = s.below n (All-cons (λ z. IsAbove z.0 n) (o.pairs, t.factor) [] o.below (All-nil (λ z. IsAbove z.0 n))) h.below;
      size = omega (arith, s.size, b, o.small, h.size);
      coefficients = λ m. omega (arith, ints, s.coefficients n m, one-coefficient n o.pairs t m o.vector_is, h.coefficients m);
    }

-- a term that is 0
drop-term : (n : ℕ) (t : Term) (g : List Term) → t.factor ≡ pos 0 → HasPoly n g → HasPoly n (t ∷ g)
drop-term n t g e h = record {
  poly = h.poly;
  form = h.form;
  below = h.below;
  size = omega (arith, h.size);
  coefficients = λ m. omega (arith, ints, h.coefficients m, nothing m (same_vector t.exponents m));
} where
  nothing : (m : List ℕ) (b : Bool) → (if b then t.factor else pos 0) ≡ pos 0
  nothing m true = e
  nothing m false = refl

poly-exists : (n : ℕ) (g : List Term) → Over n g → weighted_sum two g ≤ most → HasPoly n g
poly-exists n [] o l = record {
  poly = [];
  form = no-terms;
  below = All-nil (λ z. IsAbove z.0 n);
  size = omega (arith, size-nil);
  coefficients = λ m. coefficient_at-nil n m;
}
poly-exists n (t ∷ g) o l = by_factor (zero_cases t.factor) (poly-exists n g o.1 (omega (arith, l))) where
  by_factor : (t.factor ≡ pos 0) ⊎ (t.factor ≡ pos 0 → ⊥) → HasPoly n g → HasPoly n (t ∷ g)
  by_factor (inl e) h = drop-term n t g e h
  by_factor (inr z) h = put-term n t g l (term-exists n t o.0 z (omega (arith, l))) h

-- ---- the normal polynomial
-- a closed tree that weighs at most 2^127 - 1 has a normal polynomial, where each variable weighs 2
pub tree-normal : (n : ℕ) (e : Tree) → IsLight n two e → HasNormal n e
tree-normal n e l =
    let h : HasPoly n (expanded n e) = poly-exists n (expanded n e) (Over-expanded n e) (omega (arith, weighted-expanded two n e l.inputs, l.light)) in
    (h.poly, normal-of n e h.poly h.form h.below (λ m k. h.coefficients m ∙ sym (normal_is n e l.inputs m k)))

-- so has the root of a predicate where no range and no size of a node exceeds the limit
pub root-normal : (vars : List VarInfo) (k : ℕ) (lets : List Formula) (root : Formula) → lets_fit (length vars) 0 (map (tree vars) lets) ≡ true
    → is_fit (length vars) k (tree vars root) ≡ true → HaveWeights (loaded_pred vars lets root) → HasNormal (length vars) (closed_root vars lets root)
root-normal vars k lets root g h l =
    let r = light-pred vars k lets root g h l in
    tree-normal (length vars) (closed_root vars lets root) (root-light (length vars) two (closed_lets vars lets) (tree vars root) r.1)
