-- The monomials of a polynomial are the vectors of its terms, each once.
use Rattle.std.proofs.Common.{◌≡◌, ◌≢◌, ◌⊎◌, inl, inr, ℕ, ◌<◌, Bool, true, false, List, [], ◌∷◌, length, get_or, refl, sym, ◌∙◌, ap, arith, ℤ, pos, ◌+ℤ◌}
use Rattle.std.specs.Prelude.{All}
use Rattle.std.specs.List.{AllByRecursion}
use Rattle.std.specs.List.Sorted.{IsStrictlySortedBy}
use Rattle.std.specs.Ordering.{is_eq, on}
use Rattle.std.specs.declared.cmp.Ordering.TheVariants.{Less}
use Rattle.std.proofs.lemmas.Bool.{cases_lt}
use Rattle.std.proofs.lemmas.Int.{ints}
use Rattle.std.proofs.lemmas.List.{get_or_past}
use Rattle.std.proofs.lemmas.List.Elements.{All-head, All-tail}
use Rattle.ln_algebra.specs.Vector.{In, same_vector}
use Rattle.ln_algebra.specs.Walk.{AllBelow}
use Rattle.ln_algebra.proofs.Expanded.Normal.{same_vector-is, same_vector-refl}
use Rattle.ln_tree.specs.Exps.{IsAbove, IsRising, Pairs, pairs_cmp, same_pairs, same_pairs-ties, vector}
use Rattle.ln_tree.proofs.Powers.{vector-get, vector-length}
use Rattle.ln_poly.proofs.TermLists.Exponents.{exponent-small}
use Rattle.ln_poly.specs.Sparse.{AreBelow, AreRising, IsFactor, IsPoly, Sparse, coefficient_at}
use Rattle.ln_poly.proofs.Sorting.Collected.{vectors-same}
use Rattle.ln_stage.specs.Kept.{all_rows}
use Rattle.ln_stage.proofs.Walks.PairsLemmas.{same_pairs-refl}
use Rattle.ln_stage.proofs.Monomials.StageLemmas.{AreMonomialsOf}

-- ---- one term and the others
-- a coefficient, where the first term hasn't the vector
skips : (n : ℕ) (t : Pairs × ℤ) (f : Sparse) (m : List ℕ) → same_vector (vector n t.0) m ≡ false → coefficient_at n (t ∷ f) m ≡ coefficient_at n f m
unfolding coefficient_at
skips n t f m h = rw h (omega (arith, ints))

takes : (n : ℕ) (t : Pairs × ℤ) (f : Sparse) (m : List ℕ) → same_vector (vector n t.0) m ≡ true → coefficient_at n (t ∷ f) m ≡ t.1 +ℤ coefficient_at n f m
unfolding coefficient_at
takes n t f m h = rw h refl

nothing : (n : ℕ) (m : List ℕ) → coefficient_at n [] m ≡ pos 0
unfolding coefficient_at
nothing n m = refl

-- no term has the vector
lacks : (n : ℕ) (f : Sparse) (m : List ℕ) → (In (all_rows n f) m → ⊥) → coefficient_at n f m ≡ pos 0
lacks n [] m h = nothing n m
lacks n (t ∷ f) m h = by_case (same_vector (vector n t.0) m) refl (lacks n f m (λ i. h (inr i))) where
  by_case : (b : Bool) → same_vector (vector n t.0) m ≡ b → coefficient_at n f m ≡ pos 0 → coefficient_at n (t ∷ f) m ≡ pos 0
  by_case true q ih = absurd (h (inl (sym (same_vector-is (vector n t.0) m q))))
  by_case false q ih = skips n t f m q ∙ ih

-- a vector is there or not
is_in : (ms : List (List ℕ)) (m : List ℕ) → In ms m ⊎ (In ms m → ⊥)
is_in [] m = inr (λ i. i)
is_in (x ∷ ms) m = by_case (same_vector m x) refl (is_in ms m) where
  by_case : (b : Bool) → same_vector m x ≡ b → In ms m ⊎ (In ms m → ⊥) → In (x ∷ ms) m ⊎ (In (x ∷ ms) m → ⊥)
  by_case true q ih = inl (inl (same_vector-is m x q))
  by_case false q (inl i) = inl (inr i)
  by_case false q (inr n) = inr (λ k. not k) where
    not : In (x ∷ ms) m → ⊥
    not (inl e) = let z : same_vector m x ≡ true = rw e (same_vector-refl x) in let w : true ≡ false = sym z ∙ q in cc
    not (inr i) = n i

-- ---- distinct terms
less-differs : (x y : Pairs) → pairs_cmp x y ≡ Less → x ≢ y
less-differs x y h e =
    let z : is_eq (pairs_cmp x y) ≡ true = sym (same_pairs-ties x y) ∙ ap (same_pairs x) (sym e) ∙ same_pairs-refl x in
    let w : is_eq (pairs_cmp x y) ≡ false = ap is_eq h in
    let u : true ≡ false = sym z ∙ w in cc

-- the pairs of a later term aren't these
others : (n : ℕ) (x : Pairs) (f : Sparse) → IsRising x → IsAbove x n → AreRising f → AreBelow n f
    → AllByRecursion (λ t. on (λ t. t.0) pairs_cmp (x, pos 0) t ≡ Less) f → In (all_rows n f) (vector n x) → ⊥
others n x [] r a rs bs h i = i
others n x (t ∷ f) r a rs bs h (inl e) =
    less-differs x t.0 h.0 (vectors-same n x t.0 r (All-head (λ t. IsRising t.0) t f rs) a (All-head (λ t. IsAbove t.0 n) t f bs) e)
others n x (t ∷ f) r a rs bs h (inr i) = others n x f r a (All-tail (λ t. IsRising t.0) t f rs) (All-tail (λ t. IsAbove t.0 n) t f bs) h.1 i

-- terms strictly sorted by their monomials, each with rising variables and a coefficient that is a factor
pub record IsTerms (f : Sparse) : Type 0 where
  pub sorted : IsStrictlySortedBy (on (λ t. t.0) pairs_cmp) f
  pub rising : AreRising f
  pub factors : All (λ t. IsFactor t.1) f

-- the terms of a polynomial are sorted, have rising variables, and have factors as coefficients
pub poly-terms : (f : Sparse) → IsPoly f → IsTerms f
poly-terms f p = record { sorted = p.sorted; rising = p.rising; factors = p.factors }

-- so are those after the first
pub terms-of : (t : Pairs × ℤ) (f : Sparse) → IsTerms (t ∷ f) → IsTerms f
unfolding IsStrictlySortedBy
terms-of t f p = record { sorted = p.sorted.1; rising = All-tail (λ t. IsRising t.0) t f p.rising; factors = All-tail (λ t. IsFactor t.1) t f p.factors }

first-alone : (n : ℕ) (t : Pairs × ℤ) (f : Sparse) → IsTerms (t ∷ f) → AreBelow n (t ∷ f) → In (all_rows n f) (vector n t.0) → ⊥
unfolding IsStrictlySortedBy
first-alone n t f p b i = others n t.0 f (All-head (λ t. IsRising t.0) t f p.rising) (All-head (λ t. IsAbove t.0 n) t f b)
    (All-tail (λ t. IsRising t.0) t f p.rising) (All-tail (λ t. IsAbove t.0 n) t f b) p.sorted.0 i

-- each row has a coefficient that isn't 0
row-nonzero : (n : ℕ) (f : Sparse) → IsTerms f → AreBelow n f → (m : List ℕ) → In (all_rows n f) m → coefficient_at n f m ≢ pos 0
row-nonzero n [] p b m i z = absurd i
row-nonzero n (t ∷ f) p b m (inl e) z =
    let alone : In (all_rows n f) m → ⊥ = λ i. first-alone n t f p b (rw e at i) in
    let q : same_vector (vector n t.0) m ≡ true = rw e (same_vector-refl (vector n t.0)) in
    let v : t.1 ≡ pos 0 = omega (arith, ints, takes n t f m q, lacks n f m alone, z) in
    (All-head (λ t. IsFactor t.1) t f p.factors).0 v
row-nonzero n (t ∷ f) p b m (inr i) z = by_case (same_vector (vector n t.0) m) refl (row-nonzero n f (terms-of t f p) (All-tail (λ t. IsAbove t.0 n) t f b) m i)
  where
    by_case : (x : Bool) → same_vector (vector n t.0) m ≡ x → (coefficient_at n f m ≡ pos 0 → ⊥) → ⊥
    by_case true q ih = first-alone n t f p b (let e : m ≡ vector n t.0 = sym (same_vector-is (vector n t.0) m q) in rw e at i)
    by_case false q ih = ih (sym (skips n t f m q) ∙ z)

row-size : (n : ℕ) (f : Sparse) (m : List ℕ) → In (all_rows n f) m → length m ≡ n
row-size n [] m i = absurd i
row-size n (t ∷ f) m (inl e) = rw e (vector-length n t.0)
row-size n (t ∷ f) m (inr i) = row-size n f m i

-- the exponent vectors of the terms are the monomials of the polynomial
pub rows-monomials : (n : ℕ) (f : Sparse) → IsTerms f → AreBelow n f → AreMonomialsOf n f (all_rows n f)
rows-monomials n f p b = record {
  monomials = λ m i. record { size = row-size n f m i; nonzero = row-nonzero n f p b m i };
  all = λ m k. elim (is_in (all_rows n f) m) [ inl i ↦ i | inr h ↦ absurd (k.nonzero (lacks n f m h)) ];
}

-- ---- small exponents
-- in the exponent vector of rising pairs each exponent is below 128
pub vector-small : (n : ℕ) (ps : Pairs) (v : ℕ) → IsRising ps → get_or (vector n ps) v 0 < 128
vector-small n ps v r = elim (cases_lt v n) [
  | inl l ↦ omega (arith, vector-get n v ps l, exponent-small ps v r)
  | inr l ↦ omega (arith, get_or_past (vector n ps) v 0 (omega (arith, l, vector-length n ps)))
]

-- the exponents of all terms are below 128
pub rows-small : (n : ℕ) (f : Sparse) → AreRising f → AllBelow 128 (all_rows n f)
rows-small n [] r m v i = absurd i
rows-small n (t ∷ f) r m v (inl e) = rw e (vector-small n t.0 v (All-head (λ t. IsRising t.0) t f r))
rows-small n (t ∷ f) r m v (inr i) = rows-small n f (All-tail (λ t. IsRising t.0) t f r) m v i
