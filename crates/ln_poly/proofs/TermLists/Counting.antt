-- A normal polynomial has as many terms as there are monomials.
use Rattle.std.proofs.Common.{◌≡◌, ◌≢◌, ℕ, ◌+◌, ◌<◌, ◌≤◌, suc, refl, sym, ◌∙◌, ap, arith, All, List, [], ◌∷◌, length, map, Bool, true}
use Rattle.std.proofs.Common.{false, if◌then◌else◌, ◌⊎◌, inl, inr}
use Rattle.std.proofs.Math.IntN.{pos, ◌+ℤ◌}
use Rattle.std.proofs.lemmas.Int.{ints}
use Rattle.std.proofs.lemmas.List.Elements.{All-head, All-tail}
use Rattle.ln_base.specs.declared.span.Span.{Span}
use Rattle.std.specs.Prelude.{nat_lt}
use Rattle.std.proofs.lemmas.Bool.{cases_lt, ltb-false}
use Rattle.ln_algebra.proofs.Expanded.Degree.{coefficient-above}
use Rattle.ln_algebra.proofs.Expanded.Normal.{same_vector-is, same_vector-refl}
use Rattle.ln_algebra.specs.Coefficient.{normal_coefficient}
use Rattle.ln_algebra.specs.Stage.{IsMonomial}
use Rattle.ln_algebra.specs.Terms.{IsCollected, Lacks, Over, Term, factor_at}
use Rattle.ln_algebra.specs.Tree.{Tree, degree_of}
use Rattle.ln_algebra.specs.Vector.{In, same_vector, total_degree}
use Rattle.ln_algebra.proofs.Bounding.Weights.{Lacks-factor_at}
use Rattle.ln_tree.specs.Exps.{vector}
use Rattle.ln_poly.specs.Sparse.{IsFactor, IsPoly, Sparse, terms_of}
use Rattle.ln_poly.specs.Expansion.{AreDistinct, HasTooManyTerms, IsNormal, IsTermsFault, IsZeroFault}
use Rattle.ln_poly.specs.Ready.{Expands}
use Rattle.ln_poly.proofs.Sorting.Collected.{collected}

-- the exponents of the terms
abbrev pub vectors : List Term → List (List ℕ)
vectors f = map (λ t. t.exponents) f

-- each factor differs from 0
abbrev AreNonzero : List Term → Type 0
AreNonzero [] = Unit {0}
AreNonzero (t ∷ f) = (t.factor ≢ pos 0) × AreNonzero f

-- ---- members and coefficients
lacks-not_in : (f : List Term) (m : List ℕ) → Lacks f m → In (vectors f) m → ⊥
lacks-not_in [] m l i = i
lacks-not_in (t ∷ f) m l (inl e) = let x : same_vector t.exponents m ≡ true = rw e (same_vector-refl t.exponents) in let y : true ≡ false = sym x ∙ l.0 in cc
lacks-not_in (t ∷ f) m l (inr i) = lacks-not_in f m l.1 i

-- the coefficient at a term's vector isn't 0, where like monomials are collected and no factor is 0
pub in-nonzero : (f : List Term) (m : List ℕ) → IsCollected f → AreNonzero f → In (vectors f) m → factor_at f m ≢ pos 0
in-nonzero [] m c z i e = i
in-nonzero (t ∷ f) m c z (inl q) e =
    let x : same_vector t.exponents m ≡ true = rw q (same_vector-refl t.exponents) in
    let y : factor_at f m ≡ pos 0 = ap (factor_at f) q ∙ Lacks-factor_at f t.exponents c.0 in
    let w : t.factor +ℤ factor_at f m ≡ pos 0 = rw x at e in
    z.0 (omega (arith, ints, w, y))
in-nonzero (t ∷ f) m c z (inr i) e = by_case (in-nonzero f m c.1 z.1 i) (same_vector t.exponents m) refl where
  by_case : (factor_at f m ≢ pos 0) → (b : Bool) → same_vector t.exponents m ≡ b → ⊥
  by_case ih true q = lacks-not_in f t.exponents c.0 (let g : t.exponents ≡ m = same_vector-is t.exponents m q in rw g i)
  by_case ih false q = let w : pos 0 +ℤ factor_at f m ≡ pos 0 = rw q at e in ih (omega (arith, ints, w))

-- a vector whose coefficient isn't 0 is one of a term
pub nonzero-in : (f : List Term) (m : List ℕ) → factor_at f m ≢ pos 0 → In (vectors f) m
nonzero-in [] m h = absurd (h refl)
nonzero-in (t ∷ f) m h = by_case (nonzero-in f m) (same_vector t.exponents m) refl where
  by_case : ((factor_at f m ≢ pos 0) → In (vectors f) m) → (b : Bool) → same_vector t.exponents m ≡ b → In (vectors (t ∷ f)) m
  by_case ih true q = inl (sym (same_vector-is t.exponents m q))
  by_case ih false q = inr (ih (λ e. h (rw q (omega (arith, ints, e)))))

-- where like monomials are collected, no two terms have the same vector
pub distinct-vectors : (f : List Term) → IsCollected f → AreDistinct (vectors f)
distinct-vectors [] c = tt
distinct-vectors (t ∷ f) c = (lacks-not_in f t.exponents c.0, distinct-vectors f c.1)

-- each vector of terms over n variables has n exponents
pub over-length : (n : ℕ) (f : List Term) (m : List ℕ) → Over n f → In (vectors f) m → length m ≡ n
over-length n [] m o i = absurd i
over-length n (t ∷ f) m o (inl e) = rw e o.0
over-length n (t ∷ f) m o (inr i) = over-length n f m o.1 i

-- no factor of a polynomial is 0
pub nonzero-terms : (n : ℕ) (f : Sparse) → IsPoly f → AreNonzero (terms_of n f)
nonzero-terms n f p = go f p.factors where
  go : (g : Sparse) → All (λ t. IsFactor t.1) g → AreNonzero (terms_of n g)
  go [] a = tt
  go (t ∷ g) a = ((All-head (λ z. IsFactor z.1) t g a).0, go g (All-tail (λ z. IsFactor z.1) t g a))

-- there are as many vectors as terms
pub length-vectors : (n : ℕ) (f : Sparse) → length (vectors (terms_of n f)) ≡ length f
length-vectors n [] = refl
length-vectors n (t ∷ f) = ap suc (length-vectors n f)

-- ---- a list of different members of another is no longer
abbrev remove : List ℕ → List (List ℕ) → List (List ℕ)
remove m [] = []
remove m (y ∷ ys) = if same_vector y m then ys else y ∷ remove m ys

remove-length : (m : List ℕ) (ys : List (List ℕ)) → In ys m → length (remove m ys) + 1 ≡ length ys
remove-length m [] i = absurd i
remove-length m (y ∷ ys) i = by_case (remove-length m ys) (same_vector y m) refl i where
  by_case : (In ys m → length (remove m ys) + 1 ≡ length ys) → (b : Bool) → same_vector y m ≡ b → In (y ∷ ys) m
      → length (if b then ys else y ∷ remove m ys) + 1 ≡ length (y ∷ ys)
  by_case ih true q j = omega arith
  by_case ih false q (inl e) = let x : same_vector y m ≡ true = rw e (same_vector-refl y) in let z : true ≡ false = sym x ∙ q in cc
  by_case ih false q (inr j) = omega (arith, ih j)

remove-in : (m k : List ℕ) (ys : List (List ℕ)) → (k ≡ m → ⊥) → In ys k → In (remove m ys) k
remove-in m k [] d i = i
remove-in m k (y ∷ ys) d i = by_case (remove-in m k ys d) (same_vector y m) refl i where
  by_case : (In ys k → In (remove m ys) k) → (b : Bool) → same_vector y m ≡ b → In (y ∷ ys) k → In (if b then ys else y ∷ remove m ys) k
  by_case ih true q (inl e) = absurd (d (e ∙ same_vector-is y m q))
  by_case ih true q (inr j) = j
  by_case ih false q (inl e) = inl e
  by_case ih false q (inr j) = inr (ih j)

-- where each member of one list of different vectors is in another, it is no longer
pub distinct-length : (xs ys : List (List ℕ)) → AreDistinct xs → ((m : List ℕ) → In xs m → In ys m) → length xs ≤ length ys
distinct-length [] ys d h = omega arith
distinct-length (x ∷ xs) ys d h =
    let r : length xs ≤ length (remove x ys) =
    distinct-length xs (remove x ys) d.1 (λ m i. remove-in x m ys (λ e. d.0 (let j : In xs m = i in rw e at j)) (h m (inr i))) in
    omega (arith, r, remove-length x ys (h x (inl refl)))

-- ---- normal polynomials
monomial-in : (n : ℕ) (e : Tree) (f : Sparse) (m : List ℕ) → IsNormal n e f → IsMonomial n e m → In (vectors (terms_of n f)) m
monomial-in n e f m p k = nonzero-in (terms_of n f) m (λ z. k.nonzero (sym (p.normal.coefficients m k.size) ∙ z))

in-monomial : (n : ℕ) (e : Tree) (f : Sparse) (m : List ℕ) → IsNormal n e f → In (vectors (terms_of n f)) m → IsMonomial n e m
in-monomial n e f m p i =
    let s : length m ≡ n = over-length n (terms_of n f) m p.normal.over i in
    record { size = s; nonzero = λ z. in-nonzero (terms_of n f) m (collected n f p.form p.below) (nonzero-terms n f p.form) i (p.normal.coefficients m s ∙ z) }

-- a normal polynomial of at most 1,024 terms
pub few-terms : (n : ℕ) (e : Tree) (f : Sparse) → IsNormal n e f → length f ≤ 1024 → HasTooManyTerms n e → ⊥
few-terms n e f p l h =
    let k : length h.vectors ≤ length (vectors (terms_of n f)) =
    distinct-length h.vectors (vectors (terms_of n f)) h.distinct (λ m i. monomial-in n e f m p (h.monomials m i)) in
    absurd (omega (arith, k, length-vectors n f, h.many))

-- and of more
pub many-terms : (n : ℕ) (e : Tree) (f : Sparse) → IsNormal n e f → 1024 < length f → HasTooManyTerms n e
many-terms n e f p l = record {
  vectors = vectors (terms_of n f);
  distinct = distinct-vectors (terms_of n f) (collected n f p.form p.below);
  monomials = λ m i. in-monomial n e f m p i;
  many = omega (arith, l, length-vectors n f);
}

-- a root without a coefficient up to its degree has no term, and the other way round
pub no-terms-zero : (n : ℕ) (e : Tree) (f : Sparse) → IsNormal n e f → f ≡ [] → IsZeroFault n e
no-terms-zero n e f p h m l d = sym (p.normal.coefficients m l) ∙ ap (λ (g : Sparse). factor_at (terms_of n g) m) h

-- the normal polynomial of a root that is 0 has no term
pub zero-no-terms : (n : ℕ) (e : Tree) (f : Sparse) → IsNormal n e f → IsZeroFault n e → f ≡ []
zero-no-terms n e [] p z = refl
zero-no-terms n e (t ∷ f) p z =
    let m : List ℕ = vector n t.0 in
    let l : length m ≡ n = over-length n (terms_of n (t ∷ f)) m p.normal.over (inl refl) in
    absurd (in-nonzero (terms_of n (t ∷ f)) m (collected n (t ∷ f) p.form p.below) (nonzero-terms n (t ∷ f) p.form) (inl refl)
    (p.normal.coefficients m l ∙ by_degree l (cases_lt (degree_of e) (total_degree m))))
  where
    by_degree : length (vector n t.0) ≡ n → (degree_of e < total_degree (vector n t.0)) ⊎ (total_degree (vector n t.0) ≤ degree_of e)
        → normal_coefficient e (vector n t.0) ≡ pos 0
    by_degree l (inl h) = coefficient-above (λ _. true) (λ _. pos 0) e (vector n t.0) h
    by_degree l (inr h) = z (vector n t.0) l h

-- the results of the count
pub counted-few : (n : ℕ) (at : Span) (e : Tree) (f : Sparse) → length f ≤ 1024 → IsNormal n e f → Expands n ((at, e) ∷ []) e f
counted-few n at e f l p = record { normal = p; terms = l; few = (few-terms n e f p l, tt) }

-- in `counted` a node with more than 1,024 terms is the first that has too many
pub counted-many : (n : ℕ) (at : Span) (e : Tree) (f : Sparse) → 1024 < length f → IsNormal n e f → IsTermsFault n ((at, e) ∷ []) at
counted-many n at e f l p = record { before = []; node = e; after = []; stands = refl; few = tt; many = many-terms n e f p l }

-- where the test for more than 1,024 fails, there are at most 1,024
pub few_test : (n : ℕ) → nat_lt 1024 n ≡ false → n ≤ 1024
few_test n h = ltb-false 1024 n h
