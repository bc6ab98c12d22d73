-- Two polynomials in code with the same coefficients are one list: so a polynomial that differs from the expression's isn't the expression's.
use Rattle.std.proofs.Common.{◌≡◌, ◌⊎◌, inl, inr, ℕ, true, false, List, [], ◌∷◌, length, refl, sym, ◌∙◌, ap, arith, subst, if◌then◌else◌}
use Rattle.std.proofs.Math.IntN.{ℤ, pos, ◌+ℤ◌}
use Rattle.std.proofs.lemmas.Int.{ints}
use Rattle.std.proofs.lemmas.List.Elements.{All-head, All-tail}
use Rattle.std.specs.List.{AllByRecursion}
use Rattle.std.specs.List.Sorted.{IsStrictlySortedBy}
use Rattle.std.specs.Ordering.{is_eq, on}
use Rattle.std.specs.declared.cmp.Ordering.TheVariants.{Less}
use Rattle.ln_algebra.specs.Tree.{Tree}
use Rattle.ln_algebra.specs.Vector.{In, same_vector}
use Rattle.ln_algebra.proofs.Expanded.Normal.{same_vector-refl, zero_cases}
use Rattle.ln_tree.specs.Exps.{IsAbove, IsRising, Pairs, pairs_cmp, same_pairs-ties, vector}
use Rattle.ln_tree.proofs.Powers.{vector-length}
use Rattle.ln_poly.specs.Expansion.{IsNormal}
use Rattle.ln_poly.specs.Sparse.{AreBelow, AreRising, Sparse, coefficient_at}
use Rattle.ln_poly.proofs.Sorting.Collected.{vectors-same}
use Rattle.ln_tree.specs.Exps.{pairs_cmp-total}
use Rattle.ln_stage.specs.Kept.{all_rows}
use Rattle.ln_stage.proofs.Monomials.MonomialLemmas.{IsTerms, rows-monomials, terms-of}
use Rattle.ln_stage.proofs.Walks.PairsLemmas.{same_pairs-refl}
use Rattle.ln_stage.proofs.Results.ResultLemmas.{poly-terms}

-- ---- the order of exponents
less-none : (x : Pairs) → pairs_cmp x x ≡ Less → ⊥
less-none x h =
    let z : is_eq (pairs_cmp x x) ≡ true = sym (same_pairs-ties x x) ∙ same_pairs-refl x in
    let w : is_eq (pairs_cmp x x) ≡ false = ap is_eq h in
    let u : true ≡ false = sym z ∙ w in cc

-- those after a term are later
behind : (n : ℕ) (t : Pairs × ℤ) (f : Sparse) (x : Pairs) → IsRising x → IsAbove x n → AreRising f → AreBelow n f
    → AllByRecursion (λ u. on (λ t. t.0) pairs_cmp t u ≡ Less) f → In (all_rows n f) (vector n x) → pairs_cmp t.0 x ≡ Less
behind n t [] x r a rs bs h i = absurd i
behind n t (u ∷ f) x r a rs bs h (inl e) =
    let q : x ≡ u.0 = vectors-same n x u.0 r (All-head (λ t. IsRising t.0) u f rs) a (All-head (λ t. IsAbove t.0 n) u f bs) e in
    subst (λ (y : Pairs). pairs_cmp t.0 y ≡ Less) (sym q) h.0
behind n t (u ∷ f) x r a rs bs h (inr i) = behind n t f x r a (All-tail (λ t. IsRising t.0) u f rs) (All-tail (λ t. IsAbove t.0 n) u f bs) h.1 i

first-behind : (n : ℕ) (t : Pairs × ℤ) (f : Sparse) (x : Pairs) → IsRising x → IsAbove x n → IsTerms (t ∷ f) → AreBelow n (t ∷ f)
    → In (all_rows n f) (vector n x) → pairs_cmp t.0 x ≡ Less
unfolding IsStrictlySortedBy
first-behind n t f x r a p b i = behind n t f x r a (All-tail (λ t. IsRising t.0) t f p.rising) (All-tail (λ t. IsAbove t.0 n) t f b) p.sorted.0 i

-- ---- coefficients
abbrev part : ℕ → Pairs × ℤ → List ℕ → ℤ
part n t m = if same_vector (vector n t.0) m then t.1 else pos 0

first-part : (n : ℕ) (t : Pairs × ℤ) (f : Sparse) (m : List ℕ) → coefficient_at n (t ∷ f) m ≡ part n t m +ℤ coefficient_at n f m
unfolding coefficient_at
first-part n t f m = refl

own-part : (n : ℕ) (t : Pairs × ℤ) → part n t (vector n t.0) ≡ t.1
own-part n t = rw (same_vector-refl (vector n t.0)) refl

abbrev Agree : ℕ → Sparse → Sparse → Type 0
Agree n f g = (m : List ℕ) → length m ≡ n → coefficient_at n f m ≡ coefficient_at n g m

-- the first term's vector is that of a term of the other
first-there : (n : ℕ) (t : Pairs × ℤ) (f g : Sparse) → IsTerms (t ∷ f) → AreBelow n (t ∷ f) → IsTerms g → AreBelow n g → Agree n (t ∷ f) g
    → In (all_rows n g) (vector n t.0)
first-there n t f g p b q c e =
    let m = (rows-monomials n (t ∷ f) p b).monomials (vector n t.0) (inl refl) in
    (rows-monomials n g q c).all (vector n t.0) (record { size = m.size; nonzero = λ z. m.nonzero (e (vector n t.0) m.size ∙ z) })

-- a term's own coefficient
own : (n : ℕ) (t : Pairs × ℤ) (f : Sparse) → IsTerms (t ∷ f) → AreBelow n (t ∷ f) → coefficient_at n (t ∷ f) (vector n t.0) ≡ t.1
own n t f p b = by_case (zero_cases (coefficient_at n f (vector n t.0)))
  where
    by_case : (coefficient_at n f (vector n t.0) ≡ pos 0) ⊎ (coefficient_at n f (vector n t.0) ≡ pos 0 → ⊥) → coefficient_at n (t ∷ f) (vector n t.0) ≡ t.1
    by_case (inl z) = omega (arith, ints, first-part n t f (vector n t.0), own-part n t, z)
    by_case (inr d) =
        let i = (rows-monomials n f (terms-of t f p) (All-tail (λ t. IsAbove t.0 n) t f b)).all (vector n t.0)
        (record { size = vector-length n t.0; nonzero = d }) in
        absurd (less-none t.0 (first-behind n t f t.0 (All-head (λ t. IsRising t.0) t f p.rising) (All-head (λ t. IsAbove t.0 n) t f b) p b i))

same-terms : (n : ℕ) (f g : Sparse) → IsTerms f → AreBelow n f → IsTerms g → AreBelow n g → Agree n f g → f ≡ g
same-terms n [] [] p b q c e = refl
same-terms n [] (u ∷ g) p b q c e = absurd (first-there n u g [] q c p b (λ m h. sym (e m h)))
same-terms n (t ∷ f) [] p b q c e = absurd (first-there n t f [] p b q c e)
same-terms n (t ∷ f) (u ∷ g) p b q c e = join heads
    (λ y. same-terms n f g (terms-of t f p) (All-tail (λ t. IsAbove t.0 n) t f b) (terms-of u g q) (All-tail (λ t. IsAbove t.0 n) u g c) (rest y))
  where
    rt : IsRising t.0
    rt = All-head (λ t. IsRising t.0) t f p.rising

    at : IsAbove t.0 n
    at = All-head (λ t. IsAbove t.0 n) t f b

    ru : IsRising u.0
    ru = All-head (λ t. IsRising t.0) u g q.rising

    au : IsAbove u.0 n
    au = All-head (λ t. IsAbove t.0 n) u g c

    pick : (vector n t.0 ≡ vector n u.0) ⊎ In (all_rows n g) (vector n t.0) → (vector n u.0 ≡ vector n t.0) ⊎ In (all_rows n f) (vector n u.0) → t.0 ≡ u.0
    pick (inl v) j = vectors-same n t.0 u.0 rt ru at au v
    pick (inr i) (inl v) = sym (vectors-same n u.0 t.0 ru rt au at v)
    pick (inr i) (inr j) = absurd (less-none u.0 (pairs_cmp-total.trans u.0 t.0 u.0 (first-behind n u g t.0 rt at q c i) (first-behind n t f u.0 ru au p b j)))

    heads : t.0 ≡ u.0
    heads = pick (first-there n t f (u ∷ g) p b q c e) (first-there n u g (t ∷ f) q c p b (λ m h. sym (e m h)))

    factors : t.1 ≡ u.1
    factors =
        let x : vector n t.0 ≡ vector n u.0 = ap (vector n) heads in
        sym (own n t f p b) ∙ e (vector n t.0) (vector-length n t.0) ∙ ap (coefficient_at n (u ∷ g)) x ∙ own n u g q c

    rest : t.0 ≡ u.0 → Agree n f g
    rest y m h =
        let a : part n t m ≡ part n u m = let z = factors in λ i. if same_vector (vector n (y i)) m then z i else pos 0 in
        omega (arith, ints, e m h, first-part n t f m, first-part n u g m, a)

    join : t.0 ≡ u.0 → (t.0 ≡ u.0 → f ≡ g) → t ∷ f ≡ u ∷ g
    join y r = let z = factors in let w = r y in λ i. (y i, z i) ∷ w i

-- two polynomials in code that are the expression's are one
pub one-normal : (n : ℕ) (t : Tree) (f g : Sparse) → IsNormal n t f → IsNormal n t g → f ≡ g
unfolding coefficient_at
one-normal n t f g p q =
    same-terms n f g (poly-terms f p.form) p.below (poly-terms g q.form) q.below (λ m h. p.normal.coefficients m h ∙ sym (q.normal.coefficients m h))
