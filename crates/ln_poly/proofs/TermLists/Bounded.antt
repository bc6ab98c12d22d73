-- Products of a part of the rows after the other, and how many terms the remaining rows can take away.
use Rattle.std.proofs.Common.{◌≡◌, ◌⊎◌, inl, inr, ℕ, ◌+◌, ◌*◌, ◌-◌, ◌<◌, ◌≤◌, zero, suc, refl, sym, ◌∙◌, ap, subst, arith, List}
use Rattle.std.proofs.Common.{[], ◌∷◌, ◌++◌, length, take, drop, length-append}
use Rattle.std.proofs.Math.IntN.{ℤ, pos, ◌+ℤ◌}
use Rattle.std.proofs.lemmas.Int.{ints}
use Rattle.std.proofs.lemmas.List.{length-drop, length-map, take-append-drop, take_all}
use Rattle.ln_algebra.specs.Coefficient.{product}
use Rattle.ln_algebra.specs.Terms.{Term, factor_at}
use Rattle.ln_algebra.specs.Vector.{In, sum_over}
use Rattle.ln_algebra.proofs.Expanded.Expansion.{times, times_term}
use Rattle.ln_algebra.proofs.Expanded.Normal.{zero_cases}
use Rattle.ln_algebra.proofs.Expanded.Product.{factor_at-times}
use Rattle.ln_algebra.proofs.Expanded.Sums.{sum_over-append}
use Rattle.ln_poly.specs.Rows.{IsRows, row_at}
use Rattle.ln_poly.specs.Sparse.{AreBelow, IsPoly, Sparse, coefficient_at, terms_of}
use Rattle.ln_poly.specs.Expansion.{AreDistinct}
use Rattle.ln_poly.specs.Within.{HasMoreTerms, TakesMore}
use Rattle.ln_poly.proofs.Sorting.Collected.{collected}
use Rattle.ln_poly.proofs.TermLists.Counting.{distinct-length, distinct-vectors, in-nonzero, length-vectors, nonzero-in, nonzero-terms, over-length, vectors}
use Rattle.ln_poly.proofs.TermLists.Products.{over-terms, rows_times}

-- ---- how many terms can go
-- vectors, by whether a coefficient is 0
record Parted (c : List ℕ → ℤ) (ms : List (List ℕ)) : Type 0 where
  pub zeros : List (List ℕ)
  pub others : List (List ℕ)
  pub zeros_distinct : AreDistinct zeros
  pub others_distinct : AreDistinct others
  pub zeros_in : (m : List ℕ) → In zeros m → In ms m × (c m ≡ pos 0)
  pub others_in : (m : List ℕ) → In others m → In ms m × (c m ≡ pos 0 → ⊥)
  pub all : length zeros + length others ≡ length ms

with-zero : (c : List ℕ → ℤ) (x : List ℕ) (ms : List (List ℕ)) → (In ms x → ⊥) → c x ≡ pos 0 → Parted c ms → Parted c (x ∷ ms)
with-zero c x ms d z p = record {
  zeros = x ∷ p.zeros;
  others = p.others;
  zeros_distinct = (λ i. d (p.zeros_in x i).0, p.zeros_distinct);
  others_distinct = p.others_distinct;
  zeros_in = there;
  others_in = λ m i. (inr (p.others_in m i).0, (p.others_in m i).1);
  all = omega (arith, p.all);
} where
  there : (m : List ℕ) → In (x ∷ p.zeros) m → In (x ∷ ms) m × (c m ≡ pos 0)
  there m (inl e) = (inl e, ap c e ∙ z)
  there m (inr i) = (inr (p.zeros_in m i).0, (p.zeros_in m i).1)

with-other : (c : List ℕ → ℤ) (x : List ℕ) (ms : List (List ℕ)) → (In ms x → ⊥) → (c x ≡ pos 0 → ⊥) → Parted c ms → Parted c (x ∷ ms)
with-other c x ms d z p = record {
  zeros = p.zeros;
  others = x ∷ p.others;
  zeros_distinct = p.zeros_distinct;
  others_distinct = (λ i. d (p.others_in x i).0, p.others_distinct);
  zeros_in = λ m i. (inr (p.zeros_in m i).0, (p.zeros_in m i).1);
  others_in = there;
  all = omega (arith, p.all);
} where
  there : (m : List ℕ) → In (x ∷ p.others) m → In (x ∷ ms) m × (c m ≡ pos 0 → ⊥)
  there m (inl e) = (inl e, λ y. z (ap c (sym e) ∙ y))
  there m (inr i) = (inr (p.others_in m i).0, (p.others_in m i).1)

parted : (c : List ℕ → ℤ) (ms : List (List ℕ)) → AreDistinct ms → Parted c ms
parted c [] d =
    record { zeros = []; others = []; zeros_distinct = tt; others_distinct = tt; zeros_in = λ m i. absurd i; others_in = λ m i. absurd i; all = refl }
parted c (x ∷ ms) d = by_case (zero_cases (c x)) (parted c ms d.1) where
  by_case : (c x ≡ pos 0) ⊎ (c x ≡ pos 0 → ⊥) → Parted c ms → Parted c (x ∷ ms)
  by_case (inl z) p = with-zero c x ms d.0 z p
  by_case (inr z) p = with-other c x ms d.0 z p

-- a product with a term has as many terms
pub length-times_term : (t : Term) (g : List Term) → length (times_term t g) ≡ length g
length-times_term t [] = refl
length-times_term t (s ∷ g) = ap suc (length-times_term t g)

length-times : (f g : List Term) → length (times f g) ≡ length f * length g
length-times [] g = omega arith
length-times (t ∷ f) g = omega (arith, length-times f g, length-times_term t g, length-append (times_term t g) (times f g))

-- the product is the rows so far and the remaining ones
split : (n : ℕ) (acc f g : Sparse) (i : ℕ) (m : List ℕ) → IsRows acc f g i → length m ≡ n
    → product (coefficient_at n f) (coefficient_at n g) m ≡ coefficient_at n acc m +ℤ factor_at (times (terms_of n (drop i f)) (terms_of n g)) m
unfolding coefficient_at
split n acc f g i m r h =
    let whole : factor_at (times (terms_of n f) (terms_of n g)) m ≡ product (factor_at (terms_of n f)) (factor_at (terms_of n g)) m =
    factor_at-times n (terms_of n f) (terms_of n g) (over-terms n f) (over-terms n g) m h in
    let both : sum_over (λ s. row_at n m s g) f ≡ sum_over (λ s. row_at n m s g) (take i f) +ℤ sum_over (λ s. row_at n m s g) (drop i f) =
    ap (sum_over (λ s. row_at n m s g)) (sym (take-append-drop i f)) ∙ sum_over-append (λ s. row_at n m s g) (take i f) (drop i f) in
    omega (arith, ints, whole, both, r.coefficients n m, rows_times n m f g, rows_times n m (drop i f) g)

-- a vector of what there is that the product lacks is one of the remaining products
taken : (n : ℕ) (acc f g : Sparse) (i : ℕ) (m : List ℕ) → IsRows acc f g i → IsPoly acc → AreBelow n acc → In (vectors (terms_of n acc)) m
    → product (coefficient_at n f) (coefficient_at n g) m ≡ pos 0 → In (vectors (times (terms_of n (drop i f)) (terms_of n g))) m
unfolding coefficient_at
taken n acc f g i m r q b k z =
    let d : factor_at (terms_of n acc) m ≡ pos 0 → ⊥ = in-nonzero (terms_of n acc) m (collected n acc q b) (nonzero-terms n acc q) k in
    let e : product (factor_at (terms_of n f)) (factor_at (terms_of n g)) m ≡ factor_at (terms_of n acc) m
    +ℤ factor_at (times (terms_of n (drop i f)) (terms_of n g)) m = split n acc f g i m r (over-length n (terms_of n acc) m (over-terms n acc) k) in
    let y : product (factor_at (terms_of n f)) (factor_at (terms_of n g)) m ≡ pos 0 = z in
    nonzero-in (times (terms_of n (drop i f)) (terms_of n g)) m (λ x. d (omega (arith, ints, e, x, y)))

-- where there is more than the remaining rows can take away, the product has more terms
more-terms : (n : ℕ) (acc f g : Sparse) (i k : ℕ) → IsRows acc f g i → IsPoly acc → k + (length f - i) * length g < length acc
    → AreBelow n acc → HasMoreTerms n f g k
more-terms n acc f g i k r q l b =
    let vs : List (List ℕ) = vectors (terms_of n acc) in
    let left : List Term = times (terms_of n (drop i f)) (terms_of n g) in
    let p : Parted (product (coefficient_at n f) (coefficient_at n g)) vs =
    parted (product (coefficient_at n f) (coefficient_at n g)) vs (distinct-vectors (terms_of n acc) (collected n acc q b)) in
    let few : length p.zeros ≤ length (vectors left) =
    distinct-length p.zeros (vectors left) p.zeros_distinct (λ m j. taken n acc f g i m r q b (p.zeros_in m j).0 (p.zeros_in m j).1) in
    let e : length left ≡ (length f - i) * length g = length-times (terms_of n (drop i f)) (terms_of n g)
    ∙ ap (λ z. z * length (terms_of n g)) (length-map (drop i f) _ ∙ length-drop i f) ∙ ap (λ z. (length f - i) * z) (length-map g _) in
    record {
      vectors = p.others;
      distinct = p.others_distinct;
      sizes = λ m j. over-length n (terms_of n acc) m (over-terms n acc) (p.others_in m j).0;
      nonzero = λ m j. (p.others_in m j).1;
      many = omega (arith, few, e, l, p.all, length-map left (λ t. t.exponents), length-vectors n acc);
    }

-- where the test of `are_too_many` holds in `parts_of`, the product has more than k terms
pub takes-more : (terms acc f g f' g' : Sparse) (i k : ℕ) → IsRows acc f g i → IsPoly acc → terms ≡ acc → f ≡ f' → g ≡ g'
    → k + (length f - i) * length g < length terms → TakesMore f' g' k
takes-more terms acc f g f' g' i k r q t u v l = subst (λ z. TakesMore z g' k) u
    (subst (λ z. TakesMore f z k) v (λ n bf bg. more-terms n acc f g i k r q (omega (arith, l, ap length t)) (r.below n bf bg)))

-- ---- a part of the rows after the other
-- the first members and the next ones
pub take-take : {A : Type 0} (i k j : ℕ) (f : List A) → j ≡ i + k → take i f ++ take k (drop i f) ≡ take j f
take-take zero k j f e = let z : k ≡ j = omega arith in ap (λ y. take y f) z
take-take (suc i) k j [] e = take_all k [] (omega arith) ∙ sym (take_all j [] (omega arith))
take-take (suc i) k j (t ∷ f) e =
    let z : suc (i + k) ≡ j = omega arith in
    ap (λ y. t ∷ y) (take-take i k (i + k) f refl) ∙ ap (λ y. take y (t ∷ f)) z
