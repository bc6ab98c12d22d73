-- Sums of products of terms.
use Rattle.std.proofs.Common.{◌≡◌, ℕ, ◌+◌, ◌*◌, ◌<◌, ◌≤◌, ◌^◌, zero, suc, refl, sym, ◌∙◌, ap, subst, arith, List, [], ◌∷◌, ◌++◌, length}
use Rattle.std.proofs.Common.{take, drop, append_assoc, get_or, set, if◌then◌else◌, unsigned_abs}
use Rattle.std.proofs.Math.Nat.{mul-le-mul_left}
use Rattle.std.proofs.lemmas.Int.{ints, unsigned_abs-mul}
use Rattle.std.proofs.lemmas.List.{drop_more, get_or_at, set_at, take_all, take_more}
use Rattle.std.proofs.lemmas.List.Elements.{all_zip_more}
use Rattle.std.proofs.Math.IntN.{ℤ, pos, ◌+ℤ◌, ◌*ℤ◌}
use Rattle.ln_algebra.specs.Vector.{plus, same_vector, sum_over}
use Rattle.ln_algebra.specs.Coefficient.{product}
use Rattle.ln_algebra.specs.Terms.{Over, factor_at}
use Rattle.ln_algebra.proofs.Expanded.Sums.{sum_over-append}
use Rattle.ln_algebra.proofs.Expanded.Expansion.{times, times_term}
use Rattle.ln_algebra.proofs.Expanded.Product.{factor_at-times}
use Rattle.ln_tree.specs.Exps.{IsRising, Pairs, exponent, exponents_from}
use Rattle.ln_poly.specs.Sparse.{Sparse, coefficient_at, part_at, size_of, term_of, terms_of}
use Rattle.ln_poly.specs.Rows.{AreProducts, IsProduct, IsProductPut, IsRows, PowersFit, cell_at, row_at}
use Rattle.ln_poly.proofs.TermLists.Coefficients.{item-small}

-- the elements from a place on are the one that is read there and those after it
pub drop-read : {A : Type 0} (xs : List A) (i : ℕ) (x : A) → i < length xs → x ≡ get_or xs i x → drop i xs ≡ x ∷ drop (i + 1) xs
drop-read xs i x h e = drop_more xs i x h ∙ ap (λ z. z ∷ drop (i + 1) xs) (sym e)

-- ---- copies of terms
-- the step of the loop in `put_all`: one more term is appended
pub copies-more : (old now now' f : Sparse) (i : ℕ) (t : Pairs × ℤ) → i < length f → t ≡ get_or f i t → now ≡ old ++ take i f
    → now' ≡ now ++ (t ∷ []) → now' ≡ old ++ take (i + 1) f
copies-more old now now' f i t h e p q =
    q ∙ ap (λ z. z ++ (t ∷ [])) p ∙ append_assoc old (take i f) (t ∷ []) ∙ ap (λ z. old ++ z) (ap (λ z. take i f ++ (z ∷ [])) e ∙ sym (take_more f i t h))

-- the end of the loop in `put_all`: all terms are appended
pub copies-end : (old now f : Sparse) (i : ℕ) → length f ≤ i → now ≡ old ++ take i f → now ≡ old ++ f
copies-end old now f i h p = p ∙ ap (λ z. old ++ z) (take_all i f h)

-- ---- the exponents of a product
-- where each exponent in c is the sum of those in a and b, so is c's vector of exponents
pub vector-plus : (v n : ℕ) (a b c : Pairs) → ((u : ℕ) → exponent u c ≡ exponent u a + exponent u b)
    → exponents_from v n c ≡ plus (exponents_from v n a) (exponents_from v n b)
vector-plus v zero a b c h = refl
vector-plus v (suc n) a b c h = rw (h v, vector-plus (suc v) n a b c h) refl

-- a vector of n exponents has the length n
pub length-vector : (v n : ℕ) (a : Pairs) → length (exponents_from v n a) ≡ n
length-vector v zero a = refl
length-vector v (suc n) a = ap suc (length-vector (suc v) n a)

-- the part of a product of two terms is that of its cell
pub cell_is : (n : ℕ) (m : List ℕ) (s t x : Pairs × ℤ) → IsProduct x s t → part_at n x m ≡ cell_at n m s t
unfolding part_at
cell_is n m s t x p = rw (vector-plus 0 n s.0 t.0 x.0 p.exponents, p.factor) refl

-- ---- one row
-- a product whose exponents are written after it is appended
pub product-put : (old put : Sparse) (k : ℕ) (none e : Pairs) (z : ℤ) (s t x : Pairs × ℤ) → put ≡ old ++ ((none, z) ∷ []) → z ≡ s.1 *ℤ t.1 → k ≡ length old
    → x ≡ get_or put k x → ((v : ℕ) → exponent v e ≡ exponent v s.0 + exponent v t.0) → IsRising e → IsProductPut (set put k (e, x.1)) old s t
product-put old put k none e z s t x p m l g h r =
    let q : x ≡ (none, z) = g ∙ ap (λ y. get_or y k x) p ∙ get_or_at old (none, z) [] x k (sym l) in
    record {
      term = (e, x.1);
      put = ap (λ y. set y k (e, x.1)) p ∙ set_at old (none, z) [] (e, x.1) k (sym l);
      product = record { exponents = h; rising = r; factor = ap (λ (y : Pairs × ℤ). y.1) q ∙ m };
    }

-- the factor of the next product of a row is below 2^127
pub product-room : (g : Sparse) (s t : Pairs × ℤ) (i : ℕ) → i < length g → t ≡ get_or g i t → unsigned_abs s.1 * size_of g < 2 ^ 127
    → unsigned_abs (s.1 *ℤ t.1) < 2 ^ 127
product-room g s t i h e room = omega (arith, unsigned_abs-mul s.1 t.1, mul-le-mul_left (unsigned_abs s.1) (item-small g i t h e))

-- the step of `put_row`: the product with the next term of g is appended
pub row-step : (out out' g : Sparse) (s t : Pairs × ℤ) (i : ℕ) → AreProducts s (take i g) out → i < length g → t ≡ get_or g i t
    → IsProductPut out' out s t → AreProducts s (take (i + 1) g) out'
row-step out out' g s t i a h e p =
    subst (AreProducts s (take (i + 1) g)) (sym p.put) (all_zip_more (λ u x. IsProduct x s u) g out i t p.term h e a p.product)

-- the end of the loop in `put_row`: the row has the products with all terms of g
pub row-end : (out : Sparse) (s : Pairs × ℤ) (g : Sparse) (i : ℕ) → length g ≤ i → AreProducts s (take i g) out → AreProducts s g out
row-end out s g i h a = subst (λ z. AreProducts s z out) (take_all i g h) a

-- ---- all rows
row_times : (n : ℕ) (m : List ℕ) (s : Pairs × ℤ) (g : Sparse) → row_at n m s g ≡ factor_at (times_term (term_of n s) (terms_of n g)) m
unfolding row_at
row_times n m s [] = refl
row_times n m s (t ∷ g) = omega (arith, ints, row_times n m s g)

-- the sums of all rows are the coefficients of the product of the two lists of terms
pub rows_times : (n : ℕ) (m : List ℕ) (f g : Sparse) → sum_over (λ s. row_at n m s g) f ≡ factor_at (times (terms_of n f) (terms_of n g)) m
rows_times n m [] g = refl
rows_times n m (s ∷ f) g =
    omega (
      arith,
      ints,
      rows_times n m f g,
      row_times n m s g,
      sum_over-append (λ t. if same_vector t.exponents m then t.factor else pos 0) (times_term (term_of n s) (terms_of n g))
          (times (terms_of n f) (terms_of n g)),
    )

-- the terms of a list of pairs and factors are over n variables
pub over-terms : (n : ℕ) (f : Sparse) → Over n (terms_of n f)
over-terms n [] = tt
over-terms n (t ∷ f) = (length-vector 0 n t.0, over-terms n f)

-- the coefficients of all rows are those of the product
pub rows-product : (out f g : Sparse) → IsRows out f g (length f) → (n : ℕ) (m : List ℕ) → length m ≡ n
    → coefficient_at n out m ≡ product (coefficient_at n f) (coefficient_at n g) m
unfolding coefficient_at
rows-product out f g r n m h =
    r.coefficients n m
    ∙ ap (sum_over (λ s. row_at n m s g)) (take_all (length f) f (omega arith))
    ∙ rows_times n m f g
    ∙ factor_at-times n (terms_of n f) (terms_of n g) (over-terms n f) (over-terms n g) m h

-- the size of all rows is at most the product of the two sizes
pub rows-size : (out f g : Sparse) → IsRows out f g (length f) → size_of out ≤ size_of f * size_of g
rows-size out f g r = omega (arith, r.size, ap (λ q. size_of q * size_of g) (take_all (length f) f (omega arith)))

-- no exponent of a product of s with a term of g exceeds 127
pub powers-at : (s : Pairs × ℤ) (g : Sparse) (i : ℕ) (t : Pairs × ℤ) → PowersFit s g → i < length g → t ≡ get_or g i t → (v : ℕ)
    → exponent v s.0 + exponent v t.0 < 128
powers-at s g i t f h e = subst (λ z. (v : ℕ) → exponent v s.0 + exponent v z.0 < 128) (sym e) (f i t h)
