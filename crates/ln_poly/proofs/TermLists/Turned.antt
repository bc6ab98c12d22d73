-- Products with the two polynomials in turn.
use Rattle.std.proofs.Common.{◌≡◌, ℕ, ◌*◌, ◌≤◌, refl, sym, ◌∙◌, ap, arith, List, [], ◌∷◌, length, if◌then◌else◌}
use Rattle.std.specs.Prelude.{IfSome, Option, None, Some}
use Rattle.std.proofs.lemmas.Int.{ints}
use Rattle.std.proofs.lemmas.List.{take_all}
use Rattle.std.proofs.Math.IntN.{ℤ, pos, ◌+ℤ◌, ◌*ℤ◌}
use Rattle.ln_algebra.proofs.Expanded.Product.{factor_at-times}
use Rattle.ln_algebra.proofs.Expanded.Ring.{mul_comm}
use Rattle.ln_algebra.proofs.Ordering.Products.{plus-comm}
use Rattle.ln_algebra.specs.Coefficient.{product}
use Rattle.ln_algebra.specs.Vector.{plus, same_vector, sum_over}
use Rattle.ln_tree.specs.Exps.{Pairs, vector}
use Rattle.ln_poly.specs.Rows.{IsRows, cell_at, row_at}
use Rattle.ln_poly.specs.Sparse.{AreBelow, Sparse, coefficient_at, size_of, terms_of}
use Rattle.ln_poly.specs.Within.{HasMoreTerms, IsWithin, TakesMore}
use Rattle.ln_poly.proofs.TermLists.Products.{length-vector, over-terms, rows-product, rows-size, rows_times}

cell-turned : (n : ℕ) (m : List ℕ) (s t : Pairs × ℤ) → cell_at n m s t ≡ cell_at n m t s
cell-turned n m s t =
    ap (λ z. if same_vector z m then s.1 *ℤ t.1 else pos 0) (plus-comm (vector n s.0) (vector n t.0) (length-vector 0 n s.0 ∙ sym (length-vector 0 n t.0)))
    ∙ ap (λ z. if same_vector (plus (vector n t.0) (vector n s.0)) m then z else pos 0) (mul_comm s.1 t.1)

row-cons : (n : ℕ) (m : List ℕ) (s t : Pairs × ℤ) (g : Sparse) → row_at n m s (t ∷ g) ≡ cell_at n m s t +ℤ row_at n m s g
unfolding row_at
row-cons n m s t g = refl

row-none : (n : ℕ) (m : List ℕ) (s : Pairs × ℤ) → row_at n m s [] ≡ pos 0
unfolding row_at
row-none n m s = refl

-- one row more, column by column
column-more : (n : ℕ) (m : List ℕ) (s : Pairs × ℤ) (f g : Sparse) → row_at n m s g +ℤ sum_over (λ t. row_at n m t f) g ≡ sum_over (λ t. row_at n m t (s ∷ f)) g
column-more n m s f [] = omega (arith, ints, row-none n m s)
column-more n m s f (t ∷ g) = omega (arith, ints, column-more n m s f g, row-cons n m s t g, row-cons n m t s f, cell-turned n m s t)

columns-none : (n : ℕ) (m : List ℕ) (g : Sparse) → pos 0 ≡ sum_over (λ t. row_at n m t []) g
columns-none n m [] = omega (arith, ints)
columns-none n m (t ∷ g) = omega (arith, ints, columns-none n m g, row-none n m t)

-- the products by rows are those by columns
by-columns : (n : ℕ) (m : List ℕ) (f g : Sparse) → sum_over (λ s. row_at n m s g) f ≡ sum_over (λ t. row_at n m t f) g
by-columns n m [] g = columns-none n m g
by-columns n m (s ∷ f) g = ap (λ z. row_at n m s g +ℤ z) (by-columns n m f g) ∙ column-more n m s f g

-- the products with a row for each term of g are those with a row for each term of f
rows-turned : (out f g : Sparse) → IsRows out g f (length g) → IsRows out f g (length f)
rows-turned out f g r = record {
  coefficients = λ n m. r.coefficients n m ∙ ap (sum_over (λ s. row_at n m s f)) (take_all (length g) g (omega arith)) ∙ by-columns n m g f
      ∙ sym (ap (sum_over (λ s. row_at n m s g)) (take_all (length f) f (omega arith)));
  size = omega (
    arith,
    r.size,
    ap (λ z. size_of z * size_of f) (take_all (length g) g (omega arith)),
    ap (λ z. size_of z * size_of g) (take_all (length f) f (omega arith)),
  );
  rising = r.rising;
  below = λ k a b. r.below k b a;
}

product-turned : (n : ℕ) (f g : Sparse) (m : List ℕ) → length m ≡ n
    → product (coefficient_at n g) (coefficient_at n f) m ≡ product (coefficient_at n f) (coefficient_at n g) m
unfolding coefficient_at
product-turned n f g m h =
    sym (factor_at-times n (terms_of n g) (terms_of n f) (over-terms n g) (over-terms n f) m h)
    ∙ sym (rows_times n m g f) ∙ by-columns n m g f ∙ rows_times n m f g
    ∙ factor_at-times n (terms_of n f) (terms_of n g) (over-terms n f) (over-terms n g) m h

-- where the product of g and f has more than k terms, that of f and g has
more-turned : (f g : Sparse) (k : ℕ) → TakesMore g f k → TakesMore f g k
more-turned f g k h = λ n bf bg. let r : HasMoreTerms n g f k = h n bg bf in record {
  vectors = r.vectors;
  distinct = r.distinct;
  sizes = r.sizes;
  nonzero = λ m i e. r.nonzero m i (product-turned n f g m (r.sizes m i) ∙ e);
  many = r.many;
}

-- the same of a product, or none, that was made by the rows of g
pub within-turned : (o : Option Sparse) (f g : Sparse) (k : ℕ) → IsWithin g f k o → IsWithin f g k o
within-turned None f g k r = record { rows = tt; form = tt; few = tt; none = more-turned f g k r.none; limit = r.limit }
within-turned (Some h) f g k r = record { rows = rows-turned h f g r.rows; form = r.form; few = r.few; none = tt; limit = tt }

-- ---- a product that there may be
-- a product that was found has the coefficients of the product of f and g
pub some-product : (o : Option Sparse) (f g : Sparse) → IfSome o (λ h. IsRows h f g (length f))
    → IfSome o (λ h. (n : ℕ) (m : List ℕ) → length m ≡ n → coefficient_at n h m ≡ product (coefficient_at n f) (coefficient_at n g) m)
some-product None f g r = r
some-product (Some h) f g r = rows-product h f g r

-- a product that was found has at most the product of the two sizes
pub some-size : (o : Option Sparse) (f g : Sparse) → IfSome o (λ h. IsRows h f g (length f)) → IfSome o (λ h. size_of h ≤ size_of f * size_of g)
some-size None f g r = r
some-size (Some h) f g r = rows-size h f g r

-- the variables of a product that was found are below n where those of f and g are
pub some-below : (o : Option Sparse) (f g : Sparse) → IfSome o (λ h. IsRows h f g (length f))
    → IfSome o (λ h. (n : ℕ) → AreBelow n f → AreBelow n g → AreBelow n h)
some-below None f g r = r
some-below (Some h) f g r = r.below
