-- Products of numbers are rows of products of terms.
use Rattle.std.proofs.Common.{◌≡◌, ℕ, ◌+◌, ◌*◌, ◌<◌, ◌^◌, List, [], ◌∷◌, take, refl, ◌∙◌, ap, arith, All, Bool, if◌then◌else◌, zero, suc, inl, inr}
use Rattle.std.proofs.Math.IntN.{ℤ, pos, ◌*ℤ◌}
use Rattle.std.proofs.Math.Nat.{mul-le-mul_left}
use Rattle.std.proofs.lemmas.Int.{ints}
use Rattle.std.proofs.lemmas.List.Elements.{All-cons, All-head, All-nil, All-tail, All-take}
use Rattle.ln_algebra.specs.Vector.{same_vector, sum_over}
use Rattle.ln_tree.specs.Exps.{IsAbove, IsRising, Pairs, exponent, vector}
use Rattle.ln_poly.specs.Keyed.{AreAllProducts, Has, IsSumIn, Keyed, row}
use Rattle.ln_poly.specs.Merge.{AllKeys, HaveFactors, passing, weight_of}
use Rattle.ln_poly.specs.Packed.{ArePackable, keyed, opened, packed, unkeyed}
use Rattle.ln_poly.specs.Rows.{IsRows, cell_at, row_at}
use Rattle.ln_poly.specs.Sparse.{IsFactor, IsPoly, Sparse, coefficient_at, part_at, size_of}
use Rattle.ln_poly.proofs.Packing.Terms.{IsOpened, product-exponent, sum-opened, unkeyed-all, unkeyed-sorted}
use Rattle.ln_poly.proofs.Sorting.Merges.{keys-weaker}
use Rattle.ln_poly.proofs.TermLists.Coefficients.{coefficient_at-cons, coefficient_at-nil, size-cons, size-nil, size-take}
use Rattle.ln_poly.proofs.TermLists.Products.{vector-plus}

-- ---- sizes
-- the size of the terms stays
pub weight-keyed : (ws : List ℕ) (f : Sparse) → weight_of (keyed ws f) ≡ size_of f
weight-keyed ws [] = omega (arith, size-nil)
weight-keyed ws (t ∷ f) = omega (arith, weight-keyed ws f, size-cons t f)

-- and back
pub size-unkeyed : (ws : List ℕ) (ks : Keyed) → size_of (unkeyed ws ks) ≡ weight_of ks
size-unkeyed ws [] = omega (arith, size-nil)
size-unkeyed ws (t ∷ ks) = omega (arith, size-unkeyed ws ks, size-cons (opened ws t.0, t.1) (unkeyed ws ks))

-- ---- coefficients
-- has the monomial of a number these exponents?
abbrev at_vector : List ℕ → ℕ → List ℕ → ℕ → Bool
at_vector ws n m k = same_vector (vector n (opened ws k)) m

coefficient-unkeyed : (ws : List ℕ) (n : ℕ) (m : List ℕ) (ks : Keyed) → coefficient_at n (unkeyed ws ks) m ≡ passing (at_vector ws n m) ks
unfolding part_at
coefficient-unkeyed ws n m [] = coefficient_at-nil n m
coefficient-unkeyed ws n m (t ∷ ks) =
    omega (arith, ints, coefficient-unkeyed ws n m ks, coefficient_at-cons n m (opened ws t.0, t.1) (unkeyed ws ks))

-- the number of the product of s and t has their exponents
abbrev Opens : List ℕ → Pairs × ℤ → Pairs × ℤ → Type 0
Opens ws s t = (v : ℕ) → exponent v (opened ws (packed ws s.0 + packed ws t.0)) ≡ exponent v s.0 + exponent v t.0

cell-opened : (ws : List ℕ) (n : ℕ) (m : List ℕ) (s t : Pairs × ℤ) → Opens ws s t
    → (if at_vector ws n m (packed ws s.0 + packed ws t.0) then s.1 *ℤ t.1 else pos 0) ≡ cell_at n m s t
cell-opened ws n m s t o = rw (vector-plus 0 n s.0 t.0 (opened ws (packed ws s.0 + packed ws t.0)) o) refl

row-opened : (ws : List ℕ) (n : ℕ) (m : List ℕ) (s : Pairs × ℤ) (g : Sparse) → All (Opens ws s) g
    → passing (at_vector ws n m) (row (packed ws s.0, s.1) (keyed ws g)) ≡ row_at n m s g
unfolding row_at
row-opened ws n m s [] h = refl
row-opened ws n m s (t ∷ g) h =
    omega (arith, ints, row-opened ws n m s g (All-tail (Opens ws s) t g h), cell-opened ws n m s t (All-head (Opens ws s) t g h))

rows-opened : (ws : List ℕ) (n : ℕ) (m : List ℕ) (f g : Sparse) → All (λ s. All (Opens ws s) g) f
    → sum_over (λ s. passing (at_vector ws n m) (row s (keyed ws g))) (keyed ws f) ≡ sum_over (λ s. row_at n m s g) f
rows-opened ws n m [] g h = refl
rows-opened ws n m (s ∷ f) g h =
    omega (
      arith,
      ints,
      rows-opened ws n m f g (All-tail (λ s. All (Opens ws s) g) s f h),
      row-opened ws n m s g (All-head (λ s. All (Opens ws s) g) s f h),
    )

-- ---- the product
unkeyed-factors : (ws : List ℕ) (ks : Keyed) → HaveFactors ks → weight_of ks < 2 ^ 127 → All (λ t. IsFactor t.1) (unkeyed ws ks)
unkeyed-factors ws [] h l = All-nil (λ t. IsFactor t.1)
unkeyed-factors ws (t ∷ ks) h l =
    All-cons (λ z. IsFactor z.1) (opened ws t.0, t.1) (unkeyed ws ks) (h.0, omega (arith, l)) (unkeyed-factors ws ks h.1 (omega (arith, l)))

part-packable : (ws : List ℕ) (left : ℕ) (f g : Sparse) (i : ℕ) → ArePackable ws left f g → All (λ s. All (Opens ws s) g) f
part-packable ws left f g i p j d h k e l v = product-exponent ws left f g p j k d e h l v

-- what is known of each number of a product of the first rows
pub rows-numbers : (ws : List ℕ) (left : ℕ) (ks : Keyed) (f g : Sparse) (i : ℕ) → ArePackable ws left f g
    → AreAllProducts ks (keyed ws (take i f)) (keyed ws g) → AllKeys (IsOpened ws f g) ks
rows-numbers ws left ks f g i p a = keys-weaker (IsSumIn (keyed ws (take i f)) (keyed ws g)) (IsOpened ws f g) ks
    (λ k s. sum-opened ws left f g k p (record { a = s.a; b = s.b; left = has-part i f s.a s.left; right = s.right; sum = s.sum })) a.sums
  where
    has-part : (i : ℕ) (f : Sparse) (b : ℕ) → Has (keyed ws (take i f)) b → Has (keyed ws f) b
    has-part zero f b j = absurd j
    has-part (suc i) [] b j = absurd j
    has-part (suc i) (t ∷ f) b (inl e) = inl e
    has-part (suc i) (t ∷ f) b (inr j) = inr (has-part i f b j)

-- the products of the first rows, as terms
pub rows-unkeyed : (ws : List ℕ) (left : ℕ) (ks : Keyed) (f g : Sparse) (i : ℕ) → ArePackable ws left f g
    → AreAllProducts ks (keyed ws (take i f)) (keyed ws g) → IsRows (unkeyed ws ks) f g i
rows-unkeyed ws left ks f g i p a = record {
  coefficients = λ n m. coefficient-unkeyed ws n m ks ∙ a.factors (at_vector ws n m)
      ∙ rows-opened ws n m (take i f) g (All-take (λ s. All (Opens ws s) g) i f (part-packable ws left f g i p));
  size = omega (
    arith,
    size-unkeyed ws ks,
    a.size,
    ap (λ z. z * weight_of (keyed ws g)) (weight-keyed ws (take i f)),
    ap (λ z. size_of (take i f) * z) (weight-keyed ws g),
  );
  rising = unkeyed-all IsRising (IsOpened ws f g) ws ks (λ k o. o.rising) (rows-numbers ws left ks f g i p a);
  below = λ n x y. unkeyed-all (λ e. IsAbove e n) (IsOpened ws f g) ws ks (λ k o. o.below n x y) (rows-numbers ws left ks f g i p a);
}

-- they are a polynomial
pub rows-poly : (ws : List ℕ) (left : ℕ) (ks : Keyed) (f g : Sparse) (i : ℕ) → ArePackable ws left f g
    → AreAllProducts ks (keyed ws (take i f)) (keyed ws g) → size_of f * size_of g < 2 ^ 127 → IsPoly (unkeyed ws ks)
rows-poly ws left ks f g i p a room = record {
  sorted = unkeyed-sorted ws left f g ks p (rows-numbers ws left ks f g i p a) a.ascending;
  rising = unkeyed-all IsRising (IsOpened ws f g) ws ks (λ k o. o.rising) (rows-numbers ws left ks f g i p a);
  factors = unkeyed-factors ws ks a.nonzero small;
} where
  small : weight_of ks < 2 ^ 127
  small = omega (
    arith,
    a.size,
    room,
    ap (λ z. z * weight_of (keyed ws g)) (weight-keyed ws (take i f)),
    ap (λ z. size_of (take i f) * z) (weight-keyed ws g),
    mul-le-mul_left (size_of g) (size-take f i),
  )
