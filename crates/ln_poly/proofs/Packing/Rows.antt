-- Products of terms whose monomials are numbers, row by row.
use Rattle.std.proofs.Common.{◌≡◌, ◌≢◌, ◌⊎◌, inl, inr, ℕ, ◌+◌, ◌*◌, [], ◌∷◌, ◌++◌, refl, ◌∙◌, ap, arith, Bool, unsigned_abs}
use Rattle.std.proofs.Math.IntN.{ℤ, pos, ◌+ℤ◌, ◌*ℤ◌}
use Rattle.std.proofs.Math.Nat.{add-mul}
use Rattle.std.proofs.lemmas.Int.{ints, unsigned_abs-mul}
use Rattle.ln_algebra.specs.Vector.{sum_over}
use Rattle.ln_algebra.proofs.Expanded.Sums.{sum_over-append}
use Rattle.ln_algebra.proofs.Ordering.Products.{times-zero}
use Rattle.ln_poly.specs.Keyed.{AreAllProducts, AreAscending, AreOver, Has, IsLower, IsSumIn, Keyed, row}
use Rattle.ln_poly.specs.Merge.{AllKeys, HaveFactors, IsMerge, passing, weight_of}
use Rattle.ln_poly.proofs.Sorting.Merges.{keys-weaker, merge-factors, merge-in_order, merge-keys, merge-passing, merge-weight}

-- ---- sizes and members of joined lists
-- the size of a joined list is the sum of both
pub weight-append : (f g : Keyed) → weight_of (f ++ g) ≡ weight_of f + weight_of g
weight-append [] g = omega arith
weight-append (t ∷ f) g = omega (arith, weight-append f g)

-- a number of the first list is one of both
pub has-first : (f g : Keyed) (k : ℕ) → Has f k → Has (f ++ g) k
has-first [] g k i = absurd i
has-first (t ∷ f) g k (inl e) = inl e
has-first (t ∷ f) g k (inr i) = inr (has-first f g k i)

-- so is one of the second
pub has-second : (f g : Keyed) (k : ℕ) → Has g k → Has (f ++ g) k
has-second [] g k i = i
has-second (t ∷ f) g k i = inr (has-second f g k i)

-- ---- one row
row-over : (s : ℕ × ℤ) (b : ℕ) (g : Keyed) → AreOver b g → AreOver (s.0 + b) (row s g)
row-over s b [] o = tt
row-over s b (t ∷ g) o = (omega (arith, o.0), row-over s b g o.1)

row-ascending : (s : ℕ × ℤ) (g : Keyed) → AreAscending g → AreAscending (row s g)
row-ascending s [] a = tt
row-ascending s (t ∷ g) a = (row-over s t.0 g a.0, row-ascending s g a.1)

-- a product isn't 0 where neither factor is
pub nonzero-product : (x y : ℤ) → x ≢ pos 0 → y ≢ pos 0 → x *ℤ y ≢ pos 0
nonzero-product x y f g e = by_case (times-zero x y e) where
  by_case : (x ≡ pos 0) ⊎ (y ≡ pos 0) → ⊥
  by_case (inl h) = f h
  by_case (inr h) = g h

row-factors : (s : ℕ × ℤ) (g : Keyed) → s.1 ≢ pos 0 → HaveFactors g → HaveFactors (row s g)
row-factors s [] n h = tt
row-factors s (t ∷ g) n h = (nonzero-product s.1 t.1 n h.0, row-factors s g n h.1)

row-weight : (s : ℕ × ℤ) (g : Keyed) → weight_of (row s g) ≡ unsigned_abs s.1 * weight_of g
row-weight s [] = omega arith
row-weight s (t ∷ g) = omega (arith, row-weight s g, unsigned_abs-mul s.1 t.1)

row-sums : (s : ℕ × ℤ) (g : Keyed) → AllKeys (IsSumIn (s ∷ []) g) (row s g)
row-sums s [] = tt
row-sums s (t ∷ g) = (
  record { a = s.0; b = t.0; left = inl refl; right = inl refl; sum = refl },
  keys-weaker (IsSumIn (s ∷ []) g) (IsSumIn (s ∷ []) (t ∷ g)) (row s g)
      (λ k h. record { a = h.a; b = h.b; left = h.left; right = inr h.right; sum = h.sum }) (row-sums s g),
)

-- a row is all products of its term
pub one-row : (s : ℕ × ℤ) (g : Keyed) → s.1 ≢ pos 0 → AreAscending g → HaveFactors g → AreAllProducts (row s g) (s ∷ []) g
one-row s g n a h = record {
  factors = λ test. omega (arith, ints);
  size = omega (arith, row-weight s g);
  ascending = row-ascending s g a;
  nonzero = row-factors s g n h;
  sums = row-sums s g;
}

-- of no term there is no product
pub no-row : (g : Keyed) → AreAllProducts [] [] g
no-row g = record { factors = λ test. refl; size = omega arith; ascending = tt; nonzero = tt; sums = tt }

-- the products of two lists of terms, merged, are those of both
pub rows-joined : (a b h f f' g : Keyed) → AreAllProducts a f g → AreAllProducts b f' g → IsMerge IsLower a b h → AreAllProducts h (f ++ f') g
rows-joined a b h f f' g p q m = record {
  factors = λ test. merge-passing IsLower test a b h m ∙ both test (p.factors test) (q.factors test);
  size = omega (
    arith,
    merge-weight IsLower a b h m,
    p.size,
    q.size,
    ap (λ z. z * weight_of g) (weight-append f f'),
    add-mul (weight_of f) (weight_of f') (weight_of g),
  );
  ascending = merge-in_order IsLower (λ x y z l r. omega (arith, l, r)) a b h m p.ascending q.ascending;
  nonzero = merge-factors IsLower a b h m p.nonzero q.nonzero;
  sums = merge-keys IsLower (IsSumIn (f ++ f') g) a b h m (keys-weaker (IsSumIn f g) (IsSumIn (f ++ f') g) a left p.sums)
      (keys-weaker (IsSumIn f' g) (IsSumIn (f ++ f') g) b right q.sums);
} where
  both : (test : ℕ → Bool) → passing test a ≡ sum_over (λ s. passing test (row s g)) f → passing test b ≡ sum_over (λ s. passing test (row s g)) f'
      → passing test a +ℤ passing test b ≡ sum_over (λ s. passing test (row s g)) (f ++ f')
  both test x y = omega (arith, ints, x, y, sum_over-append (λ s. passing test (row s g)) f f')

  left : (k : ℕ) → IsSumIn f g k → IsSumIn (f ++ f') g k
  left k s = record { a = s.a; b = s.b; left = has-first f f' s.a s.left; right = s.right; sum = s.sum }

  right : (k : ℕ) → IsSumIn f' g k → IsSumIn (f ++ f') g k
  right k s = record { a = s.a; b = s.b; left = has-second f f' s.a s.left; right = s.right; sum = s.sum }
