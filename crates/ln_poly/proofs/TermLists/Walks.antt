-- Products of one term with a polynomial, which are in the order of its terms.
use Rattle.std.proofs.Common.{◌≡◌, ◌≢◌, ℕ, ◌-◌, ◌*◌, ◌<◌, ◌^◌, List, refl, sym, ◌∙◌, ap, subst, arith}
use Rattle.std.proofs.Common.{All, [], ◌∷◌, length, get_or, unsigned_abs, Less}
use Rattle.std.proofs.lemmas.Int.{ints, unsigned_abs-mul}
use Rattle.std.proofs.lemmas.List.Elements.{All-cons, All-head, All-nil, All-tail}
use Rattle.std.proofs.Math.IntN.{ℤ, pos}
use Rattle.std.specs.List.{AllByRecursion}
use Rattle.std.specs.List.Sorted.{IsStrictlySortedBy}
use Rattle.std.specs.Ordering.{on}
use Rattle.ln_tree.specs.Exps.{IsAbove, IsRising, Pairs, pairs_cmp}
use Rattle.ln_tree.proofs.Monomials.{products-kept}
use Rattle.ln_poly.specs.Rows.{AreProducts, IsProduct, IsRows, row_at}
use Rattle.ln_poly.specs.Sparse.{AreBelow, AreRising, IsFactor, IsPoly, Sparse, coefficient_at, size_of}
use Rattle.ln_poly.proofs.Packing.Rows.{nonzero-product}
use Rattle.ln_poly.proofs.TermLists.Coefficients.{coefficient_at-cons, coefficient_at-nil, size-cons, size-nil}
use Rattle.ln_poly.proofs.Sorting.Merging.{above-none, none-above}
use Rattle.ln_poly.specs.Within.{TakesMore}
use Rattle.ln_poly.proofs.TermLists.Bounded.{takes-more}
use Rattle.ln_poly.proofs.TermLists.Products.{cell_is}

-- ---- the order
-- a product is before those of what comes after
after : (s x t : Pairs × ℤ) (g xs : Sparse) → IsRising t.0 → AreRising g → IsProduct x s t → AreProducts s g xs
    → AllByRecursion (λ (y : Pairs × ℤ). pairs_cmp t.0 y.0 ≡ Less) g → AllByRecursion (λ (y : Pairs × ℤ). pairs_cmp x.0 y.0 ≡ Less) xs
after s x t [] [] w r p a h = tt
after s x t [] (y ∷ xs) w r p a h = absurd a
after s x t (u ∷ g) [] w r p a h = absurd a
after s x t (u ∷ g) (y ∷ xs) w r p a h = (
  products-kept t.0 u.0 s.0 x.0 y.0 w (All-head (λ z. IsRising z.0) u g r) p.rising a.0.rising p.exponents a.0.exponents h.0,
  after s x t g xs w (All-tail (λ z. IsRising z.0) u g r) p a.1 h.1,
)

products-sorted : (s : Pairs × ℤ) (g xs : Sparse) → AreRising g → AreProducts s g xs
    → IsStrictlySortedBy (on (λ (t : Pairs × ℤ). t.0) pairs_cmp) g → IsStrictlySortedBy (on (λ (t : Pairs × ℤ). t.0) pairs_cmp) xs
unfolding IsStrictlySortedBy
products-sorted s [] [] r a h = tt
products-sorted s [] (y ∷ xs) r a h = absurd a
products-sorted s (t ∷ g) [] r a h = absurd a
products-sorted s (t ∷ g) (x ∷ xs) r a h = (
  after s x t g xs (All-head (λ z. IsRising z.0) t g r) (All-tail (λ z. IsRising z.0) t g r) a.0 a.1 h.0,
  products-sorted s g xs (All-tail (λ z. IsRising z.0) t g r) a.1 h.1,
)

-- ---- the factors
products-factors : (s : Pairs × ℤ) (g xs : Sparse) → s.1 ≢ pos 0 → All (λ t. IsFactor t.1) g → AreProducts s g xs → size_of xs < 2 ^ 127
    → All (λ t. IsFactor t.1) xs
products-factors s [] [] n f a z = All-nil (λ t. IsFactor t.1)
products-factors s [] (y ∷ xs) n f a z = absurd a
products-factors s (t ∷ g) [] n f a z = absurd a
products-factors s (t ∷ g) (x ∷ xs) n f a z =
    let some : x.1 ≢ pos 0 = λ e. nonzero-product s.1 t.1 n (All-head (λ z. IsFactor z.1) t g f).0 (sym a.0.factor ∙ e) in
    All-cons (λ t. IsFactor t.1) x xs (some, omega (arith, z, size-cons x xs))
    (products-factors s g xs n (All-tail (λ z. IsFactor z.1) t g f) a.1 (omega (arith, z, size-cons x xs)))

products-rising : (s : Pairs × ℤ) (g xs : Sparse) → AreProducts s g xs → AreRising xs
products-rising s [] [] a = All-nil (λ t. IsRising t.0)
products-rising s [] (y ∷ xs) a = absurd a
products-rising s (t ∷ g) [] a = absurd a
products-rising s (t ∷ g) (x ∷ xs) a = All-cons (λ z. IsRising z.0) x xs a.0.rising (products-rising s g xs a.1)

-- ---- the row
module _ (s : Pairs × ℤ) where
  row-coefficient : (n : ℕ) (m : List ℕ) (g xs : Sparse) → AreProducts s g xs → coefficient_at n xs m ≡ row_at n m s g
  unfolding row_at
  row-coefficient n m [] [] a = coefficient_at-nil n m
  row-coefficient n m [] (y ∷ xs) a = absurd a
  row-coefficient n m (t ∷ g) [] a = absurd a
  row-coefficient n m (t ∷ g) (x ∷ xs) a = omega (arith, ints, row-coefficient n m g xs a.1, coefficient_at-cons n m x xs, cell_is n m s t x a.0)

  row-size : (g xs : Sparse) → AreProducts s g xs → size_of xs ≡ unsigned_abs s.1 * size_of g
  row-size [] [] a = omega (arith, size-nil, ap (λ z. unsigned_abs s.1 * z) size-nil)
  row-size [] (y ∷ xs) a = absurd a
  row-size (t ∷ g) [] a = absurd a
  row-size (t ∷ g) (x ∷ xs) a = omega (
    arith,
    row-size g xs a.1,
    size-cons x xs,
    ap (λ z. unsigned_abs s.1 * z) (size-cons t g),
    unsigned_abs-mul s.1 t.1,
    ap unsigned_abs a.0.factor,
  )

  row-below : (k : ℕ) (g xs : Sparse) → IsAbove s.0 k → AreBelow k g → AreProducts s g xs → AreBelow k xs
  row-below k [] [] b c a = All-nil (λ t. IsAbove t.0 k)
  row-below k [] (y ∷ xs) b c a = absurd a
  row-below k (t ∷ g) [] b c a = absurd a
  row-below k (t ∷ g) (x ∷ xs) b c a =
      let h : IsAbove t.0 k = All-head (λ z. IsAbove z.0 k) t g c in
      All-cons (λ z. IsAbove z.0 k) x xs
      (none-above k x.0 a.0.rising (λ v l. omega (arith, a.0.exponents v, above-none k v s.0 b l, above-none k v t.0 h l)))
      (row-below k g xs b (All-tail (λ z. IsAbove z.0 k) t g c) a.1)

-- the products of a term that isn't 0 with the terms of a polynomial are a polynomial, where there is room
pub walked : (s : Pairs × ℤ) (g out : Sparse) → AreProducts s g out → IsPoly g → s.1 ≢ pos 0 → unsigned_abs s.1 * size_of g < 2 ^ 127 → IsPoly out
walked s g out a p n room = record {
  sorted = products-sorted s g out p.rising a p.sorted;
  rising = products-rising s g out a;
  factors = products-factors s g out n p.factors a (omega (arith, room, row-size s g out a));
}

-- ---- the product of a polynomial of one term
single : (f : Sparse) (s : Pairs × ℤ) → length f ≡ 1 → s ≡ get_or f 0 s → f ≡ s ∷ []
single [] s l e = absurd (omega (arith, l))
single (t ∷ []) s l e = ap (λ z. z ∷ []) (sym e)
single (t ∷ u ∷ f) s l e = absurd (omega (arith, l))

size-one : (s : Pairs × ℤ) → size_of (s ∷ []) ≡ unsigned_abs s.1
size-one s = omega (arith, size-cons s [], size-nil)

one-row : (s : Pairs × ℤ) (g out : Sparse) → AreProducts s g out → IsRows out (s ∷ []) g 1
one-row s g out a = record {
  coefficients = λ n m. omega (arith, ints, row-coefficient s n m g out a);
  size = omega (arith, row-size s g out a, ap (λ z. z * size_of g) (size-one s));
  rising = products-rising s g out a;
  below = λ k b c. row-below s k g out (All-head (λ z. IsAbove z.0 k) s [] b) c a;
}

module _ (f f' g g' : Sparse) (s : Pairs × ℤ) (p : f' ≡ f) (q : g' ≡ g) (one : length f ≡ 1) (first : s ≡ get_or f' 0 s) where
  whole : f ≡ s ∷ []
  whole = single f s one (first ∙ ap (λ z. get_or z 0 s) p)

  -- there is room for its factors
  pub row-room : size_of f * size_of g < 2 ^ 127 → unsigned_abs s.1 * size_of g' < 2 ^ 127
  row-room room = omega (arith, room, ap (λ z. unsigned_abs s.1 * size_of z) q, ap (λ z. size_of z * size_of g) whole, ap (λ z. z * size_of g) (size-one s))

  -- it has the one row
  pub row-rows : (out : Sparse) → AreProducts s g' out → IsRows out f g (length f)
  row-rows out r = subst (λ z. IsRows out z g (length z)) (sym whole) (one-row s g out (subst (λ z. AreProducts s z out) q r))

  -- where there are more terms than are wanted, the product has more
  pub row-more : (out terms : Sparse) (most : ℕ) → AreProducts s g' out → IsPoly out → terms ≡ out → most < length terms → TakesMore f g most
  row-more out terms most r h e l =
      let none : length f - length f ≡ 0 = omega arith in
      takes-more terms out f g f g (length f) most (row-rows out r) h e refl refl (omega (arith, l, ap (λ z. z * length g) none))
