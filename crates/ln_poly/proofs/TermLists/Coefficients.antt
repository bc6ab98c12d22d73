-- Coefficients and sizes of lists of terms.
use Rattle.std.proofs.Common.{◌≡◌, ℕ, ◌+◌, ◌<◌, ◌≤◌, zero, suc, refl, ◌∙◌, ap, arith, List, [], ◌∷◌, ◌++◌, length, take, get_or, Bool}
use Rattle.std.proofs.Common.{true, false, if◌then◌else◌, unsigned_abs}
use Rattle.std.proofs.lemmas.Int.{ints}
use Rattle.std.proofs.Math.IntN.{ℤ, pos, ◌+ℤ◌}
use Rattle.std.proofs.lemmas.List.Sums.{get_or-le-sum_by, sum_by_push, sum_by_more, sum_by-take-le, sum_by-cons}
use Rattle.ln_algebra.specs.Vector.{same_vector}
use Rattle.ln_tree.specs.Exps.{Pairs, vector}
use Rattle.ln_poly.specs.Sparse.{Sparse, coefficient_at, part_at, size_of}
use Rattle.ln_poly.specs.Sums.{added_at}

-- ---- coefficients
-- each coefficient of an empty list of terms is 0
pub coefficient_at-nil : (n : ℕ) (m : List ℕ) → coefficient_at n [] m ≡ pos 0
unfolding coefficient_at
coefficient_at-nil n m = refl

-- a list's coefficient is what its first term adds and the coefficient of the others
pub coefficient_at-cons : (n : ℕ) (m : List ℕ) (t : Pairs × ℤ) (xs : Sparse) → coefficient_at n (t ∷ xs) m ≡ part_at n t m +ℤ coefficient_at n xs m
unfolding coefficient_at part_at
coefficient_at-cons n m t xs = refl

-- the coefficient of one list followed by another is the sum of both
pub coefficient_at-append : (n : ℕ) (m : List ℕ) (xs ys : Sparse) → coefficient_at n (xs ++ ys) m ≡ coefficient_at n xs m +ℤ coefficient_at n ys m
coefficient_at-append n m [] ys = omega (arith, ints, coefficient_at-nil n m)
coefficient_at-append n m (x ∷ xs) ys = omega (arith, ints, coefficient_at-append n m xs ys, coefficient_at-cons n m x xs, coefficient_at-cons n m x (xs ++ ys))

-- an appended term adds its part to the coefficient
pub coefficient_at-push : (n : ℕ) (m : List ℕ) (xs : Sparse) (t : Pairs × ℤ) → coefficient_at n (xs ++ (t ∷ [])) m ≡ coefficient_at n xs m +ℤ part_at n t m
coefficient_at-push n m xs t = omega (arith, ints, coefficient_at-append n m xs (t ∷ []), coefficient_at-cons n m t [], coefficient_at-nil n m)

-- two terms with the same exponents add up to one
pub part-sum : (n : ℕ) (m : List ℕ) (e : Pairs) (a b : ℤ) → part_at n (e, a +ℤ b) m ≡ part_at n (e, a) m +ℤ part_at n (e, b) m
unfolding part_at
part-sum n m e a b = by_case (same_vector (vector n e) m) where
  by_case : (z : Bool) → (if z then a +ℤ b else pos 0) ≡ (if z then a else pos 0) +ℤ (if z then b else pos 0)
  by_case true = refl
  by_case false = refl

-- a term with the factor 0 adds nothing
pub part-zero : (n : ℕ) (m : List ℕ) (e : Pairs) → part_at n (e, pos 0) m ≡ pos 0
unfolding part_at
part-zero n m e = by_case (same_vector (vector n e) m) where
  by_case : (z : Bool) → (if z then pos 0 else pos 0) ≡ pos 0
  by_case true = refl
  by_case false = refl

-- where t is added to a term with its exponents, the coefficients are those with t appended
pub coefficient-added : (n : ℕ) (m : List ℕ) (xs : Sparse) (i : ℕ) (t : Pairs × ℤ) → i < length xs → (get_or xs i t).0 ≡ t.0
    → coefficient_at n (added_at xs i t) m ≡ coefficient_at n xs m +ℤ part_at n t m
coefficient-added n m [] i t h e = absurd (omega arith)
coefficient-added n m (x ∷ xs) zero t h e = omega (
  arith,
  ints,
  coefficient_at-cons n m x xs,
  coefficient_at-cons n m (x.0, x.1 +ℤ t.1) xs,
  part-sum n m x.0 x.1 t.1,
  ap (λ z. part_at n (z, t.1) m) e,
)
coefficient-added n m (x ∷ xs) (suc i) t h e =
    omega (arith, ints, coefficient-added n m xs i t (omega arith) e, coefficient_at-cons n m x xs, coefficient_at-cons n m x (added_at xs i t))

-- ---- sizes
-- an empty list of terms has the size 0
pub size-nil : size_of [] ≡ 0
unfolding size_of
size-nil = refl

-- a list's size is the absolute factor of its first term and the size of the others
pub size-cons : (t : Pairs × ℤ) (xs : Sparse) → size_of (t ∷ xs) ≡ unsigned_abs t.1 + size_of xs
unfolding size_of
size-cons t xs = sum_by-cons (λ z. unsigned_abs z.1) t xs

-- an appended term adds its absolute factor to the size
pub size-push : (xs : Sparse) (t : Pairs × ℤ) → size_of (xs ++ (t ∷ [])) ≡ size_of xs + unsigned_abs t.1
unfolding size_of
size-push xs t = sum_by_push (λ z. unsigned_abs z.1) xs t

-- the first i + 1 terms have the size of the first i and the absolute factor of term i
pub size-more : (xs : Sparse) (i : ℕ) (d : Pairs × ℤ) → i < length xs → size_of (take (i + 1) xs) ≡ size_of (take i xs) + unsigned_abs (get_or xs i d).1
unfolding size_of
size-more xs i d h = sum_by_more (λ t. unsigned_abs t.1) xs i d h

-- the first terms have at most the size of all
pub size-take : (xs : Sparse) (i : ℕ) → size_of (take i xs) ≤ size_of xs
unfolding size_of
size-take xs i = sum_by-take-le (λ t. unsigned_abs t.1) xs i

-- no absolute factor exceeds the size
pub factor-small : (xs : Sparse) (i : ℕ) (d : Pairs × ℤ) → i < length xs → unsigned_abs (get_or xs i d).1 ≤ size_of xs
unfolding size_of
factor-small xs i d h = get_or-le-sum_by (λ t. unsigned_abs t.1) xs i d h

-- the same of a term that was read from the list
pub item-small : (xs : Sparse) (i : ℕ) (x : Pairs × ℤ) → i < length xs → x ≡ get_or xs i x → unsigned_abs x.1 ≤ size_of xs
item-small xs i x h e = let f : unsigned_abs x.1 ≡ unsigned_abs (get_or xs i x).1 = ap (λ z. unsigned_abs z.1) e in omega (arith, f, factor-small xs i x h)

-- a term that is added to one adds at most its absolute factor to the size
pub size-added : (xs : Sparse) (i : ℕ) (t : Pairs × ℤ) → size_of (added_at xs i t) ≤ size_of xs + unsigned_abs t.1
size-added [] i t = omega arith
size-added (x ∷ xs) zero t = omega (arith, ints, size-cons x xs, size-cons (x.0, x.1 +ℤ t.1) xs)
size-added (x ∷ xs) (suc i) t = omega (arith, size-added xs i t, size-cons x xs, size-cons x (added_at xs i t))

-- the first n terms weigh no more with the next than the whole
pub size-next : (xs : Sparse) (i : ℕ) (x : Pairs × ℤ) → i < length xs → x ≡ get_or xs i x → size_of (take i xs) + unsigned_abs x.1 ≤ size_of xs
size-next xs i x h e =
    let f : unsigned_abs x.1 ≡ unsigned_abs (get_or xs i x).1 = ap (λ z. unsigned_abs z.1) e in
    omega (arith, f, size-more xs i x h, size-take xs (i + 1))
