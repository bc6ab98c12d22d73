-- Terms in order, and one more after them.
use Rattle.std.proofs.Common.{◌≡◌, ℕ, ◌<◌, zero, suc, arith, All, [], ◌∷◌, ◌++◌, length, get_or, Less, Some, refl}
use Rattle.std.proofs.lemmas.List.Elements.{All-cons, All-from_recursion, All-head, All-nil, All-pop, All-tail, recursion_from_All}
use Rattle.std.proofs.Math.IntN.{ℤ}
use Rattle.std.specs.List.{AllByRecursion}
use Rattle.std.specs.List.Sorted.{IsStrictlySortedBy}
use Rattle.std.specs.Ordering.{on}
use Rattle.ln_tree.specs.Exps.{Pairs, pairs_cmp}
use Rattle.ln_poly.specs.Sparse.{AreSorted, Sparse}

-- the empty list of terms is sorted
pub none-sorted : AreSorted []
unfolding IsStrictlySortedBy
none-sorted = tt

before-push : (e : Pairs) (xs : Sparse) (x : Pairs × ℤ) → AllByRecursion (λ (y : Pairs × ℤ). pairs_cmp e y.0 ≡ Less) xs
    → pairs_cmp e x.0 ≡ Less → AllByRecursion (λ (y : Pairs × ℤ). pairs_cmp e y.0 ≡ Less) (xs ++ (x ∷ []))
before-push e [] x a h = (h, tt)
before-push e (y ∷ xs) x a h = (a.0, before-push e xs x a.1 h)

-- a term after all others
pub sorted-push : (xs : Sparse) (x : Pairs × ℤ) → IsStrictlySortedBy (on (λ (t : Pairs × ℤ). t.0) pairs_cmp) xs
    → All (λ (y : Pairs × ℤ). pairs_cmp y.0 x.0 ≡ Less) xs → IsStrictlySortedBy (on (λ (t : Pairs × ℤ). t.0) pairs_cmp) (xs ++ (x ∷ []))
unfolding IsStrictlySortedBy
sorted-push [] x s a = (tt, tt)
sorted-push (y ∷ xs) x s a = (
  before-push y.0 xs x s.0 (All-head (λ (z : Pairs × ℤ). pairs_cmp z.0 x.0 ≡ Less) y xs a),
  sorted-push xs x s.1 (All-tail (λ (z : Pairs × ℤ). pairs_cmp z.0 x.0 ≡ Less) y xs a),
)

-- a term after which there is none
pub sorted-pop : (xs : Sparse) (x : Pairs × ℤ) → IsStrictlySortedBy (on (λ (t : Pairs × ℤ). t.0) pairs_cmp) (xs ++ (x ∷ []))
    → IsStrictlySortedBy (on (λ (t : Pairs × ℤ). t.0) pairs_cmp) xs × All (λ (y : Pairs × ℤ). pairs_cmp y.0 x.0 ≡ Less) xs
unfolding IsStrictlySortedBy
sorted-pop [] x s = (tt, All-nil (λ (y : Pairs × ℤ). pairs_cmp y.0 x.0 ≡ Less))
sorted-pop (y ∷ xs) x s =
    let P : Pairs × ℤ → Type 0 = λ z. pairs_cmp y.0 z.0 ≡ Less in
    let first = All-pop P (xs ++ (x ∷ [])) xs (Some x) refl (All-from_recursion P (xs ++ (x ∷ [])) s.0) in
    let rest = sorted-pop xs x s.1 in
    ((recursion_from_All P xs first.0, rest.0), All-cons (λ (z : Pairs × ℤ). pairs_cmp z.0 x.0 ≡ Less) y xs first.1 rest.1)

-- each is before those after it
first-before : (e : Pairs) (xs : Sparse) (i : ℕ) (d : Pairs × ℤ) → i < length xs
    → AllByRecursion (λ (y : Pairs × ℤ). pairs_cmp e y.0 ≡ Less) xs → pairs_cmp e (get_or xs i d).0 ≡ Less
first-before e xs i d h a = All-from_recursion (λ (y : Pairs × ℤ). pairs_cmp e y.0 ≡ Less) xs a i d h

-- of two terms of a sorted list, the earlier one has the lower monomial
pub sorted-at : (xs : Sparse) (j i : ℕ) (d e : Pairs × ℤ) → j < i → i < length xs
    → IsStrictlySortedBy (on (λ (t : Pairs × ℤ). t.0) pairs_cmp) xs → pairs_cmp (get_or xs j d).0 (get_or xs i e).0 ≡ Less
unfolding IsStrictlySortedBy
sorted-at [] j i d e h l s = absurd (omega arith)
sorted-at (x ∷ xs) j zero d e h l s = absurd (omega arith)
sorted-at (x ∷ xs) zero (suc i) d e h l s = first-before x.0 xs i e (omega arith) s.0
sorted-at (x ∷ xs) (suc j) (suc i) d e h l s = sorted-at xs j i d e (omega arith) (omega arith) s.1
