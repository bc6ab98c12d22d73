-- Equality of polynomials, term by term.
use Rattle.std.proofs.Common.{◌≡◌, refl, ◌∙◌, [], ◌∷◌, Bool, true, ◌&&◌, ap}
use Rattle.std.proofs.Math.IntN.{ℤ}
use Rattle.std.proofs.lemmas.Bool.{and_parts}
use Rattle.std.proofs.lemmas.Cmp.{tied_itself, int_eq_equiv}
use Rattle.std.specs.Ordering.{int_eq, is_eq}
use lib.Pointwise.{pointwise}
use Rattle.ln_tree.specs.Exps.{Pairs, pairs_cmp-total, same_pairs, same_pairs-is, same_pairs-ties}
use Rattle.ln_poly.specs.Sparse.{Sparse}
use Rattle.ln_poly.proofs.Sorting.Gathering.{int_eq-is}

-- the test of one term
abbrev pub same_term : Pairs × ℤ → Pairs × ℤ → Bool
same_term x y = same_pairs x.0 y.0 && int_eq x.1 y.1

-- polynomials that pass the test, term by term, are equal
pub same_terms-is : (xs ys : Sparse) → pointwise same_term xs ys ≡ true → xs ≡ ys
same_terms-is [] [] h = refl
same_terms-is [] (y ∷ ys) h = cc
same_terms-is (x ∷ xs) [] h = cc
same_terms-is (x ∷ xs) (y ∷ ys) h =
    let both = and_parts (same_term x y) (pointwise same_term xs ys) h in
    let parts = and_parts (same_pairs x.0 y.0) (int_eq x.1 y.1) both.0 in
    let p : x.0 ≡ y.0 = same_pairs-is x.0 y.0 parts.0 in
    let q : x.1 ≡ y.1 = int_eq-is x.1 y.1 parts.1 in
    let r : xs ≡ ys = same_terms-is xs ys both.1 in
    let e : (x.0, x.1) ∷ xs ≡ (y.0, y.1) ∷ ys = rw (p, q, r) refl in
    e

same_pairs-refl : (e : Pairs) → same_pairs e e ≡ true
same_pairs-refl e = same_pairs-ties e e ∙ ap is_eq (tied_itself pairs_cmp-total e)

-- a polynomial passes the test with itself
pub same_terms-refl : (xs : Sparse) → pointwise same_term xs xs ≡ true
same_terms-refl [] = refl
same_terms-refl (x ∷ xs) = rw (same_pairs-refl x.0, int_eq_equiv.refl x.1, same_terms-refl xs) refl
