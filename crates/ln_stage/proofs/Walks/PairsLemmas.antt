-- Proves that an exponent vector and its list of pairs determine each other.
use Rattle.std.proofs.Common.{◌≡◌, Bool, true, false, eq-eqb, ℕ, zero, suc, ◌+◌, ◌<◌, List, [], ◌∷◌, ◌++◌, length}
use Rattle.std.proofs.Common.{get_or, drop, refl, sym, ◌∙◌, ap, subst, arith, add-one, append_assoc, drop-cons}
use Rattle.ln_algebra.specs.Vector.{same_vector}
use Rattle.ln_algebra.proofs.Expanded.Normal.{same_vector-is, same_vector-refl}
use Rattle.ln_tree.specs.Exps.{IsAbove, IsRising, Pairs, exponents_from, same_pairs, same_pairs-is, vector}
use Rattle.ln_poly.specs.Packed.{AreSmall, pairs_from}
use Rattle.ln_poly.proofs.Packing.Opened.{small-rising}
use Rattle.ln_poly.proofs.Sorting.Collected.{vectors-same}
use Rattle.ln_poly.proofs.TermLists.Exponents.{exponent-small}
use Rattle.ln_poly.proofs.TermLists.Vectors.{pairs-above, pairs-vector}
use Rattle.ln_stage.specs.Tally.{pairs_of}

-- ---- steps of the loop
pairs-cons : (v n : ℕ) (p : List ℕ) → 0 < n → pairs_from v (n ∷ p) ≡ (v, n) ∷ pairs_from (suc v) p
pairs-cons v zero p h = absurd (omega arith)
pairs-cons v (suc e) p h = refl

-- a variable without an exponent is passed by
pub pairs-skip : (p : List ℕ) (v : ℕ) → v < length p → get_or p v 0 ≡ 0 → pairs_from (v + 1) (drop (v + 1) p) ≡ pairs_from v (drop v p)
pairs-skip p v h e = rw (drop-cons p v 0 h, e, add-one) refl

-- one with an exponent is a pair
pub pairs-put : (p : List ℕ) (v : ℕ) (a : Pairs) → v < length p → 0 < get_or p v 0
    → (a ++ (v, get_or p v 0) ∷ []) ++ pairs_from (v + 1) (drop (v + 1) p) ≡ a ++ pairs_from v (drop v p)
pairs-put p v a h l = rw (drop-cons p v 0 h, add-one, append_assoc, pairs-cons v (get_or p v 0) (drop (suc v) p) l) refl

-- where all variables are below v, they are below v + 1
pub above-more : (a : Pairs) (v : ℕ) → IsAbove a v → IsAbove a (v + 1)
above-more [] v h = tt
above-more (p ∷ a) v h = (omega (arith, h.0), above-more a v h.1)

-- where all variables are below v, they are below v + 1 with one more pair, that of v
pub above-put : (a : Pairs) (v e : ℕ) → IsAbove a v → IsAbove (a ++ (v, e) ∷ []) (v + 1)
above-put [] v e h = (omega arith, tt)
above-put (p ∷ a) v e h = (omega (arith, h.0), above-put a v e h.1)

-- ---- a vector from its pairs
-- a vector of n exponents is the vector of its pairs
pub vector-pairs_of : (n : ℕ) (p : List ℕ) → length p ≡ n → vector n (pairs_of p) ≡ p
vector-pairs_of n p e = rw (← e) (pairs-vector 0 p)

-- the variables in the pairs of a vector of n exponents are below n
pub above-pairs : (p : List ℕ) (n : ℕ) → length p ≡ n → IsAbove (pairs_of p) n
above-pairs p n e = pairs-above 0 n p (omega (arith, e))

-- the exponents of rising pairs are small
small-vector : (v n : ℕ) (ps : Pairs) → IsRising ps → AreSmall (exponents_from v n ps)
small-vector v zero ps r = tt
small-vector v (suc n) ps r = (exponent-small ps v r, small-vector (suc v) n ps r)

-- ---- the two tests
-- pairs pass the test of being the same as themselves
pub same_pairs-refl : (e : Pairs) → same_pairs e e ≡ true
same_pairs-refl [] = refl
same_pairs-refl (p ∷ ps) = rw (eq-eqb p.0 p.0 refl, eq-eqb p.1 p.1 refl, same_pairs-refl ps) refl

from-tests : (x y : Bool) → (x ≡ true → y ≡ true) → (y ≡ true → x ≡ true) → x ≡ y
from-tests true true f g = refl
from-tests true false f g = sym (f refl)
from-tests false true f g = g refl
from-tests false false f g = refl

-- the test of pairs against those of a vector is the test of vectors
pub tests-same : (n : ℕ) (ps : Pairs) (p : List ℕ) → IsRising ps → IsAbove ps n → length p ≡ n → same_pairs ps (pairs_of p) ≡ same_vector (vector n ps) p
tests-same n ps p r a e =
    from-tests (same_pairs ps (pairs_of p)) (same_vector (vector n ps) p)
    (λ h. let q : vector n ps ≡ p = ap (vector n) (same_pairs-is ps (pairs_of p) h) ∙ vector-pairs_of n p e in rw q (same_vector-refl p))
    (λ h. let v : vector n ps ≡ p = same_vector-is (vector n ps) p h in
    let s : IsRising (pairs_of p) = small-rising 0 p (subst AreSmall v (small-vector 0 n ps r)) in
    let q : ps ≡ pairs_of p = vectors-same n ps (pairs_of p) r s a (above-pairs p n e) (v ∙ sym (vector-pairs_of n p e)) in
    rw q (same_pairs-refl (pairs_of p)))

-- and of two vectors' pairs
pub tests-of-vectors : (n : ℕ) (a b : List ℕ) → length a ≡ n → length b ≡ n → same_pairs (pairs_of a) (pairs_of b) ≡ same_vector a b
tests-of-vectors n a b e h =
    from-tests (same_pairs (pairs_of a) (pairs_of b)) (same_vector a b)
    (λ t. let q : a ≡ b = sym (vector-pairs_of n a e) ∙ ap (vector n) (same_pairs-is (pairs_of a) (pairs_of b) t) ∙ vector-pairs_of n b h in
    rw q (same_vector-refl b))
    (λ t. let q : a ≡ b = same_vector-is a b t in rw q (same_pairs-refl (pairs_of b)))
