-- Vectors that one vector covers, and the coefficients of scaled derivatives.
use Rattle.std.proofs.Common.{◌≡◌, ℕ, ◌+◌, ◌-◌, suc, refl, sym, ◌∙◌, ap, arith, List, [], ◌∷◌, length, Bool, true, false, ◌&&◌, if◌then◌else◌, eqb, leb}
use Rattle.std.proofs.lemmas.Bool.{and_parts}
use Rattle.std.proofs.lemmas.Bool.Decides.{nat_tests}
use Rattle.std.proofs.lemmas.Int.{ints}
use Rattle.std.proofs.Math.IntN.{ℤ, pos, ◌+ℤ◌, ◌*ℤ◌}
use Rattle.ln_algebra.proofs.Expanded.Degree.{sum_splits-on}
use Rattle.ln_algebra.proofs.Expanded.Normal.{same_vector-is, same_vector-refl}
use Rattle.ln_algebra.proofs.Expanded.Ring.{mul_add, mul_comm}
use Rattle.ln_algebra.proofs.Vectors.Splits.{one_if, splits_count}
use Rattle.ln_algebra.proofs.Expanded.Sums.{sum_over-map, sum_splits_is}
use Rattle.ln_algebra.specs.Terms.{Over, Term, binomials, derived, factor_at}
use Rattle.ln_algebra.specs.Vector.{IsSplit, covered_by, covers, how_many, minus, plus, same_vector, splits}

-- ---- sums and differences
-- a sum covers its second vector
covers-plus : (m a : List ℕ) → length m ≡ length a → covers (plus m a) a ≡ true
covers-plus [] [] e = refl
covers-plus [] (k ∷ a) e = absurd (omega arith)
covers-plus (n ∷ m) [] e = absurd (omega arith)
covers-plus (n ∷ m) (k ∷ a) e = let t : leb k (n + k) ≡ true = grind (arith, nat_tests) in rw t (covers-plus m a (omega arith))

-- taking the first vector from a sum leaves the second
minus-plus : (u v : List ℕ) → length u ≡ length v → minus (plus u v) u ≡ v
minus-plus [] [] e = refl
minus-plus [] (k ∷ v) e = absurd (omega arith)
minus-plus (n ∷ u) [] e = absurd (omega arith)
minus-plus (n ∷ u) (k ∷ v) e = let d : (n + k) - n ≡ k = omega arith in ap (λ z. z ∷ minus (plus u v) u) d ∙ ap (λ z. k ∷ z) (minus-plus u v (omega arith))

-- a difference has as many exponents
pub length-minus : (m a : List ℕ) → length m ≡ length a → length (minus m a) ≡ length m
length-minus [] a e = refl
length-minus (n ∷ m) [] e = absurd (omega arith)
length-minus (n ∷ m) (k ∷ a) e = ap suc (length-minus m a (omega arith))

-- k plus the difference n - k is n exactly where k is at most n
eqb-add : (n k : ℕ) → eqb (k + (n - k)) n ≡ leb k n
eqb-add n k = grind (arith, nat_tests)

-- a difference is i exactly where the number is a sum with i
eqb-minus : (n k i : ℕ) → leb k n ≡ true → eqb (n - k) i ≡ eqb n (i + k)
eqb-minus n k i l = grind (arith, nat_tests)

-- a plus the difference is m exactly where m covers a
plus-minus : (m a : List ℕ) → length m ≡ length a → same_vector (plus a (minus m a)) m ≡ covers m a
plus-minus [] [] e = refl
plus-minus [] (k ∷ a) e = absurd (omega arith)
plus-minus (n ∷ m) [] e = absurd (omega arith)
plus-minus (n ∷ m) (k ∷ a) e = ap (λ z. z && same_vector (plus a (minus m a)) m) (eqb-add n k) ∙ ap (λ z. leb k n && z) (plus-minus m a (omega arith))

-- the difference of k and a is m exactly where k is the sum of m and a
minus-is : (k a m : List ℕ) → length k ≡ length a → length m ≡ length a → covers k a ≡ true → same_vector (minus k a) m ≡ same_vector k (plus m a)
minus-is [] [] [] e f c = refl
minus-is [] (j ∷ a) m e f c = absurd (omega arith)
minus-is [] [] (i ∷ m) e f c = absurd (omega arith)
minus-is (n ∷ k) [] m e f c = absurd (omega arith)
minus-is (n ∷ k) (j ∷ a) [] e f c = absurd (omega arith)
minus-is (n ∷ k) (j ∷ a) (i ∷ m) e f c =
    let p = and_parts (leb j n) (covers k a) c in
    ap (λ z. z && same_vector (minus k a) m) (eqb-minus n j i p.0) ∙ ap (λ z. eqb n (i + j) && z) (minus-is k a m (omega arith) (omega arith) p.1)

-- ---- the vectors that one covers
-- where the first of a split is a, the second is the difference
split-first : (bound a u v : List ℕ) → IsSplit bound u v → (b : Bool) → same_vector u a ≡ b → one_if b ≡ one_if (b && same_vector v (minus bound a))
split-first bound a u v s false e = refl
split-first bound a u v s true e =
    let q : u ≡ a = same_vector-is u a e in
    let d : minus bound u ≡ v = ap (λ z. minus z u) (sym s.sum) ∙ minus-plus u v (s.left ∙ sym s.right) in
    let r : minus bound a ≡ v = ap (λ z. minus bound z) (sym q) ∙ d in
    let t : same_vector v (minus bound a) ≡ true = rw r (same_vector-refl v) in
    rw t refl

-- each covered vector is there once, and no other
pub covered_by-once : (bound a : List ℕ) → length a ≡ length bound
    → how_many (λ b. same_vector b a) (covered_by bound) ≡ if covers bound a then pos 1 else pos 0
covered_by-once bound a e =
    sum_over-map (λ b. one_if (same_vector b a)) (λ s. s.0) (splits bound)
    ∙ sum_splits_is bound (λ u v. one_if (same_vector u a))
    ∙ sum_splits-on bound (λ u v. one_if (same_vector u a)) (λ u v. one_if (same_vector u a && same_vector v (minus bound a)))
    (λ u v s. split-first bound a u v s (same_vector u a) refl)
    ∙ sym (sum_splits_is bound (λ u v. one_if (same_vector u a && same_vector v (minus bound a))))
    ∙ splits_count bound a (minus bound a) e (length-minus bound a (sym e))
    ∙ ap one_if (plus-minus bound a (sym e))

-- ---- the coefficients of a scaled derivative

-- one term more
derived_step : (t : Term) (f : List Term) (m a : List ℕ) → length t.exponents ≡ length a → length m ≡ length a
    → factor_at (derived a f) m ≡ factor_at f (plus m a) *ℤ pos (binomials (plus m a) a) → (c : Bool) → covers t.exponents a ≡ c → (b : Bool)
    → same_vector t.exponents (plus m a) ≡ b → factor_at (derived a (t ∷ f)) m ≡ factor_at (t ∷ f) (plus m a) *ℤ pos (binomials (plus m a) a)
derived_step t f m a e h ih true c true b =
    let q : t.exponents ≡ plus m a = same_vector-is t.exponents (plus m a) b in
    let s : same_vector (minus t.exponents a) m ≡ true = minus-is t.exponents a m e h c ∙ b in
    let B : ℤ = pos (binomials (plus m a) a) in
    let w : pos (binomials t.exponents a) ≡ B = ap (λ z. pos (binomials z a)) q in
    rw c (rw s (rw b (omega (
      arith,
      ints,
      ih,
      ap (λ z. t.factor *ℤ z) w,
      mul_comm (t.factor +ℤ factor_at f (plus m a)) B,
      mul_add B t.factor (factor_at f (plus m a)),
      mul_comm B t.factor,
      mul_comm B (factor_at f (plus m a)),
    ))))
derived_step t f m a e h ih true c false b =
    let s : same_vector (minus t.exponents a) m ≡ false = minus-is t.exponents a m e h c ∙ b in
    let B : ℤ = pos (binomials (plus m a) a) in
    let z : pos 0 +ℤ factor_at f (plus m a) ≡ factor_at f (plus m a) = omega (arith, ints) in
    let y : pos 0 +ℤ factor_at (derived a f) m ≡ factor_at (derived a f) m = omega (arith, ints) in
    rw c (rw s (rw b (y ∙ ih ∙ ap (λ u. u *ℤ B) (sym z))))
derived_step t f m a e h ih false c true b = absurd (let q : t.exponents ≡ plus m a = same_vector-is t.exponents (plus m a) b in
    let k : covers t.exponents a ≡ true = rw q (covers-plus m a h) in let n : false ≡ true = sym c ∙ k in cc)
derived_step t f m a e h ih false c false b =
    let z : pos 0 +ℤ factor_at f (plus m a) ≡ factor_at f (plus m a) = omega (arith, ints) in
    rw c (rw b (ih ∙ ap (λ u. u *ℤ pos (binomials (plus m a) a)) (sym z)))

-- at m it is the coefficient at m + a, times the binomials
pub factor_at-derived : (a : List ℕ) (f : List Term) (m : List ℕ) → Over (length a) f → length m ≡ length a
    → factor_at (derived a f) m ≡ factor_at f (plus m a) *ℤ pos (binomials (plus m a) a)
factor_at-derived a [] m o e = omega (arith, ints)
factor_at-derived a (t ∷ f) m o e =
    derived_step t f m a o.0 e (factor_at-derived a f m o.1 e) (covers t.exponents a) refl (same_vector t.exponents (plus m a)) refl
