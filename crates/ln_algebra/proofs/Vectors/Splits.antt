-- `splits a` has each pair of vectors whose sum is a, once, and no other.
use Rattle.std.proofs.Common.{◌≡◌, ℕ, ◌+◌, zero, suc, refl, sym, ◌∙◌, ap, arith, List, [], ◌∷◌, length, Bool, true, false, ◌&&◌}
use Rattle.std.proofs.Common.{if◌then◌else◌, eqb, ◌⊎◌, inl, inr}
use Rattle.std.proofs.lemmas.Int.{ints}
use Rattle.std.proofs.lemmas.Bool.{and_right, cases_eq}
use Rattle.std.proofs.lemmas.Bool.Decides.{nat_tests}
use Rattle.std.proofs.Math.IntN.{ℤ, pos, ◌*ℤ◌}
use Rattle.ln_algebra.proofs.Expanded.Ring.{mul_comm}
use Rattle.ln_algebra.proofs.Expanded.Sums.{sum_parts, sum_splits, sum_splits_is}
use Rattle.ln_algebra.proofs.Deriving.Taylor.{sum_parts-same, sum_parts-scale, sum_parts-zero, sum_splits-same, sum_splits-scale, sum_splits-zero}
use Rattle.ln_algebra.proofs.Expanded.Shift.{sum_splits-within}
use Rattle.ln_algebra.proofs.Expanded.Normal.{eqb-suc, same_vector-is, same_vector-refl}
use Rattle.ln_algebra.specs.Vector.{IsSplit, how_many, is_pair, plus, same_vector, splits, sum_over}

-- 1 where the test holds, else 0
abbrev pub one_if : Bool → ℤ
one_if b = if b then pos 1 else pos 0

-- two tests as one
pub one_if-and : (a b : Bool) → one_if (a && b) ≡ one_if a *ℤ one_if b
one_if-and true true = refl
one_if-and true false = refl
one_if-and false true = refl
one_if-and false false = refl

-- four tests in another order
four_tests : (a b c d : Bool) → one_if ((a && b) && (c && d)) ≡ one_if (a && c) *ℤ one_if (b && d)
four_tests true b true d = one_if-and b d ∙ (let e : one_if b *ℤ one_if d ≡ pos 1 *ℤ (one_if b *ℤ one_if d) = omega (arith, ints) in e)
    ∙ ap (λ z. pos 1 *ℤ z) (sym (one_if-and b d))
four_tests true b false d = (let e : pos 0 ≡ pos 0 *ℤ one_if (b && d) = omega (arith, ints) in by_case b e) where
  by_case : (b : Bool) → pos 0 ≡ pos 0 *ℤ one_if (b && d) → one_if (b && false) ≡ pos 0 *ℤ one_if (b && d)
  by_case true e = e
  by_case false e = refl
four_tests false b c d = omega (arith, ints)

-- 0 is the sum of 0 and 0 alone
test_zero : (j k : ℕ) → (eqb 0 j && eqb 0 k) ≡ eqb (j + k) 0
test_zero j k = grind (arith, nat_tests)

-- one more isn't 0
test_suc_zero : (u : ℕ) (b : Bool) → (eqb (suc u) 0 && b) ≡ false
test_suc_zero u b = grind (arith, nat_tests)

-- the first part of n is 0 and n
test_first : (n k : ℕ) → (eqb 0 0 && eqb (suc n) k) ≡ eqb (0 + k) (suc n)
test_first n k = grind (arith, nat_tests)

-- 0 isn't one more
test_zero_suc : (j : ℕ) (b : Bool) → (eqb 0 (suc j) && b) ≡ false
test_zero_suc j b = grind (arith, nat_tests)

-- one more on both sides
test_sum : (j k n : ℕ) → eqb (j + k) n ≡ eqb (suc j + k) (suc n)
test_sum j k n = grind (arith, nat_tests)

-- among the parts of n, the pair (j, k) occurs once where j + k is n
parts_count : (n j k : ℕ) → sum_parts n (λ u v. one_if (eqb u j && eqb v k)) ≡ one_if (eqb (j + k) n)
parts_count zero j k = ap one_if (test_zero j k)
parts_count (suc n) zero k =
    let none : sum_parts n (λ u v. one_if (eqb (suc u) 0 && eqb v k)) ≡ pos 0 =
    sum_parts-same n (λ u v. one_if (eqb (suc u) 0 && eqb v k)) (λ u v. pos 0) (λ u v. ap one_if (test_suc_zero u (eqb v k))) ∙ sum_parts-zero n in
    omega (arith, ints, none, ap one_if (test_first n k))
parts_count (suc n) (suc j) k =
    let same : sum_parts n (λ u v. one_if (eqb (suc u) (suc j) && eqb v k)) ≡ one_if (eqb (j + k) n) =
    sum_parts-same n (λ u v. one_if (eqb (suc u) (suc j) && eqb v k)) (λ u v. one_if (eqb u j && eqb v k))
    (λ u v. ap (λ z. one_if (z && eqb v k)) (eqb-suc u j)) ∙ parts_count n j k in
    omega (arith, ints, same, ap one_if (test_zero_suc j (eqb (suc n) k)), ap one_if (test_sum j k n))

-- the pair (b, c) occurs once in the splits of a where b + c is a, and else not
pub splits_count : (a b c : List ℕ) → length b ≡ length a → length c ≡ length a
    → sum_over (λ s. one_if (same_vector s.0 b && same_vector s.1 c)) (splits a) ≡ one_if (same_vector (plus b c) a)
splits_count a b c h k = sum_splits_is a (λ u v. one_if (same_vector u b && same_vector v c)) ∙ count a b c h k where
  count : (a b c : List ℕ) → length b ≡ length a → length c ≡ length a
      → sum_splits a (λ u v. one_if (same_vector u b && same_vector v c)) ≡ one_if (same_vector (plus b c) a)
  count [] [] [] h k = refl
  count [] (j ∷ b) c h k = absurd (omega arith)
  count [] [] (l ∷ c) h k = absurd (omega arith)
  count (n ∷ a) [] c h k = absurd (omega arith)
  count (n ∷ a) (j ∷ b) [] h k = absurd (omega arith)
  count (n ∷ a) (j ∷ b) (l ∷ c) h k =
      let R : ℤ = one_if (same_vector (plus b c) a) in
      sum_parts-same n (λ u v. sum_splits a (λ p q. one_if ((eqb u j && same_vector p b) && (eqb v l && same_vector q c))))
      (λ u v. R *ℤ one_if (eqb u j && eqb v l))
      (λ u v.
      sum_splits-same a (λ p q. one_if ((eqb u j && same_vector p b) && (eqb v l && same_vector q c))) (λ p q. one_if (eqb u j && eqb v l)
      *ℤ one_if (same_vector p b && same_vector q c)) (λ p q. four_tests (eqb u j) (same_vector p b) (eqb v l) (same_vector q c))
      ∙ sum_splits-scale a (one_if (eqb u j && eqb v l)) (λ p q. one_if (same_vector p b && same_vector q c))
      ∙ ap (λ z. one_if (eqb u j && eqb v l) *ℤ z) (count a b c (omega arith) (omega arith))
      ∙ mul_comm (one_if (eqb u j && eqb v l)) R)
      ∙ sum_parts-scale n R (λ u v. one_if (eqb u j && eqb v l))
      ∙ ap (λ z. R *ℤ z) (parts_count n j l)
      ∙ mul_comm R (one_if (eqb (j + l) n))
      ∙ sym (one_if-and (eqb (j + l) n) (same_vector (plus b c) a))

-- ---- each pair is there once, where it is a split, and else not at all
-- the test fails at vectors that differ
same_vector-not : (a b : List ℕ) → (a ≡ b → ⊥) → (t : Bool) → same_vector a b ≡ t → t ≡ false
same_vector-not a b h true e = absurd (h (same_vector-is a b e))
same_vector-not a b h false e = refl

-- vectors that differ aren't the same vector
pub same_vector-differ : (a b : List ℕ) → (a ≡ b → ⊥) → same_vector a b ≡ false
same_vector-differ a b h = same_vector-not a b h (same_vector a b) refl

-- a split is there once
pub splits-once : (a b c : List ℕ) → IsSplit a b c → how_many (is_pair b c) (splits a) ≡ pos 1
splits-once a b c s = splits_count a b c s.left s.right ∙ ap one_if (ap (λ z. same_vector z a) s.sum ∙ same_vector-refl a)

-- vectors of other lengths aren't among the splits
pub splits-unsized : (a b c : List ℕ) → ((u v : List ℕ) → length u ≡ length a → length v ≡ length a → (same_vector u b && same_vector v c) ≡ false)
    → how_many (is_pair b c) (splits a) ≡ pos 0
splits-unsized a b c h =
    sum_splits_is a (λ u v. one_if (same_vector u b && same_vector v c))
    ∙ sum_splits-within a (λ u v. one_if (same_vector u b && same_vector v c)) (λ u v. pos 0) (λ u v i j. ap one_if (h u v i j))
    ∙ sum_splits-zero a

-- what is no split isn't there
pub splits-none : (a b c : List ℕ) → (IsSplit a b c → ⊥) → how_many (is_pair b c) (splits a) ≡ pos 0
splits-none a b c h = by_size (cases_eq (length b) (length a)) (cases_eq (length c) (length a)) where
  by_size : (length b ≡ length a) ⊎ (length b ≡ length a → ⊥) → (length c ≡ length a) ⊎ (length c ≡ length a → ⊥) → how_many (is_pair b c) (splits a) ≡ pos 0
  by_size (inl l) (inl r) = splits_count a b c l r ∙ ap one_if (same_vector-differ (plus b c) a (λ q. h (record { left = l; right = r; sum = q })))
  by_size (inr l) r = splits-unsized a b c (λ u v i j. ap (λ z. z && same_vector v c) (same_vector-differ u b (λ q. l (ap length (sym q) ∙ i))))
  by_size (inl l) (inr r) =
      splits-unsized a b c (λ u v i j. and_right (same_vector u b) (same_vector v c) (same_vector-differ v c (λ q. r (ap length (sym q) ∙ j))))

-- the splits of a are the pairs whose sum is a
pub splits-all : (a b c : List ℕ)
    → (IsSplit a b c → how_many (is_pair b c) (splits a) ≡ pos 1) × ((IsSplit a b c → ⊥) → how_many (is_pair b c) (splits a) ≡ pos 0)
splits-all a b c = (splits-once a b c, splits-none a b c)
