-- `ways k a` has each list of k vectors whose sum is a, once, and no other.
use Rattle.std.proofs.Common.{◌≡◌, ℕ, zero, suc, refl, sym, ◌∙◌, ap, arith, List, [], ◌∷◌, map, length, Bool, true, false, ◌&&◌}
use Rattle.std.proofs.Common.{if◌then◌else◌, eqb, ◌⊎◌, inl, inr}
use Rattle.std.proofs.lemmas.Int.{ints}
use Rattle.std.proofs.lemmas.Bool.{cases_eq}
use Rattle.std.proofs.lemmas.Bool.Decides.{nat_tests}
use Rattle.std.proofs.Math.IntN.{ℤ, pos, ◌+ℤ◌, ◌*ℤ◌}
use Rattle.ln_algebra.proofs.Expanded.Expansion.{length-plus, length-zeros}
use Rattle.ln_algebra.proofs.Expanded.Normal.{same_vector-refl}
use Rattle.ln_algebra.proofs.Expanded.Shift.{sum_splits-within}
use Rattle.ln_algebra.proofs.Vectors.Splits.{one_if, one_if-and, same_vector-differ, splits_count}
use Rattle.ln_algebra.proofs.Expanded.Sums.{sum_over-append, sum_over-map, sum_over-same, sum_over-scale, sum_over-zero, sum_splits, sum_splits_is}
use Rattle.ln_algebra.proofs.Deriving.Taylor.{sum_splits-zero}
use Rattle.ln_algebra.specs.Vector.{IsWay, OfSize, how_many, is_zero, same_vector, same_vectors, splits, spread, sum_of, sum_over, ways, zeros}

-- ---- sums over all ways
-- the sum over the ways after each split
sum_spread : (h : List (List ℕ) → ℤ) (rest : List ℕ → List (List (List ℕ))) (ss : List (List ℕ × List ℕ))
    → sum_over h (spread rest ss) ≡ sum_over (λ s. sum_over (λ bs. h (s.0 ∷ bs)) (rest s.1)) ss
sum_spread h rest [] = refl
sum_spread h rest (s ∷ ss) =
    sum_over-append h (map (λ bs. s.0 ∷ bs) (rest s.1)) (spread rest ss)
    ∙ ap (λ z. z +ℤ sum_over h (spread rest ss)) (sum_over-map h (λ bs. s.0 ∷ bs) (rest s.1))
    ∙ ap (λ z. sum_over (λ bs. h (s.0 ∷ bs)) (rest s.1) +ℤ z) (sum_spread h rest ss)

-- the sum over the ways to write a as a sum of one vector more
pub sum_ways : (h : List (List ℕ) → ℤ) (k : ℕ) (a : List ℕ) → sum_over h (ways (suc k) a) ≡ sum_splits a (λ b r. sum_over (λ bs. h (b ∷ bs)) (ways k r))
sum_ways h k a = sum_spread h (ways k) (splits a) ∙ sum_splits_is a (λ b r. sum_over (λ bs. h (b ∷ bs)) (ways k r))

-- ---- how often a list of vectors is there
-- the test of numbers goes both ways
eqb-sym : (n k : ℕ) → eqb n k ≡ eqb k n
eqb-sym n k = grind (arith, nat_tests)

-- so does that of vectors
same_vector-sym : (a b : List ℕ) → same_vector a b ≡ same_vector b a
same_vector-sym [] [] = refl
same_vector-sym [] (k ∷ b) = refl
same_vector-sym (n ∷ a) [] = refl
same_vector-sym (n ∷ a) (k ∷ b) = ap (λ z. z && same_vector a b) (eqb-sym n k) ∙ ap (λ z. eqb k n && z) (same_vector-sym a b)

-- a vector is the vector of zeros or it isn't
zeros-is_zero : (a : List ℕ) → is_zero a ≡ same_vector (zeros (length a)) a
zeros-is_zero [] = refl
zeros-is_zero (zero ∷ a) = zeros-is_zero a
zeros-is_zero (suc n ∷ a) = let e : eqb 0 (suc n) ≡ false = grind (arith, nat_tests) in rw e refl

-- a sum has n exponents
length-sum_of : (n : ℕ) (bs : List (List ℕ)) → OfSize n bs → length (sum_of n bs) ≡ n
length-sum_of n [] o = length-zeros n
length-sum_of n (b ∷ bs) o = let ih : length (sum_of n bs) ≡ n = length-sum_of n bs o.1 in length-plus b (sum_of n bs) (o.0 ∙ sym ih) ∙ ih

-- the first vector and the others are compared apart
count-first : (b : List ℕ) (bs : List (List ℕ)) (k : ℕ) (a : List ℕ) → how_many (λ cs. same_vectors cs (b ∷ bs)) (ways (suc k) a)
    ≡ sum_splits a (λ u r. one_if (same_vector u b) *ℤ how_many (λ cs. same_vectors cs bs) (ways k r))
count-first b bs k a =
    sum_ways (λ cs. one_if (same_vectors cs (b ∷ bs))) k a
    ∙ sum_splits-within a (λ u r. sum_over (λ cs. one_if (same_vector u b && same_vectors cs bs)) (ways k r))
    (λ u r. one_if (same_vector u b) *ℤ how_many (λ cs. same_vectors cs bs) (ways k r))
    (λ u r i j. sum_over-same (λ cs. one_if (same_vector u b && same_vectors cs bs))
    (λ cs. one_if (same_vector u b) *ℤ one_if (same_vectors cs bs)) (ways k r) (λ cs. one_if-and (same_vector u b) (same_vectors cs bs))
    ∙ sum_over-scale (one_if (same_vector u b)) (λ cs. one_if (same_vectors cs bs)) (ways k r))

-- of k vectors of the right size: once where the sum is a, else not at all
ways_count : (k : ℕ) (a : List ℕ) (bs : List (List ℕ)) → length bs ≡ k → OfSize (length a) bs
    → how_many (λ cs. same_vectors cs bs) (ways k a) ≡ one_if (same_vector (sum_of (length a) bs) a)
ways_count zero a [] e o = by_case (is_zero a) ∙ ap one_if (zeros-is_zero a) where
  by_case : (z : Bool) → how_many (λ cs. same_vectors cs []) (if z then ([] ∷ []) else []) ≡ one_if z
  by_case true = refl
  by_case false = refl
ways_count zero a (b ∷ bs) e o = absurd (omega arith)
ways_count (suc k) a [] e o = absurd (omega arith)
ways_count (suc k) a (b ∷ bs) e o =
    let S : List ℕ = sum_of (length a) bs in
    count-first b bs k a
    ∙ sum_splits-within a (λ u r. one_if (same_vector u b) *ℤ how_many (λ cs. same_vectors cs bs) (ways k r))
    (λ u r. one_if (same_vector u b && same_vector r S)) (λ u r i j. step u r j (ways_count k r bs (omega arith) (rw j o.1)))
    ∙ sym (sum_splits_is a (λ u r. one_if (same_vector u b && same_vector r S)))
    ∙ splits_count a b S o.0 (length-sum_of (length a) bs o.1) where
      step : (u r : List ℕ) → length r ≡ length a → how_many (λ cs. same_vectors cs bs) (ways k r) ≡ one_if (same_vector (sum_of (length r) bs) r)
          → one_if (same_vector u b) *ℤ how_many (λ cs. same_vectors cs bs) (ways k r) ≡ one_if (same_vector u b && same_vector r (sum_of (length a) bs))
      step u r j ih =
          ap (λ z. one_if (same_vector u b) *ℤ z) (ih ∙ ap (λ z. one_if (same_vector (sum_of z bs) r)) j ∙ ap one_if (same_vector-sym (sum_of (length a) bs) r))
          ∙ sym (one_if-and (same_vector u b) (same_vector r (sum_of (length a) bs)))

-- lists of other lengths, or of vectors of other sizes, aren't there
ways-bad : (n k : ℕ) (a : List ℕ) (bs : List (List ℕ)) → length a ≡ n → (length bs ≡ k → OfSize n bs → ⊥)
    → how_many (λ cs. same_vectors cs bs) (ways k a) ≡ pos 0
ways-bad n zero a [] e h = absurd (h refl tt)
ways-bad n zero a (b ∷ bs) e h = by_case (is_zero a) where
  by_case : (z : Bool) → how_many (λ cs. same_vectors cs (b ∷ bs)) (if z then ([] ∷ []) else []) ≡ pos 0
  by_case true = refl
  by_case false = refl
ways-bad n (suc k) a [] e h =
    sum_ways (λ cs. one_if (same_vectors cs [])) k a
    ∙ sum_splits-within a (λ u r. sum_over (λ cs. pos 0) (ways k r)) (λ u r. pos 0) (λ u r i j. sum_over-zero (ways k r))
    ∙ sum_splits-zero a
ways-bad n (suc k) a (b ∷ bs) e h =
    count-first b bs k a
    ∙ sum_splits-within a (λ u r. one_if (same_vector u b) *ℤ how_many (λ cs. same_vectors cs bs) (ways k r)) (λ u r. pos 0)
    (λ u r i j. by_size u r (i ∙ e) (cases_eq (length b) n) (λ q. ways-bad n k r bs (j ∙ e) (λ l o. h (ap suc l) (q, o))))
    ∙ sum_splits-zero a where
      by_size : (u r : List ℕ) → length u ≡ n → (length b ≡ n) ⊎ (length b ≡ n → ⊥) → (length b ≡ n → how_many (λ cs. same_vectors cs bs) (ways k r) ≡ pos 0)
          → one_if (same_vector u b) *ℤ how_many (λ cs. same_vectors cs bs) (ways k r) ≡ pos 0
      by_size u r i (inl q) ih = (let z : one_if (same_vector u b) *ℤ pos 0 ≡ pos 0 = omega (arith, ints) in ap (λ y. one_if (same_vector u b) *ℤ y) (ih q) ∙ z)
      by_size u r i (inr d) ih =
          let H : ℤ = how_many (λ cs. same_vectors cs bs) (ways k r) in
          let z : pos 0 *ℤ H ≡ pos 0 = omega (arith, ints) in
          ap (λ y. one_if y *ℤ H) (same_vector-differ u b (λ q. d (ap length (sym q) ∙ i))) ∙ z

-- vectors have the right size or not
of_size_cases : (n : ℕ) (bs : List (List ℕ)) → OfSize n bs ⊎ (OfSize n bs → ⊥)
of_size_cases n [] = inl tt
of_size_cases n (b ∷ bs) = by_case (cases_eq (length b) n) (of_size_cases n bs) where
  by_case : (length b ≡ n) ⊎ (length b ≡ n → ⊥) → OfSize n bs ⊎ (OfSize n bs → ⊥) → OfSize n (b ∷ bs) ⊎ (OfSize n (b ∷ bs) → ⊥)
  by_case (inl e) (inl o) = inl (e, o)
  by_case (inr d) o = inr (λ h. d h.0)
  by_case (inl e) (inr d) = inr (λ h. d h.1)

-- a way is there once
ways-once : (k : ℕ) (a : List ℕ) (bs : List (List ℕ)) → IsWay k a bs → how_many (λ cs. same_vectors cs bs) (ways k a) ≡ pos 1
ways-once k a bs w = ways_count k a bs w.count w.sizes ∙ ap one_if (ap (λ z. same_vector z a) w.sum ∙ same_vector-refl a)

-- what is no way isn't there
ways-none : (k : ℕ) (a : List ℕ) (bs : List (List ℕ)) → (IsWay k a bs → ⊥) → how_many (λ cs. same_vectors cs bs) (ways k a) ≡ pos 0
ways-none k a bs h = by_case (cases_eq (length bs) k) (of_size_cases (length a) bs) where
  by_case : (length bs ≡ k) ⊎ (length bs ≡ k → ⊥) → OfSize (length a) bs ⊎ (OfSize (length a) bs → ⊥) → how_many (λ cs. same_vectors cs bs) (ways k a) ≡ pos 0
  by_case (inl e) (inl o) = ways_count k a bs e o ∙ ap one_if (same_vector-differ (sum_of (length a) bs) a (λ q. h (record { count = e; sizes = o; sum = q })))
  by_case (inr d) o = ways-bad (length a) k a bs refl (λ l s. d l)
  by_case (inl e) (inr d) = ways-bad (length a) k a bs refl (λ l s. d s)

-- the ways are the lists of k vectors whose sum is a
pub ways-all : (k : ℕ) (a : List ℕ) (bs : List (List ℕ))
    → (IsWay k a bs → how_many (λ cs. same_vectors cs bs) (ways k a) ≡ pos 1) × ((IsWay k a bs → ⊥) → how_many (λ cs. same_vectors cs bs) (ways k a) ≡ pos 0)
ways-all k a bs = (ways-once k a bs, ways-none k a bs)
