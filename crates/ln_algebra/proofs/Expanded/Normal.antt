-- Lists of terms with the same coefficients have the same sums.
use Rattle.std.proofs.Common.{◌≡◌, ℕ, ◌≤◌, zero, suc, refl, sym, ◌∙◌, ap, arith, List, [], ◌∷◌, ◌++◌, length, Bool, true, false, ◌&&◌}
use Rattle.std.proofs.Common.{if◌then◌else◌, eqb, ◌⊎◌, inl, inr}
use Rattle.std.proofs.lemmas.Int.{ints}
use Rattle.std.proofs.lemmas.Bool.Decides.{nat_tests}
use Rattle.std.proofs.lemmas.Grind.{common_steps}
use Rattle.std.proofs.Math.IntN.{ℤ, pos, negsuc, ◌+ℤ◌, ◌*ℤ◌, neg_ℤ}
use Rattle.ln_algebra.proofs.Expanded.Ring.{choose_times, mul_add, mul_comm, mul_neg}
use Rattle.ln_algebra.proofs.Expanded.Sums.{sum_over-append}
use Rattle.ln_algebra.proofs.Deriving.Taylor.{taylor}
use Rattle.ln_algebra.proofs.Expanded.Expansion.{tau, expanded, negated, Over-expanded, shifted}
use Rattle.ln_algebra.proofs.Expanded.Shift.{coefficient_is}
use Rattle.ln_algebra.specs.Vector.{Within, sum_over}
use Rattle.ln_algebra.specs.Coefficient.{normal_coefficient}
use Rattle.ln_algebra.specs.Terms.{Over, Term, factor_at, same_vector}
use Rattle.ln_algebra.specs.Tree.{Tree, InputsBelow}

-- one more on both sides
pub eqb-suc : (n k : ℕ) → eqb (suc n) (suc k) ≡ eqb n k
eqb-suc n k = grind (arith, nat_tests)

-- 0 isn't one more
eqb-zero-suc : (k : ℕ) → eqb 0 (suc k) ≡ false
eqb-zero-suc k = grind (arith, nat_tests)

-- one more isn't 0
eqb-suc-zero : (k : ℕ) → eqb (suc k) 0 ≡ false
eqb-suc-zero k = grind (arith, nat_tests)

-- at x = 0 the factor is 1 where the exponents agree
taylor-zero : (n k : ℕ) → taylor (pos 0) n k ≡ if eqb n k then pos 1 else pos 0
taylor-zero zero zero = refl
taylor-zero zero (suc k) = rw eqb-zero-suc refl
taylor-zero (suc n) zero = rw eqb-suc-zero (omega (arith, ints))
taylor-zero (suc n) (suc k) = rw eqb-suc (omega (arith, ints, taylor-zero n k))

-- two tests as one
both : (a b : Bool) → (if a then pos 1 else pos 0) *ℤ (if b then pos 1 else pos 0) ≡ if a && b then pos 1 else pos 0
both true true = refl
both true false = refl
both false true = refl
both false false = refl

-- all variables
abbrev pub everywhere : ℕ → Bool
everywhere v = true

-- every vector is over all variables
pub within_all : (a : List ℕ) → Within everywhere a
within_all [] = tt
within_all (zero ∷ a) = within_all a
within_all (suc k ∷ a) = (refl, within_all a)

-- the point of zeros
abbrev pub origin : ℕ → ℤ
origin v = pos 0

-- there a monomial has coefficient 1 at its own exponents alone
pub tau-origin : (m a : List ℕ) → length m ≡ length a → tau everywhere origin m a ≡ if same_vector m a then pos 1 else pos 0
tau-origin [] [] h = refl
tau-origin [] (k ∷ a) h = absurd (omega arith)
tau-origin (n ∷ m) [] h = absurd (omega arith)
tau-origin (n ∷ m) (k ∷ a) h =
    ap (λ t. t *ℤ tau everywhere origin m a) (taylor-zero n k)
    ∙ ap (λ t. (if eqb n k then pos 1 else pos 0) *ℤ t) (tau-origin m a (omega arith))
    ∙ both (eqb n k) (same_vector m a)

-- the coefficients of the expansion are the normal coefficients
pub shifted-origin : (a : List ℕ) (f : List Term) → Over (length a) f → shifted everywhere origin a f ≡ factor_at f a
shifted-origin a [] h = refl
shifted-origin a (t ∷ f) h =
    omega (arith, ints, ap (λ z. t.factor *ℤ z) (tau-origin t.exponents a h.0), choose_times t.factor (same_vector t.exponents a), shifted-origin a f h.1)

-- the normal coefficients are those of the expansion
pub normal_is : (n : ℕ) (e : Tree) → InputsBelow n e → (m : List ℕ) → length m ≡ n → normal_coefficient e m ≡ factor_at (expanded n e) m
normal_is n e i m h = coefficient_is everywhere origin n e i m h ∙ shifted-origin m (expanded n e) (rw h (Over-expanded n e))

-- ---- vectors compared
-- what the test calls the same is the same
pub same_vector-is : (a b : List ℕ) → same_vector a b ≡ true → a ≡ b
same_vector-is [] [] h = refl
same_vector-is [] (k ∷ b) h = cc
same_vector-is (n ∷ a) [] h = cc
same_vector-is (n ∷ a) (k ∷ b) h =
    let e : n ≡ k = grind (arith, nat_tests, common_steps) in
    let t : same_vector a b ≡ true = grind (arith, nat_tests, common_steps) in
    let r : a ≡ b = same_vector-is a b t in
    cc

-- each vector is the same as itself
pub same_vector-refl : (a : List ℕ) → same_vector a a ≡ true
same_vector-refl [] = refl
same_vector-refl (n ∷ a) = grind (arith, nat_tests, same_vector-refl a)

-- ---- the terms of one vector, and the others
-- the terms of other vectors
abbrev pub without : List ℕ → List Term → List Term
without m [] = []
without m (t ∷ f) = if same_vector t.exponents m then without m f else (t ∷ without m f)

-- the sum of h over the terms
abbrev pub total : (List ℕ → ℤ) → List Term → ℤ
total h f = sum_over (λ t. t.factor *ℤ h t.exponents) f

-- they aren't more
pub length-without : (m : List ℕ) (f : List Term) → length (without m f) ≤ length f
length-without m [] = omega arith
length-without m (t ∷ f) = elim (same_vector t.exponents m) as (λ b. length (if b then without m f else (t ∷ without m f)) ≤ length (t ∷ f)) [
  | true ↦ omega (arith, length-without m f)
  | false ↦ omega (arith, length-without m f)
]

-- one term more, by its vector
total-without-by : (h : List ℕ → ℤ) (m : List ℕ) (t : Term) (f : List Term) (b : Bool) → same_vector t.exponents m ≡ b
    → total h f ≡ factor_at f m *ℤ h m +ℤ total h (without m f) → total h (t ∷ f) ≡ factor_at (t ∷ f) m *ℤ h m +ℤ total h (without m (t ∷ f))
total-without-by h m t f true e ih = rw e (omega (
  arith,
  ints,
  ih,
  ap (λ z. t.factor *ℤ h z) (same_vector-is t.exponents m e),
  mul_comm (t.factor +ℤ factor_at f m) (h m),
  mul_add (h m) t.factor (factor_at f m),
  mul_comm t.factor (h m),
  mul_comm (factor_at f m) (h m),
))
total-without-by h m t f false e ih =
    rw e (omega (arith, ints, ih, ap (λ z. z *ℤ h m) (let z : pos 0 +ℤ factor_at f m ≡ factor_at f m = omega (arith, ints) in z)))

-- a sum is the part at m and the rest
total-without : (h : List ℕ → ℤ) (m : List ℕ) (f : List Term) → total h f ≡ factor_at f m *ℤ h m +ℤ total h (without m f)
total-without h m [] = omega (arith, ints)
total-without h m (t ∷ f) = total-without-by h m t f (same_vector t.exponents m) refl (total-without h m f)

-- one term more, by its vector
without-same-by : (m : List ℕ) (t : Term) (f : List Term) (b : Bool) → same_vector t.exponents m ≡ b → factor_at (without m f) m ≡ pos 0
    → factor_at (without m (t ∷ f)) m ≡ pos 0
without-same-by m t f true e ih = rw e ih
without-same-by m t f false e ih = rw e (rw e (omega (arith, ints, ih)))

-- the rest has coefficient 0 at m
pub without-same : (m : List ℕ) (f : List Term) → factor_at (without m f) m ≡ pos 0
without-same m [] = refl
without-same m (t ∷ f) = without-same-by m t f (same_vector t.exponents m) refl (without-same m f)

-- one term more, by its vector
without-other-by : (m k : List ℕ) (t : Term) (f : List Term) (b : Bool) → same_vector t.exponents m ≡ b → same_vector m k ≡ false
    → factor_at (without m f) k ≡ factor_at f k → factor_at (without m (t ∷ f)) k ≡ factor_at (t ∷ f) k
without-other-by m k t f true d e ih =
    let s : same_vector t.exponents k ≡ false = ap (λ z. same_vector z k) (same_vector-is t.exponents m d) ∙ e in
    rw d (rw s (omega (arith, ints, ih)))
without-other-by m k t f false d e ih = rw d (ap (λ z. (if same_vector t.exponents k then t.factor else pos 0) +ℤ z) ih)

-- and the same coefficient elsewhere
pub without-other : (m k : List ℕ) (f : List Term) → same_vector m k ≡ false → factor_at (without m f) k ≡ factor_at f k
without-other m k [] e = refl
without-other m k (t ∷ f) e = without-other-by m k t f (same_vector t.exponents m) refl e (without-other m k f e)

-- a coefficient of 0 stays 0
without-zero : (m k : List ℕ) (f : List Term) → factor_at f k ≡ pos 0 → (b : Bool) → same_vector m k ≡ b → factor_at (without m f) k ≡ pos 0
without-zero m k f y true e = ap (factor_at (without m f)) (sym (same_vector-is m k e)) ∙ without-same m f
without-zero m k f y false e = without-other m k f e ∙ y

-- where all coefficients are 0, so is each sum
total-zero : (h : List ℕ → ℤ) (n : ℕ) (f : List Term) → length f ≤ n → ((k : List ℕ) → factor_at f k ≡ pos 0) → total h f ≡ pos 0
total-zero h n [] l z = refl
total-zero h zero (t ∷ f) l z = absurd (omega arith)
total-zero h (suc n) (t ∷ f) l z =
    let m : List ℕ = t.exponents in
    let g : List Term = without m (t ∷ f) in
    let shorter : length g ≤ n = rw same_vector-refl (omega (arith, length-without m f)) in
    let rest : total h g ≡ pos 0 = total-zero h n g shorter (λ k. without-zero m k (t ∷ f) (z k) (same_vector m k) refl) in
    let none : pos 0 *ℤ h m +ℤ pos 0 ≡ pos 0 = omega (arith, ints) in
    total-without h m (t ∷ f) ∙ ap (λ y. y *ℤ h m +ℤ total h g) (z m) ∙ ap (λ y. pos 0 *ℤ h m +ℤ y) rest ∙ none

-- the coefficient of the other sign
factor_at-negated : (f : List Term) (k : List ℕ) → factor_at (negated f) k ≡ neg_ℤ (factor_at f k)
factor_at-negated [] k = refl
factor_at-negated (t ∷ f) k = omega (arith, ints, factor_at-negated f k, choose_neg (same_vector t.exponents k) t.factor) where
  choose_neg : (b : Bool) (c : ℤ) → (if b then neg_ℤ c else pos 0) ≡ neg_ℤ (if b then c else pos 0)
  choose_neg true c = refl
  choose_neg false c = refl

-- the sum of the other sign
total-negated : (h : List ℕ → ℤ) (f : List Term) → total h (negated f) ≡ neg_ℤ (total h f)
total-negated h [] = refl
total-negated h (t ∷ f) =
    omega (arith, ints, total-negated h f, mul_comm (neg_ℤ t.factor) (h t.exponents), mul_neg (h t.exponents) t.factor, mul_comm (h t.exponents) t.factor)

-- two lists of terms with the same coefficients have the same sums
pub total-same : (h : List ℕ → ℤ) (f g : List Term) → ((k : List ℕ) → factor_at f k ≡ factor_at g k) → total h f ≡ total h g
total-same h f g e =
    let z : total h (f ++ negated g) ≡ pos 0 = total-zero h (length (f ++ negated g)) (f ++ negated g) (omega arith)
    (λ k. omega (arith, ints, e k, factor_at-negated g k, sum_over-append (λ t. if same_vector t.exponents k then t.factor else pos 0) f (negated g))) in
    omega (arith, ints, z, total-negated h g, sum_over-append (λ t. t.factor *ℤ h t.exponents) f (negated g))

-- ---- a sum that reads only some vectors
-- a number is 0 or not
zero-or_not : (z : ℤ) → (z ≡ pos 0) ⊎ (z ≡ pos 0 → ⊥)
zero-or_not (pos zero) = inl refl
zero-or_not (pos (suc n)) = inr (λ e. cc)
zero-or_not (negsuc n) = inr (λ e. cc)

-- the same for any term
pub zero_cases : (z : ℤ) → (z ≡ pos 0) ⊎ (z ≡ pos 0 → ⊥)
zero_cases z = zero-or_not z

-- a product of 0 stays 0
without-product : (h : List ℕ → ℤ) (m k : List ℕ) (f : List Term) → factor_at f k *ℤ h k ≡ pos 0 → (b : Bool) → same_vector m k ≡ b
    → factor_at (without m f) k *ℤ h k ≡ pos 0
without-product h m k f y true e =
    let z : pos 0 *ℤ h k ≡ pos 0 = omega (arith, ints) in
    ap (λ u. u *ℤ h k) (ap (factor_at (without m f)) (sym (same_vector-is m k e)) ∙ without-same m f) ∙ z
without-product h m k f y false e = ap (λ u. u *ℤ h k) (without-other m k f e) ∙ y

-- where each coefficient or h is 0, the sum is 0
pub total-none : (h : List ℕ → ℤ) (n : ℕ) (f : List Term) → length f ≤ n → ((k : List ℕ) → factor_at f k *ℤ h k ≡ pos 0) → total h f ≡ pos 0
total-none h n [] l z = refl
total-none h zero (t ∷ f) l z = absurd (omega arith)
total-none h (suc n) (t ∷ f) l z =
    let m : List ℕ = t.exponents in
    let g : List Term = without m (t ∷ f) in
    let shorter : length g ≤ n = rw same_vector-refl (omega (arith, length-without m f)) in
    let rest : total h g ≡ pos 0 = total-none h n g shorter (λ k. without-product h m k (t ∷ f) (z k) (same_vector m k) refl) in
    let none : pos 0 +ℤ pos 0 ≡ pos 0 = refl in
    total-without h m (t ∷ f) ∙ ap (λ y. y +ℤ total h g) (z m) ∙ ap (λ y. pos 0 +ℤ y) rest

-- where that holds at all vectors but m, the sum is its term at m
pub total-one : (h : List ℕ → ℤ) (m : List ℕ) (f : List Term) → ((k : List ℕ) → same_vector m k ≡ false → factor_at f k *ℤ h k ≡ pos 0)
    → total h f ≡ factor_at f m *ℤ h m
total-one h m f z =
    let rest : total h (without m f) ≡ pos 0 = total-none h (length (without m f)) (without m f) (omega arith) (λ k. by_case k (same_vector m k) refl) in
    omega (arith, ints, total-without h m f, rest) where
      by_case : (k : List ℕ) (b : Bool) → same_vector m k ≡ b → factor_at (without m f) k *ℤ h k ≡ pos 0
      by_case k true e =
          let y : pos 0 *ℤ h k ≡ pos 0 = omega (arith, ints) in
          ap (λ u. u *ℤ h k) (ap (factor_at (without m f)) (sym (same_vector-is m k e)) ∙ without-same m f) ∙ y
      by_case k false e = ap (λ u. u *ℤ h k) (without-other m k f e) ∙ z k e
