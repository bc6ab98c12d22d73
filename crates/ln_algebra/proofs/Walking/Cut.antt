-- The stage list loses nothing.
use Rattle.std.proofs.Common.{◌≡◌, ◌≢◌, ℕ, ◌-◌, ◌≤◌, zero, suc, refl, sym, ◌∙◌, ap, arith, List, [], ◌∷◌, length, get_or, Bool, true, false}
use Rattle.std.proofs.Common.{Option, Some, None, is_some, ◌⊎◌, inl, inr}
use Rattle.std.proofs.lemmas.Int.{ints}
use Rattle.std.proofs.lemmas.Bool.{cases_eq, cases_lt}
use Rattle.std.proofs.lemmas.Bool.Decides.{nat_tests}
use Rattle.std.proofs.Math.IntN.{ℤ, pos, ◌*ℤ◌}
use Rattle.ln_algebra.proofs.Expanded.Ring.{one_mul, mul_one}
use Rattle.ln_algebra.proofs.Expanded.Expansion.{tau, expanded, Over-expanded}
use Rattle.ln_algebra.proofs.Expanded.Shift.{coefficient_is}
use Rattle.ln_algebra.proofs.Expanded.Normal.{normal_is, total, total-none, total-one, same_vector-is, same_vector-refl, zero_cases}
use Rattle.ln_algebra.proofs.Deriving.Derived.{binomial-above, tau-uncovered, tau-covered, factor_at-length}
use Rattle.ln_algebra.proofs.Expanded.Degree.{coefficient-above}
use Rattle.ln_algebra.proofs.Ordering.Order.{earlier-transitive}
use Rattle.ln_algebra.specs.Vector.{total_degree}
use Rattle.ln_algebra.specs.Coefficient.{normal_coefficient}
use Rattle.ln_algebra.specs.Law.{Within}
use Rattle.ln_algebra.specs.Terms.{Over, Term, factor_at, same_vector, covers, minus, binomial, binomials, monomial}
use Rattle.ln_algebra.specs.Tree.{Tree, InputsBelow, degree_of}
use Rattle.ln_algebra.specs.Earlier.{Sites, Earlier, IndicesDiffer, IsOver}
use Rattle.ln_algebra.specs.Stage.{IsMonomial, Covered, IsLast, IsStage, IsStageIn}
use Rattle.ln_algebra.specs.Sign.{IsFirst, IsFirstIn, perturbed}

-- a vector is over a set of variables where each exponent outside is 0
pub within_from : (p : ℕ → Bool) (a : List ℕ) → ((v : ℕ) → p v ≡ false → get_or a v 0 ≡ 0) → Within p a
within_from p [] h = tt
within_from p (zero ∷ a) h = within_from (λ v. p (suc v)) a (λ v e. h (suc v) e)
within_from p (suc k ∷ a) h = (by_case (p 0) refl, within_from (λ v. p (suc v)) a (λ v e. h (suc v) e)) where
  by_case : (b : Bool) → p 0 ≡ b → p 0 ≡ true
  by_case true e = e
  by_case false e = absurd (let z : suc k ≡ 0 = h 0 e in omega arith)

-- what isn't some is none
pub not_some : {A : Type 0} (o : Option A) → is_some o ≡ false → o ≡ None
not_some None e = refl
not_some (Some x) e = cc

-- each vector covers itself
covers-refl : (a : List ℕ) → covers a a ≡ true
covers-refl [] = refl
covers-refl (k ∷ a) = grind (arith, nat_tests, covers-refl a)

-- the difference of a vector and itself is the monomial 1
minus-same : (x : ℕ → ℤ) (a : List ℕ) → monomial x (minus a a) ≡ pos 1
minus-same x [] = refl
minus-same x (k ∷ a) =
    let z : k - k ≡ 0 = omega arith in
    rw z (one_mul (monomial (λ v. x (suc v)) (minus a a)) ∙ minus-same (λ v. x (suc v)) a)

-- there is one way to choose all
binomial-same : (n : ℕ) → binomial n n ≡ 1
binomial-same zero = refl
binomial-same (suc n) = omega (arith, binomial-same n, binomial-above n (suc n) (omega arith))

-- the same over all variables
binomials-same : (a : List ℕ) → binomials a a ≡ 1
binomials-same [] = refl
binomials-same (k ∷ a) = let ih : binomials a a ≡ 1 = binomials-same a in rw (binomial-same, ih) refl

-- some monomial passes the test, or no term has a monomial that does
pub monomial_in : (n : ℕ) (e : Tree) (test : List ℕ → Bool) (g : List Term) → Over n g
    → ((k : List ℕ) × IsMonomial n e k × (test k ≡ true)) ⊎ ((k : List ℕ) → normal_coefficient e k ≢ pos 0 → test k ≡ true → factor_at g k ≡ pos 0)
monomial_in n e test [] o = inr (λ k z c. refl)
monomial_in n e test (t ∷ g) o = step (monomial_in n e test g o.1) (zero_cases (normal_coefficient e t.exponents)) (test t.exponents) refl where
  other : ((k : List ℕ) → normal_coefficient e k ≢ pos 0 → test k ≡ true → factor_at g k ≡ pos 0)
      → (normal_coefficient e t.exponents ≢ pos 0 → test t.exponents ≡ true → ⊥) → (k : List ℕ) → normal_coefficient e k ≢ pos 0
      → test k ≡ true → (b : Bool) → same_vector t.exponents k ≡ b → factor_at (t ∷ g) k ≡ pos 0
  other ih hidden k z c true s = absurd (let q : t.exponents ≡ k = same_vector-is t.exponents k s in hidden (rw q z) (rw q c))
  other ih hidden k z c false s = rw s (omega (arith, ints, ih k z c))

  step : ((k : List ℕ) × IsMonomial n e k × (test k ≡ true)) ⊎ ((k : List ℕ) → normal_coefficient e k ≢ pos 0 → test k ≡ true → factor_at g k ≡ pos 0)
      → (normal_coefficient e t.exponents ≡ pos 0) ⊎ (normal_coefficient e t.exponents ≡ pos 0 → ⊥) → (b : Bool) → test t.exponents ≡ b
      → ((k : List ℕ) × IsMonomial n e k × (test k ≡ true)) ⊎ ((k : List ℕ) → normal_coefficient e k ≢ pos 0 → test k ≡ true → factor_at (t ∷ g) k ≡ pos 0)
  step (inl c) y b d = inl c
  step (inr ih) (inr z) true d = inl (t.exponents, record { size = o.0; nonzero = z }, d)
  step (inr ih) (inl z) b d = inr (λ k q c. other ih (λ y w. y z) k q c (same_vector t.exponents k) refl)
  step (inr ih) (inr z) false d = inr (λ k q c. other ih (λ y w. let f : true ≡ false = sym w ∙ d in cc) k q c (same_vector t.exponents k) refl)

-- the variables of sites
abbrev pub of_sites : Sites → ℕ → Bool
of_sites sites v = is_some (sites.site v)

-- a vector whose coefficient isn't 0 is not above the degree
pub degree-small : (sites : Sites) (x : ℕ → ℤ) (e : Tree) (a : List ℕ) → perturbed sites x e a ≢ pos 0 → total_degree a ≤ degree_of e
degree-small sites x e a z = elim (cases_lt (degree_of e) (total_degree a)) [ inl l ↦ absurd (z (coefficient-above (of_sites sites) x e a l)) | inr l ↦ l ]

module _ (n : ℕ) (sites : Sites) (x : ℕ → ℤ) (e : Tree) (below : InputsBelow n e) where
  -- a vector over the variables of sites, as one over a set
  pub within : (a : List ℕ) → IsOver n sites a → Within (of_sites sites) a
  within a o = within_from (of_sites sites) a (λ v h. o.of_sites v (not_some (sites.site v) h))

  -- the perturbed coefficient is a sum over the terms of the expansion
  perturbed_is : (a : List ℕ) → IsOver n sites a → perturbed sites x e a ≡ total (λ m. tau (of_sites sites) x m a) (expanded n e)
  perturbed_is a o = coefficient_is (of_sites sites) x n e below a o.size

  -- a term that covers nothing of a adds nothing
  product_zero : (a k : List ℕ) → IsOver n sites a → (normal_coefficient e k ≢ pos 0 → length k ≡ n → covers k a ≡ false)
      → factor_at (expanded n e) k *ℤ tau (of_sites sites) x k a ≡ pos 0
  product_zero a k o h = by_length (cases_eq (length k) n) where
    T : ℤ
    T = tau (of_sites sites) x k a

    none : pos 0 *ℤ T ≡ pos 0
    none = omega (arith, ints)

    by_value : length k ≡ n → (normal_coefficient e k ≡ pos 0) ⊎ (normal_coefficient e k ≡ pos 0 → ⊥) → factor_at (expanded n e) k *ℤ T ≡ pos 0
    by_value l (inl z) = ap (λ u. u *ℤ T) (sym (normal_is n e below k l) ∙ z) ∙ none
    by_value l (inr z) =
        let y : factor_at (expanded n e) k *ℤ pos 0 ≡ pos 0 = omega (arith, ints) in
        ap (λ u. factor_at (expanded n e) k *ℤ u) (tau-uncovered (of_sites sites) x k a (l ∙ sym o.size) (within a o) (h z l)) ∙ y

    by_length : (length k ≡ n) ⊎ (length k ≡ n → ⊥) → factor_at (expanded n e) k *ℤ T ≡ pos 0
    by_length (inl l) = by_value l (zero_cases (normal_coefficient e k))
    by_length (inr d) = ap (λ u. u *ℤ T) (factor_at-length n (expanded n e) k (Over-expanded n e) d) ∙ none

  -- a vector that no monomial covers has coefficient 0
  pub perturbed-uncovered : (a : List ℕ) → IsOver n sites a → (Covered n e a → ⊥) → perturbed sites x e a ≡ pos 0
  perturbed-uncovered a o h =
      perturbed_is a o ∙ total-none (λ m. tau (of_sites sites) x m a) (length (expanded n e)) (expanded n e) (omega arith)
      (λ k. product_zero a k o (λ z l. by_case k z l (covers k a) refl))
    where
      by_case : (k : List ℕ) → normal_coefficient e k ≢ pos 0 → length k ≡ n → (b : Bool) → covers k a ≡ b → covers k a ≡ false
      by_case k z l true c = absurd (h (k, record { size = l; nonzero = z }, c))
      by_case k z l false c = c

  -- at the last vector the coefficient is the monomial's own, on every row
  pub perturbed-last : (a : List ℕ) → IsOver n sites a → IsLast n e a → perturbed sites x e a ≡ normal_coefficient e a
  perturbed-last a o last =
      perturbed_is a o
      ∙ total-one (λ m. tau (of_sites sites) x m a) a (expanded n e) (λ k d. product_zero a k o (λ z l. by_case k d z l (covers k a) refl))
      ∙ ap (λ u. factor_at (expanded n e) a *ℤ u) one
      ∙ mul_one (factor_at (expanded n e) a)
      ∙ sym (normal_is n e below a o.size) where
        by_case : (k : List ℕ) → same_vector a k ≡ false → normal_coefficient e k ≢ pos 0 → length k ≡ n → (b : Bool) → covers k a ≡ b → covers k a ≡ false
        by_case k d z l true c =
            absurd (let s : k ≡ a = last.only k (record { size = l; nonzero = z }) c in let y : same_vector a k ≡ true = rw s (same_vector-refl a) in cc)
        by_case k d z l false c = c

        one : tau (of_sites sites) x a a ≡ pos 1
        one = tau-covered (of_sites sites) x a a refl (within a o) (covers-refl a)
            ∙ ap (λ u. pos u *ℤ monomial x (minus a a)) (binomials-same a) ∙ one_mul (monomial x (minus a a)) ∙ minus-same x a

  -- a vector whose coefficient isn't 0 is covered
  pub nonzero-covered : (a : List ℕ) → IsOver n sites a → perturbed sites x e a ≢ pos 0 → Covered n e a
  nonzero-covered a o z = by_case (monomial_in n e (λ k. covers k a) (expanded n e) (Over-expanded n e)) where
    by_case : Covered n e a ⊎ ((k : List ℕ) → normal_coefficient e k ≢ pos 0 → covers k a ≡ true → factor_at (expanded n e) k ≡ pos 0) → Covered n e a
    by_case (inl c) = c
    by_case (inr h) = absurd (z (perturbed-uncovered a o (λ c. c.1.nonzero (normal_is n e below c.0 c.1.size ∙ h c.0 c.1.nonzero c.2))))

-- ---- the cut loses nothing, in any order
module _ (n : ℕ) (sites : Sites) (before : List ℕ → List ℕ → Type 0) (x : ℕ → ℤ) (e : Tree) (below : InputsBelow n e) where
  -- the first vector is a stage: this asks nothing of the order
  pub first-stage-in : (a : List ℕ) → IsFirstIn before n sites x e a → IsStageIn before n sites e a
  first-stage-in a f = record { over = f.over; covered = nonzero-covered n sites x e below a f.over f.nonzero; before_cut = cut } where
    cut : (b : List ℕ) → IsOver n sites b → IsLast n e b → before b a → ⊥
    cut b o last l =
        let z : perturbed sites x e b ≢ pos 0 = λ q. last.monomial.nonzero (sym (perturbed-last n sites x e below b o last) ∙ q) in
        z (f.zero_before b o (degree-small sites x e b z) l)

  -- the first stage whose coefficient isn't 0 is the first vector: this asks that the order is transitive
  pub stage-first-in : ((a b c : List ℕ) → before a b → before b c → before a c) → (a : List ℕ) → IsStageIn before n sites e a → perturbed sites x e a ≢ pos 0
      → ((b : List ℕ) → IsStageIn before n sites e b → before b a → perturbed sites x e b ≡ pos 0) → IsFirstIn before n sites x e a
  stage-first-in through a s z h =
      record { over = s.over; small = degree-small sites x e a z; nonzero = z; zero_before = λ b o l r. by_case b o r (zero_cases (perturbed sites x e b)) }
    where
      by_case : (b : List ℕ) → IsOver n sites b → before b a → (perturbed sites x e b ≡ pos 0) ⊎ (perturbed sites x e b ≡ pos 0 → ⊥)
          → perturbed sites x e b ≡ pos 0
      by_case b o r (inl q) = q
      by_case b o r (inr q) =
          h b (record { over = o; covered = nonzero-covered n sites x e below b o q; before_cut = λ c oc last l. s.before_cut c oc last (through c b a l r) }) r

-- ---- and in that by the smallest infinitesimal
module _ (n : ℕ) (sites : Sites) (x : ℕ → ℤ) (e : Tree) (below : InputsBelow n e) where
  -- the first vector is a stage
  pub first-stage : (a : List ℕ) → IsFirst n sites x e a → IsStage n sites e a
  first-stage a = first-stage-in n sites (Earlier sites) x e below a

  -- the first stage whose coefficient isn't 0 is the first vector
  pub stage-first : IndicesDiffer sites → (a : List ℕ) → IsStage n sites e a → perturbed sites x e a ≢ pos 0
      → ((b : List ℕ) → IsStage n sites e b → Earlier sites b a → perturbed sites x e b ≡ pos 0) → IsFirst n sites x e a
  stage-first d a = stage-first-in n sites (Earlier sites) x e below (earlier-transitive sites d) a
