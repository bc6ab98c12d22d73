-- Proves that coefficients at exchanged vectors turn as the normal polynomial does.
use Rattle.std.proofs.Common.{◌≡◌, ℕ, ◌<◌, zero, suc, refl, sym, ◌∙◌, ap, arith, List, [], ◌∷◌, length, get_or, Bool, true, false, is_some, if◌then◌else◌}
use Rattle.std.proofs.Common.{◌⊎◌, inl, inr}
use Rattle.std.proofs.lemmas.Int.{ints}
use Rattle.std.proofs.Math.IntN.{ℤ, pos, negsuc, ◌+ℤ◌, ◌*ℤ◌}
use Rattle.ln_algebra.proofs.Deriving.Derived.{total-same-over}
use Rattle.ln_algebra.proofs.Exchanging.Folds.{below-has, over, over-exchanged, over-map, over-same, variables}
use Rattle.ln_algebra.proofs.Exchanging.Vectors.{exchanged-twice, get-exchanged, length-exchanged}
use Rattle.ln_algebra.proofs.Expanded.Expansion.{Over-expanded, expanded, part, tau}
use Rattle.ln_algebra.proofs.Expanded.Normal.{normal_is, same_vector-is, same_vector-refl, total}
use Rattle.ln_algebra.proofs.Expanded.Ring.{mul_add, mul_assoc, mul_comm}
use Rattle.ln_algebra.proofs.Expanded.Shift.{coefficient_is}
use Rattle.ln_algebra.specs.Earlier.{Sites}
use Rattle.ln_algebra.specs.Exchange.{Exchanges, Turns, ValuesExchange, exchanged}
use Rattle.ln_algebra.specs.Sign.{perturbed}
use Rattle.ln_algebra.specs.Terms.{Over, Term, factor_at, same_vector}
use Rattle.ln_algebra.specs.Tree.{InputsBelow, Tree}

-- factors may come in any order
flip : (a b c : ℤ) → a *ℤ (b *ℤ c) ≡ b *ℤ (a *ℤ c)
flip a b c = sym (mul_assoc a b c) ∙ ap (λ z. z *ℤ c) (mul_comm a b) ∙ mul_assoc b a c

-- the factor of a variable
abbrev factor_of : (ℕ → Bool) → (ℕ → ℤ) → List ℕ → List ℕ → ℕ → ℤ
factor_of p x m a v = part (p v) (x v) (get_or m v 0) (get_or a v 0)

-- a monomial's coefficient is the product of those of its variables
tau-is : (n : ℕ) (p : ℕ → Bool) (x : ℕ → ℤ) (m a : List ℕ) → length m ≡ n → length a ≡ n
    → tau p x m a ≡ over ◌*ℤ◌ (pos 1) flip (factor_of p x m a) (variables n)
tau-is zero p x [] a l k = refl
tau-is zero p x (i ∷ m) a l k = absurd (omega (arith, l))
tau-is (suc n) p x [] a l k = absurd (omega (arith, l))
tau-is (suc n) p x (i ∷ m) [] l k = absurd (omega (arith, k))
tau-is (suc n) p x (i ∷ m) (j ∷ a) l k =
    ap (λ z. part (p 0) (x 0) i j *ℤ z) (tau-is n (λ v. p (suc v)) (λ v. x (suc v)) m a (omega (arith, l)) (omega (arith, k))
    ∙ over-map ◌*ℤ◌ (pos 1) flip (factor_of p x (i ∷ m) (j ∷ a)) suc (variables n))

-- the terms with exchanged exponents
abbrev exchanged_terms : (ℕ → ℕ) → List Term → List Term
exchanged_terms partner [] = []
exchanged_terms partner (t ∷ f) = record { exponents = exchanged partner t.exponents; factor = t.factor } ∷ exchanged_terms partner f

-- the terms, each times s
abbrev times : ℤ → List Term → List Term
times s [] = []
times s (t ∷ f) = record { exponents = t.exponents; factor = s *ℤ t.factor } ∷ times s f

-- s times a sum
total-times : (h : List ℕ → ℤ) (s : ℤ) (f : List Term) → total h (times s f) ≡ s *ℤ total h f
total-times h s [] = omega (arith, ints)
total-times h s (t ∷ f) =
    omega (arith, ints, total-times h s f, mul_assoc s t.factor (h t.exponents), mul_add s (t.factor *ℤ h t.exponents) (total h f))

-- a factor or nothing, times s
choose-times : (s c : ℤ) (b : Bool) → (if b then s *ℤ c else pos 0) ≡ s *ℤ (if b then c else pos 0)
choose-times s c true = refl
choose-times s c false = omega (arith, ints)

-- s times a coefficient
factor_at-times : (s : ℤ) (f : List Term) (m : List ℕ) → factor_at (times s f) m ≡ s *ℤ factor_at f m
factor_at-times s [] m = omega (arith, ints)
factor_at-times s (t ∷ f) m =
    let c : ℤ = if same_vector t.exponents m then t.factor else pos 0 in
    omega (
      arith,
      ints,
      factor_at-times s f m,
      choose-times s t.factor (same_vector t.exponents m),
      mul_add s c (factor_at f m),
    )

-- the terms stay over n variables
Over-times : (n : ℕ) (s : ℤ) (f : List Term) → Over n f → Over n (times s f)
Over-times n s [] o = tt
Over-times n s (t ∷ f) o = (o.0, Over-times n s f o.1)

-- equal values have equal sums
total-values : (n : ℕ) (h k : List ℕ → ℤ) (f : List Term) → Over n f → ((m : List ℕ) → length m ≡ n → h m ≡ k m) → total h f ≡ total k f
total-values n h k [] o e = refl
total-values n h k (t ∷ f) o e = omega (arith, ints, ap (λ z. t.factor *ℤ z) (e t.exponents o.0), total-values n h k f o.1 e)

-- ---- an exchange of n variables
module _ (n : ℕ) (partner : ℕ → ℕ) (within : (v : ℕ) → v < n → partner v < n) (twice : (v : ℕ) → partner (partner v) ≡ v) where
  -- a monomial has at the exchanged vector the coefficient that the exchanged monomial has
  tau-exchanged : (p q : ℕ → Bool) (x y : ℕ → ℤ) (m a : List ℕ) → ((v : ℕ) → q v ≡ p (partner v)) → ((v : ℕ) → v < n → y v ≡ x (partner v))
      → length m ≡ n → length a ≡ n → tau q y (exchanged partner m) (exchanged partner a) ≡ tau p x m a
  tau-exchanged p q x y m a pq xy l k =
      tau-is n q y (exchanged partner m) (exchanged partner a)
      (length-exchanged n partner within twice m ∙ l) (length-exchanged n partner within twice a ∙ k)
      ∙ over-same ◌*ℤ◌ (pos 1) flip (factor_of q y (exchanged partner m) (exchanged partner a)) (λ v. factor_of p x m a (partner v)) (variables n)
      (λ v i. let h : v < n = below-has n v i in
      rw (pq v, xy v h, get-exchanged n partner within twice m v l h, get-exchanged n partner within twice a v k h) refl)
      ∙ over-exchanged ◌*ℤ◌ (pos 1) flip (factor_of p x m a) n partner within twice
      ∙ sym (tau-is n p x m a l k)

  -- the tests of both vectors exchanged
  same-exchanged : (a m : List ℕ) → length a ≡ n → length m ≡ n → same_vector (exchanged partner a) m ≡ same_vector a (exchanged partner m)
  same-exchanged a m l k = by_case (same_vector (exchanged partner a) m) refl (same_vector a (exchanged partner m)) refl where
    by_case : (b : Bool) → same_vector (exchanged partner a) m ≡ b → (c : Bool) → same_vector a (exchanged partner m) ≡ c
        → same_vector (exchanged partner a) m ≡ same_vector a (exchanged partner m)
    by_case true e true f = e ∙ sym f
    by_case false e false f = e ∙ sym f
    by_case true e false f =
        let q : exchanged partner a ≡ m = same_vector-is (exchanged partner a) m e in
        let r : a ≡ exchanged partner m = sym (exchanged-twice n partner within twice a l) ∙ ap (exchanged partner) q in
        e ∙ sym (ap (λ z. same_vector z (exchanged partner m)) r ∙ same_vector-refl (exchanged partner m))
    by_case false e true f =
        let q : a ≡ exchanged partner m = same_vector-is a (exchanged partner m) f in
        let r : exchanged partner a ≡ m = ap (exchanged partner) q ∙ exchanged-twice n partner within twice m k in
        (ap (λ z. same_vector z m) r ∙ same_vector-refl m) ∙ sym f

  -- the coefficient of exchanged terms
  factor_at-exchanged : (f : List Term) (m : List ℕ) → Over n f → length m ≡ n → factor_at (exchanged_terms partner f) m ≡ factor_at f (exchanged partner m)
  factor_at-exchanged [] m o l = refl
  factor_at-exchanged (t ∷ f) m o l =
      omega (
        arith,
        ints,
        ap (λ b. if b then t.factor else pos 0) (same-exchanged t.exponents m o.0 l),
        factor_at-exchanged f m o.1 l,
      )

  -- the sum over exchanged terms
  total-exchanged : (h : List ℕ → ℤ) (f : List Term) → total h (exchanged_terms partner f) ≡ total (λ m. h (exchanged partner m)) f
  total-exchanged h [] = refl
  total-exchanged h (t ∷ f) = ap (λ z. t.factor *ℤ h (exchanged partner t.exponents) +ℤ z) (total-exchanged h f)

  -- exchanged terms stay over n variables
  Over-exchanged : (f : List Term) → Over n f → Over n (exchanged_terms partner f)
  Over-exchanged [] o = tt
  Over-exchanged (t ∷ f) o = (length-exchanged n partner within twice t.exponents ∙ o.0, Over-exchanged f o.1)

-- 1 or -1 goes to the other side
pub turned : (s a b : ℤ) → (s ≡ pos 1) ⊎ (s ≡ negsuc 0) → a ≡ s *ℤ b → b ≡ s *ℤ a
turned s a b (inl q) e = let h : a ≡ pos 1 *ℤ b = rw q at e in rw q (omega (arith, ints, h))
turned s a b (inr q) e = let h : a ≡ negsuc 0 *ℤ b = rw q at e in rw q (omega (arith, ints, h))

-- the coefficient on the other row
pub coefficients-turn : (n : ℕ) (partner : ℕ → ℕ) (was now : Sites) (x y : ℕ → ℤ) (s : ℤ) (e : Tree) (a : List ℕ)
    → Exchanges n partner was now → ValuesExchange n partner x y → InputsBelow n e → Turns n partner s e → length a ≡ n
    → perturbed now y e (exchanged partner a) ≡ s *ℤ perturbed was x e a
coefficients-turn n partner was now x y s e a ex xy i t l =
    let p : ℕ → Bool = λ v. is_some (was.site v) in
    let q : ℕ → Bool = λ v. is_some (now.site v) in
    let F : List Term = expanded n e in
    let o : Over n F = Over-expanded n e in
    let H : List ℕ → ℤ = λ m. tau q y m (exchanged partner a) in
    let here : perturbed was x e a ≡ total (λ m. tau p x m a) F = coefficient_is p x n e i a l in
    let there : perturbed now y e (exchanged partner a) ≡ total H F =
    coefficient_is q y n e i (exchanged partner a) (length-exchanged n partner ex.within ex.twice a ∙ l) in
    let moved : total H (exchanged_terms partner F) ≡ total (λ m. tau p x m a) F =
    total-exchanged n partner ex.within ex.twice H F
    ∙ total-values n (λ m. H (exchanged partner m)) (λ m. tau p x m a) F o
    (λ m k. tau-exchanged n partner ex.within ex.twice p q x y m a ex.of_sites xy k l) in
    let same : total H (exchanged_terms partner F) ≡ total H (times s F) =
    total-same-over n H (exchanged_terms partner F) (times s F) (Over-exchanged n partner ex.within ex.twice F o) (Over-times n s F o)
    (λ k h. factor_at-exchanged n partner ex.within ex.twice F k o h
    ∙ sym (normal_is n e i (exchanged partner k) (length-exchanged n partner ex.within ex.twice k ∙ h))
    ∙ t.each k h
    ∙ ap (λ z. s *ℤ z) (normal_is n e i k h)
    ∙ sym (factor_at-times s F k)) in
    let scaled : perturbed was x e a ≡ s *ℤ perturbed now y e (exchanged partner a) =
    here ∙ sym moved ∙ same ∙ total-times H s F ∙ ap (λ z. s *ℤ z) (sym there) in
    turned s (perturbed was x e a) (perturbed now y e (exchanged partner a)) t.turn scaled
