-- Where any coefficient isn't 0 there is a first vector, in any order of infinitesimals.
use Rattle.std.proofs.Common.{◌≡◌, ◌≢◌, ℕ, ◌+◌, ◌<◌, ◌≤◌, zero, suc, refl, sym, ◌∙◌, ap, arith, List, [], ◌∷◌, ◌++◌, map, length, get_or}
use Rattle.std.proofs.Common.{Bool, true, false, not, ◌&&◌, leb, None, is_some, IsTrue, ◌⊎◌, inl, inr}
use Rattle.std.proofs.lemmas.Bool.{and_parts, cases_eq, cases_lt, leb-true}
use Rattle.std.proofs.lemmas.List.{get_or_past}
use Rattle.std.proofs.Math.IntN.{ℤ, pos}
use Rattle.ln_algebra.proofs.Ordering.Admissible.{earlier-admissible}
use Rattle.ln_algebra.proofs.Walking.Cut.{degree-small, monomial_in, not_some, of_sites, perturbed-last, within_from}
use Rattle.ln_algebra.proofs.Expanded.Degree.{coefficient-above}
use Rattle.ln_algebra.proofs.Expanded.Expansion.{Over-expanded, expanded}
use Rattle.ln_algebra.proofs.Expanded.Normal.{everywhere, normal_is, origin, same_vector-is, same_vector-refl, zero_cases}
use Rattle.ln_algebra.proofs.Ordering.Order.{below_suc}
use Rattle.ln_algebra.proofs.Walking.Walk.{In-append_left, In-append_right}
use Rattle.ln_algebra.specs.Coefficient.{normal_coefficient}
use Rattle.ln_algebra.specs.Earlier.{Earlier, IndicesDiffer, IsOver, Sites}
use Rattle.ln_algebra.specs.Orders.{IsAdmissible}
use Rattle.ln_algebra.specs.Sign.{IsFirst, IsFirstIn, perturbed}
use Rattle.ln_algebra.specs.Stage.{IsLast, IsMonomial}
use Rattle.ln_algebra.specs.Terms.{factor_at}
use Rattle.ln_algebra.specs.Tree.{InputsBelow, Tree, degree_of}
use Rattle.ln_algebra.specs.Vector.{In, Within, covers, same_vector, total_degree}

-- ---- is a vector over the variables of sites?
-- a vector is over a set of variables or not
within_cases : (p : ℕ → Bool) (a : List ℕ) → Within p a ⊎ (Within p a → ⊥)
within_cases p [] = inl tt
within_cases p (zero ∷ a) = within_cases (λ v. p (suc v)) a
within_cases p (suc k ∷ a) = by_case (p 0) refl (within_cases (λ v. p (suc v)) a) where
  by_case : (b : Bool) → p 0 ≡ b → Within (λ v. p (suc v)) a ⊎ (Within (λ v. p (suc v)) a → ⊥) → Within p (suc k ∷ a) ⊎ (Within p (suc k ∷ a) → ⊥)
  by_case true e (inl w) = inl (e, w)
  by_case true e (inr d) = inr (λ h. d h.1)
  by_case false e w = inr (λ h. let f : true ≡ false = sym h.0 ∙ e in cc)

-- outside the set the exponents are 0
within-none : (p : ℕ → Bool) (a : List ℕ) → Within p a → (v : ℕ) → p v ≡ false → get_or a v 0 ≡ 0
within-none p [] w v e = refl
within-none p (zero ∷ a) w zero e = refl
within-none p (suc k ∷ a) w zero e = (let f : true ≡ false = sym w.0 ∙ e in cc)
within-none p (zero ∷ a) w (suc v) e = within-none (λ v. p (suc v)) a w v e
within-none p (suc k ∷ a) w (suc v) e = within-none (λ v. p (suc v)) a w.1 v e

-- a vector is over the variables of sites or not
pub over_cases : (n : ℕ) (sites : Sites) (a : List ℕ) → IsOver n sites a ⊎ (IsOver n sites a → ⊥)
over_cases n sites a = by_case (cases_eq (length a) n) (within_cases (of_sites sites) a) where
  by_case : (length a ≡ n) ⊎ (length a ≡ n → ⊥) → Within (of_sites sites) a ⊎ (Within (of_sites sites) a → ⊥) → IsOver n sites a ⊎ (IsOver n sites a → ⊥)
  by_case (inr d) w = inr (λ o. d o.size)
  by_case (inl e) (inl w) = inl (record { size = e; of_sites = λ v h. within-none (of_sites sites) a w v (ap is_some h) })
  by_case (inl e) (inr d) = inr (λ o. d (within_from (of_sites sites) a (λ v h. o.of_sites v (not_some (sites.site v) h))))

-- ---- all vectors up to a total degree
-- each number below c before each vector
abbrev firsts : ℕ → List (List ℕ) → List (List ℕ)
firsts zero rest = []
firsts (suc k) rest = map (λ a. k ∷ a) rest ++ firsts k rest

-- all vectors of n exponents that are at most d
abbrev vectors_up_to : ℕ → ℕ → List (List ℕ)
vectors_up_to zero d = [] ∷ []
vectors_up_to (suc n) d = firsts (suc d) (vectors_up_to n d)

-- a number before a member is a member
In-map : (k : ℕ) (xs : List (List ℕ)) (a : List ℕ) → In xs a → In (map (λ b. k ∷ b) xs) (k ∷ a)
In-map k [] a i = absurd i
In-map k (x ∷ xs) a (inl e) = inl (ap (λ z. k ∷ z) e)
In-map k (x ∷ xs) a (inr i) = inr (In-map k xs a i)

-- so is each number below c
In-firsts : (c k : ℕ) (rest : List (List ℕ)) (a : List ℕ) → k < c → In rest a → In (firsts c rest) (k ∷ a)
In-firsts zero k rest a l i = absurd (omega arith)
In-firsts (suc c) k rest a l i = by_case (below_suc c k l) (λ m. In-firsts c k rest a m i) where
  by_case : (k < c) ⊎ (k ≡ c) → (k < c → In (firsts c rest) (k ∷ a)) → In (firsts (suc c) rest) (k ∷ a)
  by_case (inr e) ih = In-append_left (map (λ b. c ∷ b) rest) (firsts c rest) (k ∷ a) (let j : In (map (λ b. c ∷ b) rest) (c ∷ a) = In-map c rest a i in rw e j)
  by_case (inl m) ih = In-append_right (map (λ b. c ∷ b) rest) (firsts c rest) (k ∷ a) (ih m)

-- each vector of n exponents whose total degree is at most d is there
In-vectors : (n d : ℕ) (a : List ℕ) → length a ≡ n → total_degree a ≤ d → In (vectors_up_to n d) a
In-vectors zero d [] e l = inl refl
In-vectors zero d (k ∷ a) e l = absurd (omega arith)
In-vectors (suc n) d [] e l = absurd (omega arith)
In-vectors (suc n) d (k ∷ a) e l = In-firsts (suc d) k (vectors_up_to n d) a (omega arith) (In-vectors n d a (omega arith) (omega arith))

-- ---- the first of a list
-- the coefficients of all vectors in the list are 0
abbrev AllZero : ℕ → Sites → (ℕ → ℤ) → Tree → List (List ℕ) → Type 0
AllZero n sites x e xs = (b : List ℕ) → In xs b → IsOver n sites b → perturbed sites x e b ≡ pos 0

-- of the vectors in the list, this is the first whose coefficient isn't 0
record Best (before : List ℕ → List ℕ → Type 0) (n : ℕ) (sites : Sites) (x : ℕ → ℤ) (e : Tree) (xs : List (List ℕ)) : Type 0 where
  vector : List ℕ
  over : IsOver n sites vector
  nonzero : perturbed sites x e vector ≢ pos 0
  zeros_before : (b : List ℕ) → In xs b → IsOver n sites b → before b vector → perturbed sites x e b ≡ pos 0

module _ (n : ℕ) (sites : Sites) (before : List ℕ → List ℕ → Type 0) (order : IsAdmissible n sites before) (x : ℕ → ℤ) (e : Tree) where
  -- a vector more, whose coefficient is 0 or that isn't over the variables of sites
  best_pass : (a : List ℕ) (xs : List (List ℕ)) → (IsOver n sites a → perturbed sites x e a ≡ pos 0)
      → AllZero n sites x e xs ⊎ Best before n sites x e xs → AllZero n sites x e (a ∷ xs) ⊎ Best before n sites x e (a ∷ xs)
  best_pass a xs z (inl all) = inl none where
    none : AllZero n sites x e (a ∷ xs)
    none b (inl q) o = ap (perturbed sites x e) q ∙ z (rw q at o)
    none b (inr i) o = all b i o
  best_pass a xs z (inr best) = inr (record { vector = best.vector; over = best.over; nonzero = best.nonzero; zeros_before = at }) where
    at : (b : List ℕ) → In (a ∷ xs) b → IsOver n sites b → before b best.vector → perturbed sites x e b ≡ pos 0
    at b (inl q) o l = ap (perturbed sites x e) q ∙ z (rw q at o)
    at b (inr i) o l = best.zeros_before b i o l

  -- a vector more, whose coefficient isn't 0
  best_take : (a : List ℕ) (xs : List (List ℕ)) → IsOver n sites a → perturbed sites x e a ≢ pos 0
      → AllZero n sites x e xs ⊎ Best before n sites x e xs → Best before n sites x e (a ∷ xs)
  best_take a xs o z (inl all) = record { vector = a; over = o; nonzero = z; zeros_before = at } where
    at : (b : List ℕ) → In (a ∷ xs) b → IsOver n sites b → before b a → perturbed sites x e b ≡ pos 0
    at b (inl q) p l = absurd (order.irreflexive a (rw q at l))
    at b (inr i) p l = all b i p
  best_take a xs o z (inr best) = by_order (order.total a best.vector o best.over) where
    here : (a ≡ best.vector) ⊎ before a best.vector → (b : List ℕ) → In (a ∷ xs) b → IsOver n sites b → before b a → perturbed sites x e b ≡ pos 0
    here c b (inl q) p l = absurd (order.irreflexive a (rw q at l))
    here (inl q) b (inr i) p l = best.zeros_before b i p (rw q at l)
    here (inr m) b (inr i) p l = best.zeros_before b i p (order.transitive b a best.vector l m)

    there : before best.vector a → (b : List ℕ) → In (a ∷ xs) b → IsOver n sites b → before b best.vector → perturbed sites x e b ≡ pos 0
    there m b (inl q) p l = absurd (order.irreflexive a (order.transitive a best.vector a (rw q at l) m))
    there m b (inr i) p l = best.zeros_before b i p l

    by_order : (a ≡ best.vector) ⊎ (before a best.vector ⊎ before best.vector a) → Best before n sites x e (a ∷ xs)
    by_order (inl q) = record { vector = a; over = o; nonzero = z; zeros_before = here (inl q) }
    by_order (inr (inl m)) = record { vector = a; over = o; nonzero = z; zeros_before = here (inr m) }
    by_order (inr (inr m)) = record { vector = best.vector; over = best.over; nonzero = best.nonzero; zeros_before = there m }

  -- of a list, all are 0 or one is the first that isn't
  best_of : (xs : List (List ℕ)) → AllZero n sites x e xs ⊎ Best before n sites x e xs
  best_of [] = inl (λ b i o. absurd i)
  best_of (a ∷ xs) = by_case (over_cases n sites a) (zero_cases (perturbed sites x e a)) (best_of xs) where
    by_case : IsOver n sites a ⊎ (IsOver n sites a → ⊥) → (perturbed sites x e a ≡ pos 0) ⊎ (perturbed sites x e a ≡ pos 0 → ⊥)
        → AllZero n sites x e xs ⊎ Best before n sites x e xs → AllZero n sites x e (a ∷ xs) ⊎ Best before n sites x e (a ∷ xs)
    by_case (inl o) (inl z) r = best_pass a xs (λ p. z) r
    by_case (inr d) z r = best_pass a xs (λ p. absurd (d p)) r
    by_case (inl o) (inr z) r = inr (best_take a xs o z r)

  -- there is a first vector, or all coefficients over the variables of sites are 0
  pub first-or-zero : ((a : List ℕ) × IsFirstIn before n sites x e a) ⊎ ((b : List ℕ) → IsOver n sites b → perturbed sites x e b ≡ pos 0)
  first-or-zero = by_case (best_of (vectors_up_to n (degree_of e))) where
    none : AllZero n sites x e (vectors_up_to n (degree_of e)) → (b : List ℕ) → IsOver n sites b
        → (perturbed sites x e b ≡ pos 0) ⊎ (perturbed sites x e b ≡ pos 0 → ⊥) → perturbed sites x e b ≡ pos 0
    none all b o (inl z) = z
    none all b o (inr z) = all b (In-vectors n (degree_of e) b o.size (degree-small sites x e b z)) o

    by_case : AllZero n sites x e (vectors_up_to n (degree_of e)) ⊎ Best before n sites x e (vectors_up_to n (degree_of e))
        → ((a : List ℕ) × IsFirstIn before n sites x e a) ⊎ ((b : List ℕ) → IsOver n sites b → perturbed sites x e b ≡ pos 0)
    by_case (inl all) = inr (λ b o. none all b o (zero_cases (perturbed sites x e b)))
    by_case (inr best) = inl (
      best.vector,
      record {
        over = best.over;
        small = degree-small sites x e best.vector best.nonzero;
        nonzero = best.nonzero;
        zero_before = λ c p s l. best.zeros_before c (In-vectors n (degree_of e) c p.size s) p l;
      },
    )

  -- where any coefficient isn't 0 there is a first vector
  pub nonzero-first-in : (b : List ℕ) → IsOver n sites b → perturbed sites x e b ≢ pos 0 → (a : List ℕ) × IsFirstIn before n sites x e a
  nonzero-first-in b o z = elim first-or-zero [ inl f ↦ f | inr all ↦ absurd (z (all b o)) ]

  -- where there is no first vector all coefficients are 0
  pub no-first-zero : ((a : List ℕ) → IsFirstIn before n sites x e a → ⊥) → (b : List ℕ) → IsOver n sites b → perturbed sites x e b ≡ pos 0
  no-first-zero none = elim first-or-zero [ inl f ↦ absurd (none f.0 f.1) | inr all ↦ all ]

-- ---- a monomial that no other covers
-- a vector that covers another is the same or of larger total degree
covers-degree : (k m : List ℕ) → covers k m ≡ true → (k ≡ m) ⊎ (total_degree m < total_degree k)
covers-degree [] [] c = inl refl
covers-degree [] (j ∷ m) c = cc
covers-degree (n ∷ k) [] c = cc
covers-degree (n ∷ k) (j ∷ m) c =
    by_case (leb-true j n (and_parts (leb j n) (covers k m) c).0) (cases_eq n j) (covers-degree k m (and_parts (leb j n) (covers k m) c).1)
  where
    by_case : j ≤ n → (n ≡ j) ⊎ (n ≡ j → ⊥) → (k ≡ m) ⊎ (total_degree m < total_degree k) → ((n ∷ k) ≡ (j ∷ m)) ⊎ (total_degree (j ∷ m) < total_degree (n ∷ k))
    by_case l (inl e) (inl q) = inl (ap (λ z. z ∷ k) e ∙ ap (λ z. j ∷ z) q)
    by_case l (inr d) (inl q) = inr (let r : total_degree k ≡ total_degree m = ap total_degree q in
        let ne : j < n = elim (cases_lt j n) [ inl s ↦ s | inr s ↦ absurd (d (omega arith)) ] in omega arith)
    by_case l e (inr s) = inr (omega arith)

module _ (n : ℕ) (e : Tree) (below : InputsBelow n e) where
  -- no monomial is above the syntactic degree
  monomial-small : (m : List ℕ) → IsMonomial n e m → total_degree m ≤ degree_of e
  monomial-small m mono =
      elim (cases_lt (degree_of e) (total_degree m)) [ inl l ↦ absurd (mono.nonzero (coefficient-above everywhere origin e m l)) | inr l ↦ l ]

  -- no other covers m, or one of larger total degree does
  last_or : (m : List ℕ) → IsMonomial n e m → ((k : List ℕ) → IsMonomial n e k → total_degree m < total_degree k → (a : List ℕ) × IsLast n e a)
      → (a : List ℕ) × IsLast n e a
  last_or m mono more = by_case (monomial_in n e larger (expanded n e) (Over-expanded n e)) where
    larger : List ℕ → Bool
    larger k = covers k m && not (same_vector k m)

    differs : (k : List ℕ) → larger k ≡ true → k ≡ m → ⊥
    differs k t q =
        let s : same_vector k m ≡ true = rw q (same_vector-refl m) in
        let u : not (same_vector k m) ≡ true = (and_parts (covers k m) (not (same_vector k m)) t).1 in
        (let v : not true ≡ true = rw s at u in cc)

    up : (k : List ℕ) → IsMonomial n e k → larger k ≡ true → (a : List ℕ) × IsLast n e a
    up k mk t = elim (covers-degree k m (and_parts (covers k m) (not (same_vector k m)) t).0) [ inl q ↦ absurd (differs k t q) | inr l ↦ more k mk l ]

    only : ((k : List ℕ) → normal_coefficient e k ≢ pos 0 → larger k ≡ true → factor_at (expanded n e) k ≡ pos 0) → (k : List ℕ)
        → IsMonomial n e k → covers k m ≡ true → (b : Bool) → same_vector k m ≡ b → k ≡ m
    only h k mk c true s = same_vector-is k m s
    only h k mk c false s =
        absurd (mk.nonzero (normal_is n e below k mk.size ∙ h k mk.nonzero (let t : (covers k m && not (same_vector k m)) ≡ true = rw c (rw s refl) in t)))

    by_case : ((k : List ℕ) × IsMonomial n e k × (larger k ≡ true))
        ⊎ ((k : List ℕ) → normal_coefficient e k ≢ pos 0 → larger k ≡ true → factor_at (expanded n e) k ≡ pos 0) → (a : List ℕ) × IsLast n e a
    by_case (inl (k, mk, t)) = up k mk t
    by_case (inr h) = (m, record { monomial = mono; only = λ k mk c. only h k mk c (same_vector k m) refl })

  -- from any monomial one comes, by larger and larger ones, to one that no other covers
  last_from : (left : ℕ) (m : List ℕ) → IsMonomial n e m → degree_of e ≤ total_degree m + left → (a : List ℕ) × IsLast n e a
  last_from zero m mono l = last_or m mono (λ k mk s. absurd (let t : total_degree k ≤ degree_of e = monomial-small k mk in omega arith))
  last_from (suc left) m mono l = last_or m mono (λ k mk s. last_from left k mk (omega arith))

  -- where there is a monomial, there is one that no other covers
  pub monomial-last : (m : List ℕ) → IsMonomial n e m → (a : List ℕ) × IsLast n e a
  monomial-last m mono = last_from (degree_of e) m mono (omega arith)

-- without params each vector is over the variables of sites
over_all : (n : ℕ) (sites : Sites) (a : List ℕ) → ((v : ℕ) → v < n → IsTrue (is_some (sites.site v))) → length a ≡ n → IsOver n sites a
over_all n sites a all e = record { size = e; of_sites = λ v h. by_case v h (cases_lt v n) } where
  by_case : (v : ℕ) → sites.site v ≡ None → (v < n) ⊎ (n ≤ v) → get_or a v 0 ≡ 0
  by_case v h (inl l) =
      let t : IsTrue (is_some (sites.site v)) = all v l in
      let u : is_some (sites.site v) ≡ false = ap is_some h in
      (let w : IsTrue false = rw u at t in cc)
  by_case v h (inr l) = get_or_past a v 0 (omega (arith, e))

module _ (n : ℕ) (sites : Sites) (before : List ℕ → List ℕ → Type 0) (order : IsAdmissible n sites before) (x : ℕ → ℤ) (e : Tree) where
  -- without params there always is one
  pub all-first-in : InputsBelow n e → ((v : ℕ) → v < n → IsTrue (is_some (sites.site v))) → (m : List ℕ) → IsMonomial n e m
      → (a : List ℕ) × IsFirstIn before n sites x e a
  all-first-in below all m mono = from_last (monomial-last n e below m mono) where
    from_last : (a : List ℕ) × IsLast n e a → (a : List ℕ) × IsFirstIn before n sites x e a
    from_last (a, last) =
        let o : IsOver n sites a = over_all n sites a all last.monomial.size in
        nonzero-first-in n sites before order x e a o (λ z. last.monomial.nonzero (sym (perturbed-last n sites x e below a o last) ∙ z))

-- ---- by the smallest infinitesimal
module _ (n : ℕ) (sites : Sites) (x : ℕ → ℤ) (e : Tree) (differ : IndicesDiffer sites) where
  -- where any coefficient isn't 0 there is a first vector
  pub nonzero-first : (b : List ℕ) → IsOver n sites b → perturbed sites x e b ≢ pos 0 → (a : List ℕ) × IsFirst n sites x e a
  nonzero-first b = nonzero-first-in n sites (Earlier sites) (earlier-admissible n sites differ) x e b

-- without params there always is one
pub all-first : (n : ℕ) (sites : Sites) (e : Tree) (x : ℕ → ℤ) (m : List ℕ) → InputsBelow n e → IndicesDiffer sites
    → ((v : ℕ) → v < n → IsTrue (is_some (sites.site v))) → IsMonomial n e m → (a : List ℕ) × IsFirst n sites x e a
all-first n sites e x m below differ all = all-first-in n sites (Earlier sites) (earlier-admissible n sites differ) x e below all m
