-- Of all lists of terms with the same coefficients one with each vector once and without zeros has the fewest terms, and no others.
use Rattle.std.proofs.Common.{◌≡◌, ℕ, ◌+◌, ◌≤◌, Bool, true, false, List, [], ◌∷◌, length, refl, ap, arith, ◌∙◌, sym, if◌then◌else◌}
use Rattle.std.specs.Prelude.{◌≢◌}
use Rattle.std.proofs.Math.IntN.{pos, ◌+ℤ◌}
use Rattle.std.proofs.lemmas.Int.{ints}
use Rattle.ln_algebra.specs.Terms.{Term, factor_at, same_vector}
use Rattle.ln_algebra.proofs.Bounding.Weights.{Once}
use Rattle.ln_algebra.proofs.Expanded.Normal.{same_vector-is, same_vector-refl, without, without-other, without-same, length-without}
use Rattle.ln_poly.specs.Lean.{HasNoZero}

-- the exponents of each term have the property
abbrev pub EachHas : (List ℕ → Type 0) → List Term → Type 0
EachHas P [] = Unit {0}
EachHas P (t ∷ f) = P t.exponents × EachHas P f

first-factor : (t : Term) (f : List Term) → factor_at f t.exponents ≡ pos 0 → factor_at (t ∷ f) t.exponents ≡ t.factor
first-factor t f l = rw (same_vector-refl t.exponents) (omega (arith, ints, l))

-- without the terms of a vector whose coefficient isn't 0 the list is shorter
fewer : (m : List ℕ) (g : List Term) → factor_at g m ≢ pos 0 → length (without m g) + 1 ≤ length g
fewer m [] h = absurd (h refl)
fewer m (t ∷ g) h = by_case (same_vector t.exponents m) h (length-without m g) (λ k. fewer m g k) where
  by_case : (b : Bool) → (if b then t.factor else pos 0) +ℤ factor_at g m ≢ pos 0 → length (without m g) ≤ length g
      → (factor_at g m ≢ pos 0 → length (without m g) + 1 ≤ length g) → length (if b then without m g else (t ∷ without m g)) + 1 ≤ length (t ∷ g)
  by_case true k l ih = omega (arith, l)
  by_case false k l ih = let r = ih (λ e. k (omega (arith, ints, e))) in omega (arith, r)

rest-same : (t : Term) (f g : List Term) → factor_at f t.exponents ≡ pos 0 → ((k : List ℕ) → factor_at (t ∷ f) k ≡ factor_at g k)
    → (k : List ℕ) → factor_at f k ≡ factor_at (without t.exponents g) k
rest-same t f g l s k = by_case (same_vector t.exponents k) refl where
  by_case : (b : Bool) → same_vector t.exponents k ≡ b → factor_at f k ≡ factor_at (without t.exponents g) k
  by_case true e = ap (factor_at f) (sym (same_vector-is t.exponents k e)) ∙ l ∙ sym (without-same t.exponents g)
      ∙ ap (factor_at (without t.exponents g)) (same_vector-is t.exponents k e)
  by_case false e =
      let q : (if same_vector t.exponents k then t.factor else pos 0) +ℤ factor_at f k ≡ factor_at g k = s k in
      let z : factor_at f k ≡ pos 0 +ℤ factor_at f k = omega (arith, ints) in
      z ∙ (rw e at q) ∙ sym (without-other t.exponents k g e)

-- a list with each vector once and without zeros is no longer than any list with the same coefficients
pub shortest : (f g : List Term) → Once f → HasNoZero f → ((k : List ℕ) → factor_at f k ≡ factor_at g k) → length f ≤ length g
shortest [] g c z s = omega arith
shortest (t ∷ f) g c z s =
    let here : t.factor ≡ factor_at g t.exponents = sym (first-factor t f c.0) ∙ s t.exponents in
    let few : length (without t.exponents g) + 1 ≤ length g = fewer t.exponents g (λ e. z.0 (here ∙ e)) in
    let ih = shortest f (without t.exponents g) c.2 z.1 (rest-same t f g c.0 s) in
    omega (arith, few, ih)

-- a vector whose coefficient isn't 0 is one of a term
some-has : (P : List ℕ → Type 0) (g : List Term) (m : List ℕ) → EachHas P g → factor_at g m ≢ pos 0 → P m
some-has P [] m a h = absurd (h refl)
some-has P (t ∷ g) m a h = by_case (same_vector t.exponents m) refl h (λ k. some-has P g m a.1 k) where
  by_case : (b : Bool) → same_vector t.exponents m ≡ b → (if b then t.factor else pos 0) +ℤ factor_at g m ≢ pos 0 → (factor_at g m ≢ pos 0 → P m) → P m
  by_case true e k ih = let q : t.exponents ≡ m = same_vector-is t.exponents m e in rw (← q) a.0
  by_case false e k ih = ih (λ z. k (omega (arith, ints, z)))

without-has : (P : List ℕ → Type 0) (m : List ℕ) (g : List Term) → EachHas P g → EachHas P (without m g)
without-has P m [] a = tt
without-has P m (t ∷ g) a = by_case (same_vector t.exponents m) (without-has P m g a.1) where
  by_case : (b : Bool) → EachHas P (without m g) → EachHas P (if b then without m g else (t ∷ without m g))
  by_case true h = h
  by_case false h = (a.0, h)

-- what holds of the exponents of each term of one list holds of those of the collected one
pub each-has : (P : List ℕ → Type 0) (f g : List Term) → Once f → HasNoZero f → ((k : List ℕ) → factor_at f k ≡ factor_at g k) → EachHas P g → EachHas P f
each-has P [] g c z s a = tt
each-has P (t ∷ f) g c z s a =
    let here : t.factor ≡ factor_at g t.exponents = sym (first-factor t f c.0) ∙ s t.exponents in
    (some-has P g t.exponents a (λ e. z.0 (here ∙ e)), each-has P f (without t.exponents g) c.2 z.1 (rest-same t f g c.0 s) (without-has P t.exponents g a))
