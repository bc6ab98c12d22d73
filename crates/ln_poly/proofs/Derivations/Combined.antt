-- A scaled derivative of a scaled derivative, by other variables.
use Rattle.std.proofs.Common.{◌≡◌, ℕ, ◌+◌, ◌-◌, ◌*◌, zero, suc, Bool, true, false, leb, List, [], ◌∷◌, length, refl, sym, ◌∙◌, ap, subst}
use Rattle.std.proofs.Common.{arith, ◌⊎◌, inl, inr, if◌then◌else◌}
use Rattle.std.proofs.Math.IntN.{ℤ, pos, ◌*ℤ◌}
use Rattle.std.proofs.lemmas.Bool.{and_parts, cases_eq, leb-true}
use Rattle.std.proofs.lemmas.Int.{ints}
use Rattle.ln_algebra.proofs.Vectors.Covering.{factor_at-derived, length-minus}
use Rattle.ln_algebra.proofs.Deriving.Derived.{factor_at-length}
use Rattle.ln_algebra.proofs.Expanded.Expansion.{length-plus}
use Rattle.ln_algebra.proofs.Expanded.Normal.{same_vector-is}
use Rattle.ln_algebra.proofs.Expanded.Ring.{mul_assoc}
use Rattle.ln_algebra.proofs.Bounding.Weights.{Once, four_ℕ}
use Rattle.ln_algebra.specs.Terms.{Over, Term, binomial, binomials, covers, derived, factor_at, minus}
use Rattle.ln_algebra.specs.Vector.{plus}

-- no variable has an exponent in both
abbrev pub AreApart : List ℕ → List ℕ → Type 0
AreApart [] b = Unit {0}
AreApart (i ∷ a) [] = Unit {0}
AreApart (i ∷ a) (j ∷ b) = ((i ≡ 0) ⊎ (j ≡ 0)) × AreApart a b

-- there is one way to choose none
pub binomial-none : (e : ℕ) → binomial e 0 ≡ 1
binomial-none zero = refl
binomial-none (suc e) = refl

-- one variable
one-apart : (m i j : ℕ) → (i ≡ 0) ⊎ (j ≡ 0) → binomial (m + (i + j)) (i + j) ≡ binomial ((m + j) + i) i * binomial (m + j) j
one-apart m i j (inl e) =
    let x : m + (i + j) ≡ m + j = omega arith in
    let y : i + j ≡ j = omega arith in
    let z : binomial ((m + j) + i) i ≡ 1 = ap (binomial ((m + j) + i)) e ∙ binomial-none ((m + j) + i) in
    rw (x, y, z) (omega arith)
one-apart m i j (inr e) =
    let x : m + (i + j) ≡ (m + j) + i = omega arith in
    let y : i + j ≡ i = omega arith in
    let z : binomial (m + j) j ≡ 1 = ap (binomial (m + j)) e ∙ binomial-none (m + j) in
    rw (x, y, z) (omega arith)

-- the binomials of both together
binomials-apart : (m a b : List ℕ) → length m ≡ length a → length b ≡ length a → AreApart a b
    → binomials (plus m (plus a b)) (plus a b) ≡ binomials (plus (plus m b) a) a * binomials (plus m b) b
binomials-apart [] [] [] l k d = refl
binomials-apart [] [] (j ∷ b) l k d = absurd (omega arith)
binomials-apart [] (i ∷ a) b l k d = absurd (omega arith)
binomials-apart (n ∷ m) [] b l k d = absurd (omega arith)
binomials-apart (n ∷ m) (i ∷ a) [] l k d = absurd (omega arith)
binomials-apart (n ∷ m) (i ∷ a) (j ∷ b) l k d =
    four_ℕ (binomial ((n + j) + i) i) (binomial (n + j) j) (binomials (plus (plus m b) a) a) (binomials (plus m b) b) (binomial (n + (i + j)) (i + j))
    (binomials (plus m (plus a b)) (plus a b)) (one-apart n i j d.0) (binomials-apart m a b (omega arith) (omega arith) d.1)

plus-turned : (m a b : List ℕ) → length m ≡ length a → length b ≡ length a → plus (plus m b) a ≡ plus m (plus a b)
plus-turned [] a b l k = refl
plus-turned (n ∷ m) [] b l k = absurd (omega arith)
plus-turned (n ∷ m) (i ∷ a) [] l k = absurd (omega arith)
plus-turned (n ∷ m) (i ∷ a) (j ∷ b) l k =
    let e : (n + j) + i ≡ n + (i + j) = omega arith in
    let r : plus (plus m b) a ≡ plus m (plus a b) = plus-turned m a b (omega arith) (omega arith) in
    rw (e, r) refl

-- ---- derivatives
-- a scaled derivative is over the same variables
pub over-derived : (a : List ℕ) (f : List Term) → Over (length a) f → Over (length a) (derived a f)
over-derived a [] o = tt
over-derived a (t ∷ f) o = by_case (covers t.exponents a) (over-derived a f o.1) where
  by_case : (b : Bool) → Over (length a) (derived a f) → Over (length a) (if b then (record {
    exponents = minus t.exponents a;
    factor = t.factor *ℤ pos (binomials t.exponents a);
  } ∷ derived a f) else derived a f)
  by_case true h = (length-minus t.exponents a o.0 ∙ o.0, h)
  by_case false h = h

-- the derivative by b of what has the coefficients of the derivative by a
pub combined : (n : ℕ) (a b : List ℕ) (f h : List Term) → length a ≡ n → length b ≡ n → AreApart a b → Over n f
    → Over n h → ((m : List ℕ) → length m ≡ n → factor_at h m ≡ factor_at (derived a f) m) → (m : List ℕ) → length m ≡ n
    → factor_at (derived b h) m ≡ factor_at (derived (plus a b) f) m
combined n a b f h la lb d o p s m l =
    let oa : Over (length a) f = subst (λ k. Over k f) (sym la) o in
    let lab : length (plus a b) ≡ n = length-plus a b (la ∙ sym lb) ∙ lb in
    let oab : Over (length (plus a b)) f = subst (λ k. Over k f) (sym lab) o in
    let ob : Over (length b) h = subst (λ k. Over k h) (sym lb) p in
    let lmb : length (plus m b) ≡ n = length-plus m b (l ∙ sym lb) ∙ lb in
    let x : factor_at (derived b h) m ≡ factor_at h (plus m b) *ℤ pos (binomials (plus m b) b) = factor_at-derived b h m ob (l ∙ sym lb) in
    let y : factor_at h (plus m b) ≡ factor_at f (plus (plus m b) a) *ℤ pos (binomials (plus (plus m b) a) a) =
    s (plus m b) lmb ∙ factor_at-derived a f (plus m b) oa (lmb ∙ sym la) in
    let z : factor_at (derived (plus a b) f) m ≡ factor_at f (plus m (plus a b)) *ℤ pos (binomials (plus m (plus a b)) (plus a b)) =
    factor_at-derived (plus a b) f m oab (l ∙ sym lab) in
    let t : plus (plus m b) a ≡ plus m (plus a b) = plus-turned m a b (l ∙ sym la) (lb ∙ sym la) in
    let q : binomials (plus m (plus a b)) (plus a b) ≡ binomials (plus (plus m b) a) a * binomials (plus m b) b =
    binomials-apart m a b (l ∙ sym la) (lb ∙ sym la) d in
    x ∙ ap (λ c. c *ℤ pos (binomials (plus m b) b)) y
    ∙ mul_assoc (factor_at f (plus (plus m b) a)) (pos (binomials (plus (plus m b) a) a)) (pos (binomials (plus m b) b))
    ∙ ap (λ (c : ℤ). factor_at f (plus (plus m b) a) *ℤ c) (pos-times (binomials (plus (plus m b) a) a) (binomials (plus m b) b))
    ∙ ap (λ k. factor_at f k *ℤ pos (binomials (plus (plus m b) a) a * binomials (plus m b) b)) t
    ∙ ap (λ k. factor_at f (plus m (plus a b)) *ℤ pos k) (sym q)
    ∙ sym z where
      pos-times : (j k : ℕ) → pos j *ℤ pos k ≡ pos (j * k)
      pos-times j k = refl

-- lists over n variables with the same coefficients at vectors of n exponents have them at all
pub everywhere : (n : ℕ) (f g : List Term) → Over n f → Over n g → ((m : List ℕ) → length m ≡ n → factor_at f m ≡ factor_at g m)
    → (m : List ℕ) → factor_at f m ≡ factor_at g m
everywhere n f g o p s m = by_length (cases_eq (length m) n) where
  by_length : (length m ≡ n) ⊎ (length m ≡ n → ⊥) → factor_at f m ≡ factor_at g m
  by_length (inl q) = s m q
  by_length (inr d) = factor_at-length n f m o d ∙ sym (factor_at-length n g m p d)

-- ---- lists in which each vector occurs once
plus-minus : (m a : List ℕ) → length m ≡ length a → covers m a ≡ true → plus (minus m a) a ≡ m
plus-minus [] a l c = refl
plus-minus (n ∷ m) [] l c = absurd (omega arith)
plus-minus (n ∷ m) (k ∷ a) l c =
    let p = and_parts (leb k n) (covers m a) c in
    let e : (n - k) + k ≡ n = omega (arith, leb-true k n p.0) in
    let r : plus (minus m a) a ≡ m = plus-minus m a (omega arith) p.1 in
    rw (e, r) refl

zero_times : (k : ℕ) → pos 0 *ℤ pos k ≡ pos 0
zero_times k = omega (arith, ints)

-- where each vector occurs once in a list, it does in that of a derivative
pub once-derived : (a : List ℕ) (f : List Term) → Over (length a) f → Once f → Once (derived a f)
once-derived a [] o c = tt
once-derived a (t ∷ f) o c = by_case (covers t.exponents a) refl (once-derived a f o.1 c.2) where
  none : covers t.exponents a ≡ true → factor_at (derived a f) (minus t.exponents a) ≡ pos 0
  none h =
      let l : length (minus t.exponents a) ≡ length a = length-minus t.exponents a o.0 ∙ o.0 in
      let p : plus (minus t.exponents a) a ≡ t.exponents = plus-minus t.exponents a o.0 h in
      let z : factor_at f (plus (minus t.exponents a) a) ≡ pos 0 = ap (factor_at f) p ∙ c.0 in
      let q : pos 0 *ℤ pos (binomials (plus (minus t.exponents a) a) a) ≡ pos 0 = zero_times (binomials (plus (minus t.exponents a) a) a) in
      factor_at-derived a f (minus t.exponents a) o.1 l ∙ ap (λ v. v *ℤ pos (binomials (plus (minus t.exponents a) a) a)) z ∙ q

  by_case : (b : Bool) → covers t.exponents a ≡ b → Once (derived a f)
      → Once (if b then (record { exponents = minus t.exponents a; factor = t.factor *ℤ pos (binomials t.exponents a) } ∷ derived a f) else derived a f)
  by_case true h r = (none h, λ k e. ap (factor_at (derived a f)) (sym (same_vector-is (minus t.exponents a) k e)) ∙ none h, r)
  by_case false h r = r
