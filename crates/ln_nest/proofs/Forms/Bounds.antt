-- The weight of a nested tree.
use Rattle.std.proofs.Common.{◌≡◌, ℕ, ◌+◌, ◌-◌, ◌*◌, ◌^◌, ◌≤◌, true, List, [], ◌∷◌, zero, suc, refl, ap, arith, ◌∙◌, sym, unsigned_abs}
use Rattle.std.specs.Prelude.{◌≢◌, ℤ, negsuc, pos}
use Rattle.std.proofs.lemmas.Int.{ints}
use Rattle.std.proofs.Math.Nat.{mul-le-mul_left, one-le-mul, one-le-pow}
use Rattle.ln_algebra.specs.Terms.{Term}
use Rattle.ln_algebra.specs.Weights.{monomial_weight, weighted_sum}
use Rattle.ln_nest.specs.Lean.{HasNoZero}
use Rattle.ln_nest.specs.Nested.{exponent_of, is_positive, lessened, divided, free_of, total}
use Rattle.ln_nest.specs.View.{abs_total}
use Rattle.ln_nest.proofs.Terms.Parts.{HavePower, by_parts}
use Rattle.ln_nest.proofs.Terms.Powers.{power_sum}

-- a monomial with the power e of variable v weighs w v to the e times the one with e less of it
less_weight : (w : ℕ → ℕ) (e v : ℕ) (m : List ℕ) → is_positive (exponent_of v m) ≡ true → e ≤ exponent_of v m
    → monomial_weight w m ≡ w v ^ e * monomial_weight w (lessened e v m)
less_weight w e v [] p l = cc
less_weight w e zero (k ∷ m) p l =
    let q : e + (k - e) ≡ k = omega (arith, l) in
    let s : w 0 ^ k ≡ w 0 ^ e * w 0 ^ (k - e) = ap (λ n. w 0 ^ n) (sym q) ∙ power_sum (w 0) e (k - e) in
    rw s (omega arith)
less_weight w e (suc v) (k ∷ m) p l = let ih = less_weight (λ u. w (suc u)) e v m p l in rw ih (omega arith)

-- the terms weigh w v to the e times the divided ones, and the others
pub parts_weight : (w : ℕ → ℕ) (e v : ℕ) (f : List Term) → HavePower e v f
    → w v ^ e * weighted_sum w (divided e v f) + weighted_sum w (free_of v f) ≡ weighted_sum w f
parts_weight w e v f =
    by_parts e v (λ f g h. HavePower e v f → w v ^ e * weighted_sum w g + weighted_sum w h ≡ weighted_sum w f) (λ c. omega arith)
    (λ t f g h q ih c. rw (less_weight w e v t.exponents q (c.0 q)) (omega (arith, ih c.1))) (λ t f g h q ih c. omega (arith, ih c.1)) f

-- no monomial weighs less than 1
at_least : (w : ℕ → ℕ) → ((v : ℕ) → 1 ≤ w v) → (m : List ℕ) → 1 ≤ monomial_weight w m
at_least w o [] = omega arith
at_least w o (k ∷ m) = one-le-mul (one-le-pow k (w 0) (o 0)) (at_least (λ u. w (suc u)) (λ u. o (suc u)) m)

-- neither the divided terms nor those without v have a zero factor where the terms have none
pub parts_some : (e v : ℕ) (f : List Term) → HasNoZero f → HasNoZero (divided e v f) × HasNoZero (free_of v f)
parts_some e v f =
    by_parts e v (λ f g h. HasNoZero f → HasNoZero g × HasNoZero h) (λ a. (tt, tt)) (λ t f g h e ih a. ((a.0, (ih a.1).0), (ih a.1).1))
    (λ t f g h e ih a. ((ih a.1).0, (a.0, (ih a.1).1))) f

nonzero : (z : ℤ) → z ≢ pos 0 → 1 ≤ unsigned_abs z
nonzero (pos zero) h = absurd (h refl)
nonzero (pos (suc n)) h = omega arith
nonzero (negsuc n) h = omega arith

-- some terms weigh at least 1
pub some_weight : (w : ℕ → ℕ) → ((v : ℕ) → 1 ≤ w v) → (t : Term) (f : List Term) → HasNoZero (t ∷ f) → 1 ≤ weighted_sum w (t ∷ f)
some_weight w o t f z =
    let a = nonzero t.factor z.0 in
    let m : unsigned_abs t.factor * 1 ≤ unsigned_abs t.factor * monomial_weight w t.exponents =
    mul-le-mul_left (unsigned_abs t.factor) (at_least w o t.exponents) in
    omega (arith, a, m)

-- the absolute factors together are at most the weighted sum
pub few_weight : (w : ℕ → ℕ) → ((v : ℕ) → 1 ≤ w v) → (f : List Term) → abs_total f ≤ weighted_sum w f
few_weight w o [] = omega arith
few_weight w o (t ∷ f) =
    let m : unsigned_abs t.factor * 1 ≤ unsigned_abs t.factor * monomial_weight w t.exponents =
    mul-le-mul_left (unsigned_abs t.factor) (at_least w o t.exponents) in
    omega (arith, few_weight w o f, m)

-- the sum of the factors is at most the absolute factors together
total_abs : (f : List Term) → unsigned_abs (total f) ≤ abs_total f
total_abs [] = omega arith
total_abs (t ∷ f) = omega (arith, ints, total_abs f)

-- so it is at most the weighted sum
pub sum_weight : (w : ℕ → ℕ) → ((v : ℕ) → 1 ≤ w v) → (f : List Term) → unsigned_abs (total f) ≤ weighted_sum w f
sum_weight w o f = omega (arith, few_weight w o f, total_abs f)
