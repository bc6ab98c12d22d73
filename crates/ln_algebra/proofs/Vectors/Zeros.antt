-- The vector of zeros, and the scaled derivative by it.
use Rattle.std.proofs.Common.{◌≡◌, ℕ, ◌-◌, zero, suc, Bool, true, leb, List, [], ◌∷◌, length, refl, arith}
use Rattle.std.proofs.Math.IntN.{pos, ◌*ℤ◌}
use Rattle.std.proofs.lemmas.Bool.Decides.{nat_tests}
use Rattle.ln_algebra.proofs.Expanded.Ring.{mul_one}
use Rattle.ln_algebra.specs.Terms.{Over, Term, binomials, covers, derived, minus}
use Rattle.ln_algebra.specs.Vector.{Within, is_zero, zeros}

-- it is the vector of zeros
pub is_zero-zeros : (n : ℕ) → is_zero (zeros n) ≡ true
is_zero-zeros zero = refl
is_zero-zeros (suc n) = is_zero-zeros n

-- it is over any set of variables
pub within-zeros : (p : ℕ → Bool) (n : ℕ) → Within p (zeros n)
within-zeros p zero = tt
within-zeros p (suc n) = within-zeros (λ v. p (suc v)) n

-- each vector covers it
pub covers-zeros : (m : List ℕ) (n : ℕ) → length m ≡ n → covers m (zeros n) ≡ true
covers-zeros [] zero h = refl
covers-zeros [] (suc n) h = absurd (omega arith)
covers-zeros (k ∷ m) zero h = absurd (omega arith)
covers-zeros (k ∷ m) (suc n) h =
    let ih : covers m (zeros n) ≡ true = covers-zeros m n (omega arith) in
    let z : leb 0 k ≡ true = grind (arith, nat_tests) in
    rw (z, ih) refl

-- taken away it changes nothing
minus-zeros : (m : List ℕ) (n : ℕ) → length m ≡ n → minus m (zeros n) ≡ m
minus-zeros [] zero h = refl
minus-zeros [] (suc n) h = absurd (omega arith)
minus-zeros (k ∷ m) zero h = absurd (omega arith)
minus-zeros (k ∷ m) (suc n) h =
    let ih : minus m (zeros n) ≡ m = minus-zeros m n (omega arith) in
    let z : k - 0 ≡ k = omega arith in
    rw (z, ih) refl

-- there is one way to choose nothing
binomials-zeros : (m : List ℕ) (n : ℕ) → length m ≡ n → binomials m (zeros n) ≡ 1
binomials-zeros [] zero h = refl
binomials-zeros [] (suc n) h = absurd (omega arith)
binomials-zeros (k ∷ m) zero h = absurd (omega arith)
binomials-zeros (k ∷ m) (suc n) h = let ih : binomials m (zeros n) ≡ 1 = binomials-zeros m n (omega arith) in omega (arith, ih)

-- the scaled derivative by nothing
pub derived-zeros : (n : ℕ) (f : List Term) → Over n f → derived (zeros n) f ≡ f
derived-zeros n [] o = refl
derived-zeros n (t ∷ f) o =
    let c : covers t.exponents (zeros n) ≡ true = covers-zeros t.exponents n o.0 in
    let m : minus t.exponents (zeros n) ≡ t.exponents = minus-zeros t.exponents n o.0 in
    let b : binomials t.exponents (zeros n) ≡ 1 = binomials-zeros t.exponents n o.0 in
    let u : t.factor *ℤ pos 1 ≡ t.factor = mul_one t.factor in
    let ih : derived (zeros n) f ≡ f = derived-zeros n f o.1 in
    rw (c, m, b, u, ih) refl
