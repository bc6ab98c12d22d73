-- The value of a tree is its coefficient at the vector of zeros, whatever is perturbed.
use Rattle.std.proofs.Common.{◌≡◌, ℕ, ℤ, Bool, true, List, [], ◌∷◌, refl, zero, suc, ap, arith, pos, ◌+ℤ◌, ◌*ℤ◌, neg_ℤ, ◌∙◌}
use Rattle.std.proofs.lemmas.Int.{ints}
use Rattle.ln_algebra.specs.Tree.{Tree, Num, Input, Name, Neg, Add, Sub, Mul, Pow}
use Rattle.ln_algebra.specs.Vector.{splits, is_zero}
use Rattle.ln_algebra.specs.Coefficient as algebra
use Rattle.ln_algebra.specs.Coefficient.{Series, coefficient, product}
use Rattle.ln_bound.specs.Value.{power, value}

splits_zero : (a : List ℕ) → is_zero a ≡ true → splits a ≡ (a, a) ∷ []
splits_zero [] h = refl
splits_zero (zero ∷ a) h =
    let ih : splits a ≡ (a, a) ∷ [] = splits_zero a h in
    rw ih refl
splits_zero (suc n ∷ a) h = cc

add_nothing : (z : ℤ) → z +ℤ pos 0 ≡ z
add_nothing z = omega (arith, ints)

product_zero : (f g : Series) (a : List ℕ) → is_zero a ≡ true → product f g a ≡ f a *ℤ g a
product_zero f g a h =
    let e : splits a ≡ (a, a) ∷ [] = splits_zero a h in
    rw e (add_nothing (f a *ℤ g a))

power_zero : (f : Series) (n : ℕ) (a : List ℕ) → is_zero a ≡ true → algebra.power f n a ≡ power (f a) n
power_zero f zero a h = rw h refl
power_zero f (suc n) a h =
    let ih : algebra.power f n a ≡ power (f a) n = power_zero f n a h in
    product_zero (algebra.power f n) f a h ∙ ap (λ z. z *ℤ f a) ih

-- the value of a closed tree is its coefficient at the vector of zeros, whatever is perturbed
pub plain : (p : ℕ → Bool) (x : ℕ → ℤ) (e : Tree) (a : List ℕ) → is_zero a ≡ true → coefficient p x e a ≡ value x [] e
plain p x (Num c) a h = rw h refl
plain p x (Input v) a h = rw h refl
plain p x (Name j) a h = rw h refl
plain p x (Neg e) a h = ap neg_ℤ (plain p x e a h)
plain p x (Add e f) a h =
    let q = plain p x e a h in
    let r = plain p x f a h in
    rw (q, r) refl
plain p x (Sub e f) a h =
    let q = plain p x e a h in
    let r = plain p x f a h in
    rw (q, r) refl
plain p x (Mul e f) a h =
    let q = plain p x e a h in
    let r = plain p x f a h in
    product_zero (coefficient p x e) (coefficient p x f) a h ∙ rw (q, r) refl
plain p x (Pow e n) a h =
    let q = plain p x e a h in
    power_zero (coefficient p x e) n a h ∙ ap (λ z. power z n) q
