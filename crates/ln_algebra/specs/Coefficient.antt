-- The coefficients of an expression at a perturbed point: it is evaluated at x + e, and read off one coefficient at a time.
-- Source: the perturbed determinant of Simulation of Simplicity (Edelsbrunner and Mücke 1990), here for any expression.
use Rattle.std.specs.Prelude.{ℕ, Bool, true, ◌&&◌, ℤ, pos, ◌+ℤ◌, ◌-ℤ◌, ◌*ℤ◌, neg_ℤ, List, [], ◌∷◌, if◌then◌else◌}
use Rattle.std.proofs.Common.{zero, suc}
use Rattle.ln_algebra.specs.Vector.{sum_over, splits, is_zero, is_unit}
use Rattle.ln_algebra.specs.Tree.{Tree, Num, Input, Name, Neg, Add, Sub, Mul, Pow}

-- A polynomial in the infinitesimals: a number for each exponent vector.
abbrev pub Series : Type 0
Series = List ℕ → ℤ

-- The number c: c at the vector of zeros, else 0.
abbrev pub constant : ℤ → Series
constant c a = if is_zero a then c else pos 0

-- Variable v with value x: x at the vector of zeros, 1 at the unit vector of v where v is perturbed, else 0.
abbrev pub variable : Bool → ℕ → ℤ → Series
variable perturbed v x a = if is_zero a then x else (if perturbed && is_unit v a then pos 1 else pos 0)

-- The product of two series: at a the sum, over all b + c = a, of the coefficient of one at b times that of the other at c.
abbrev pub product : Series → Series → Series
product f g a = sum_over (λ s. f s.0 *ℤ g s.1) (splits a)

-- The n-th power: the number 1, and from there the product of the power before it and f.
abbrev pub power : Series → ℕ → Series
power f zero = constant (pos 1)
power f (suc n) = product (power f n) f

-- The perturbed coefficients of a closed tree where each variable v has the value x v, and those in the set p have an infinitesimal added.
abbrev pub coefficient : (ℕ → Bool) → (ℕ → ℤ) → Tree → Series
coefficient p x (Num c) = constant c
coefficient p x (Input v) = variable (p v) v (x v)
coefficient p x (Name j) = constant (pos 0)
coefficient p x (Neg e) = λ a. neg_ℤ (coefficient p x e a)
coefficient p x (Add e f) = λ a. coefficient p x e a +ℤ coefficient p x f a
coefficient p x (Sub e f) = λ a. coefficient p x e a -ℤ coefficient p x f a
coefficient p x (Mul e f) = product (coefficient p x e) (coefficient p x f)
coefficient p x (Pow e n) = power (coefficient p x e) n

-- The coefficients of the normal polynomial: those at the point of zeros, with all variables perturbed.
abbrev pub normal_coefficient : Tree → Series
normal_coefficient e = coefficient (λ _. true) (λ _. pos 0) e

-- The product of the coefficients of several series, each at its own vector of the list.
abbrev pub product_at : List Series → List (List ℕ) → ℤ
product_at [] [] = pos 1
product_at [] (b ∷ bs) = pos 0
product_at (f ∷ fs) [] = pos 0
product_at (f ∷ fs) (b ∷ bs) = f b *ℤ product_at fs bs
