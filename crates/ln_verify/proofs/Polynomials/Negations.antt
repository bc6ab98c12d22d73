-- Polynomials with the other sign.
use Rattle.std.proofs.Common.{◌≡◌, ℕ, List, sym, ap, arith, subst, [], ◌∷◌, refl, ◌∙◌, Bool, true, false, not, ◌≤◌}
use Rattle.std.proofs.Math.IntN.{◌+ℤ◌, ℤ}
use Rattle.std.proofs.lemmas.Int.{ints}
use Rattle.ln_algebra.specs.Tree.{Sub, Tree}
use Rattle.ln_poly.specs.Expansion.{IsNormal}
use Rattle.ln_poly.specs.Sparse.{AreBelow, IsPoly, Sparse, coefficient_at, negated, size_of}
use Rattle.ln_poly.proofs.TermLists.Negating.{below-negated, coefficient-negated, poly-negated, size-negated}
use Rattle.ln_poly.proofs.Expansions.Normals.{sub-normal, add-normal}
use Rattle.std.specs.Prelude.{neg_ℤ, Some}
use mathlib.Core.Bool.{beq}
use Rattle.ln_verify.specs.Signed.{signed}
use Rattle.std.proofs.Math.Nat.{mul-le-mul}
use Rattle.ln_bound.specs.declared.fitted.Two.{Two}
use Rattle.ln_bound.specs.declared.fitted.Two.TheVariants.{Minus, Plus, Times}
use Rattle.ln_bound.specs.Typed.{bound_of}
use Rattle.ln_verify.specs.Joined.{IsSum, Joined}

-- the sum of one normal polynomial and the negation of another is that of the difference of the expressions
pub difference-normal : (n : ℕ) (d e : Tree) (f g k h : Sparse) → IsNormal n d f → IsNormal n e g → k ≡ negated g → IsPoly h → AreBelow n h
    → ((m : List ℕ) → coefficient_at n h m ≡ coefficient_at n f m +ℤ coefficient_at n k m) → IsNormal n (Sub d e) h
difference-normal n d e f g k h p q r s b c = sub-normal n d e f g h p q s b (λ m. let a : coefficient_at n k m ≡ coefficient_at n (negated g) m =
    ap (λ (z : Sparse). coefficient_at n z m) r in omega (arith, ints, c m, a, coefficient-negated n m g))

-- the variables of a negated polynomial are below n where those of the polynomial are
pub below-of : (n : ℕ) (g k : Sparse) → k ≡ negated g → AreBelow n g → AreBelow n k
below-of n g k e h = subst (AreBelow n) (sym e) (below-negated n g h)

minus-twice : (z : ℤ) → neg_ℤ (neg_ℤ z) ≡ z
minus-twice z = omega (arith, ints)

-- a polynomial that is negated twice is itself
pub negated-twice : (f : Sparse) → negated (negated f) ≡ f
negated-twice [] = refl
negated-twice (t ∷ f) = ap (λ (z : ℤ). (t.0, z) ∷ negated (negated f)) (minus-twice t.1) ∙ ap (λ (g : Sparse). t ∷ g) (negated-twice f)

-- a sign doesn't change the size of a polynomial
pub size-signed : (b : Bool) (f : Sparse) → size_of (signed b f) ≡ size_of f
size-signed false f = refl
size-signed true f = size-negated f

-- a polynomial with a sign beside it is one
pub poly-signed : (b : Bool) (f : Sparse) → IsPoly f → IsPoly (signed b f)
poly-signed false f p = p
poly-signed true f p = poly-negated f p

-- and its variables are below n where those of the polynomial without the sign are
pub below-signed : (n : ℕ) (b : Bool) (f : Sparse) → AreBelow n f → AreBelow n (signed b f)
below-signed n false f h = h
below-signed n true f h = below-negated n f h

-- and the other way
pub below-bare : (n : ℕ) (b : Bool) (f : Sparse) → AreBelow n (signed b f) → AreBelow n f
below-bare n false f h = h
below-bare n true f h = subst (AreBelow n) (negated-twice f) (below-negated n (negated f) h)

-- the polynomial with the other sign is the negation of that with the sign
pub opposite-signed : (b : Bool) (f : Sparse) → signed (not b) f ≡ negated (signed b f)
opposite-signed false f = refl
opposite-signed true f = sym (negated-twice f)

-- the other sign, and minus the terms
pub turned-over : (a b : Bool) (f : Sparse) → beq a b ≡ false → signed b (negated f) ≡ signed a f
turned-over false false f d = cc
turned-over true true f d = cc
turned-over true false f d = refl
turned-over false true f d = negated-twice f

-- a sum of two with the same sign
pub sum-signed : (b : Bool) (f g h : Sparse) → ((n : ℕ) (m : List ℕ) → coefficient_at n h m ≡ coefficient_at n f m +ℤ coefficient_at n g m) →
    (n : ℕ) (m : List ℕ) → coefficient_at n (signed b h) m ≡ coefficient_at n (signed b f) m +ℤ coefficient_at n (signed b g) m
sum-signed false f g h e n m = e n m
sum-signed true f g h e n m = omega (arith, ints, e n m, coefficient-negated n m f, coefficient-negated n m g, coefficient-negated n m h)

-- a sum of two polynomials is their sum in the other order too
pub sum-turned : (f g h : Sparse) → IsSum g f h → IsSum f g h
sum-turned f g h s =
    record { coefficients = λ n m. omega (arith, ints, s.coefficients n m); size = omega (arith, s.size); form = s.form; below = λ n p q. s.below n q p }

-- the sum of two polynomials is the polynomial of the sum of the expressions
pub plus-joined : (f g h : Sparse) → IsSum f g h → Joined Plus f g (Some h)
plus-joined f g h s = (s.size, λ n d e p q. add-normal n d e f g h p q s.form (s.below n p.below q.below) (λ m. s.coefficients n m))

-- a negated polynomial has the same size
pub turned-size : (g k : Sparse) → k ≡ negated g → size_of k ≡ size_of g
turned-size g k e = let a : size_of k ≡ size_of (negated g) = ap (λ (z : Sparse). size_of z) e in omega (arith, a, size-negated g)

-- the sum of minus the second and the first
pub minus-joined : (f g k h : Sparse) → k ≡ negated g → IsSum k f h → Joined Minus f g (Some h)
minus-joined f g k h e s =
    let z = turned-size g k e in (
      omega (arith, s.size, z),
      λ n d t p q. difference-normal n d t f g k h p q e s.form (s.below n (below-of n g k e q.below) p.below) (λ m. omega (arith, ints, s.coefficients n m)),
    )

-- what is made of sizes is no larger than what is made of larger ones
pub bound-within : (t : Two) (a b m n s : ℕ) → a ≤ m → b ≤ n → s ≡ bound_of t m n → bound_of t a b ≤ s
bound-within Plus a b m n s h k e = omega (arith, h, k, e)
bound-within Minus a b m n s h k e = omega (arith, h, k, e)
bound-within Times a b m n s h k e = let l = mul-le-mul h k in omega (arith, l, e)
