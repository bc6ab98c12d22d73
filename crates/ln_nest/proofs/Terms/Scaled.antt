-- A tree times a tree.
use Rattle.std.proofs.Common.{◌≡◌, ℕ, ℤ, ◌+◌, Bool, true, false, List, [], ◌∷◌, length, refl, zero, suc, ap, arith, pos, if◌then◌else◌}
use Rattle.std.specs.Prelude.{negsuc}
use Rattle.std.proofs.lemmas.Bool.Decides.{Decides-int_eq}
use Rattle.ln_algebra.specs.Tree.{InputsBelow, Tree, Num, Input, Name, Neg, Add, Sub, Mul, Pow, inlined}
use Rattle.ln_algebra.specs.Vector.{plus, zeros}
use Rattle.ln_algebra.proofs.Expanded.Expansion.{expanded, times}
use Rattle.ln_bound.specs.Typed.{Typed, untyped}
use Rattle.ln_nest.specs.Nested.{is_number, scaled}
use Rattle.ln_nest.specs.View.{opposite_of, product_of, times_of}

-- the test of a number finds it alone
number_is : (z : ℤ) (e : Tree) → is_number z e ≡ true → e ≡ Num z
number_is z (Num c) h = ap Num ((Decides-int_eq c z).0 h)
number_is z (Input v) h = cc
number_is z (Name j) h = cc
number_is z (Neg e) h = cc
number_is z (Add e f) h = cc
number_is z (Sub e f) h = cc
number_is z (Mul e f) h = cc
number_is z (Pow e n) h = cc

-- what holds by the tests of a tree for 1 and for -1
unit_cases : (e : Tree) (P : Bool → Bool → Type 0) → (e ≡ Num (pos 1) → (q : Bool) → P true q) → (e ≡ Num (negsuc 0) → P false true) → P false false
    → P (is_number (pos 1) e) (is_number (negsuc 0) e)
unit_cases e P a b c = by_case (is_number (pos 1) e) (is_number (negsuc 0) e) (number_is (pos 1) e) (number_is (negsuc 0) e)
  where
    by_case : (p q : Bool) → (p ≡ true → e ≡ Num (pos 1)) → (q ≡ true → e ≡ Num (negsuc 0)) → P p q
    by_case true q f g = a (f refl) q
    by_case false true f g = b (g refl)
    by_case false false f g = c

-- what holds of the tree, its opposite and the product, each where it is taken
pub scaled_cases : (x h : Tree) (P : Tree → Type 0) → (h ≡ Num (pos 1) → P x) → (h ≡ Num (negsuc 0) → P (Neg x)) → P (Mul x h) → P (scaled x h)
scaled_cases x h P a b c = unit_cases h (λ p q. P (if p then x else (if q then Neg x else Mul x h))) (λ e q. a e) b c

-- the same of trees with ranges
pub product_cases : (x y : Typed) (P : Typed → Tree → Type 0) → (untyped y ≡ Num (pos 1) → P x (untyped x))
    → (untyped y ≡ Num (negsuc 0) → P (opposite_of x) (Neg (untyped x))) → P (times_of x y) (Mul (untyped x) (untyped y))
    → P (product_of x y) (scaled (untyped x) (untyped y))
product_cases x y P a b c =
    unit_cases (untyped y) (λ p q. P (if p then x else (if q then opposite_of x else times_of x y))
    (if p then untyped x else (if q then Neg (untyped x) else Mul (untyped x) (untyped y)))) (λ e q. a e) b c

-- ---- the expansion
-- a vector and zeros are the vector
pub plus_none : (n : ℕ) (m : List ℕ) → length m ≡ n → plus m (zeros n) ≡ m
plus_none zero [] h = refl
plus_none zero (k ∷ m) h = absurd (omega arith)
plus_none (suc n) [] h = absurd (omega arith)
plus_none (suc n) (k ∷ m) h = let e : k + 0 ≡ k = omega arith in rw (e, plus_none n m (omega arith)) refl

-- it is that of the product, where the first tree is a monomial
pub expanded_scaled : (n : ℕ) (x h : Tree) (m : List ℕ) → length m ≡ n → expanded n x ≡ record { exponents = m; factor = pos 1 } ∷ []
    → expanded n (scaled x h) ≡ times (record { exponents = m; factor = pos 1 } ∷ []) (expanded n h)
expanded_scaled n x h m l p = scaled_cases x h (λ t. expanded n t ≡ times (record { exponents = m; factor = pos 1 } ∷ []) (expanded n h))
    (λ e. rw (e, p, plus_none n m l) refl)
    (λ e. rw (e, p, plus_none n m l) refl)
    (rw p refl)

-- its variables are those of both
pub inputs_scaled : (n : ℕ) (x h : Tree) → InputsBelow n x → InputsBelow n h → InputsBelow n (scaled x h)
inputs_scaled n x h a b = scaled_cases x h (InputsBelow n) (λ e. a) (λ e. a) (a, b)

-- it has no let where they have none
pub closed_scaled : (x h : Tree) → inlined [] x ≡ x → inlined [] h ≡ h → inlined [] (scaled x h) ≡ scaled x h
closed_scaled x h a b = scaled_cases x h (λ t. inlined [] t ≡ t) (λ e. a) (λ e. rw a refl) (rw (a, b) refl)
