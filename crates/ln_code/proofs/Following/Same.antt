-- Expressions with one polynomial and one value.
use Rattle.std.proofs.Common.{◌≡◌, ℕ, zero, suc, Bool, true, false, ◌&&◌, if◌then◌else◌, ℤ, pos, ◌+ℤ◌, ◌-ℤ◌, ◌*ℤ◌, neg_ℤ, List, [], ◌∷◌, ap₂}
use Rattle.std.proofs.Common.{refl, sym, ◌∙◌, ap, arith}
use Rattle.std.proofs.lemmas.Int.{ints}
use Rattle.ln_algebra.proofs.Expanded.Shift.{product_is}
use Rattle.ln_algebra.proofs.Expanded.Sums.{sum_parts, sum_splits}
use Rattle.ln_algebra.proofs.Deriving.Taylor.{sum_parts-same, sum_parts-zero, sum_splits-same, sum_splits-zero}
use Rattle.ln_algebra.specs.Vector.{is_zero, is_zero_number}
use Rattle.ln_algebra.specs.Coefficient.{Series, normal_coefficient, constant, product}
use Rattle.ln_algebra.specs.Tree.{Tree, Num, Neg, Mul, Pow}
use Rattle.ln_bound.specs.declared.fitted.Two.{Two}
use Rattle.ln_bound.specs.declared.fitted.Two.TheVariants.{Plus, Minus, Times}
use Rattle.ln_bound.specs.Typed.{two_of}
use Rattle.ln_bound.specs.Value.{value}

-- ---- the number 1 is the unit on the left

sum_parts-first : (n : ℕ) (g : ℕ → ℤ) → sum_parts n (λ i j. if is_zero_number i then g j else pos 0) ≡ g n
sum_parts-first zero g = refl
sum_parts-first (suc n) g = omega (arith, ints, sum_parts-zero n)

sum_splits-first : (a : List ℕ) (g : List ℕ → ℤ) → sum_splits a (λ b c. if is_zero b then g c else pos 0) ≡ g a
sum_splits-first [] g = refl
sum_splits-first (n ∷ a) g =
    sum_parts-same n (λ i j. sum_splits a (λ b c. if is_zero_number i && is_zero b then g (j ∷ c) else pos 0))
    (λ i j. if is_zero_number i then g (j ∷ a) else pos 0) (λ i j. by_case j (is_zero_number i) (sum_splits-first a (λ c. g (j ∷ c))))
    ∙ sum_parts-first n (λ j. g (j ∷ a))
  where
    by_case : (j : ℕ) (z : Bool) → sum_splits a (λ b c. if is_zero b then g (j ∷ c) else pos 0) ≡ g (j ∷ a)
        → sum_splits a (λ b c. if z && is_zero b then g (j ∷ c) else pos 0) ≡ if z then g (j ∷ a) else pos 0
    by_case j true ih = ih
    by_case j false ih = sum_splits-zero a

chosen : (z : Bool) (y : ℤ) → (if z then pos 1 else pos 0) *ℤ y ≡ if z then y else pos 0
chosen true y = omega (arith, ints)
chosen false y = omega (arith, ints)

one-product : (f : Series) (a : List ℕ) → product (constant (pos 1)) f a ≡ f a
one-product f a =
    product_is (constant (pos 1)) f a
    ∙ sum_splits-same a (λ b c. constant (pos 1) b *ℤ f c) (λ b c. if is_zero b then f c else pos 0) (λ b c. chosen (is_zero b) (f c))
    ∙ sum_splits-first a f

-- ---- the same polynomial and the same value

-- two expressions have one polynomial, and one value at each point
pub record Same (e f : Tree) : Type 0 where
  pub series : normal_coefficient e ≡ normal_coefficient f
  pub values : (x : ℕ → ℤ) → value x [] e ≡ value x [] f

-- an expression has its own
pub same_self : (e : Tree) → Same e e
same_self e = record { series = refl; values = λ x. refl }

-- and so has one that equals it
pub same_is : (e f : Tree) → e ≡ f → Same e f
same_is e f q = record { series = ap normal_coefficient q; values = λ x. ap (λ (t : Tree). value x [] t) q }

-- the relation is transitive
pub same_then : (e f g : Tree) → Same e f → Same f g → Same e g
same_then e f g s t = record { series = s.series ∙ t.series; values = λ x. s.values x ∙ t.values x }

-- negations of two such expressions are such
pub same_neg : (e f : Tree) → Same e f → Same (Neg e) (Neg f)
same_neg e f s = record { series = ap (λ (u : Series). (λ a. neg_ℤ (u a))) s.series; values = λ x. ap neg_ℤ (s.values x) }

-- and so are sums, differences and products of two pairs of them
pub same_two : (k : Two) (e f g h : Tree) → Same e f → Same g h → Same (two_of k e g) (two_of k f h)
same_two Plus e f g h s t = record {
  series = ap₂ (λ (u v : Series). (λ a. u a +ℤ v a)) s.series t.series;
  values = λ x. ap₂ ◌+ℤ◌ (s.values x) (t.values x);
}
same_two Minus e f g h s t = record {
  series = ap₂ (λ (u v : Series). (λ a. u a -ℤ v a)) s.series t.series;
  values = λ x. ap₂ ◌-ℤ◌ (s.values x) (t.values x);
}
same_two Times e f g h s t = record {
  series = ap₂ product s.series t.series;
  values = λ x. ap₂ ◌*ℤ◌ (s.values x) (t.values x);
}

-- an expression is its first power
pub same_first : (e : Tree) → Same e (Pow e 1)
same_first e = record { series = λ i a. sym (one-product (normal_coefficient e) a) i; values = λ x. times_one (value x [] e) }
  where
    times_one : (z : ℤ) → z ≡ pos 1 *ℤ z
    times_one z = omega (arith, ints)

-- the next power
pub same_next : (e f p : Tree) (m : ℕ) → Same f e → Same p (Pow e m) → Same (Mul p f) (Pow e (suc m))
same_next e f p m s t = record {
  series = ap₂ product t.series s.series;
  values = λ x. ap₂ ◌*ℤ◌ (t.values x) (s.values x);
}

-- the power 0 is the number 1
pub same_zeroth : (e : Tree) → Same (Num (pos 1)) (Pow e 0)
same_zeroth e = record { series = refl; values = λ x. refl }
