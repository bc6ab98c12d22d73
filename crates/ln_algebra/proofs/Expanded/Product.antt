-- The coefficients of a product of lists of terms.
use Rattle.std.proofs.Common.{◌≡◌, ℕ, sym, ◌∙◌, ap, List, length}
use Rattle.std.proofs.Math.IntN.{ℤ, ◌*ℤ◌}
use Rattle.ln_algebra.proofs.Deriving.Derived.{total-same-over, value-derived}
use Rattle.ln_algebra.proofs.Expanded.Expansion.{tau, times, Over-times, shifted, shifted-times}
use Rattle.ln_algebra.proofs.Expanded.Shift.{sum_splits-within, product_is}
use Rattle.ln_algebra.proofs.Expanded.Normal.{everywhere, origin, shifted-origin, within_all}
use Rattle.ln_algebra.proofs.Expanded.Sums.{sum_splits_is}
use Rattle.ln_algebra.specs.Coefficient.{product}
use Rattle.ln_algebra.specs.Terms.{IsProductOf, Over, Term, derived, factor_at, value}
use Rattle.ln_algebra.specs.Vector.{splits, sum_over}

-- the coefficients of a product of lists of terms are those of the product of series
pub factor_at-times : (n : ℕ) (f g : List Term) → Over n f → Over n g → (a : List ℕ) → length a ≡ n
    → factor_at (times f g) a ≡ product (factor_at f) (factor_at g) a
factor_at-times n f g o p a h =
    sym (shifted-origin a (times f g) (rw h (Over-times n f g o p)))
    ∙ shifted-times everywhere origin a f g (rw h o) (rw h p)
    ∙ sum_splits-within a (λ b c. shifted everywhere origin b f *ℤ shifted everywhere origin c g) (λ b c. factor_at f b *ℤ factor_at g c)
    (λ b c i j. ap (λ t. t *ℤ shifted everywhere origin c g) (shifted-origin b f (rw (i ∙ h) o))
    ∙ ap (λ t. factor_at f b *ℤ t) (shifted-origin c g (rw (j ∙ h) p)))
    ∙ sym (product_is (factor_at f) (factor_at g) a)

-- where h has the coefficients of f times g, so have the two lists of terms
product-same-terms : (n : ℕ) (f g h : List Term) → IsProductOf n f g h → (a : List ℕ) → length a ≡ n → factor_at h a ≡ factor_at (times f g) a
product-same-terms n f g h p a e = p.coefficients a e ∙ sym (factor_at-times n f g p.left p.right a e)

-- the product rule
pub product-rule : (n : ℕ) (f g h : List Term) (x : ℕ → ℤ) (a : List ℕ) → IsProductOf n f g h → length a ≡ n
    → value x (derived a h) ≡ sum_over (λ s. value x (derived s.0 f) *ℤ value x (derived s.1 g)) (splits a)
product-rule n f g h x a p e =
    value-derived everywhere x a h (rw e p.over) (within_all a)
    ∙ total-same-over n (λ m. tau everywhere x m a) h (times f g) p.over (Over-times n f g p.left p.right) (product-same-terms n f g h p)
    ∙ shifted-times everywhere x a f g (rw e p.left) (rw e p.right)
    ∙ sum_splits-within a (λ b c. shifted everywhere x b f *ℤ shifted everywhere x c g) (λ b c. value x (derived b f) *ℤ value x (derived c g))
    (λ b c i j.
    ap (λ z. z *ℤ shifted everywhere x c g) (sym (value-derived everywhere x b f (rw (i ∙ e) p.left) (within_all b)))
    ∙ ap (λ z. value x (derived b f) *ℤ z) (sym (value-derived everywhere x c g (rw (j ∙ e) p.right) (within_all c))))
    ∙ sym (sum_splits_is a (λ b c. value x (derived b f) *ℤ value x (derived c g)))
