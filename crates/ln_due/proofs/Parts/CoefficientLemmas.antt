-- What a scaled derivative's expression is worth on a row: the perturbed coefficient.
use Rattle.std.proofs.Common.{◌≡◌, ℕ, false, List, [], sym, ◌∙◌, ap}
use Rattle.std.proofs.Math.IntN.{ℤ}
use Rattle.ln_algebra.proofs.Walking.Cut.{of_sites, within}
use Rattle.ln_algebra.proofs.Deriving.Derived.{derivative-coefficient}
use Rattle.ln_algebra.proofs.Expanded.Expansion.{length-zeros}
use Rattle.ln_algebra.proofs.Vectors.Zeros.{derived-zeros, is_zero-zeros, within-zeros}
use Rattle.ln_algebra.specs.Coefficient.{coefficient}
use Rattle.ln_algebra.specs.Earlier.{IsOver, Sites}
use Rattle.ln_algebra.specs.Sign.{perturbed}
use Rattle.ln_algebra.specs.Terms.{IsNormalOf, Term, derived}
use Rattle.ln_algebra.specs.Terms as terms
use Rattle.ln_algebra.specs.Tree.{InputsBelow, Tree}
use Rattle.ln_algebra.specs.Vector.{zeros}
use Rattle.ln_bound.proofs.Trees.Plain.{plain}
use Rattle.ln_bound.specs.Value.{value}

-- the value of an expression is that of its normal polynomial
pub normal-value : (n : ℕ) (x : ℕ → ℤ) (e : Tree) (f : List Term) → InputsBelow n e → IsNormalOf n e f → value x [] e ≡ terms.value x f
normal-value n x e f i h =
    let d : terms.value x (derived (zeros n) f) ≡ coefficient (λ v. false) x e (zeros n) =
    derivative-coefficient n e f (λ v. false) x (zeros n) i h (length-zeros n) (within-zeros (λ v. false) n) in
    let p : coefficient (λ v. false) x e (zeros n) ≡ value x [] e = plain (λ v. false) x e (zeros n) (is_zero-zeros n) in
    sym p ∙ sym d ∙ ap (terms.value x) (derived-zeros n f h.over)

-- an expression whose normal polynomial is the scaled derivative of e's by a has the perturbed coefficient of e at a
pub derivative-value : (n : ℕ) (sites : Sites) (x : ℕ → ℤ) (e t : Tree) (f : List Term) (a : List ℕ) →
    InputsBelow n e → IsNormalOf n e f → InputsBelow n t → IsNormalOf n t (derived a f) → IsOver n sites a → value x [] t ≡ perturbed sites x e a
derivative-value n sites x e t f a i h j k o =
    normal-value n x t (derived a f) j k ∙ derivative-coefficient n e f (of_sites sites) x a i h o.size (within n sites x e i a o)
