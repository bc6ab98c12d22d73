-- The sign found along the stage list is the sign, in any order of infinitesimals.
use Rattle.std.proofs.Common.{◌≡◌, ◌≢◌, ℕ, zero, suc, refl, ◌∙◌, ap, List, [], ◌∷◌, ◌⊎◌, inl, inr}
use Rattle.std.proofs.Math.IntN.{ℤ, pos, negsuc}
use Rattle.ln_algebra.proofs.Ordering.Admissible.{earlier-admissible}
use Rattle.ln_algebra.proofs.Walking.Cut.{first-stage-in, stage-first-in}
use Rattle.ln_algebra.proofs.Expanded.Normal.{zero_cases}
use Rattle.ln_algebra.specs.Earlier.{Earlier, IndicesDiffer, IsSortedIn, Sites}
use Rattle.ln_algebra.specs.Orders.{IsAdmissible}
use Rattle.ln_algebra.specs.Sign.{IsPerturbedSign, IsSignIn, or_else, perturbed, sign_along, sign_of}
use Rattle.ln_algebra.specs.Stage.{IsStageIn, IsStageList, IsStageListIn}
use Rattle.ln_algebra.specs.Tree.{InputsBelow, Tree}
use Rattle.ln_algebra.specs.Vector.{In}

-- the sign of a number that isn't 0 decides
or_else-nonzero : (z t : ℤ) → z ≢ pos 0 → or_else (sign_of z) t ≡ sign_of z
or_else-nonzero (pos zero) t h = absurd (h refl)
or_else-nonzero (pos (suc n)) t h = refl
or_else-nonzero (negsuc n) t h = refl

-- the sign of 0 doesn't
or_else-zero : (z t : ℤ) → z ≡ pos 0 → or_else (sign_of z) t ≡ t
or_else-zero z t e = ap (λ y. or_else (sign_of y) t) e

-- the sign along the stage list, in an order that is irreflexive and transitive
module _ (n : ℕ) (sites : Sites) (before : List ℕ → List ℕ → Type 0) (order : IsAdmissible n sites before) (x : ℕ → ℤ) (e : Tree)
    (below : InputsBelow n e) where
  -- the rest of the list, where each stage is in it or has coefficient 0
  along : (list : List (List ℕ)) → IsSortedIn before list → ((a : List ℕ) → In list a → IsStageIn before n sites e a)
      → ((a : List ℕ) → IsStageIn before n sites e a → In list a ⊎ (perturbed sites x e a ≡ pos 0)) → IsSignIn before n sites x e (sign_along sites x e list)
  along [] s h k = inr (λ a f. f.nonzero (elim (k a (first-stage-in n sites before x e below a f)) [ inl i ↦ absurd i | inr z ↦ z ]), refl)
  along (a ∷ list) s h k = by_case (zero_cases (perturbed sites x e a)) (λ z. along list s.1 (λ b i. h b (inr i)) (λ b t. rest z b (k b t))) where
    rest : perturbed sites x e a ≡ pos 0 → (b : List ℕ) → In (a ∷ list) b ⊎ (perturbed sites x e b ≡ pos 0) → In list b ⊎ (perturbed sites x e b ≡ pos 0)
    rest z b (inl (inl q)) = inr (ap (perturbed sites x e) q ∙ z)
    rest z b (inl (inr i)) = inl i
    rest z b (inr y) = inr y

    zero_at : (b : List ℕ) → before b a → In (a ∷ list) b ⊎ (perturbed sites x e b ≡ pos 0) → perturbed sites x e b ≡ pos 0
    zero_at b l (inl (inl q)) = absurd (order.irreflexive a (rw q at l))
    zero_at b l (inl (inr i)) = absurd (order.irreflexive b (order.transitive b a b l (s.0 b i)))
    zero_at b l (inr y) = y

    by_case : (perturbed sites x e a ≡ pos 0) ⊎ (perturbed sites x e a ≡ pos 0 → ⊥)
        → (perturbed sites x e a ≡ pos 0 → IsSignIn before n sites x e (sign_along sites x e list))
        → IsSignIn before n sites x e (sign_along sites x e (a ∷ list))
    by_case (inl z) ih =
        let t : sign_along sites x e (a ∷ list) ≡ sign_along sites x e list = or_else-zero (perturbed sites x e a) (sign_along sites x e list) z in
        rw t (ih z)
    by_case (inr z) ih = inl (
      a,
      stage-first-in n sites before x e below order.transitive a (h a (inl refl)) z (λ b t l. zero_at b l (k b t)),
      or_else-nonzero (perturbed sites x e a) (sign_along sites x e list) z,
    )

  -- along the whole stage list it is the sign
  pub sign-along-in : (list : List (List ℕ)) → IsStageListIn before n sites e list → IsSignIn before n sites x e (sign_along sites x e list)
  sign-along-in list s = along list s.in_order s.stages (λ a t. inl (s.all a t))

-- by the smallest infinitesimal it is the perturbed sign
pub sign-along : (n : ℕ) (sites : Sites) (e : Tree) (x : ℕ → ℤ) (list : List (List ℕ)) → InputsBelow n e → IndicesDiffer sites
    → IsStageList n sites e list → IsPerturbedSign n sites x e (sign_along sites x e list)
sign-along n sites e x list below differ = sign-along-in n sites (Earlier sites) (earlier-admissible n sites differ) x e below list
