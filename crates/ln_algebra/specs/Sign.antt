-- The perturbed sign of an expression on a row.
-- Source: Simulation of Simplicity (Edelsbrunner and Mücke 1990), where it is the sign of a determinant of perturbed inputs.
use Rattle.std.specs.Prelude.{◌≡◌, ◌≢◌, ℕ, ◌≤◌, ◌⊎◌, ℤ, pos, negsuc, List, [], ◌∷◌, is_some}
use Rattle.std.proofs.Common.{zero, suc}
use Rattle.ln_algebra.specs.Vector.{total_degree}
use Rattle.ln_algebra.specs.Coefficient.{coefficient}
use Rattle.ln_algebra.specs.Earlier.{Sites, Earlier, IsOver}
use Rattle.ln_algebra.specs.Tree.{Tree, degree_of}

-- The coefficient at a, where each variable of a site has its infinitesimal added to its value.
abbrev pub perturbed : Sites → (ℕ → ℤ) → Tree → List ℕ → ℤ
perturbed sites x e a = coefficient (λ v. is_some (sites.site v)) x e a

-- a is the first vector whose coefficient isn't 0, of those over the variables of sites and not above the syntactic degree, in
-- this order of vectors.
pub record IsFirstIn (before : List ℕ → List ℕ → Type 0) (n : ℕ) (sites : Sites) (x : ℕ → ℤ) (e : Tree) (a : List ℕ) : Type 0 where
  pub over : IsOver n sites a
  pub small : total_degree a ≤ degree_of e
  pub nonzero : perturbed sites x e a ≢ pos 0
  pub zero_before : (b : List ℕ) → IsOver n sites b → total_degree b ≤ degree_of e → before b a → perturbed sites x e b ≡ pos 0

-- The same by the smallest infinitesimal in which two vectors differ.
abbrev pub IsFirst : ℕ → Sites → (ℕ → ℤ) → Tree → List ℕ → Type 0
IsFirst n sites x e a = IsFirstIn (Earlier sites) n sites x e a

-- The sign of a number: 1, 0 or -1.
abbrev pub sign_of : ℤ → ℤ
sign_of (pos zero) = pos 0
sign_of (pos (suc n)) = pos 1
sign_of (negsuc n) = negsuc 0

-- The first of two signs, where it isn't 0, else the second.
abbrev pub or_else : ℤ → ℤ → ℤ
or_else (pos zero) t = t
or_else (pos (suc n)) t = pos (suc n)
or_else (negsuc n) t = negsuc n

-- s is the sign of the coefficient at the first vector in this order, or 0 where there is no first vector.
abbrev pub IsSignIn : (List ℕ → List ℕ → Type 0) → ℕ → Sites → (ℕ → ℤ) → Tree → ℤ → Type 0
IsSignIn before n sites x e s =
    ((a : List ℕ) × IsFirstIn before n sites x e a × (s ≡ sign_of (perturbed sites x e a)))
    ⊎ (((a : List ℕ) → IsFirstIn before n sites x e a → ⊥) × (s ≡ pos 0))

-- s is the perturbed sign.
abbrev pub IsPerturbedSign : ℕ → Sites → (ℕ → ℤ) → Tree → ℤ → Type 0
IsPerturbedSign n sites x e s = IsSignIn (Earlier sites) n sites x e s

-- The sign found along a list of vectors: that of the first coefficient that isn't 0, and 0 where all are.
abbrev pub sign_along : Sites → (ℕ → ℤ) → Tree → List (List ℕ) → ℤ
sign_along sites x e [] = pos 0
sign_along sites x e (a ∷ as') = or_else (sign_of (perturbed sites x e a)) (sign_along sites x e as')
