-- Defines what may be next in a row, but for its value.
use Rattle.std.specs.Prelude.{◌≡◌, ◌↔◌, ℕ, pos, Bool, true, List, [], ◌∷◌, Option, Some, None}
use Rattle.ln_algebra.specs.Earlier.{Earlier, Sites}
use Rattle.ln_algebra.specs.Stage.{IsStage}
use Rattle.ln_algebra.specs.Tree.{Tree}
use Rattle.ln_algebra.specs.Vector.{In}
use Rattle.ln_tree.specs.Exps.{Pairs, vector}
use Rattle.ln_trace.specs.Told.{AreZero, LastIsEarlier, Stood, vectors_in}

-- these exponents are those that stood last, all values before are 0, and the flag says whether the last one is
abbrev pub IsLastOf : ℕ → Option Pairs → Bool → Stood → Type 0
IsLastOf n None zero [] = zero ≡ true
IsLastOf n None zero (p ∷ stood) = ⊥
IsLastOf n (Some a) zero [] = ⊥
IsLastOf n (Some a) zero (p ∷ stood) = (p.0 ≡ vector n a) × AreZero stood × ((zero ≡ true) ↔ (p.1 ≡ pos 0))

-- all values are 0, a is later than the last, and each stage that is earlier than a stood
pub record MayBeNext (n : ℕ) (sites : Sites) (e : Tree) (stood : Stood) (a : List ℕ) : Type 0 where
  pub zeros : AreZero stood
  pub later : LastIsEarlier sites stood a
  pub members : (b : List ℕ) → IsStage n sites e b → Earlier sites b a → In (vectors_in stood) b
