-- Values in code, against what is known of them.
use Rattle.std.specs.Prelude.{◌≡◌, ℕ, ◌<◌, ◌≤◌, Bool, true, false, List, [], ◌∷◌, ◌++◌, length, reverse, get_or, Option, Some, None}
use Rattle.ln_algebra.specs.Tree.{Tree}
use Rattle.ln_poly.specs.Expansion.{IsNormal}
use Rattle.ln_code.specs.declared.op.Op.{Op}
use Rattle.ln_code.specs.Engine.{Engine, State}
use Rattle.ln_due.specs.Small.{IsSmall}
use Rattle.ln_verify.specs.Line.{Leads}
use Rattle.ln_verify.specs.declared.value.Value.{Value}

-- the value in code is what is known: the same limits and size, and the polynomial of the expression
pub record IsFor {L K : Type 0} (known : L → Tree → ℕ → K) (n : ℕ) (x : Value L) (k : K) : Type 0 where
  pub tree : Tree
  pub is : k ≡ known x.limits tree x.size
  pub normal : IsNormal n tree x.poly

-- what an operation makes: a value where its rule holds and what it would push is small, and else none
abbrev pub IsMade : {X K : Type 0} → (X → K → Type 0) → (K → Tree) → ℕ → Option X → Option K → Type 0
IsMade R tree n None None = Unit {0}
IsMade R tree n None (Some k) = IsSmall n (tree k) → ⊥
IsMade R tree n (Some x) None = ⊥
IsMade R tree n (Some x) (Some k) = R x k × IsSmall n (tree k)

-- two lists of one length, related place by place
abbrev pub Paired : {X K : Type 0} → (X → K → Type 0) → List X → List K → Type 0
Paired R [] [] = Unit {0}
Paired R [] (k ∷ ks) = ⊥
Paired R (x ∷ xs) [] = ⊥
Paired R (x ∷ xs) (k ∷ ks) = R x k × Paired R xs ks

-- a local in code is for what is known of it
abbrev pub IsLocal : {X K : Type 0} → (X → K → Type 0) → Option X → Option K → Type 0
IsLocal R None None = Unit {0}
IsLocal R None (Some k) = ⊥
IsLocal R (Some x) None = ⊥
IsLocal R (Some x) (Some k) = R x k

-- a stack and 256 locals in code are for a state
pub record IsState {X K : Type 0} (R : X → K → Type 0) (xs : List X) (ls : List (Option X)) (s : State K (ℕ → Option K)) : Type 0 where
  pub stack : Paired R (reverse xs) s.stack
  pub size : length ls ≡ 256
  pub locals : (j : ℕ) → j < 256 → IsLocal R (get_or ls j None) (s.locals j)

-- the operation leads to a state that the stack and the locals are for, or nowhere
abbrev pub Came : {B X K : Type 0} → (X → K → Type 0) → (K → Tree) → ℕ → Engine B K (ℕ → Option K) → State K (ℕ → Option K) → Op →
    B → Bool → List X → List (Option X) → Type 0
Came {K = K} R tree n e s op b true xs ls = (t : State K (ℕ → Option K)) × Leads tree n e op b s t × IsState R xs ls t
Came {K = K} R tree n e s op b false xs ls = (t : State K (ℕ → Option K)) → Leads tree n e op b s t → ⊥

-- a value, if there is one, is pushed onto a stack of fewer than 2,048
abbrev pub PushedOnto : {X : Type 0} → Option X → List X → Bool → List X → Type 0
PushedOnto None old true new = ⊥
PushedOnto None old false new = Unit {0}
PushedOnto (Some x) old true new = (length old < 2048) × (new ≡ old ++ x ∷ [])
PushedOnto (Some x) old false new = 2048 ≤ length old
