-- The nodes of a tree read aloud: one list, each node with its width, in order of evaluation.
use Rattle.std.specs.Prelude.{◌≡◌, ◌↔◌, ℕ, zero, suc, ◌⊎◌, List, [], ◌∷◌, ◌++◌, pos, map, slice_index_or}
use Rattle.ln_algebra.specs.Tree.{Tree, Num, Input, Neg, Pow, inlined, inlined_after}
use Rattle.ln_bound.specs.declared.fitted.Width.{Width}
use Rattle.ln_bound.specs.Typed.{Typed, TNum, TInput, TLet, TNeg, TTwo, TPow, untyped, two_of}
use Rattle.ln_code.specs.Nodes.{IsNodeOf}

-- a closed expression and the width at which it is computed
pub record Sized : Type 0 where
  pub tree : Tree
  pub width : Width

-- the expression e, computed at the width w
abbrev pub at_width : Width → Tree → Sized
at_width w e = record { tree = e; width = w }

-- this many powers of e, from e^k on
abbrev pub powers_from : Tree → Width → ℕ → ℕ → List Sized
powers_from e w k zero = []
powers_from e w k (suc n) = at_width w (Pow e k) ∷ powers_from e w (suc k) n

-- the powers on the way to e^n, from e^0 on, and itself
abbrev pub powers_to : Tree → Width → ℕ → List Sized
powers_to e w n = powers_from e w 0 (suc n)

-- the nodes of a tree, where these are the closed lets: operands first, then what is made of them
abbrev pub nodes_in : List Tree → Typed → List Sized
nodes_in lets (TNum c p w) = at_width w (Num c) ∷ []
nodes_in lets (TInput i p w) = at_width w (Input i) ∷ []
nodes_in lets (TLet j p w) = at_width w (slice_index_or lets j (Num (pos 0))) ∷ []
nodes_in lets (TNeg t p w) = nodes_in lets t ++ at_width w (Neg (inlined lets (untyped t))) ∷ []
nodes_in lets (TTwo k s t p w) =
    nodes_in lets s ++ (nodes_in lets t ++ at_width w (two_of k (inlined lets (untyped s)) (inlined lets (untyped t))) ∷ [])
nodes_in lets (TPow t n p w) = nodes_in lets t ++ powers_to (inlined lets (untyped t)) w n

-- those of lets in turn, each over those before it, after these
abbrev pub nodes_in_lets : List Tree → List Typed → List Sized
nodes_in_lets done [] = []
nodes_in_lets done (t ∷ ts) = nodes_in done t ++ nodes_in_lets (done ++ inlined done (untyped t) ∷ []) ts

-- all nodes: those of the lets, then those of the tree
abbrev pub all_nodes : List Typed → Typed → List Sized
all_nodes lets t = nodes_in_lets [] lets ++ nodes_in (inlined_after [] (map untyped lets)) t

-- this expression is in the list at this width
abbrev pub IsAmong : List Sized → Tree → Width → Type 0
IsAmong [] e w = ⊥
IsAmong (x ∷ xs) e w = ((e ≡ x.tree) × (w ≡ x.width)) ⊎ IsAmong xs e w

-- a node of the tree or of its lets is just a member of the list
abbrev pub NodesAreListed : Type 0
NodesAreListed = (lets : List Typed) (t : Typed) (e : Tree) (w : Width) → IsNodeOf lets t e w ↔ IsAmong (all_nodes lets t) e w
