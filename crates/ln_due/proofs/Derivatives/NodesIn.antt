-- The nodes of a typed tree are those of its expression.
use Rattle.std.proofs.Common.{◌≡◌, ◌⊎◌, inl, inr, ℕ, ◌≤◌, List}
use Rattle.ln_algebra.specs.Tree.{Tree, Num, Input, Name, Neg, Add, Sub, Mul, Pow, inlined}
use Rattle.ln_bound.specs.declared.fitted.Two.TheVariants.{Plus, Minus, Times}
use Rattle.ln_bound.specs.declared.fitted.Width.{Width}
use Rattle.ln_bound.specs.Typed.{Typed, TNum, TInput, TLet, TNeg, TTwo, TPow, untyped}
use Rattle.ln_code.specs.Nodes.{IsNode}

-- e is a node of the tree, with these closed lets in place of their names; a power counts with the lower powers on its way
abbrev pub NodeIn : List Tree → Tree → Tree → Type 0
NodeIn ls (Num c) e = e ≡ Num c
NodeIn ls (Input v) e = e ≡ Input v
NodeIn ls (Name j) e = e ≡ inlined ls (Name j)
NodeIn ls (Neg d) e = NodeIn ls d e ⊎ (e ≡ inlined ls (Neg d))
NodeIn ls (Add d f) e = (NodeIn ls d e ⊎ NodeIn ls f e) ⊎ (e ≡ inlined ls (Add d f))
NodeIn ls (Sub d f) e = (NodeIn ls d e ⊎ NodeIn ls f e) ⊎ (e ≡ inlined ls (Sub d f))
NodeIn ls (Mul d f) e = (NodeIn ls d e ⊎ NodeIn ls f e) ⊎ (e ≡ inlined ls (Mul d f))
NodeIn ls (Pow d n) e = NodeIn ls d e ⊎ ((k : ℕ) × (k ≤ n) × (e ≡ Pow (inlined ls d) k))

-- each node of a typed tree is one
pub node-in : (ls : List Tree) (t : Typed) (e : Tree) (w : Width) → IsNode ls t e w → NodeIn ls (untyped t) e
node-in ls (TNum c b x) e w h = h.0
node-in ls (TInput i b x) e w h = h.0
node-in ls (TLet j b x) e w h = h.0
node-in ls (TNeg t b x) e w (inl h) = inl (node-in ls t e w h)
node-in ls (TNeg t b x) e w (inr h) = inr h.0
node-in ls (TTwo Plus s t b x) e w (inl (inl h)) = inl (inl (node-in ls s e w h))
node-in ls (TTwo Plus s t b x) e w (inl (inr h)) = inl (inr (node-in ls t e w h))
node-in ls (TTwo Plus s t b x) e w (inr h) = inr h.0
node-in ls (TTwo Minus s t b x) e w (inl (inl h)) = inl (inl (node-in ls s e w h))
node-in ls (TTwo Minus s t b x) e w (inl (inr h)) = inl (inr (node-in ls t e w h))
node-in ls (TTwo Minus s t b x) e w (inr h) = inr h.0
node-in ls (TTwo Times s t b x) e w (inl (inl h)) = inl (inl (node-in ls s e w h))
node-in ls (TTwo Times s t b x) e w (inl (inr h)) = inl (inr (node-in ls t e w h))
node-in ls (TTwo Times s t b x) e w (inr h) = inr h.0
node-in ls (TPow t n b x) e w (inl h) = inl (node-in ls t e w h)
node-in ls (TPow t n b x) e w (inr (k, l, q, v)) = inr (k, l, q)
