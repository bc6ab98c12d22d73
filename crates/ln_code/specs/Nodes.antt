-- The nodes of a tree and of its lets, as closed expressions.
use Rattle.std.specs.Prelude.{◌≡◌, ℕ, ◌≤◌, ◌⊎◌, List, [], ◌∷◌, ◌++◌, pos, map, slice_index_or}
use Rattle.ln_algebra.specs.Tree.{Tree, Num, Input, Neg, Pow, inlined, inlined_after}
use Rattle.ln_bound.specs.declared.fitted.Width.{Width}
use Rattle.ln_bound.specs.Typed.{Typed, TNum, TInput, TLet, TNeg, TTwo, TPow, untyped, two_of}

-- e is the closed expression of a node of this width, where these are the closed lets; a power counts with the lower powers on its way
abbrev pub IsNode : List Tree → Typed → Tree → Width → Type 0
IsNode lets (TNum c p w) e v = (e ≡ Num c) × (v ≡ w)
IsNode lets (TInput i p w) e v = (e ≡ Input i) × (v ≡ w)
IsNode lets (TLet j p w) e v = (e ≡ slice_index_or lets j (Num (pos 0))) × (v ≡ w)
IsNode lets (TNeg t p w) e v = IsNode lets t e v ⊎ ((e ≡ Neg (inlined lets (untyped t))) × (v ≡ w))
IsNode lets (TTwo k s t p w) e v = (IsNode lets s e v ⊎ IsNode lets t e v)
    ⊎ ((e ≡ two_of k (inlined lets (untyped s)) (inlined lets (untyped t))) × (v ≡ w))
IsNode lets (TPow t n p w) e v = IsNode lets t e v ⊎ ((k : ℕ) × (k ≤ n) × (e ≡ Pow (inlined lets (untyped t)) k) × (v ≡ w))

-- e is a node of one of the lets, each over those before it, after these
abbrev pub IsLetNode : List Tree → List Typed → Tree → Width → Type 0
IsLetNode done [] e v = ⊥
IsLetNode done (t ∷ ts) e v = IsNode done t e v ⊎ IsLetNode (done ++ inlined done (untyped t) ∷ []) ts e v

-- e is a node of the tree or of its lets
abbrev pub IsNodeOf : List Typed → Typed → Tree → Width → Type 0
IsNodeOf lets t e v = IsLetNode [] lets e v ⊎ IsNode (inlined_after [] (map untyped lets)) t e v
