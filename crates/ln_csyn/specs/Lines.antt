-- Files that are the same up to lines.
use Rattle.std.specs.Prelude.{◌≡◌, ℕ, List, [], ◌∷◌}
use Rattle.ln_csyn.specs.declared.tree.CType.{CType}
use Rattle.ln_csyn.specs.Tree.{Expr, Body, End, Decl, Group, If, Return, Fun}

-- the same statements, on whatever lines
pub data SameBody : Body → Body → Type 0 where
  end : SameBody End End
  decl : {l m : ℕ} {t : CType} {x : List ℕ} {e : Expr} {b c : Body} → SameBody b c → SameBody (Decl l t x e b) (Decl m t x e c)
  group : {l m : ℕ} {a b c d : Body} → SameBody a c → SameBody b d → SameBody (Group l a b) (Group m c d)
  when : {l m : ℕ} {e : Expr} {a b c d : Body} → SameBody a c → SameBody b d → SameBody (If l e a b) (If m e c d)
  return : {l m : ℕ} {e : Expr} {b c : Body} → SameBody b c → SameBody (Return l e b) (Return m e c)

-- the same function, wherever it ends
pub record SameFun (f g : Fun) : Type 0 where
  pub own : f.own ≡ g.own
  pub name : f.name ≡ g.name
  pub indexed : f.indexed ≡ g.indexed
  pub body : SameBody f.body g.body

-- the same functions in the same order, on whatever lines
pub data SameUpToLines : List Fun → List Fun → Type 0 where
  none : SameUpToLines [] []
  one : {f g : Fun} {fs gs : List Fun} → SameFun f g → SameUpToLines fs gs → SameUpToLines (f ∷ fs) (g ∷ gs)
