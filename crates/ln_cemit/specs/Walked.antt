-- The body of the function with two parameters: the blocks of a prefix are called, and where all are 0 the next site is found by
-- comparisons among the sites that aren't placed yet.
use Rattle.std.specs.Prelude.{ℕ, ◌+◌, not, eqb, List, [], ◌∷◌, ◌++◌, filter}
use Rattle.std.proofs.Common.{zero, suc}
use Rattle.std.specs.List.{range_with_len}
use Rattle.ln_csyn.specs.declared.tree.CType.TheVariants.{Int, Int64}
use Rattle.ln_csyn.specs.declared.tree.COp.TheVariants as op
use Rattle.ln_csyn.specs.Tree.{Expr, Number, Name, Value, Index, Call, Inner, Minus, Two, Body, End, Decl, Group, If, Return}

-- nothing decides
abbrev pub says_nothing : Body
says_nothing = Return 2 (Number Int 0) End

-- the comparison whether the index at place i is below that at place j
abbrev pub less : ℕ → ℕ → Expr
less i j = Two op.Less (Index Int64 i) (Index Int64 j)

-- the inner statements where the index at place i is below that of each of these places
abbrev pub guarded : ℕ → List ℕ → Body → Body
guarded i [] inner = inner
guarded i (j ∷ js) inner = If 2 (less i j) (guarded i js inner) End

-- the statements of the place, of these, with the least index. Where a place isn't the least, it isn't compared again: the least then
-- comes after it
abbrev pub picks : (ℕ → Body) → List ℕ → Body
picks go [] = says_nothing
picks go (i ∷ []) = go i
picks go (i ∷ j ∷ js) = If 2 (less i j) (guarded i js (go i)) (picks go (j ∷ js))

-- the places without one
abbrev pub without : ℕ → List ℕ → List ℕ
without x js = filter (λ j. not (eqb j x)) js

-- the call of a function, and the return of its result where that isn't 0
abbrev pub attempt : List ℕ → List ℕ → Body
attempt own x = Decl 2 Int own (Call Int x) (If 2 (Two op.Differ (Name Int own) (Number Int 0)) (Return 2 (Name Int own) End) End)

module _ (block : ℕ → List ℕ) (own : List ℕ) where
  -- the blocks are called, and the first result that isn't 0 is returned; else the rest follows
  abbrev pub tries : List ℕ → Body → Body
  tries [] rest = rest
  tries (b ∷ bs) rest = Group 2 (attempt own (block b)) (tries bs rest)

  module _ (segment : List ℕ → List ℕ) where
    -- from a prefix on, with these sites left, of which there are at most d: each further prefix has its statements once
    abbrev pub walked : ℕ → List ℕ → List ℕ → Body
    walked zero p left = tries (segment p) says_nothing
    walked (suc d) p left = tries (segment p) (picks (λ i. walked d (p ++ i ∷ []) (without i left)) left)

    -- the whole body: first what is before all blocks, a filter or nothing
    abbrev pub body_for : List ℕ → ℕ → Body
    body_for before k = tries before (walked k [] (range_with_len 0 k))

-- how many calls are in a body
abbrev pub calls_in_expr : Expr → ℕ
calls_in_expr (Call t f) = 1
calls_in_expr (Inner t e) = calls_in_expr e
calls_in_expr (Minus e) = calls_in_expr e
calls_in_expr (Two o a b) = calls_in_expr a + calls_in_expr b
calls_in_expr (Number t n) = 0
calls_in_expr (Name t x) = 0
calls_in_expr (Value t i) = 0
calls_in_expr (Index t i) = 0

-- how many calls are in the statements of a body
abbrev pub calls_in : Body → ℕ
calls_in End = 0
calls_in (Decl l t x e rest) = calls_in_expr e + calls_in rest
calls_in (Group l b rest) = calls_in b + calls_in rest
calls_in (If l e b rest) = calls_in_expr e + (calls_in b + calls_in rest)
calls_in (Return l e rest) = calls_in_expr e + calls_in rest
