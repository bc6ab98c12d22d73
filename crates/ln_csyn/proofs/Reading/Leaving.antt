-- What is derived takes tokens from the beginning, and the rest is found by its length.
use Rattle.std.proofs.Common.{◌≡◌, ℕ, zero, suc, ◌+◌, ◌<◌, Bool, List, ◌∷◌, length, drop, refl, sym, subst, arith}
use Rattle.ln_csyn.specs.Tree.{Expr, Body, Fun}
use Rattle.ln_csyn.specs.Grammar.{Token, Sort, Derives, IsBody, IsPointer, IsParameters, IsHead, IsFun}
use Rattle.ln_csyn.specs.Grammar as g

-- the second list is what remains of the first after one or more tokens
pub data Leaves : List Token → List Token → Type 0 where
  one : {t : Token} {ts : List Token} → Leaves (t ∷ ts) ts
  more : {t : Token} {ts us : List Token} → Leaves ts us → Leaves (t ∷ ts) us

-- one after the other
pub after : {ts us ws : List Token} → Leaves ts us → Leaves us ws → Leaves ts ws
after one d = more d
after (more c) d = more (after c d)

-- fewer tokens remain
pub fewer : {ts us : List Token} → Leaves ts us → length us < length ts
fewer one = omega arith
fewer (more d) = omega (arith, fewer d)

-- an expression leaves less
pub leaves_expr : {s : Sort} {ts rest : List Token} {e : Expr} → Derives s ts rest e → Leaves ts rest
leaves_expr (g.two h d o e s) = more (after (leaves_expr d) (more (after (leaves_expr e) one)))
leaves_expr (g.minus h m d s) = more (more (after (leaves_expr d) one))
leaves_expr (g.cast h i j m d s) = more (more (more (more (after (leaves_expr d) one))))
leaves_expr (g.number h) = one
leaves_expr (g.name h) = one
leaves_expr (g.value h i j k) = more (more (more one))
leaves_expr (g.index h i j k) = more (more (more one))
leaves_expr (g.call h i j k) = more (more (more one))
leaves_expr (g.inner d) = leaves_expr d

one_of : (q w : Token) (ts us : List Token) → q ∷ ts ≡ w ∷ us → Leaves (q ∷ ts) us
one_of q w ts us e = subst (λ (z : List Token). Leaves z us) (sym e) one

-- statements with their closing brace leave less
pub leaves_body : {ts rest : List Token} {b : Body} → IsBody ts rest b → (q : Token) (us : List Token) → rest ≡ q ∷ us → Leaves ts us
leaves_body (g.end {q = w} {rest = rest} h) q us e = one_of w q rest us e
leaves_body (g.decl k x m d s b) q us e = more (more (more (after (leaves_expr d) (more (leaves_body b q us e)))))
leaves_body (g.group h a b) q us e = more (after (leaves_body a _ _ refl) (leaves_body b q us e))
leaves_body (g.when h l d r m a b) q us e = more (more (after (leaves_expr d) (more (more (after (leaves_body a _ _ refl) (leaves_body b q us e))))))
leaves_body (g.return h d s b) q us e = more (after (leaves_expr d) (more (leaves_body b q us e)))

leaves_pointer : {ts rest : List Token} → IsPointer ts rest → Leaves ts rest
leaves_pointer (g.pointer h i j) = more (more one)

leaves_parameters : {ts rest : List Token} {i : Bool} → IsParameters ts rest i → Leaves ts rest
leaves_parameters (g.one p h) = after (leaves_pointer p) one
leaves_parameters (g.both p h c q v) = after (leaves_pointer p) (more (more (after (leaves_pointer q) one)))

leaves_head : {ts rest : List Token} {o : Bool} {f : Fun} → IsHead ts rest o f → Leaves ts rest
leaves_head (g.head {q = q} {rest = rest} h x l i r b d) = more (more (more (after (leaves_parameters i) (more (more (leaves_body d q rest refl))))))

-- a function leaves less
pub leaves_fun : {ts rest : List Token} {f : Fun} → IsFun ts rest f → Leaves ts rest
leaves_fun (g.own h d) = more (leaves_head d)
leaves_fun (g.shared d) = leaves_head d
