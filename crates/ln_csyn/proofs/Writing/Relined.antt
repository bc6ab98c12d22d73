-- Tokens on other lines are the same file, up to lines.
use Rattle.std.proofs.Common.{ℕ, zero, suc, Bool, List, [], ◌∷◌, refl}
use Rattle.ln_csyn.specs.Tree.{Expr, Body, End, Decl, Group, If, Return, Fun}
use Rattle.ln_csyn.specs.Grammar.{Token, Sort, Derives, two, minus, cast, number, name, value, index, call, inner, IsBody, end, decl, group}
use Rattle.ln_csyn.specs.Grammar.{when, return, IsPointer, pointer, IsParameters, one, both, IsHead, head, IsFun, own, shared, IsFile}
use Rattle.ln_csyn.specs.Grammar as g
use Rattle.ln_csyn.specs.Lines.{SameBody, SameFun, SameUpToLines}
use Rattle.ln_csyn.specs.Lines as l

-- lines of tokens, by number
abbrev pub Numbers : Type 0
Numbers = ℕ → ℕ

-- the lines of the tokens after the first
abbrev pub later : Numbers → Numbers
later n i = n (suc i)

-- this line for the first token, and these for those after it
abbrev pub before : ℕ → Numbers → Numbers
before m n zero = m
before m n (suc i) = n i

-- the tokens on these lines
abbrev pub relined : Numbers → List Token → List Token
relined n [] = []
relined n (t ∷ ts) = record { text = t.text; line = n 0 } ∷ relined (later n) ts

-- what is derived from them, and the remaining lines
record Derived (s : Sort) (us rest : List Token) (e : Expr) : Type 0 where
  n : Numbers
  is : Derives s us (relined n rest) e

derived : {s : Sort} {ts rest : List Token} {e : Expr} → Derives s ts rest e → (n : Numbers) → Derived s (relined n ts) rest e
derived (two h d o c k) n =
    let a = derived d (later n) in
    let b = derived c (later a.n) in
    record { n = later b.n; is = two h a.is o b.is k }
derived (minus h m d k) n = let a = derived d (later (later n)) in record { n = later a.n; is = minus h m a.is k }
derived (cast h i j m d k) n = let a = derived d (later (later (later (later n)))) in record { n = later a.n; is = cast h i j m a.is k }
derived (number h) n = record { n = later n; is = number h }
derived (name h) n = record { n = later n; is = name h }
derived (value h i j k) n = record { n = later (later (later (later n))); is = value h i j k }
derived (index h i j k) n = record { n = later (later (later (later n))); is = index h i j k }
derived (call h i j k) n = record { n = later (later (later (later n))); is = call h i j k }
derived (inner d) n = let a = derived d n in record { n = a.n; is = inner a.is }

record BodyThere (us rest : List Token) (b : Body) : Type 0 where
  n : Numbers
  body : Body
  is : IsBody us (relined n rest) body
  same : SameBody body b

body_there : {ts rest : List Token} {b : Body} → IsBody ts rest b → (n : Numbers) → BodyThere (relined n ts) rest b
body_there (end h) n = record { n = n; body = End; is = end h; same = l.end }
body_there (decl {k = k} {x = x} {t = t} {e = e} h i j d m c) n =
    let a = derived d (later (later (later n))) in
    let b = body_there c (later a.n) in
    record { n = b.n; body = Decl (n 0) t x.text e b.body; is = decl h i j a.is m b.is; same = l.decl b.same }
body_there (group h c d) n =
    let a = body_there c (later n) in
    let b = body_there d (later a.n) in
    record { n = b.n; body = Group (n 0) a.body b.body; is = group h a.is b.is; same = l.group a.same b.same }
body_there (when {e = e} h i d j m c q) n =
    let a = derived d (later (later n)) in
    let b = body_there c (later (later a.n)) in
    let r = body_there q (later b.n) in
    record { n = r.n; body = If (n 0) e b.body r.body; is = when h i a.is j m b.is r.is; same = l.when b.same r.same }
body_there (return {e = e} h d m c) n =
    let a = derived d (later n) in
    let b = body_there c (later a.n) in
    record { n = b.n; body = Return (n 0) e b.body; is = return h a.is m b.is; same = l.return b.same }

record PointerThere (us rest : List Token) : Type 0 where
  n : Numbers
  is : IsPointer us (relined n rest)

pointer_there : {ts rest : List Token} → IsPointer ts rest → (n : Numbers) → PointerThere (relined n ts) rest
pointer_there (pointer h i j) n = record { n = later (later (later n)); is = pointer h i j }

record ParametersThere (us rest : List Token) (i : Bool) : Type 0 where
  n : Numbers
  is : IsParameters us (relined n rest) i

parameters_there : {ts rest : List Token} {i : Bool} → IsParameters ts rest i → (n : Numbers) → ParametersThere (relined n ts) rest i
parameters_there (one p h) n = let a = pointer_there p n in record { n = later a.n; is = one a.is h }
parameters_there (both p h i q j) n =
    let a = pointer_there p n in
    let b = pointer_there q (later (later a.n)) in
    record { n = later b.n; is = both a.is h i b.is j }

record HeadThere (us rest : List Token) (o : Bool) (f : Fun) : Type 0 where
  n : Numbers
  fun : Fun
  is : IsHead us (relined n rest) o fun
  same : SameFun fun f

head_there : {ts rest : List Token} {o : Bool} {f : Fun} → IsHead ts rest o f → (n : Numbers) → HeadThere (relined n ts) rest o f
head_there (head {x = x} {own = o} {indexed = i} h j k p q m c) n =
    let a = parameters_there p (later (later (later n))) in
    let b = body_there c (later (later a.n)) in
    record {
      n = later b.n;
      fun = record { own = o; name = x.text; indexed = i; body = b.body; end = b.n 0 };
      is = head h j k a.is q m b.is;
      same = record { own = refl; name = refl; indexed = refl; body = b.same };
    }

record FunThere (us rest : List Token) (f : Fun) : Type 0 where
  n : Numbers
  fun : Fun
  is : IsFun us (relined n rest) fun
  same : SameFun fun f

fun_there : {ts rest : List Token} {f : Fun} → IsFun ts rest f → (n : Numbers) → FunThere (relined n ts) rest f
fun_there (own h d) n = let a = head_there d (later n) in record { n = a.n; fun = a.fun; is = own h a.is; same = a.same }
fun_there (shared d) n = let a = head_there d n in record { n = a.n; fun = a.fun; is = shared a.is; same = a.same }

-- the file on other lines
pub record FileThere (us : List Token) (fs : List Fun) : Type 0 where
  pub funs : List Fun
  pub is : IsFile us funs
  pub same : SameUpToLines funs fs

-- the tokens of a file, on whatever lines, are a file that is the same up to lines
pub file_there : {ts : List Token} {fs : List Fun} → IsFile ts fs → (n : Numbers) → FileThere (relined n ts) fs
file_there g.none n = record { funs = []; is = g.none; same = l.none }
file_there (g.one d e) n =
    let a = fun_there d n in
    let b = file_there e a.n in
    record { funs = a.fun ∷ b.funs; is = g.one a.is b.is; same = l.one a.same b.same }
