-- Defines what is read at the beginning of a list of tokens, as a function: by its contracts the reader returns this.
use Rattle.std.specs.Prelude.{ℕ, zero, suc, Bool, true, false, if◌then◌else◌, List, [], ◌∷◌, length, Option, Some, None, codes, bytes_eq}
use Rattle.ln_csyn.specs.declared.tree.CType.{CType}
use Rattle.ln_csyn.specs.declared.tree.COp.{COp}
use Rattle.ln_csyn.specs.Tree.{Expr, Number, Name, Value, Index, Call, Inner, Minus, Two, Body, End, Decl, Group, If, Return, Fun}
use Rattle.ln_csyn.specs.Words.{is_c_name, number_of, type_of, op_of}
use Rattle.ln_csyn.specs.Grammar.{Token}

-- goes on with what was found
abbrev pub go_on : {A B : Type 0} → Option A → (A → Option B) → Option B
go_on None f = None
go_on (Some x) f = f x

-- goes on with what was found, or elsewhere
abbrev pub choose : {A B : Type 0} → Option A → (A → B) → B → B
choose None f other = other
choose (Some x) f other = f x

-- what is after a token with this text
abbrev pub eat : List ℕ → List Token → Option (List Token)
eat text [] = None
eat text (t ∷ ts) = if bytes_eq t.text text then Some ts else None

-- the first token has this text
abbrev pub begins : List ℕ → List Token → Bool
begins text [] = false
begins text (t ∷ ts) = bytes_eq t.text text

-- what was found, with these tokens as the remaining ones
abbrev pub with_rest : {A : Type 0} → List Token → Option A → Option (A × List Token)
with_rest ts None = None
with_rest ts (Some x) = Some (x, ts)

-- the value of the NUMBER that the first token is, and the tokens after it
abbrev pub number_at : List Token → Option (ℕ × List Token)
number_at [] = None
number_at (t ∷ ts) = with_rest ts (number_of t.text)

-- the type that the first token names, and the tokens after it
abbrev pub type_at : List Token → Option (CType × List Token)
type_at [] = None
type_at (t ∷ ts) = with_rest ts (type_of t.text)

-- the operation that the first token is, and the tokens after it
abbrev pub op_at : List Token → Option (COp × List Token)
op_at [] = None
op_at (t ∷ ts) = with_rest ts (op_of t.text)

-- the NAME that the first token is, and the tokens after it
abbrev pub name_at : List Token → Option (List ℕ × List Token)
name_at [] = None
name_at (t ∷ ts) = if is_c_name t.text then Some (t.text, ts) else None

-- ---- expressions

-- how expressions are read: from tokens to the expression that they begin with, and the tokens after it
abbrev pub ReadExpr : Type 0
ReadExpr = List Token → Option (Expr × List Token)

-- the `( TYPE )` of a cast
abbrev pub cast_at : List Token → Option (CType × List Token)
cast_at ts = go_on (eat (codes "(") ts) (λ us. go_on (type_at us) (λ t. go_on (eat (codes ")") t.1) (λ r. Some (t.0, r))))

-- an expression, and what is after the token of this text that follows it
abbrev pub closed : List ℕ → ReadExpr → ReadExpr
closed text go ts = go_on (go ts) (λ e. go_on (eat text e.1) (λ r. Some (e.0, r)))

-- a negation after its `( -`
abbrev pub minus_rest : ReadExpr → ReadExpr
minus_rest go ts = go_on (closed (codes ")") go ts) (λ a. Some (Minus a.0, a.1))

-- an expression of two operands after its first parenthesis
abbrev pub two_rest : ReadExpr → ReadExpr
two_rest go ts = go_on (go ts)
    (λ a. go_on (op_at a.1) (λ o. go_on (closed (codes ")") go o.1) (λ b. Some (Two o.0 a.0 b.0, b.1))))

-- `v[N]` or `x[N]`
abbrev pub place_of : CType → List ℕ → ℕ → Option Expr
place_of t x n = if bytes_eq x (codes "v") then Some (Value t n) else if bytes_eq x (codes "x") then Some (Index t n) else None

-- `v[N]` or `x[N]`, cast to this type, after its name and its `[`
abbrev pub place_rest : CType → List ℕ → ReadExpr
place_rest t x ts = go_on (number_at ts) (λ n. go_on (eat (codes "]") n.1) (λ r. with_rest r (place_of t x n.0)))

-- a call of the function with this name, cast to this type, after its `(`
abbrev pub call_rest : CType → List ℕ → ReadExpr
call_rest t x ts = go_on (eat (codes "v") ts) (λ us. go_on (eat (codes ")") us) (λ r. Some (Call t x, r)))

-- what begins with this name, cast to this type: `v[N]` or `x[N]`, a call, or the name alone
abbrev pub named : CType → List ℕ → ReadExpr
named t x ts = choose (eat (codes "[") ts) (place_rest t x) (choose (eat (codes "(") ts) (call_rest t x) (Some (Name t x, ts)))

-- what is cast to this type: a NUMBER, what begins with a NAME, or an expression
abbrev pub primary : ReadExpr → CType → ReadExpr
primary go t ts =
    choose (number_at ts) (λ n. Some (Number t n.0, n.1))
    (choose (name_at ts) (λ x. named t x.0 x.1)
    (go_on (go ts) (λ e. Some (Inner t e.0, e.1))))

-- a cast after its type; the parentheses of the type need one of the remaining levels
abbrev pub cast_rest : ℕ → ReadExpr → CType → ReadExpr
cast_rest zero go t ts = None
cast_rest (suc d) go t ts = go_on (primary go t ts) (λ e. go_on (eat (codes ")") e.1) (λ r. Some (e.0, r)))

-- an expression after its first parenthesis
abbrev pub inside : ℕ → ReadExpr → ReadExpr
inside d go ts = choose (eat (codes "-") ts) (minus_rest go) (choose (cast_at ts) (λ t. cast_rest d go t.0 t.1) (two_rest go ts))

-- an expression with at most this many parentheses round a place
abbrev pub expr_at : ℕ → ReadExpr
expr_at zero ts = None
expr_at (suc d) ts = go_on (eat (codes "(") ts) (inside d (expr_at d))

-- ---- statements

-- a statement, as what it makes of the statements after it
abbrev pub ReadStmt : Type 0
ReadStmt = List Token → Option ((Body → Body) × List Token)

-- the statements in a pair of braces, the line of the second, and what is after it
abbrev pub ReadBlock : Type 0
ReadBlock = List Token → Option (Body × ℕ × List Token)

-- the line of the first token; 0 where there is none
abbrev pub line_at : List Token → ℕ
line_at [] = 0
line_at (t ∷ ts) = t.line

-- a declaration on this line, after its type
abbrev pub decl_rest : ReadExpr → ℕ → CType → ReadStmt
decl_rest go l t ts = go_on (name_at ts)
    (λ x. go_on (eat (codes "=") x.1) (λ us. go_on (closed (codes ";") go us) (λ e. Some (Decl l t x.0 e.0, e.1))))

-- an `if` on this line, after that word
abbrev pub if_rest : ReadExpr → ReadBlock → ℕ → ReadStmt
if_rest go block l ts = go_on (eat (codes "(") ts)
    (λ us. go_on (closed (codes ")") go us) (λ e. go_on (block e.1) (λ b. Some (If l e.0 b.0, b.2))))

-- a `return` on this line, after that word
abbrev pub return_rest : ReadExpr → ℕ → ReadStmt
return_rest go l ts = go_on (closed (codes ";") go ts) (λ e. Some (Return l e.0, e.1))

-- statements in braces that begin on this line
abbrev pub group_rest : ReadBlock → ℕ → ReadStmt
group_rest block l ts = go_on (block ts) (λ b. Some (Group l b.0, b.2))

-- a statement; at most o parentheses round a place, and i within those of an if
abbrev pub stmt_at : ℕ → ℕ → ReadBlock → ReadStmt
stmt_at o i block ts =
    choose (type_at ts) (λ t. decl_rest (expr_at o) (line_at ts) t.0 t.1)
    (choose (eat (codes "if") ts) (if_rest (expr_at i) block (line_at ts))
    (choose (eat (codes "return") ts) (return_rest (expr_at o) (line_at ts))
    (group_rest block (line_at ts) ts)))

-- statements up to a closing brace, fewer than n of them
abbrev pub stmts_at : ReadStmt → ℕ → List Token → Option (Body × List Token)
stmts_at stmt zero ts = None
stmts_at stmt (suc n) ts = choose (eat (codes "}") ts) (λ r. Some (End, ts))
    (go_on (stmt ts) (λ s. go_on (stmts_at stmt n s.1) (λ b. Some (s.0 b.0, b.1))))

-- a pair of braces, with at most this many round a place
abbrev pub block_at : ℕ → ℕ → ℕ → ReadBlock
block_at o i zero ts = None
block_at o i (suc b) ts =
    go_on (eat (codes "{") ts) (λ us.
    go_on (stmts_at (stmt_at o i (block_at o i b)) (suc (length us)) us) (λ x.
    go_on (eat (codes "}") x.1) (λ r. Some (x.0, line_at x.1, r))))

-- ---- functions

-- the tokens after `const int64_t *`
abbrev pub pointer_at : List Token → Option (List Token)
pointer_at ts = go_on (eat (codes "const") ts) (λ us. go_on (eat (codes "int64_t") us) (λ ws. eat (codes "*") ws))

-- the parameters x and v, after the `const int64_t *` of x
abbrev pub both_rest : List Token → Option (Bool × List Token)
both_rest ts = go_on (eat (codes "x") ts)
    (λ us. go_on (eat (codes ",") us) (λ ws. go_on (pointer_at ws) (λ vs. go_on (eat (codes "v") vs) (λ r. Some (true, r)))))

-- the parameters of a function: whether x is one of them, and the tokens after them
abbrev pub parameters_at : List Token → Option (Bool × List Token)
parameters_at ts = go_on (pointer_at ts) (λ us. choose (eat (codes "v") us) (λ r. Some (false, r)) (both_rest us))

-- the words before a body: the name, and whether there is the parameter x
abbrev pub words_at : List Token → Option (List ℕ × Bool × List Token)
words_at ts =
    go_on (eat (codes "int") ts) (λ us.
    go_on (name_at us) (λ x.
    go_on (eat (codes "(") x.1) (λ ws.
    go_on (parameters_at ws) (λ i.
    go_on (eat (codes ")") i.1) (λ r. Some (x.0, i.0, r))))))

-- a function from its `int` on, which is static or not
abbrev pub head_at : ReadBlock → Bool → List Token → Option (Fun × List Token)
head_at block own ts = go_on (words_at ts)
    (λ h. go_on (block h.2) (λ b. Some (record { own = own; name = h.0; indexed = h.1; body = b.0; end = b.1 }, b.2)))

-- a function, static where it begins with that word
abbrev pub fun_at : ReadBlock → List Token → Option (Fun × List Token)
fun_at block ts = choose (eat (codes "static") ts) (head_at block true) (head_at block false ts)

-- functions up to the end, fewer than n of them
abbrev pub funs_at : ReadBlock → ℕ → List Token → Option (List Fun)
funs_at block zero ts = None
funs_at block (suc n) [] = Some []
funs_at block (suc n) (t ∷ ts) = go_on (fun_at block (t ∷ ts)) (λ f. go_on (funs_at block n f.1) (λ fs. Some (f.0 ∷ fs)))
