-- Defines the tokens that are written for a file, each before a rest, and their text: one blank after each.
use Rattle.std.specs.Prelude.{ℕ, Bool, true, false, List, [], ◌∷◌, ◌++◌, codes, decimal}
use Rattle.std.specs.Prelude.{◌==◌, if◌then◌else◌, Option, Some, None, bytes_eq}
use Rattle.ln_base.specs.Lines.{Appends, Leaves}
use Rattle.ln_csyn.specs.declared.tree.CType.{CType}
use Rattle.ln_csyn.specs.declared.tree.CType.TheVariants.{Int, Int64, Int128}
use Rattle.ln_csyn.specs.declared.tree.COp.{COp}
use Rattle.ln_csyn.specs.declared.tree.COp.TheVariants as op
use Rattle.ln_csyn.specs.Tree.{Expr, Number, Name, Value, Index, Call, Inner, Minus, Two, Body, End, Decl, Group, If, Return, Fun}
use Rattle.ln_csyn.specs.Grammar.{Token}
use Rattle.ln_csyn.specs.Text.{first_line}

-- the text of a type, as C writes it
abbrev pub type_text : CType → List ℕ
type_text Int = codes "int"
type_text Int64 = codes "int64_t"
type_text Int128 = codes "__int128"

-- the text of an operation, as C writes it
abbrev pub op_text : COp → List ℕ
op_text op.Add = codes "+"
op_text op.Sub = codes "-"
op_text op.Mul = codes "*"
op_text op.Div = codes "/"
op_text op.Less = codes "<"
op_text op.More = codes ">"
op_text op.Same = codes "=="
op_text op.Differ = codes "!="

-- the one of these operations that has this text
abbrev pub op_among : List ℕ → List COp → Option COp
op_among text [] = None
op_among text (o ∷ os) = if bytes_eq text (op_text o) then Some o else op_among text os

-- a token of the one line that is written
abbrev pub lexeme : List ℕ → Token
lexeme text = record { text = text; line = 2 }

-- the tokens of a text that parts them by blanks, where some of the first one was read already
abbrev pub tokens_in : List ℕ → List ℕ → List Token → List Token
tokens_in w [] r = lexeme w ∷ r
tokens_in w (c ∷ cs) r = if c == 32 then lexeme w ∷ tokens_in [] cs r else tokens_in (w ++ c ∷ []) cs r

-- the beginning of a cast to this type, `( ( TYPE )`, before a rest
abbrev pub cast_before : CType → List Token → List Token
cast_before t r = lexeme (codes "(") ∷ lexeme (codes "(") ∷ lexeme (type_text t) ∷ lexeme (codes ")") ∷ r

-- `v[N]` or `x[N]`, and the end of the cast
abbrev pub place_before : List ℕ → ℕ → List Token → List Token
place_before x n r = lexeme x ∷ lexeme (codes "[") ∷ lexeme (decimal n) ∷ lexeme (codes "]") ∷ lexeme (codes ")") ∷ r

-- the tokens of an expression, before a rest
abbrev pub spell : Expr → List Token → List Token
spell (Number t n) r = cast_before t (lexeme (decimal n) ∷ lexeme (codes ")") ∷ r)
spell (Name t x) r = cast_before t (lexeme x ∷ lexeme (codes ")") ∷ r)
spell (Value t n) r = cast_before t (place_before (codes "v") n r)
spell (Index t n) r = cast_before t (place_before (codes "x") n r)
spell (Call t x) r = cast_before t (lexeme x ∷ lexeme (codes "(") ∷ lexeme (codes "v") ∷ lexeme (codes ")") ∷ lexeme (codes ")") ∷ r)
spell (Inner t e) r = cast_before t (spell e (lexeme (codes ")") ∷ r))
spell (Minus e) r = lexeme (codes "(") ∷ lexeme (codes "-") ∷ spell e (lexeme (codes ")") ∷ r)
spell (Two o a b) r = lexeme (codes "(") ∷ spell a (lexeme (op_text o) ∷ spell b (lexeme (codes ")") ∷ r))

-- the tokens of a body without its own braces, before a rest
abbrev pub spell_body : Body → List Token → List Token
spell_body End r = r
spell_body (Decl l t x e b) r = lexeme (type_text t) ∷ lexeme x ∷ lexeme (codes "=") ∷ spell e (lexeme (codes ";") ∷ spell_body b r)
spell_body (Group l a b) r = lexeme (codes "{") ∷ spell_body a (lexeme (codes "}") ∷ spell_body b r)
spell_body (If l e a b) r =
    lexeme (codes "if") ∷ lexeme (codes "(")
    ∷ spell e (lexeme (codes ")") ∷ lexeme (codes "{") ∷ spell_body a (lexeme (codes "}") ∷ spell_body b r))
spell_body (Return l e b) r = lexeme (codes "return") ∷ spell e (lexeme (codes ";") ∷ spell_body b r)

-- the parameter of this name, `const int64_t * NAME`, before a rest
abbrev pub spell_pointer : List ℕ → List Token → List Token
spell_pointer x r = lexeme (codes "const") ∷ lexeme (codes "int64_t") ∷ lexeme (codes "*") ∷ lexeme x ∷ r

-- the parameters of a function, x and v or v alone, before a rest
abbrev pub spell_parameters : Bool → List Token → List Token
spell_parameters false r = spell_pointer (codes "v") r
spell_parameters true r = spell_pointer (codes "x") (lexeme (codes ",") ∷ spell_pointer (codes "v") r)

-- the word `static` where the function is static, before a rest
abbrev pub spell_own : Bool → List Token → List Token
spell_own false r = r
spell_own true r = lexeme (codes "static") ∷ r

-- the tokens of a function, before a rest
abbrev pub spell_fun : Fun → List Token → List Token
spell_fun f r =
    spell_own f.own (lexeme (codes "int") ∷ lexeme f.name ∷ lexeme (codes "(")
    ∷ spell_parameters f.indexed (lexeme (codes ")") ∷ lexeme (codes "{") ∷ spell_body f.body (lexeme (codes "}") ∷ r)))

-- the tokens of all functions of a file, in order
abbrev pub spell_file : List Fun → List Token
spell_file [] = []
spell_file (f ∷ fs) = spell_fun f (spell_file fs)

-- each token, and a blank after it; a line feed at the end
abbrev pub written : List Token → List ℕ
written [] = 10 ∷ []
written (t ∷ ts) = t.text ++ 32 ∷ written ts

-- the text of a file: its first line, and the tokens of its functions on one more
abbrev pub text_of : List Fun → List ℕ
text_of fs = first_line ++ written (spell_file fs)

-- the same with all lines at 2
abbrev pub flat : Body → Body
flat End = End
flat (Decl l t x e b) = Decl 2 t x e (flat b)
flat (Group l a b) = Group 2 (flat a) (flat b)
flat (If l e a b) = If 2 e (flat a) (flat b)
flat (Return l e b) = Return 2 e (flat b)

-- the function with all lines at 2
abbrev pub flat_fun : Fun → Fun
flat_fun f = record { own = f.own; name = f.name; indexed = f.indexed; body = flat f.body; end = 2 }

-- the functions of a file with all lines at 2
abbrev pub flat_file : List Fun → List Fun
flat_file [] = []
flat_file (f ∷ fs) = flat_fun f ∷ flat_file fs

-- these tokens were appended
abbrev pub PutsTokens : List ℕ → List ℕ → (List Token → List Token) → Type 0
PutsTokens old new f = Appends written old new f

-- where g of a rest was to be appended, f of it still is
abbrev pub Goes : List ℕ → List ℕ → (List Token → List Token) → (List Token → List Token) → Type 0
Goes old new f g = Leaves written old new f g
