-- Texts of several tokens, and a number in parts, appended part by part.
use Rattle.std.proofs.Common.{◌≡◌, ℕ, suc, ◌/◌, ◌%◌, ◌^◌, List, [], ◌∷◌, false, sym, subst, arith}
use Rattle.std.specs.Prelude.{Some, codes, decimal}
use Rattle.std.proofs.lemmas.Fmt.{decimal_digit}
use Rattle.ln_csyn.specs.declared.tree.CType.TheVariants.{Int, Int128}
use Rattle.ln_csyn.specs.declared.tree.COp.TheVariants as op
use Rattle.ln_csyn.specs.Tree.{End, Number}
use Rattle.ln_csyn.specs.Grammar.{Token}
use Rattle.ln_csyn.specs.Spelling.{PutsTokens, cast_before, lexeme, op_text, spell, spell_body, tokens_in}
use Rattle.ln_cemit.specs.Emit.{in_parts, naming, touching, touching_index}
use Rattle.ln_cemit.specs.Names.{answer_name, decl_name}
use Rattle.ln_cemit.specs.Walked.{attempt, says_nothing}

-- a number in one part more: its quotient by 2^31 in the others, times 2^31, and the remainder
pub parts_step : {a b : List ℕ} (k n j m r : ℕ) → k ≡ suc j → m ≡ n / 2 ^ 31 → r ≡ n % 2 ^ 31
    → PutsTokens a b (λ z. lexeme (codes "(") ∷ lexeme (codes "(") ∷ spell (in_parts j m) (lexeme (op_text op.Mul)
    ∷ spell (Number Int128 (2 ^ 31)) (lexeme (codes ")") ∷ lexeme (op_text op.Add) ∷ spell (Number Int128 r) (lexeme (codes ")") ∷ z))))
    → PutsTokens a b (spell (in_parts k n))
parts_step k n j m r e f g p = rw (e, ← f, ← g) p

-- ---- texts with the constant 0
zero_is : decimal 0 ≡ codes "0"
zero_is = decimal_digit 0 (omega arith)

-- a test that never holds, and what is returned there
abbrev pub never : List ℕ → List Token → List Token
never z r = lexeme (codes "if") ∷ lexeme (codes "(")
    ∷ cast_before Int (lexeme z ∷ lexeme (codes ")") ∷ lexeme (codes ")") ∷ lexeme (codes "{") ∷ lexeme (codes "return") ∷ r)

abbrev place : List ℕ → List ℕ → List Token → List Token
place x z r = cast_before Int (lexeme x ∷ lexeme (codes "[") ∷ lexeme z ∷ lexeme (codes "]") ∷ lexeme (codes ")") ∷ lexeme (codes ";") ∷ lexeme (codes "}") ∷ r)

-- the text of the statement that names the parameter is that statement
pub touch_put : {a b : List ℕ} → PutsTokens a b (tokens_in [] (codes "if ( ( ( int ) 0 ) ) { return ( ( int ) v [ 0 ] ) ; }"))
    → PutsTokens a b (spell_body (touching false End))
touch_put {a} {b} p = subst (λ z. PutsTokens a b (λ r. never z (place (codes "v") z r))) (sym zero_is) p

-- the text of the statement that names the indices is that statement
pub touch_index_put : {a b : List ℕ} → PutsTokens a b (tokens_in [] (codes "if ( ( ( int ) 0 ) ) { return ( ( int ) x [ 0 ] ) ; }"))
    → PutsTokens a b (spell_body (touching_index false End))
touch_index_put {a} {b} p = subst (λ z. PutsTokens a b (λ r. never z (place (codes "x") z r))) (sym zero_is) p

-- the tokens of the statement that names a declaration are that statement
pub name_put : {a b : List ℕ} (n : ℕ)
    → PutsTokens a b (λ r. never (codes "0") (cast_before Int (lexeme (decl_name n) ∷ lexeme (codes ")") ∷ lexeme (codes ";") ∷ lexeme (codes "}") ∷ r)))
    → PutsTokens a b (spell_body (naming decl_name (Some n) End))
name_put {a} {b} n p =
    subst (λ z. PutsTokens a b (λ r. never z (cast_before Int (lexeme (decl_name n) ∷ lexeme (codes ")") ∷ lexeme (codes ";") ∷ lexeme (codes "}") ∷ r))))
    (sym zero_is) p

-- the text of the return of 0 is that statement
pub nothing_put : {a b : List ℕ} → PutsTokens a b (tokens_in [] (codes "return ( ( int ) 0 ) ;")) → PutsTokens a b (spell_body says_nothing)
nothing_put {a} {b} p =
    subst (λ z. PutsTokens a b (λ r. lexeme (codes "return") ∷ cast_before Int (lexeme z ∷ lexeme (codes ")") ∷ lexeme (codes ";") ∷ r))) (sym zero_is) p

-- the call of a function, and the return of its result where that isn't z
abbrev pub attempted : List ℕ → List ℕ → List Token → List Token
attempted x z r =
    lexeme (codes "int") ∷ lexeme answer_name ∷ lexeme (codes "=")
    ∷ cast_before Int (lexeme x ∷ lexeme (codes "(") ∷ lexeme (codes "v") ∷ lexeme (codes ")") ∷ lexeme (codes ")") ∷ lexeme (codes ";")
    ∷ lexeme (codes "if") ∷ lexeme (codes "(") ∷ lexeme (codes "(") ∷ cast_before Int (lexeme answer_name ∷ lexeme (codes ")") ∷ lexeme (codes "!=")
    ∷ cast_before Int (lexeme z ∷ lexeme (codes ")") ∷ lexeme (codes ")") ∷ lexeme (codes ")") ∷ lexeme (codes "{") ∷ lexeme (codes "return")
    ∷ cast_before Int (lexeme answer_name ∷ lexeme (codes ")") ∷ lexeme (codes ";") ∷ lexeme (codes "}") ∷ r))))

-- the tokens of a call and the return of its result, where that isn't 0, are those statements
pub attempt_put : {a b : List ℕ} (x : List ℕ) → PutsTokens a b (attempted x (codes "0")) → PutsTokens a b (spell_body (attempt answer_name x))
attempt_put {a} {b} x p = subst (λ z. PutsTokens a b (attempted x z)) (sym zero_is) p
