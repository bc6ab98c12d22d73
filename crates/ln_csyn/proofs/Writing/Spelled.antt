-- Proves that what is spelled before a rest is what is spelled alone, and then the rest.
use Rattle.std.proofs.Common.{◌≡◌, Bool, true, false, List, ◌∷◌, ◌++◌, refl, ap, ◌∙◌}
use Rattle.std.specs.Prelude.{codes}
use Rattle.ln_csyn.specs.Tree.{Expr, Number, Name, Value, Index, Call, Inner, Minus, Two, Body, End, Decl, Group, If, Return, Fun}
use Rattle.ln_csyn.specs.Grammar.{Token}
use Rattle.ln_csyn.specs.Spelling.{op_text, lexeme, spell, spell_body, spell_parameters, spell_own, spell_fun}

spelled : (e : Expr) (r s : List Token) → spell e (r ++ s) ≡ spell e r ++ s
spelled (Number t n) r s = refl
spelled (Name t x) r s = refl
spelled (Value t n) r s = refl
spelled (Index t n) r s = refl
spelled (Call t x) r s = refl
spelled (Inner t e) r s = rw (spelled e (lexeme (codes ")") ∷ r) s) refl
spelled (Minus e) r s = rw (spelled e (lexeme (codes ")") ∷ r) s) refl
spelled (Two o a b) r s =
    rw (spelled b (lexeme (codes ")") ∷ r) s, spelled a (lexeme (op_text o) ∷ spell b (lexeme (codes ")") ∷ r)) s) refl

spelled_body : (b : Body) (r s : List Token) → spell_body b (r ++ s) ≡ spell_body b r ++ s
spelled_body End r s = refl
spelled_body (Decl l t x e b) r s = rw (spelled_body b r s, spelled e (lexeme (codes ";") ∷ spell_body b r) s) refl
spelled_body (Group l a b) r s = rw (spelled_body b r s, spelled_body a (lexeme (codes "}") ∷ spell_body b r) s) refl
spelled_body (If l e a b) r s =
    rw (
      spelled_body b r s,
      spelled_body a (lexeme (codes "}") ∷ spell_body b r) s,
      spelled e (lexeme (codes ")") ∷ lexeme (codes "{") ∷ spell_body a (lexeme (codes "}") ∷ spell_body b r)) s,
    ) refl
spelled_body (Return l e b) r s = rw (spelled_body b r s, spelled e (lexeme (codes ";") ∷ spell_body b r) s) refl

spelled_parameters : (i : Bool) (r s : List Token) → spell_parameters i (r ++ s) ≡ spell_parameters i r ++ s
spelled_parameters true r s = refl
spelled_parameters false r s = refl

spelled_own : (o : Bool) (r s : List Token) → spell_own o (r ++ s) ≡ spell_own o r ++ s
spelled_own true r s = refl
spelled_own false r s = refl

-- the tokens of a function before two lists are those before the first list, and then the second
pub spelled_fun : (f : Fun) (r s : List Token) → spell_fun f (r ++ s) ≡ spell_fun f r ++ s
spelled_fun f r s =
    let b = ap (λ (z : List Token). lexeme (codes ")") ∷ lexeme (codes "{") ∷ z) (spelled_body f.body (lexeme (codes "}") ∷ r) s) in
    let own_rest : List Token = lexeme (codes ")") ∷ lexeme (codes "{") ∷ spell_body f.body (lexeme (codes "}") ∷ r) in
    let p = ap (λ (z : List Token). lexeme (codes "int") ∷ lexeme f.name ∷ lexeme (codes "(") ∷ z)
    (ap (spell_parameters f.indexed) b ∙ spelled_parameters f.indexed own_rest s) in
    ap (spell_own f.own) p ∙ spelled_own f.own (lexeme (codes "int") ∷ lexeme f.name ∷ lexeme (codes "(") ∷ spell_parameters f.indexed own_rest) s
