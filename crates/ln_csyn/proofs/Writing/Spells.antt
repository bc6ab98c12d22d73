-- Proves that what is written is the file, up to lines.
use Rattle.std.proofs.Common.{◌≡◌, ℕ, ◌<◌, ◌^◌, ◌==◌, ◌&&◌, nat_le, Bool, true, false, List, [], ◌∷◌, length, Some, refl, arith}
use Rattle.std.specs.Prelude.{codes, decimal}
use Rattle.std.specs.List.{list_all}
use Rattle.std.specs.Char.{is_ascii_digit}
use Rattle.std.proofs.lemmas.Bool.{leb-true, eqb-true}
use Rattle.std.proofs.lemmas.Bool.Decides.{nat_tests}
use Rattle.ln_base.specs.Words.{is_digit, every}
use Rattle.ln_base.specs.Decimal.{IsPlain, is_digits}
use Rattle.ln_base.proofs.DecimalLemmas.{value_of_text, text_is_plain, text_is_digits}
use Rattle.ln_csyn.specs.declared.tree.CType.{CType}
use Rattle.ln_csyn.specs.declared.tree.CType.TheVariants.{Int, Int64, Int128}
use Rattle.ln_csyn.specs.declared.tree.COp.{COp}
use Rattle.ln_csyn.specs.declared.tree.COp.TheVariants as op
use Rattle.ln_csyn.specs.Tree.{Expr, Number, Name, Value, Index, Call, Inner, Minus, Two, Body, End, Decl, Group, If, Return, Fun}
use Rattle.ln_csyn.specs.Words.{is_c_name, is_numeral, number_of, most_number, type_of, op_of}
use Rattle.ln_csyn.specs.Grammar.{Token, Whole, Derives, two, minus, cast, number, name, value, index, call, inner, IsBody, end, decl}
use Rattle.ln_csyn.specs.Grammar.{group, when, return, pointer, IsParameters, one, both, IsHead, head, IsFun, own, shared, IsFile}
use Rattle.ln_csyn.specs.Grammar as g
use Rattle.ln_csyn.specs.Keeps.{each_expr, each_name, each_fun}
use Rattle.ln_csyn.specs.Text.{has_words, fun_words}
use Rattle.ln_csyn.specs.Spelling.{type_text, op_text, lexeme, spell, spell_body, spell_parameters, spell_fun, spell_file, flat, flat_fun, flat_file}

-- the first of two
pub left : (a b : Bool) → (a && b) ≡ true → a ≡ true
left true b h = refl
left false b h = h

-- the second
pub right : (a b : Bool) → (a && b) ≡ true → b ≡ true
right true b h = h
right false b h = absurd (cc)

type_back : (t : CType) → type_of (type_text t) ≡ Some t
type_back Int = refl
type_back Int64 = refl
type_back Int128 = refl

op_back : (o : COp) → op_of (op_text o) ≡ Some o
op_back op.Add = refl
op_back op.Sub = refl
op_back op.Mul = refl
op_back op.Div = refl
op_back op.Less = refl
op_back op.More = refl
op_back op.Same = refl
op_back op.Differ = refl

-- digits by the library's test are digits of the subset
pub digits_every : (ds : List ℕ) → list_all is_ascii_digit ds ≡ true → every is_digit ds ≡ true
digits_every [] h = refl
digits_every (d ∷ ds) h =
    let a : is_ascii_digit d ≡ true = left (is_ascii_digit d) (list_all is_ascii_digit ds) h in
    let b : is_digit d ≡ true = grind (arith, nat_tests) in
    rw (b, digits_every ds (right (is_ascii_digit d) (list_all is_ascii_digit ds) h)) refl

not_zero : (d e : ℕ) (ds : List ℕ) (v : Bool) → (d == 48) ≡ v → (d ≡ 48 → length (d ∷ e ∷ ds) ≡ 1) → v ≡ false
not_zero d e ds false q h = refl
not_zero d e ds true q h = let z = h (eqb-true d 48 q) in absurd (omega (arith, z))

numeral_by : (ds : List ℕ) → every is_digit ds ≡ true → 0 < length ds → IsPlain ds → is_numeral ds ≡ true
numeral_by [] v l h = absurd (omega arith)
numeral_by (d ∷ []) v l h = left (is_digit d) true v
numeral_by (d ∷ e ∷ ds) v l h =
    let z : (d == 48) ≡ false = not_zero d e ds (d == 48) refl h.1 in
    rw (left (is_digit d) (every is_digit (e ∷ ds)) v, z, right (is_digit d) (every is_digit (e ∷ ds)) v) refl

some_digits : (ds : List ℕ) → is_digits ds ≡ true → 0 < length ds
some_digits [] h = absurd (cc)
some_digits (d ∷ ds) h = omega arith

-- a NUMBER that is written is read
pub number_back : (n : ℕ) → nat_le n most_number ≡ true → n < 10 ^ 64 → number_of (decimal n) ≡ Some n
number_back n h small =
    let d = text_is_digits n small in
    let e = digits_every (decimal n) (left (list_all is_ascii_digit (decimal n)) _ d) in
    rw (numeral_by (decimal n) e (some_digits (decimal n) d) (text_is_plain n small), value_of_text n small, h) refl

small_number : (n : ℕ) → nat_le n most_number ≡ true → n < 10 ^ 64
small_number n h = let l = leb-true n most_number h in omega (arith, l)

-- the same of each that fits
pub number_is_read : (n : ℕ) → nat_le n most_number ≡ true → number_of (decimal n) ≡ Some n
number_is_read n h = number_back n h (small_number n h)

-- what is spelled for an expression is it
pub derives : (e : Expr) (r : List Token) → has_words e ≡ true → Derives Whole (spell e r) r e
derives (Number t n) r h = cast refl refl (type_back t) refl (number (number_is_read n h)) refl
derives (Name t x) r h = cast refl refl (type_back t) refl (name h) refl
derives (Value t n) r h = cast refl refl (type_back t) refl (value refl refl (number_is_read n h) refl) refl
derives (Index t n) r h = cast refl refl (type_back t) refl (index refl refl (number_is_read n h) refl) refl
derives (Call t x) r h = cast refl refl (type_back t) refl (call h refl refl refl) refl
derives (Inner t e) r h = cast refl refl (type_back t) refl (inner (derives e (lexeme (codes ")") ∷ r) h)) refl
derives (Minus e) r h = minus refl refl (derives e (lexeme (codes ")") ∷ r) h) refl
derives (Two o a b) r h =
    two refl (derives a (lexeme (op_text o) ∷ spell b (lexeme (codes ")") ∷ r)) (left (has_words a) (has_words b) h)) (op_back o)
    (derives b (lexeme (codes ")") ∷ r) (right (has_words a) (has_words b) h)) refl

-- the words of an if
pub mid : (a b c : Bool) → (a && b && c) ≡ true → (a ≡ true) × (b ≡ true) × (c ≡ true)
mid true true true h = (refl, refl, refl)
mid true true false h = absurd (cc)
mid true false c h = absurd (cc)
mid false b c h = absurd (cc)

-- what is spelled for statements is them, with all lines at 2
pub derives_body : (b : Body) (q : Token) (r : List Token) → q.text ≡ codes "}" → each_expr has_words b ≡ true
    → each_name is_c_name b ≡ true → IsBody (spell_body b (q ∷ r)) (q ∷ r) (flat b)
derives_body End q r h w n = end h
derives_body (Decl l t x e b) q r h w n =
    decl (type_back t) (left (is_c_name x) (each_name is_c_name b) n) refl
    (derives e (lexeme (codes ";") ∷ spell_body b (q ∷ r)) (left (has_words e) (each_expr has_words b) w)) refl
    (derives_body b q r h (right (has_words e) (each_expr has_words b) w) (right (is_c_name x) (each_name is_c_name b) n))
derives_body (Group l a b) q r h w n =
    group refl (derives_body a (lexeme (codes "}")) (spell_body b (q ∷ r)) refl (left (each_expr has_words a) (each_expr has_words b) w)
    (left (each_name is_c_name a) (each_name is_c_name b) n))
    (derives_body b q r h (right (each_expr has_words a) (each_expr has_words b) w) (right (each_name is_c_name a) (each_name is_c_name b) n))
derives_body (If l e a b) q r h w n =
    let m = mid (has_words e) (each_expr has_words a) (each_expr has_words b) w in
    when refl refl (derives e (lexeme (codes ")") ∷ lexeme (codes "{") ∷ spell_body a (lexeme (codes "}") ∷ spell_body b (q ∷ r))) m.0) refl refl
    (derives_body a (lexeme (codes "}")) (spell_body b (q ∷ r)) refl m.1 (left (each_name is_c_name a) (each_name is_c_name b) n))
    (derives_body b q r h m.2 (right (each_name is_c_name a) (each_name is_c_name b) n))
derives_body (Return l e b) q r h w n =
    return refl (derives e (lexeme (codes ";") ∷ spell_body b (q ∷ r)) (left (has_words e) (each_expr has_words b) w)) refl
    (derives_body b q r h (right (has_words e) (each_expr has_words b) w) n)

derives_parameters : (i : Bool) (r : List Token) → IsParameters (spell_parameters i r) r i
derives_parameters false r = one (pointer refl refl refl) refl
derives_parameters true r = both (pointer refl refl refl) refl refl (pointer refl refl refl) refl

derives_head : (o : Bool) (f : Fun) (r : List Token) → fun_words f ≡ true
    → IsHead (lexeme (codes "int") ∷ lexeme f.name ∷ lexeme (codes "(") ∷ spell_parameters f.indexed (lexeme (codes ")") ∷ lexeme (codes "{")
    ∷ spell_body f.body (lexeme (codes "}") ∷ r))) r o (record { own = o; name = f.name; indexed = f.indexed; body = flat f.body; end = 2 })
derives_head o f r h =
    let w = right (is_c_name f.name) (each_expr has_words f.body && each_name is_c_name f.body) h in
    head refl (left (is_c_name f.name) (each_expr has_words f.body && each_name is_c_name f.body) h) refl
    (derives_parameters f.indexed (lexeme (codes ")") ∷ lexeme (codes "{") ∷ spell_body f.body (lexeme (codes "}") ∷ r))) refl refl
    (derives_body f.body (lexeme (codes "}")) r refl (left (each_expr has_words f.body) (each_name is_c_name f.body) w)
    (right (each_expr has_words f.body) (each_name is_c_name f.body) w))

derives_own : (v : Bool) (f : Fun) (r : List Token) → f.own ≡ v → fun_words f ≡ true → IsFun (spell_fun f r) r (flat_fun f)
derives_own true f r e h = rw e (own refl (derives_head true f r h))
derives_own false f r e h = rw e (shared (derives_head false f r h))

-- what is spelled for a file is it, with all lines at 2
pub derives_file : (fs : List Fun) → each_fun fun_words fs ≡ true → IsFile (spell_file fs) (flat_file fs)
derives_file [] h = g.none
derives_file (f ∷ fs) h = g.one (derives_own f.own f (spell_file fs) refl (left (fun_words f) (each_fun fun_words fs) h))
    (derives_file fs (right (fun_words f) (each_fun fun_words fs) h))
