-- Each token of a file has a text.
use Rattle.std.proofs.Common.{◌≡◌, Bool, true, false, ◌&&◌, ℕ, List, [], ◌∷◌, Some, refl}
use Rattle.std.specs.Prelude.{bytes_eq, codes}
use Rattle.ln_csyn.specs.declared.tree.CType.{CType}
use Rattle.ln_csyn.specs.declared.tree.COp.{COp}
use Rattle.ln_csyn.specs.Tree.{Expr, Body, Fun}
use Rattle.ln_csyn.specs.Words.{is_c_name, number_of, type_of, op_of}
use Rattle.ln_csyn.specs.Grammar.{Token, Sort, Derives, IsBody, IsPointer, IsParameters, IsHead, IsFun, IsFile}
use Rattle.ln_csyn.specs.Grammar as g
use Rattle.ln_csyn.proofs.Lexing.Scanned.{have_texts}
use Rattle.ln_csyn.proofs.Reading.CompleteFile.{closing}

type_text : (text : List ℕ) (t : CType) → type_of text ≡ Some t → bytes_eq text [] ≡ false
type_text [] t h = absurd (cc)
type_text (b ∷ bs) t h = refl

op_text : (text : List ℕ) (o : COp) → op_of text ≡ Some o → bytes_eq text [] ≡ false
op_text [] o h = absurd (cc)
op_text (b ∷ bs) o h = refl

number_text : (text : List ℕ) (n : ℕ) → number_of text ≡ Some n → bytes_eq text [] ≡ false
number_text [] n h = absurd (cc)
number_text (b ∷ bs) n h = refl

name_text : (text : List ℕ) → is_c_name text ≡ true → bytes_eq text [] ≡ false
name_text [] h = absurd (cc)
name_text (b ∷ bs) h = refl

-- statements end at a brace
brace_text : {ts us : List Token} {q : Token} {b : Body} → IsBody ts (q ∷ us) b → have_texts us ≡ true → have_texts (q ∷ us) ≡ true
brace_text {q = q} d w = let h : q.text ≡ codes "}" = closing d in rw (h, w) refl

-- where those after it have texts
texts_expr : {s : Sort} {ts rest : List Token} {e : Expr} → Derives s ts rest e → have_texts rest ≡ true → have_texts ts ≡ true
texts_expr (g.two {q = q} {s = s} {us = us} {rest = rest} h d o e c) w =
    let l : have_texts (s ∷ rest) ≡ true = rw (c, w) refl in
    let m : have_texts (q ∷ us) ≡ true = rw (op_text q.text _ o, texts_expr e l) refl in
    rw (h, texts_expr d m) refl
texts_expr (g.minus {s = s} {rest = rest} h m d c) w =
    let l : have_texts (s ∷ rest) ≡ true = rw (c, w) refl in
    rw (h, m, texts_expr d l) refl
texts_expr (g.cast {k = k} {s = s} {rest = rest} h i j m d c) w =
    let l : have_texts (s ∷ rest) ≡ true = rw (c, w) refl in
    rw (h, i, type_text k.text _ j, m, texts_expr d l) refl
texts_expr (g.number {p = p} {n = n} h) w = rw (number_text p.text n h, w) refl
texts_expr (g.name {p = p} h) w = rw (name_text p.text h, w) refl
texts_expr (g.value {m = m} {n = n} h i j k) w = rw (h, i, number_text m.text n j, k, w) refl
texts_expr (g.index {m = m} {n = n} h i j k) w = rw (h, i, number_text m.text n j, k, w) refl
texts_expr (g.call {p = p} h i j k) w = rw (name_text p.text h, i, j, k, w) refl
texts_expr (g.inner d) w = texts_expr d w

texts_body : {ts rest : List Token} {b : Body} → IsBody ts rest b → have_texts rest ≡ true → have_texts ts ≡ true
texts_body (g.end h) w = w
texts_body (g.decl {k = k} {x = x} {s = s} {us = us} j n q d c b) w =
    let l : have_texts (s ∷ us) ≡ true = rw (c, texts_body b w) refl in
    rw (type_text k.text _ j, name_text x.text n, q, texts_expr d l) refl
texts_body (g.group {q = q} {us = us} h a b) w = rw (h, texts_body a (brace_text a (texts_body b w))) refl
texts_body (g.when {r = r} {m = m} {us = us} h l d i j a b) w =
    let v : have_texts (r ∷ m ∷ us) ≡ true = rw (i, j, texts_body a (brace_text a (texts_body b w))) refl in
    rw (h, l, texts_expr d v) refl
texts_body (g.return {s = s} {us = us} h d c b) w =
    let l : have_texts (s ∷ us) ≡ true = rw (c, texts_body b w) refl in
    rw (h, texts_expr d l) refl

texts_pointer : {ts rest : List Token} → IsPointer ts rest → have_texts rest ≡ true → have_texts ts ≡ true
texts_pointer (g.pointer h i j) w = rw (h, i, j, w) refl

texts_parameters : {ts rest : List Token} {i : Bool} → IsParameters ts rest i → have_texts rest ≡ true → have_texts ts ≡ true
texts_parameters (g.one {v = v} {rest = rest} p h) w = let l : have_texts (v ∷ rest) ≡ true = rw (h, w) refl in texts_pointer p l
texts_parameters (g.both {x = x} {c = c} {v = v} {us = us} {rest = rest} p h i q j) w =
    let l : have_texts (v ∷ rest) ≡ true = rw (j, w) refl in
    let m : have_texts (x ∷ c ∷ us) ≡ true = rw (h, i, texts_pointer q l) refl in
    texts_pointer p m

texts_head : {ts rest : List Token} {o : Bool} {f : Fun} → IsHead ts rest o f → have_texts rest ≡ true → have_texts ts ≡ true
texts_head (g.head {x = x} {r = r} {p = p} {us = us} h n l i j c d) w =
    let m : have_texts (r ∷ p ∷ us) ≡ true = rw (j, c, texts_body d (brace_text d w)) refl in
    rw (h, name_text x.text n, l, texts_parameters i m) refl

texts_fun : {ts rest : List Token} {f : Fun} → IsFun ts rest f → have_texts rest ≡ true → have_texts ts ≡ true
texts_fun (g.own h d) w = rw (h, texts_head d w) refl
texts_fun (g.shared d) w = texts_head d w

-- each token of a file has a text
pub texts_file : {ts : List Token} {fs : List Fun} → IsFile ts fs → have_texts ts ≡ true
texts_file g.none = refl
texts_file (g.one d r) = texts_fun d (texts_file r)
