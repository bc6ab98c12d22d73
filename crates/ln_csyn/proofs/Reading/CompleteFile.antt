-- Proves that what is derived is read: statements, functions, files.
use Rattle.std.proofs.Common.{◌≡◌, ℕ, zero, suc, ◌≤◌, ◌<◌, Bool, true, false, ◌&&◌, nat_le, List, [], ◌∷◌, length, Some, None, refl, sym, ◌∙◌, arith, max}
use Rattle.std.specs.Prelude.{codes, bytes_eq}
use Rattle.std.proofs.Math.Nat.{le-max_left, le-max_right}
use Rattle.std.proofs.lemmas.Slice.Eq.{bytes_eq-Decides}
use Rattle.std.proofs.lemmas.Option.{same_Some}
use Rattle.ln_csyn.specs.declared.tree.CType.{CType}
use Rattle.ln_csyn.specs.Tree.{Body, Fun}
use Rattle.ln_csyn.specs.Words.{type_of}
use Rattle.ln_csyn.specs.Grammar.{Token, IsBody, end, decl, group}
use Rattle.ln_csyn.specs.Grammar.{when, return, IsPointer, pointer, IsParameters, one, both, IsHead, head, IsFun, own, shared, IsFile}
use Rattle.ln_csyn.specs.Grammar as g
use Rattle.ln_csyn.specs.Reading.{eat, stmt_at, stmts_at, block_at, pointer_at, parameters_at, head_at, fun_at, funs_at}
use Rattle.ln_csyn.specs.Keeps.{parens, parens_in, braces_in, is_small, keeps_names, keeps_exprs, fun_keeps, each_fun, names_of, distinct}
use Rattle.std.proofs.lemmas.Bool.{false_from_ne_true, leb-true}
use Rattle.ln_csyn.specs.Laws.{BodyIsComplete, FileIsComplete, OneFile}
use Rattle.ln_csyn.proofs.Reading.Complete.{complete}
use Rattle.ln_csyn.proofs.Reading.Leaving.{fewer, leaves_body, leaves_expr, leaves_fun}
use Rattle.ln_csyn.proofs.Writing.Spells.{left, right}

-- the rest after statements begins with a closing brace
abbrev pub HasBrace : List Token → Type 0
HasBrace [] = ⊥
HasBrace (q ∷ us) = q.text ≡ codes "}"

-- after statements comes a closing brace
pub closing : {ts rest : List Token} {b : Body} → IsBody ts rest b → HasBrace rest
closing (end h) = h
closing (decl k x q d s b) = closing b
closing (group h a b) = closing b
closing (when h l d r m a b) = closing b
closing (return h d s b) = closing b

-- a type is none of these words
other : (text u : List ℕ) (t : CType) → type_of u ≡ None → type_of text ≡ Some t → bytes_eq text u ≡ false
other text u t n h =
    false_from_ne_true (bytes_eq text u) (λ e. let q : text ≡ u = (bytes_eq-Decides text u).0 e in let z : type_of text ≡ None = rw q n in cc)

complete_body : {ts rest : List Token} {b : Body} → IsBody ts rest b → (p k n : ℕ) → braces_in b ≤ k → parens_in b ≤ suc p → length ts < n
    → stmts_at (stmt_at (suc p) p (block_at (suc p) p k)) n ts ≡ Some (b, rest)
complete_body x p k zero w v l = absurd (omega arith)
complete_body (end h) p k (suc n) w v l = rw h refl
complete_body (decl {k = t} {e = e} {b = b} q x r d s c) p k (suc n) w v l =
    let f = complete d (suc p) (omega (arith, le-max_left (parens e) (parens_in b))) in
    let g = complete_body c p k n w (omega (arith, le-max_right (parens e) (parens_in b))) (omega (arith, fewer (leaves_expr d))) in
    rw (other t.text (codes "}") _ refl q, q, x, r, f, s, g) refl
complete_body (group {a = y} {b = z} h a b) p zero (suc n) w v l = absurd (omega (arith, le-max_left (suc (braces_in y)) (braces_in z)))
complete_body (group {ts = ts} {a = y} {b = z} h a b) p (suc k) (suc n) w v l =
    let f = complete_body a p k (suc (length ts)) (omega (arith, le-max_left (suc (braces_in y)) (braces_in z)))
    (omega (arith, le-max_left (parens_in y) (parens_in z))) (omega arith) in
    let g = complete_body b p (suc k) n (omega (arith, le-max_right (suc (braces_in y)) (braces_in z)))
    (omega (arith, le-max_right (parens_in y) (parens_in z))) (omega (arith, fewer (leaves_body a _ _ refl))) in
    rw (h, f, closing a, g) refl
complete_body (when {a = y} {b = z} h i d r m a b) p zero (suc n) w v l = absurd (omega (arith, le-max_left (suc (braces_in y)) (braces_in z)))
complete_body (when {us = us} {e = e} {a = y} {b = z} h i d r m a b) p (suc k) (suc n) w v l =
    let v1 : parens_in y ≤ suc p = omega (arith, le-max_right (suc (parens e)) (max (parens_in y) (parens_in z)), le-max_left (parens_in y) (parens_in z)) in
    let v2 : parens_in z ≤ suc p = omega (arith, le-max_right (suc (parens e)) (max (parens_in y) (parens_in z)), le-max_right (parens_in y) (parens_in z)) in
    let c = complete d p (omega (arith, le-max_left (suc (parens e)) (max (parens_in y) (parens_in z)))) in
    let f = complete_body a p k (suc (length us)) (omega (arith, le-max_left (suc (braces_in y)) (braces_in z))) v1 (omega arith) in
    let g = complete_body b p (suc k) n (omega (arith, le-max_right (suc (braces_in y)) (braces_in z)))
    v2 (omega (arith, fewer (leaves_expr d), fewer (leaves_body a _ _ refl))) in
    rw (h, i, c, r, m, f, closing a, g) refl
complete_body (return {e = e} {b = b} h d s c) p k (suc n) w v l =
    let f = complete d (suc p) (omega (arith, le-max_left (parens e) (parens_in b))) in
    let g = complete_body c p k n w (omega (arith, le-max_right (parens e) (parens_in b))) (omega (arith, fewer (leaves_expr d))) in
    rw (h, f, s, g) refl

complete_pointer : {ts rest : List Token} → IsPointer ts rest → pointer_at ts ≡ Some rest
complete_pointer (pointer h i j) = rw (h, i, j) refl

complete_parameters : {ts rest : List Token} {i : Bool} → IsParameters ts rest i → parameters_at ts ≡ Some (i, rest)
complete_parameters (one p h) = rw (complete_pointer p, h) refl
complete_parameters (both p h c q v) = rw (complete_pointer p, h, c, complete_pointer q, v) refl

-- how much of a function's body stands within the limits
pub record Within (p k : ℕ) (f : Fun) : Type 0 where
  pub parens : parens_in f.body ≤ suc p
  pub braces : braces_in f.body ≤ k

complete_head : {ts rest : List Token} {o : Bool} {f : Fun} → IsHead ts rest o f → (p k : ℕ) → Within p k f
    → head_at (block_at (suc p) p (suc k)) o ts ≡ Some (f, rest)
complete_head (head {us = us} h x l i r b d) p k w =
    let f = complete_body d p k (suc (length us)) w.braces w.parens (omega arith) in
    rw (h, x, l, complete_parameters i, r, b, f, closing d) refl

starts_int : {ts rest : List Token} {o : Bool} {f : Fun} → IsHead ts rest o f → eat (codes "static") ts ≡ None
starts_int (head h x l i r b d) = rw h refl

complete_fun : {ts rest : List Token} {f : Fun} → IsFun ts rest f → (p k : ℕ) → Within p k f → fun_at (block_at (suc p) p (suc k)) ts ≡ Some (f, rest)
complete_fun (own h d) p k w = rw (h, complete_head d p k w) refl
complete_fun (shared d) p k w = rw (starts_int d, complete_head d p k w) refl

-- each of these functions is within the limits
abbrev pub AllWithin : ℕ → ℕ → List Fun → Type 0
AllWithin p k [] = Unit {0}
AllWithin p k (f ∷ fs) = Within p k f × AllWithin p k fs

funs_step : (p k n : ℕ) (ts us : List Token) (f : Fun) (fs : List Fun) → length us < length ts → fun_at (block_at (suc p) p (suc k)) ts ≡ Some (f, us)
    → funs_at (block_at (suc p) p (suc k)) n us ≡ Some fs → funs_at (block_at (suc p) p (suc k)) (suc n) ts ≡ Some (f ∷ fs)
funs_step p k n [] us f fs l h g = absurd (omega arith)
funs_step p k n (t ∷ ts) us f fs l h g = rw (h, g) refl

complete_file : {ts : List Token} {fs : List Fun} → IsFile ts fs → (p k n : ℕ) → AllWithin p k fs → length ts < n
    → funs_at (block_at (suc p) p (suc k)) n ts ≡ Some fs
complete_file x p k zero w l = absurd (omega arith)
complete_file g.none p k (suc n) w l = refl
complete_file (g.one {ts = ts} {us = us} {f = f} {fs = fs} d r) p k (suc n) w l =
    funs_step p k n ts us f fs (fewer (leaves_fun d)) (complete_fun d p k w.0) (complete_file r p k n w.1 (omega (arith, fewer (leaves_fun d))))

-- the limits follow from the tests on the tree
fun_within : (names : List (List ℕ)) (f : Fun) → fun_keeps names f ≡ true → Within 15 63 f
fun_within names f h =
    let small : is_small f ≡ true = left (is_small f) (keeps_names names f && keeps_exprs f) h in
    let one : nat_le (parens_in f.body) 16 ≡ true = left (nat_le (parens_in f.body) 16) (nat_le (suc (braces_in f.body)) 64) small in
    let two : nat_le (suc (braces_in f.body)) 64 ≡ true = right (nat_le (parens_in f.body) 16) (nat_le (suc (braces_in f.body)) 64) small in
    record { parens = leb-true _ _ one; braces = omega (arith, leb-true _ _ two) }

funs_within : (names : List (List ℕ)) (fs : List Fun) → each_fun (fun_keeps names) fs ≡ true → AllWithin 15 63 fs
funs_within names [] h = tt
funs_within names (f ∷ fs) h = (
  fun_within names f (left (fun_keeps names f) (each_fun (fun_keeps names) fs) h),
  funs_within names fs (right (fun_keeps names f) (each_fun (fun_keeps names) fs) h),
)

-- statements that are derived within the limits are read
pub body_is_complete : BodyIsComplete
body_is_complete ts rest b h p k n w v l = complete_body h p k n w v l

-- so is a file
pub file_is_complete : FileIsComplete
file_is_complete ts fs d h =
    complete_file d 15 63 (suc (length ts))
    (funs_within (names_of fs) fs (right (distinct (names_of fs)) (each_fun (fun_keeps (names_of fs)) fs) h)) (omega arith)

-- both files are what is read
pub one_file : OneFile
one_file ts fs gs d k e l = same_Some fs gs (sym (file_is_complete ts fs d k) ∙ file_is_complete ts gs e l)
