-- Proves that what is written is lexed, and that lines change no condition.
use Rattle.std.proofs.Common.{◌≡◌, ℕ, zero, suc, ◌<◌, ◌==◌, ◌&&◌, nat_le, not, Bool, true, false, List, [], ◌∷◌, ◌++◌, length, take, drop}
use Rattle.std.proofs.Common.{refl, ap, sym, ◌∙◌, subst, arith, length-append}
use Rattle.std.specs.Prelude.{codes, decimal}
use Rattle.std.proofs.lemmas.Bool.{and_parts, and_right, eqb-true, false_from_ne_true, or_parts}
use Rattle.std.proofs.lemmas.Bool.Decides.{nat_tests}
use Rattle.std.proofs.lemmas.Option.{cond_some}
use Rattle.ln_base.specs.Decimal.{decimal_value}
use Rattle.ln_base.specs.Words.{is_digit, is_letter, is_name_byte, is_name, is_word, is_keyword, every}
use Rattle.ln_csyn.specs.declared.tree.CType.{CType}
use Rattle.ln_csyn.specs.declared.tree.CType.TheVariants.{Int, Int64, Int128}
use Rattle.ln_csyn.specs.declared.tree.COp.{COp}
use Rattle.ln_csyn.specs.declared.tree.COp.TheVariants as op
use Rattle.ln_csyn.specs.Tree.{Expr, Number, Name, Value, Index, Call, Inner, Minus, Two, Body, End, Decl, Group, If, Return, Fun}
use Rattle.ln_csyn.specs.Words.{is_c_name, is_numeral, most_number, among, reserved}
use Rattle.ln_csyn.specs.Grammar.{Token}
use Rattle.ln_csyn.specs.Keeps.{parens_in, braces_in, each_expr, each_name, each_fun, direct, distinct, differ_within, divides, calls_none}
use Rattle.ln_csyn.specs.Keeps.{is_own, fun_keeps, names_of, keeps}
use Rattle.ln_csyn.specs.Text.{is_double, is_sign_text, is_token, IsFirst, Lexed, none, blank, token, has_words, fun_words}
use Rattle.ln_csyn.specs.Spelling.{type_text, op_text, lexeme, spell, spell_body, spell_parameters, spell_own, spell_fun, spell_file}
use Rattle.ln_csyn.specs.Spelling.{written, flat, flat_fun, flat_file}
use Rattle.ln_csyn.specs.Layout.{fuses}
use Rattle.ln_csyn.specs.Laws.{WrittenIsFile}
use Rattle.ln_csyn.proofs.Writing.Spells.{left, right, mid, number_is_read, derives_file}

-- ---- a token is the longest before a byte that doesn't fuse with its end

-- the last byte
abbrev pub last_of : ℕ → List ℕ → ℕ
last_of l [] = l
last_of l (b ∷ bs) = last_of b bs

every_ends : (p : ℕ → Bool) (xs ys : List ℕ) (c : ℕ) → p c ≡ false → every p (xs ++ c ∷ ys) ≡ false
every_ends p [] ys c h = rw h refl
every_ends p (x ∷ xs) ys c h = and_right (p x) _ (every_ends p xs ys c h)

-- each byte of these passes, and so does the last
pub last_every : (p : ℕ → Bool) (b : ℕ) (bs : List ℕ) → p b ≡ true → every p bs ≡ true → p (last_of b bs) ≡ true
last_every p b [] h k = h
last_every p b (c ∷ bs) h k = last_every p c bs (left (p c) (every p bs) k) (right (p c) (every p bs) k)

-- what follows a name byte and doesn't fuse is none
follows_name : (l c : ℕ) → is_name_byte l ≡ true → fuses l c ≡ false → is_name_byte c ≡ false
follows_name l c n f = false_from_ne_true (is_name_byte c) (λ e. let g : fuses l c ≡ true = rw (n, e) refl in cc)

no_digit : (c : ℕ) → is_name_byte c ≡ false → is_digit c ≡ false
no_digit c h = grind (arith, nat_tests)

-- a digit is a byte of a name
pub digit_name : (c : ℕ) → is_digit c ≡ true → is_name_byte c ≡ true
digit_name c h = grind (arith, nat_tests)

-- a letter is a byte of a name
pub letter_name : (c : ℕ) → is_letter c ≡ true → is_name_byte c ≡ true
letter_name c h = grind (arith, nat_tests)

-- digits are bytes of a name
pub every_digit_name : (ds : List ℕ) → every is_digit ds ≡ true → every is_name_byte ds ≡ true
every_digit_name [] h = refl
every_digit_name (d ∷ ds) h = rw (digit_name d (left (is_digit d) (every is_digit ds) h), every_digit_name ds (right (is_digit d) (every is_digit ds) h)) refl

sign_ends : (b c : ℕ) (bs ys : List ℕ) → is_sign_text b bs ≡ true → fuses (last_of b bs) c ≡ false → is_sign_text b (bs ++ c ∷ ys) ≡ false
sign_ends b c [] [] t f = (or_parts (is_name_byte b && is_name_byte c) _ f).1
sign_ends b c [] (y ∷ ys) t f = refl
sign_ends b c (d ∷ []) ys t f = refl
sign_ends b c (d ∷ e ∷ bs) ys t f = refl

ends_by : (b c : ℕ) (bs ys : List ℕ) (u v : Bool) → is_letter b ≡ u → is_digit b ≡ v → is_token (b ∷ bs) ≡ true
    → fuses (last_of b bs) c ≡ false → is_token ((b ∷ bs) ++ c ∷ ys) ≡ false
ends_by b c bs ys true v p q t f =
    let k : every is_name_byte bs ≡ true = (rw p at t) in
    let n = follows_name (last_of b bs) c (last_every is_name_byte b bs (letter_name b p) k) f in
    rw (p, every_ends is_name_byte bs ys c n) refl
ends_by b c bs ys false true p q t f =
    let k : every is_digit bs ≡ true = (rw (p, q) at t) in
    let n = follows_name (last_of b bs) c (last_every is_name_byte b bs (digit_name b q) (every_digit_name bs k)) f in
    rw (p, q, every_ends is_digit bs ys c (no_digit c n)) refl
ends_by b c bs ys false false p q t f =
    let k : is_sign_text b bs ≡ true = (rw (p, q) at t) in
    rw (p, q, sign_ends b c bs ys k f) refl

ends : (t ys : List ℕ) (c : ℕ) → is_token t ≡ true → fuses (last_of 0 t) c ≡ false → is_token (t ++ c ∷ ys) ≡ false
ends [] ys c h f = absurd (cc)
ends (b ∷ bs) ys c h f = ends_by b c bs ys (is_letter b) (is_digit b) refl refl h f

-- the bytes past a token
past : (t ys : List ℕ) (c m : ℕ) → length t < m → (k : ℕ) × (take m (t ++ c ∷ ys) ≡ t ++ c ∷ take k ys)
past [] ys c zero l = absurd (omega arith)
past [] ys c (suc m) l = (m, refl)
past (b ∷ bs) ys c zero l = absurd (omega arith)
past (b ∷ bs) ys c (suc m) l = let r = past bs ys c m (omega (arith, l)) in (r.0, ap (λ (z : List ℕ). b ∷ z) r.1)

some_token : (t : List ℕ) → is_token t ≡ true → 0 < length t
some_token [] h = absurd (cc)
some_token (b ∷ bs) h = omega arith

-- of a text and what follows it, as many bytes as the text has are the text
pub front_of : (t ys : List ℕ) → take (length t) (t ++ ys) ≡ t
front_of [] ys = refl
front_of (b ∷ bs) ys = ap (λ (z : List ℕ). b ∷ z) (front_of bs ys)

-- past as many bytes as a text has, what follows it remains
pub back_of : (t ys : List ℕ) → drop (length t) (t ++ ys) ≡ ys
back_of [] ys = refl
back_of (b ∷ bs) ys = back_of bs ys

-- a token is the first one where no byte follows that fuses with its end
pub first_token : (t ys : List ℕ) (c : ℕ) → is_token t ≡ true → fuses (last_of 0 t) c ≡ false → IsFirst (t ++ c ∷ ys) (length t)
first_token t ys c h f = record {
  some = some_token t h;
  within = omega (arith, length-append t (c ∷ ys));
  token = rw (front_of t (c ∷ ys)) h;
  longest = λ m l w. let r = past t ys c m l in rw r.1 (ends t (take r.0 ys) c h f);
}

-- a blank fuses with nothing
pub blank_parts : (l : ℕ) → fuses l 32 ≡ false
blank_parts l = rw (and_right (is_name_byte l) false refl, and_right (is_double l) false refl) refl

-- each of these has the text of a token and is on line 2
abbrev pub all_tokens : List Token → Bool
all_tokens [] = true
all_tokens (t ∷ ts) = is_token t.text && ((t.line == 2) && all_tokens ts)

-- the first of such tokens, and those after it
pub record First (t : Token) (ts : List Token) : Type 0 where
  pub token : is_token t.text ≡ true
  pub line : t.line ≡ 2
  pub rest : all_tokens ts ≡ true

-- what holds of such tokens holds of each
pub first_of : (t : Token) (ts : List Token) → all_tokens (t ∷ ts) ≡ true → First t ts
first_of t ts h =
    let p = and_parts (is_token t.text) _ h in
    let q = and_parts (t.line == 2) _ p.1 in
    record { token = p.0; line = eqb-true t.line 2 q.0; rest = q.1 }

lexes : (ts : List Token) → all_tokens ts ≡ true → Lexed 2 (written ts) ts
lexes [] h = blank refl none
lexes (t ∷ ts) h =
    let f = first_of t ts h in
    let bs : List ℕ = t.text ++ 32 ∷ written ts in
    let d : Lexed 2 (drop (length t.text) bs) ts =
    subst (λ (z : List ℕ). Lexed 2 z ts) (sym (back_of t.text (32 ∷ written ts))) (blank refl (lexes ts f.rest)) in
    let k : Lexed 2 bs (record { text = take (length t.text) bs; line = 2 } ∷ ts) =
    token (first_token t.text (written ts) 32 f.token (blank_parts (last_of 0 t.text))) d in
    let e : record { text = take (length t.text) bs; line = 2 } ≡ t =
    ap (λ (z : List ℕ). record { text = z; line = 2 }) (front_of t.text (32 ∷ written ts)) ∙ ap (λ (z : ℕ). record { text = t.text; line = z }) (sym f.line) in
    subst (λ (z : Token). Lexed 2 bs (z ∷ ts)) e k

-- ---- what is spelled is tokens

name_token : (x : List ℕ) → is_c_name x ≡ true → is_token x ≡ true
name_token [] h = absurd (cc)
name_token (b ∷ bs) h =
    let w : is_word (b ∷ bs) ≡ true = left (is_word (b ∷ bs)) (not (is_keyword (b ∷ bs))) (left (is_name (b ∷ bs)) (not (among reserved (b ∷ bs))) h) in
    let v = and_parts (is_letter b) (every is_name_byte bs) w in
    rw (v.0, v.1) refl

digit_token : (d : ℕ) (ds : List ℕ) → is_digit d ≡ true → every is_digit ds ≡ true → is_token (d ∷ ds) ≡ true
digit_token d ds h k = let l : is_letter d ≡ false = grind (arith, nat_tests) in rw (l, h, k) refl

numeral_token : (ds : List ℕ) → is_numeral ds ≡ true → is_token ds ≡ true
numeral_token [] h = absurd (cc)
numeral_token (d ∷ []) h = digit_token d [] h refl
numeral_token (d ∷ e ∷ ds) h = let m = mid (is_digit d) (not (d == 48)) (every is_digit (e ∷ ds)) h in digit_token d (e ∷ ds) m.0 m.2

number_token : (n : ℕ) → nat_le n most_number ≡ true → is_token (decimal n) ≡ true
number_token n h =
    let c = cond_some (is_numeral (decimal n) && nat_le (decimal_value (decimal n)) most_number) (decimal_value (decimal n)) n (number_is_read n h) in
    numeral_token (decimal n) (and_parts (is_numeral (decimal n)) _ c.0).0

type_token : (t : CType) → is_token (type_text t) ≡ true
type_token Int = refl
type_token Int64 = refl
type_token Int128 = refl

op_token : (o : COp) → is_token (op_text o) ≡ true
op_token op.Add = refl
op_token op.Sub = refl
op_token op.Mul = refl
op_token op.Div = refl
op_token op.Less = refl
op_token op.More = refl
op_token op.Same = refl
op_token op.Differ = refl

tokens_expr : (e : Expr) (r : List Token) → has_words e ≡ true → all_tokens r ≡ true → all_tokens (spell e r) ≡ true
tokens_expr (Number t n) r h k = rw (type_token t, number_token n h) k
tokens_expr (Name t x) r h k = rw (type_token t, name_token x h) k
tokens_expr (Value t n) r h k = rw (type_token t, number_token n h) k
tokens_expr (Index t n) r h k = rw (type_token t, number_token n h) k
tokens_expr (Call t x) r h k = rw (type_token t, name_token x h) k
tokens_expr (Inner t e) r h k = rw (type_token t) (tokens_expr e (lexeme (codes ")") ∷ r) h k)
tokens_expr (Minus e) r h k = tokens_expr e (lexeme (codes ")") ∷ r) h k
tokens_expr (Two o a b) r h k =
    let w = and_parts (has_words a) (has_words b) h in
    tokens_expr a (lexeme (op_text o) ∷ spell b (lexeme (codes ")") ∷ r)) w.0 (rw (op_token o) (tokens_expr b (lexeme (codes ")") ∷ r) w.1 k))

tokens_body : (b : Body) (r : List Token) → each_expr has_words b ≡ true → each_name is_c_name b ≡ true → all_tokens r ≡ true
    → all_tokens (spell_body b r) ≡ true
tokens_body End r w n k = k
tokens_body (Decl l t x e b) r w n k =
    let v = and_parts (has_words e) _ w in
    let m = and_parts (is_c_name x) _ n in
    rw (type_token t, name_token x m.0) (tokens_expr e (lexeme (codes ";") ∷ spell_body b r) v.0 (tokens_body b r v.1 m.1 k))
tokens_body (Group l a b) r w n k =
    let v = and_parts (each_expr has_words a) _ w in
    let m = and_parts (each_name is_c_name a) _ n in
    tokens_body a (lexeme (codes "}") ∷ spell_body b r) v.0 m.0 (tokens_body b r v.1 m.1 k)
tokens_body (If l e a b) r w n k =
    let v = mid (has_words e) (each_expr has_words a) (each_expr has_words b) w in
    let m = and_parts (each_name is_c_name a) _ n in
    tokens_expr e (lexeme (codes ")") ∷ lexeme (codes "{") ∷ spell_body a (lexeme (codes "}") ∷ spell_body b r)) v.0
    (tokens_body a (lexeme (codes "}") ∷ spell_body b r) v.1 m.0 (tokens_body b r v.2 m.1 k))
tokens_body (Return l e b) r w n k =
    let v = and_parts (has_words e) _ w in
    tokens_expr e (lexeme (codes ";") ∷ spell_body b r) v.0 (tokens_body b r v.1 n k)

tokens_parameters : (i : Bool) (r : List Token) → all_tokens r ≡ true → all_tokens (spell_parameters i r) ≡ true
tokens_parameters false r k = k
tokens_parameters true r k = k

tokens_own : (o : Bool) (r : List Token) → all_tokens r ≡ true → all_tokens (spell_own o r) ≡ true
tokens_own false r k = k
tokens_own true r k = k

-- a function whose names are NAMEs and whose numbers are NUMBERs is spelled in tokens
pub tokens_fun : (f : Fun) (r : List Token) → fun_words f ≡ true → all_tokens r ≡ true → all_tokens (spell_fun f r) ≡ true
tokens_fun f r h k =
    let v = and_parts (is_c_name f.name) _ h in
    let w = and_parts (each_expr has_words f.body) _ v.1 in
    let inner : List Token = lexeme (codes ")") ∷ lexeme (codes "{") ∷ spell_body f.body (lexeme (codes "}") ∷ r) in
    tokens_own f.own (lexeme (codes "int") ∷ lexeme f.name ∷ lexeme (codes "(") ∷ spell_parameters f.indexed inner)
    (rw (name_token f.name v.0) (tokens_parameters f.indexed inner (tokens_body f.body (lexeme (codes "}") ∷ r) w.0 w.1 k)))

tokens_file : (fs : List Fun) → each_fun fun_words fs ≡ true → all_tokens (spell_file fs) ≡ true
tokens_file [] h = refl
tokens_file (f ∷ fs) h = let w = and_parts (fun_words f) _ h in tokens_fun f (spell_file fs) w.0 (tokens_file fs w.1)

-- ---- lines change no condition

flat_parens : (b : Body) → parens_in (flat b) ≡ parens_in b
flat_parens End = refl
flat_parens (Decl l t x e b) = rw (flat_parens b) refl
flat_parens (Group l a b) = rw (flat_parens a, flat_parens b) refl
flat_parens (If l e a b) = rw (flat_parens a, flat_parens b) refl
flat_parens (Return l e b) = rw (flat_parens b) refl

flat_braces : (b : Body) → braces_in (flat b) ≡ braces_in b
flat_braces End = refl
flat_braces (Decl l t x e b) = flat_braces b
flat_braces (Group l a b) = rw (flat_braces a, flat_braces b) refl
flat_braces (If l e a b) = rw (flat_braces a, flat_braces b) refl
flat_braces (Return l e b) = flat_braces b

flat_exprs : (p : Expr → Bool) (b : Body) → each_expr p (flat b) ≡ each_expr p b
flat_exprs p End = refl
flat_exprs p (Decl l t x e b) = rw (flat_exprs p b) refl
flat_exprs p (Group l a b) = rw (flat_exprs p a, flat_exprs p b) refl
flat_exprs p (If l e a b) = rw (flat_exprs p a, flat_exprs p b) refl
flat_exprs p (Return l e b) = rw (flat_exprs p b) refl

flat_names : (p : List ℕ → Bool) (b : Body) → each_name p (flat b) ≡ each_name p b
flat_names p End = refl
flat_names p (Decl l t x e b) = rw (flat_names p b) refl
flat_names p (Group l a b) = rw (flat_names p a, flat_names p b) refl
flat_names p (If l e a b) = rw (flat_names p a, flat_names p b) refl
flat_names p (Return l e b) = flat_names p b

flat_direct : (b : Body) → direct (flat b) ≡ direct b
flat_direct End = refl
flat_direct (Decl l t x e b) = rw (flat_direct b) refl
flat_direct (Group l a b) = flat_direct b
flat_direct (If l e a b) = flat_direct b
flat_direct (Return l e b) = flat_direct b

flat_differ : (b : Body) → differ_within (flat b) ≡ differ_within b
flat_differ End = refl
flat_differ (Decl l t x e b) = flat_differ b
flat_differ (Group l a b) = rw (flat_direct a, flat_differ a, flat_differ b) refl
flat_differ (If l e a b) = rw (flat_direct a, flat_differ a, flat_differ b) refl
flat_differ (Return l e b) = flat_differ b

flat_keeps : (names : List (List ℕ)) (f : Fun) → fun_keeps names (flat_fun f) ≡ fun_keeps names f
flat_keeps names f =
    rw (
      flat_parens f.body,
      flat_braces f.body,
      flat_names (λ x. is_own x && not (among names x)) f.body,
      flat_direct f.body,
      flat_differ f.body,
      flat_exprs divides f.body,
      flat_exprs calls_none f.body,
    ) refl

flat_each : (names : List (List ℕ)) (fs : List Fun) → each_fun (fun_keeps names) (flat_file fs) ≡ each_fun (fun_keeps names) fs
flat_each names [] = refl
flat_each names (f ∷ fs) = ap (λ (v : Bool). v && each_fun (fun_keeps names) (flat_file fs)) (flat_keeps names f)
    ∙ ap (λ (v : Bool). fun_keeps names f && v) (flat_each names fs)

flat_names_of : (fs : List Fun) → names_of (flat_file fs) ≡ names_of fs
flat_names_of [] = refl
flat_names_of (f ∷ fs) = ap (λ (z : List (List ℕ)). f.name ∷ z) (flat_names_of fs)

-- the conditions hold of a flat file exactly where they hold of the file
pub flat_file_keeps : (fs : List Fun) → keeps (flat_file fs) ≡ keeps fs
flat_file_keeps fs =
    ap (λ (z : List (List ℕ)). distinct z && each_fun (fun_keeps z) (flat_file fs)) (flat_names_of fs)
    ∙ ap (λ (v : Bool). distinct (names_of fs) && v) (flat_each (names_of fs) fs)

-- the text of a file is it, with all lines at 2
pub written_is_file : WrittenIsFile
written_is_file fs h =
    let w = and_parts (keeps fs) _ h in
    record {
      rest = written (spell_file fs);
      tokens = spell_file fs;
      first = refl;
      lexed = lexes (spell_file fs) (tokens_file fs w.1);
      spelt = record { file = derives_file fs w.1; kept = flat_file_keeps fs ∙ w.0 };
    }
