-- Proves that what is derived is read.
use Rattle.std.proofs.Common.{◌≡◌, ℕ, zero, suc, ◌≤◌, Bool, true, false, List, [], ◌∷◌, Some, None, refl, arith}
use Rattle.std.specs.Prelude.{codes}
use Rattle.std.proofs.Math.Nat.{le-max_left, le-max_right}
use Rattle.ln_csyn.specs.declared.tree.CType.{CType}
use Rattle.ln_csyn.specs.Tree.{Expr, Name}
use Rattle.ln_base.specs.Words.{is_letter, is_digit}
use Rattle.std.proofs.lemmas.Bool.Decides.{nat_tests}
use Rattle.ln_csyn.specs.Words.{is_c_name, is_numeral, number_of}
use Rattle.ln_csyn.specs.Grammar.{Token, Sort, Whole, Primary, Derives, two, minus, cast, number, name, value, index, call, inner}
use Rattle.ln_csyn.specs.Reading.{eat, type_at, number_at, name_at, cast_at, primary, expr_at}
use Rattle.ln_csyn.specs.Keeps.{parens}
use Rattle.ln_csyn.specs.Laws.{ReadIsComplete}

-- what an expression begins with is none of these
pub record Opens (ts : List Token) : Type 0 where
  pub no_type : type_at ts ≡ None
  pub no_minus : eat (codes "-") ts ≡ None
  pub no_number : number_at ts ≡ None
  pub no_name : name_at ts ≡ None

opened : (p : Token) (ts : List Token) → p.text ≡ codes "(" → Opens (p ∷ ts)
opened p ts h = record { no_type = rw h refl; no_minus = rw h refl; no_number = rw h refl; no_name = rw h refl }

opens : {ts rest : List Token} {e : Expr} → Derives Whole ts rest e → Opens ts
opens (two {p = p} {ts = ts} h d o e s) = opened p ts h
opens (minus {p = p} {q = q} {ts = ts} h m d s) = opened p (q ∷ ts) h
opens (cast {p = p} {q = q} {k = k} {r = r} {ts = ts} h i j m d s) = opened p (q ∷ k ∷ r ∷ ts) h

no_cast : {ts rest : List Token} {e : Expr} → Derives Whole ts rest e → cast_at ts ≡ None
no_cast (two h d o e s) = rw (h, (opens d).no_type) refl
no_cast (minus h m d s) = rw (h, m) refl
no_cast (cast h i j m d s) = rw (h, i) refl

-- the first token is a parenthesis
pub record Closes (ts : List Token) : Type 0 where
  pub first : Token
  pub rest : List Token
  pub is : ts ≡ first ∷ rest
  pub text : first.text ≡ codes ")"

-- what `complete` proves of each sort: within the depth, the reader returns the expression and the rest
abbrev pub Goal : Sort → ℕ → List Token → List Token → Expr → Type 0
Goal Whole d ts rest e = parens e ≤ d → expr_at d ts ≡ Some (e, rest)
Goal (Primary t) d ts rest e = parens e ≤ suc d → Closes rest → primary (expr_at d) t ts ≡ Some (e, rest)

deep : {ts rest : List Token} {e : Expr} {t : CType} → Derives (Primary t) ts rest e → 2 ≤ parens e
deep (number h) = omega arith
deep (name h) = omega arith
deep (value h i j k) = omega arith
deep (index h i j k) = omega arith
deep (call h i j k) = omega arith
deep (inner {e = e} d) = omega (arith, le-max_left 1 (parens e))

-- a name before a closing parenthesis
named_alone : (p : Token) (rest : List Token) (t : CType) (d : ℕ) → is_c_name p.text ≡ true → number_of p.text ≡ None → Closes rest
    → primary (expr_at d) t (p ∷ rest) ≡ Some (Name t p.text, rest)
named_alone p rest t d h n c = rw (n, h, c.is, c.text) refl

-- a word begins with a letter
letter_by : (b : ℕ) (bs : List ℕ) (v : Bool) → is_letter b ≡ v → is_c_name (b ∷ bs) ≡ true → v ≡ true
letter_by b bs true e h = refl
letter_by b bs false e h = let g : is_c_name (b ∷ bs) ≡ false = rw e refl in absurd (cc)

no_numeral : (b : ℕ) (bs : List ℕ) → is_digit b ≡ false → is_numeral (b ∷ bs) ≡ false
no_numeral b [] h = h
no_numeral b (c ∷ bs) h = rw h refl

-- a word isn't a number
no_digit : (text : List ℕ) → is_c_name text ≡ true → number_of text ≡ None
no_digit [] h = refl
no_digit (b ∷ bs) h =
    let l : is_letter b ≡ true = letter_by b bs (is_letter b) refl h in
    let d : is_digit b ≡ false = grind (arith, nat_tests) in
    rw (no_numeral b bs d) refl

-- what is derived within the depth is read
pub complete : {s : Sort} {ts rest : List Token} {e : Expr} → Derives s ts rest e → (d : ℕ) → Goal s d ts rest e
complete (two h d o e s) zero = λ w. absurd (omega arith)
complete (two {a = a} {b = b} h d o e s) (suc n) = λ w.
    let f = complete d n (omega (arith, le-max_left (parens a) (parens b))) in
    let g = complete e n (omega (arith, le-max_right (parens a) (parens b))) in
    rw (h, (opens d).no_minus, no_cast d, f, o, g, s) refl
complete (minus h m d s) zero = λ w. absurd (omega arith)
complete (minus h m d s) (suc n) = λ w.
    let f = complete d n (omega arith) in
    rw (h, m, f, s) refl
complete (cast h i j m d s) zero = λ w. absurd (omega (arith, deep d))
complete (cast h i j m d s) (suc zero) = λ w. absurd (omega (arith, deep d))
complete (cast {s = s} {rest = rest} h i j m d q) (suc (suc n)) = λ w.
    let f = complete d (suc n) w (record { first = s; rest = rest; is = refl; text = q }) in
    rw (h, i, j, m, f, q) refl
complete (number h) n = λ w c. rw h refl
complete (name {p = p} {rest = rest} {t = t} h) n = λ w c. named_alone p rest t n h (no_digit p.text h) c
complete (value h i j k) n = λ w c. rw (h, i, j, k) refl
complete (index h i j k) n = λ w c. rw (h, i, j, k) refl
complete (call {p = p} h i j k) n = λ w c. rw (no_digit p.text h, h, i, j, k) refl
complete (inner {e = e} d) n = λ w c.
    let f = complete d n (omega (arith, le-max_right 1 (parens e))) in
    rw ((opens d).no_number, (opens d).no_name, f) refl

-- the same of a whole expression
pub read_is_complete : ReadIsComplete
read_is_complete d ts rest e h w = complete h d w
