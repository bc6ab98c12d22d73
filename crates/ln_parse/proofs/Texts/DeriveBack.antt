-- The tokens of an expression that is written canonically derive it.
use Rattle.std.proofs.Common.{◌≡◌, ℕ, suc, ◌+◌, ◌-◌, ◌≤◌, Bool, true, false, cond, List, [], ◌∷◌, length, take, drop, refl, ap, sym}
use Rattle.std.proofs.Common.{◌∙◌, arith, length-drop, codes}
use Rattle.std.proofs.Math.Seq.{take-append_seam}
use Rattle.ln_syntax.specs.Raw.{Number, ParL, ParR, Plus, Minus, Star, Caret, Token, Is, span_at, text}
use Rattle.ln_parse.specs.declared.printer.Room.{Room}
use Rattle.ln_parse.specs.declared.printer.Room.TheVariants.{OfSum, OfProduct, OfUnary, OfAtom}
use Rattle.ln_parse.specs.Written.{Written, WNum, WName, WInput, WNeg, WAdd, WSub, WMul, WPow, spelling, IsNamed}
use Rattle.ln_syntax.specs.Expression.{Tree, TNum, TName, TInput, TNeg, TAdd, TSub, TMul, TPow, Sort, Atom, Power, Unary, Term, Sum, Factors, Terms, Derives}
use Rattle.ln_syntax.specs.Expression.{number, name, input, parens, plain, power, base, minus, term, no_factor, times, sum, no_term, plus, less}
use Rattle.ln_syntax.proofs.Recognising.Builds.{from}
use Rattle.ln_parse.specs.Canonical.{Lexeme, gap, line, word, text_of, fits, wrap, inside, whole}
use Rattle.std.specs.Fmt.{decimal}
use Rattle.ln_base.specs.Decimal.{decimal_value}
use Rattle.ln_base.proofs.DecimalLemmas.{value_of_text}
use Rattle.ln_parse.proofs.Texts.LexBack.{toks, drop_word}

-- the words of the lexemes are the tokens from place i on
abbrev pub Sits : List ℕ → List Token → ℕ → List Lexeme → Type 0
Sits bytes ts i [] = i ≡ length ts
Sits bytes ts i (gap ∷ xs) = Sits bytes ts i xs
Sits bytes ts i (line ∷ xs) = Sits bytes ts i xs
Sits bytes ts i (word k t ∷ xs) = Is ts i k × (text bytes (span_at ts i) ≡ t) × Sits bytes ts (suc i) xs

-- where bytes and tokens go on as these lexemes do, the words of the lexemes are the tokens
pub sits : (bytes : List ℕ) (ts : List Token) (xs : List Lexeme) (i at : ℕ) → drop at bytes ≡ text_of xs → drop i ts ≡ toks at xs
    → i ≤ length ts → Sits bytes ts i xs
sits bytes ts [] i at e f h =
    let q : length (drop i ts) ≡ 0 = ap (λ (x : List Token). length x) f in omega (arith, length-drop i ts)
sits bytes ts (gap ∷ xs) i at e f h =
    let a : at + 1 ≡ suc at = omega arith in
    sits bytes ts xs i (suc at) (ap (λ (w : ℕ). drop w bytes) (sym a) ∙ drop_word bytes (32 ∷ []) (text_of xs) at e) f h
sits bytes ts (line ∷ xs) i at e f h =
    let a : at + 1 ≡ suc at = omega arith in
    sits bytes ts xs i (suc at) (ap (λ (w : ℕ). drop w bytes) (sym a) ∙ drop_word bytes (10 ∷ []) (text_of xs) at e) f h
sits bytes ts (word k t ∷ xs) i at e f h =
    let r = from ts i _ _ f in
    let n : (at + length t) - at ≡ length t = omega arith in
    let p : text bytes (span_at ts i) ≡ t =
    ap (λ (w : _). text bytes w) r.span ∙ ap (λ (w : ℕ). take w (drop at bytes)) n ∙ ap (λ (w : List ℕ). take (length t) w) e
    ∙ take-append_seam t (text_of xs) in
    (r.first, p, sits bytes ts xs (suc i) (at + length t) (drop_word bytes t (text_of xs) at e) r.rest (omega (arith, r.more)))

-- a part of a text that is read back, before other lexemes: where it ends, what it is read as, that its tokens are this, and what this says
pub record Back (bytes : List ℕ) (ts : List Token) (A : Type 0) (Reads : ℕ → ℕ → A → Type 0) (Says : A → Type 0) (i : ℕ)
    (rest : List Lexeme) : Type 0 where
  pub to : ℕ
  pub raw : A
  pub derives : Reads i to raw
  pub says : Says raw
  pub after : Sits bytes ts to rest

-- the part with these
pub back : {bytes : List ℕ} {ts : List Token} {A : Type 0} {Reads : ℕ → ℕ → A → Type 0} {Says : A → Type 0} {i : ℕ} {rest : List Lexeme}
    (k : ℕ) (x : A) → Reads i k x → Says x → Sits bytes ts k rest → Back bytes ts A Reads Says i rest
back k x d s a = record { to = k; raw = x; derives = d; says = s; after = a }

-- a tree is spelt before other lexemes
abbrev pub Derived : List ℕ → List Token → Sort → ℕ → Written → List Lexeme → Type 0
Derived bytes ts s i t rest = Back bytes ts Tree (Derives ts s) (λ e. spelling bytes e ≡ t) i rest

abbrev sort_of : Room → Sort
sort_of OfSum = Sum
sort_of OfProduct = Term
sort_of OfUnary = Unary
sort_of OfAtom = Atom

abbrev own : Written → Sort
own (WNum t) = Atom
own (WName t) = Atom
own (WInput t x) = Atom
own (WNeg a) = Unary
own (WAdd a b) = Sum
own (WSub a b) = Sum
own (WMul a b) = Term
own (WPow a n) = Power

atom_up : {ts : List Token} {i j : ℕ} {e : Tree} (w : Room) → Derives ts Atom i j e → Derives ts (sort_of w) i j e
atom_up OfSum d = sum (term (base (plain d)) no_factor) no_term
atom_up OfProduct d = term (base (plain d)) no_factor
atom_up OfUnary d = base (plain d)
atom_up OfAtom d = d

lift : {ts : List Token} {i j : ℕ} {e : Tree} (w : Room) (t : Written) → fits w t ≡ true → Derives ts (own t) i j e → Derives ts (sort_of w) i j e
lift w (WNum t) h d = atom_up w d
lift w (WName t) h d = atom_up w d
lift w (WInput t x) h d = atom_up w d
lift OfSum (WNeg a) h d = sum (term d no_factor) no_term
lift OfProduct (WNeg a) h d = term d no_factor
lift OfUnary (WNeg a) h d = d
lift OfAtom (WNeg a) h d = absurd (cc)
lift OfSum (WPow a n) h d = sum (term (base d) no_factor) no_term
lift OfProduct (WPow a n) h d = term (base d) no_factor
lift OfUnary (WPow a n) h d = base d
lift OfAtom (WPow a n) h d = absurd (cc)
lift OfSum (WMul a b) h d = sum d no_term
lift OfProduct (WMul a b) h d = d
lift OfUnary (WMul a b) h d = absurd (cc)
lift OfAtom (WMul a b) h d = absurd (cc)
lift OfSum (WAdd a b) h d = d
lift OfProduct (WAdd a b) h d = absurd (cc)
lift OfUnary (WAdd a b) h d = absurd (cc)
lift OfAtom (WAdd a b) h d = absurd (cc)
lift OfSum (WSub a b) h d = d
lift OfProduct (WSub a b) h d = absurd (cc)
lift OfUnary (WSub a b) h d = absurd (cc)
lift OfAtom (WSub a b) h d = absurd (cc)

any_fits : (t : Written) → fits OfSum t ≡ true
any_fits (WNum t) = refl
any_fits (WName t) = refl
any_fits (WInput t x) = refl
any_fits (WNeg a) = refl
any_fits (WAdd a b) = refl
any_fits (WSub a b) = refl
any_fits (WMul a b) = refl
any_fits (WPow a n) = refl

-- one more operand after a list of them
terms_plus : {ts : List Token} {i j k : ℕ} {e f g : Tree} → Derives ts (Terms f) i j e → Is ts j Plus → Derives ts Term (suc j) k g
    → Derives ts (Terms f) i k (TAdd (span_at ts j) e g)
terms_plus no_term is d = plus is d no_term
terms_plus (plus n x y) is d = plus n x (terms_plus y is d)
terms_plus (less n x y) is d = less n x (terms_plus y is d)

terms_less : {ts : List Token} {i j k : ℕ} {e f g : Tree} → Derives ts (Terms f) i j e → Is ts j Minus → Derives ts Term (suc j) k g
    → Derives ts (Terms f) i k (TSub (span_at ts j) e g)
terms_less no_term is d = less is d no_term
terms_less (plus n x y) is d = plus n x (terms_less y is d)
terms_less (less n x y) is d = less n x (terms_less y is d)

factors_times : {ts : List Token} {i j k : ℕ} {e f g : Tree} → Derives ts (Factors f) i j e → Is ts j Star → Derives ts Unary (suc j) k g
    → Derives ts (Factors f) i k (TMul (span_at ts j) e g)
factors_times no_factor is d = times is d no_factor
factors_times (times n x y) is d = times n x (factors_times y is d)

sum_plus : {ts : List Token} {i j k : ℕ} {e g : Tree} → Derives ts Sum i j e → Is ts j Plus → Derives ts Term (suc j) k g
    → Derives ts Sum i k (TAdd (span_at ts j) e g)
sum_plus (sum x y) is d = sum x (terms_plus y is d)

sum_less : {ts : List Token} {i j k : ℕ} {e g : Tree} → Derives ts Sum i j e → Is ts j Minus → Derives ts Term (suc j) k g
    → Derives ts Sum i k (TSub (span_at ts j) e g)
sum_less (sum x y) is d = sum x (terms_less y is d)

term_times : {ts : List Token} {i j k : ℕ} {e g : Tree} → Derives ts Term i j e → Is ts j Star → Derives ts Unary (suc j) k g
    → Derives ts Term i k (TMul (span_at ts j) e g)
term_times (term x y) is d = term x (factors_times y is d)

module _ (bytes : List ℕ) (ts : List Token) where
  wrap_by : (w : Room) (t : Written) (v : Bool) → fits w t ≡ v
      → ((i : ℕ) (rest : List Lexeme) → Sits bytes ts i (inside t rest) → Derived bytes ts (own t) i t rest)
      → (i : ℕ) (rest : List Lexeme) → Sits bytes ts i (cond v (inside t rest) (word ParL (codes "(") ∷ inside t (word ParR (codes ")") ∷ rest)))
      → Derived bytes ts (sort_of w) i t rest
  wrap_by w t true e f i rest h = let d = f i rest h in back d.to d.raw (lift w t e d.derives) d.says d.after
  wrap_by w t false e f i rest h =
      let d = f (suc i) (word ParR (codes ")") ∷ rest) h.2 in
      back (suc d.to) d.raw (atom_up w (parens h.0 (lift OfSum t (any_fits t) d.derives) d.after.0)) d.says d.after.2

  derived : (t : Written) → IsNamed t → (i : ℕ) (rest : List Lexeme) → Sits bytes ts i (inside t rest) → Derived bytes ts (own t) i t rest
  derived (WNum t) n i rest h =
      back (suc i) (TNum (span_at ts i)) (number h.0)
      (ap (λ (w : List ℕ). WNum (decimal_value w)) h.1 ∙ ap (λ (w : ℕ). WNum w) (value_of_text t n)) h.2
  derived (WName t) m i rest h = back (suc i) (TName (span_at ts i)) (name h.0) (ap (λ (w : List ℕ). WName w) h.1) h.2
  derived (WInput t x) m i rest h =
      let q = h.2.2 in
      back (suc (suc (suc i))) (TInput (span_at ts i) (span_at ts (suc (suc i)))) (input h.0 h.2.0 q.0) (rw (h.1, q.1) refl) q.2
  derived (WNeg a) m i rest h =
      let d = wrap_by OfUnary a (fits OfUnary a) refl (derived a m) (suc i) rest h.2 in
      back d.to (TNeg (span_at ts i) d.raw) (minus h.0 d.derives) (ap (λ (w : Written). WNeg w) d.says) d.after
  derived (WAdd a b) m i rest h =
      let l = wrap_by OfSum a (fits OfSum a) refl (derived a m.0) i (gap ∷ word Plus (codes "+") ∷ gap ∷ wrap OfProduct b (inside b) rest) h in
      let r = wrap_by OfProduct b (fits OfProduct b) refl (derived b m.1) (suc l.to) rest l.after.2 in
      back r.to (TAdd (span_at ts l.to) l.raw r.raw) (sum_plus l.derives l.after.0 r.derives) (rw (l.says, r.says) refl) r.after
  derived (WSub a b) m i rest h =
      let l = wrap_by OfSum a (fits OfSum a) refl (derived a m.0) i (gap ∷ word Minus (codes "-") ∷ gap ∷ wrap OfProduct b (inside b) rest) h in
      let r = wrap_by OfProduct b (fits OfProduct b) refl (derived b m.1) (suc l.to) rest l.after.2 in
      back r.to (TSub (span_at ts l.to) l.raw r.raw) (sum_less l.derives l.after.0 r.derives) (rw (l.says, r.says) refl) r.after
  derived (WMul a b) m i rest h =
      let l = wrap_by OfProduct a (fits OfProduct a) refl (derived a m.0) i (word Star (codes "*") ∷ wrap OfUnary b (inside b) rest) h in
      let r = wrap_by OfUnary b (fits OfUnary b) refl (derived b m.1) (suc l.to) rest l.after.2 in
      back r.to (TMul (span_at ts l.to) l.raw r.raw) (term_times l.derives l.after.0 r.derives) (rw (l.says, r.says) refl) r.after
  derived (WPow a n) m i rest h =
      let l = wrap_by OfAtom a (fits OfAtom a) refl (derived a m.0) i (word Caret (codes "^") ∷ word Number (decimal n) ∷ rest) h in
      let q = l.after.2 in
      back (suc (suc l.to)) (TPow (span_at ts l.to) l.raw (span_at ts (suc l.to))) (power l.derives l.after.0 q.0)
      (rw (l.says, q.1, value_of_text n m.1) refl) q.2

  -- a whole expression is derived
  pub whole_back : (e : Written) → IsNamed e → (i : ℕ) (rest : List Lexeme) → Sits bytes ts i (whole e rest) → Derived bytes ts Sum i e rest
  whole_back e n i rest h = wrap_by OfSum e (fits OfSum e) refl (derived e n) i rest h
