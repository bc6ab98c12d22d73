-- Words that say an expression are tokens that derive one.
use Rattle.std.proofs.Common.{◌≡◌, ℕ, suc, true, false, List, [], ◌∷◌, ◌++◌, Some, pos}
use Rattle.std.proofs.Common.{refl, ap, sym, arith, pow-suc, length, ◌+◌, ◌*◌, ◌-◌, ◌^◌, ◌∙◌, subst}
use Rattle.std.specs.Prelude.{Contains, codes}
use Rattle.ln_base.specs.declared.span.Span.{Span}
use Rattle.ln_base.specs.Decimal.{decimal_value, is_digits}
use Rattle.std.proofs.lemmas.Bool.{and_parts}
use Rattle.std.proofs.lemmas.Bool.Decides.{nat_tests}
use Rattle.std.specs.List.{list_all}
use Rattle.std.specs.Char.{is_ascii_digit}
use Rattle.std.specs.Prelude.{nat_lt}
use Rattle.ln_base.specs.Words.{every, is_digit, is_letter, is_name}
use Rattle.ln_algebra.specs.Tree as algebra
use Rattle.ln_lex.specs.declared.token.Token.{Token}
use Rattle.ln_lex.specs.declared.token.Kind.TheVariants as kind
use Rattle.ln_lex.specs.Tokens.{kind_of}
use Rattle.ln_syntax.specs.Raw.{Is, kind_at, span_at, text}
use Rattle.ln_syntax.specs.Expression as grammar
use Rattle.ln_syntax.specs.Expression.{Derives, Sort, Tree, TNum, TName, TInput, TNeg, TAdd, TSub, TMul, TPow}
use Rattle.ln_names.specs.Numbers as names
use Rattle.ln_names.specs.Rules as rules
use Rattle.ln_parse.specs.Says.{resolved}
use Rattle.ln_tree.specs.Formula.{tree}
use Rattle.ln_tree.specs.declared.shape.VarInfo.{VarInfo}
use Rattle.ln_parse.proofs.Texts.WordTokens.{name_kind}
use Rattle.ln_top.specs.Guarantee as told
use Rattle.ln_top.specs.Guarantee.{Level, SaysTree, NameScope, Word}

-- the tokens from place i up to place j have these texts, and the kinds of these texts
pub data Placed (bytes : List ℕ) (ts : List Token) : ℕ → List Word → ℕ → Type 0 where
  none : {i : ℕ} → Placed bytes ts i [] i
  word : {i j : ℕ} {ws : List Word} {w : Word} → kind_at ts i ≡ kind_of w → text bytes (span_at ts i) ≡ w → Placed bytes ts (suc i) ws j
      → Placed bytes ts i (w ∷ ws) j

-- words in two parts
pub record Parts (bytes : List ℕ) (ts : List Token) (i : ℕ) (us ws : List Word) (j : ℕ) : Type 0 where
  pub at : ℕ
  pub left : Placed bytes ts i us at
  pub right : Placed bytes ts at ws j

-- the words of two lists are in two parts
pub split : (bytes : List ℕ) (ts : List Token) {i j : ℕ} (us ws : List Word) → Placed bytes ts i (us ++ ws) j → Parts bytes ts i us ws j
split bytes ts [] ws p = record { at = _; left = none; right = p }
split bytes ts (u ∷ us) ws (word k t p) = let r = split bytes ts us ws p in record { at = r.at; left = word k t r.left; right = r.right }

-- what a tree of the source's grammar is, with names looked up in a scope
pub data Means (scope : NameScope) (bytes : List ℕ) : Tree → algebra.Tree → Type 0 where
  num : {at : Span} → Means scope bytes (TNum at) (algebra.Num (pos (decimal_value (text bytes at))))
  name : {at : Span} {e : algebra.Tree} → Contains scope (text bytes at ∷ [], e) → Means scope bytes (TName at) e
  input : {at x : Span} {e : algebra.Tree} → Contains scope (text bytes at ∷ codes "." ∷ text bytes x ∷ [], e) → Means scope bytes (TInput at x) e
  neg : {at : Span} {t : Tree} {e : algebra.Tree} → Means scope bytes t e → Means scope bytes (TNeg at t) (algebra.Neg e)
  add : {at : Span} {t u : Tree} {e f : algebra.Tree} → Means scope bytes t e → Means scope bytes u f → Means scope bytes (TAdd at t u) (algebra.Add e f)
  sub : {at : Span} {t u : Tree} {e f : algebra.Tree} → Means scope bytes t e → Means scope bytes u f → Means scope bytes (TSub at t u) (algebra.Sub e f)
  mul : {at : Span} {t u : Tree} {e f : algebra.Tree} → Means scope bytes t e → Means scope bytes u f → Means scope bytes (TMul at t u) (algebra.Mul e f)
  pow : {at n : Span} {t : Tree} {e : algebra.Tree} → Means scope bytes t e
      → Means scope bytes (TPow at t n) (algebra.Pow e (decimal_value (text bytes n)))

-- the words by which a scope names something
pub data IsKey : List Word → Type 0 where
  short : {n : Word} → is_name n ≡ true → IsKey (n ∷ [])
  long : {n x : Word} → is_name n ≡ true → is_name x ≡ true → IsKey (n ∷ codes "." ∷ x ∷ [])

-- a scope names nothing by other words
abbrev pub HasKeys : NameScope → Type 0
HasKeys scope = (ws : List Word) (e : algebra.Tree) → Contains scope (ws, e) → IsKey ws

-- the sort of a level
abbrev pub sort : Level → Sort
sort told.Atom = grammar.Atom
sort told.Power = grammar.Power
sort told.Unary = grammar.Unary
sort told.Term = grammar.Term
sort told.Sum = grammar.Sum

-- tokens from place i up to place j that derive a tree which means e
pub record Read (scope : NameScope) (bytes : List ℕ) (ts : List Token) (s : Sort) (i j : ℕ) (e : algebra.Tree) : Type 0 where
  pub tree : Tree
  pub derives : Derives ts s i j tree
  pub means : Means scope bytes tree e

digit : (b : ℕ) → is_ascii_digit b ≡ true → (is_digit b ≡ true) × (is_letter b ≡ false)
digit b h = (grind (arith, nat_tests, h), grind (arith, nat_tests, h))

all_digits : (bs : List ℕ) → list_all is_ascii_digit bs ≡ true → every is_digit bs ≡ true
all_digits [] h = refl
all_digits (b ∷ bs) h =
    let p = and_parts (is_ascii_digit b) (list_all is_ascii_digit bs) h in
    let r = digit b p.0 in
    rw (r.0, all_digits bs p.1) refl

-- digits are a number
pub number_kind : (w : Word) → is_digits w ≡ true → kind_of w ≡ Some kind.Number
number_kind [] h = absurd (cc)
number_kind (b ∷ bs) h =
    let p = and_parts (list_all is_ascii_digit (b ∷ bs)) (nat_lt 0 (length (b ∷ bs))) h in
    let q = and_parts (is_ascii_digit b) (list_all is_ascii_digit bs) p.0 in
    let r = digit b q.0 in
    rw (r.1, r.0, all_digits bs q.1) refl

-- one more factor, and one more term
factor_more : {ts : List Token} {i j k : ℕ} {f e g : Tree} → Derives ts (grammar.Factors f) i j e → Is ts j kind.Star → Derives ts grammar.Unary (suc j) k g
    → Derives ts (grammar.Factors f) i k (TMul (span_at ts j) e g)
factor_more grammar.no_factor s d = grammar.times s d grammar.no_factor
factor_more (grammar.times t c rest) s d = grammar.times t c (factor_more rest s d)

plus_more : {ts : List Token} {i j k : ℕ} {f e g : Tree} → Derives ts (grammar.Terms f) i j e → Is ts j kind.Plus → Derives ts grammar.Term (suc j) k g
    → Derives ts (grammar.Terms f) i k (TAdd (span_at ts j) e g)
plus_more grammar.no_term s d = grammar.plus s d grammar.no_term
plus_more (grammar.plus t c rest) s d = grammar.plus t c (plus_more rest s d)
plus_more (grammar.less t c rest) s d = grammar.less t c (plus_more rest s d)

less_more : {ts : List Token} {i j k : ℕ} {f e g : Tree} → Derives ts (grammar.Terms f) i j e → Is ts j kind.Minus → Derives ts grammar.Term (suc j) k g
    → Derives ts (grammar.Terms f) i k (TSub (span_at ts j) e g)
less_more grammar.no_term s d = grammar.less s d grammar.no_term
less_more (grammar.plus t c rest) s d = grammar.plus t c (less_more rest s d)
less_more (grammar.less t c rest) s d = grammar.less t c (less_more rest s d)

term_times : {ts : List Token} {i j k : ℕ} {e g : Tree} → Derives ts grammar.Term i j e → Is ts j kind.Star → Derives ts grammar.Unary (suc j) k g
    → Derives ts grammar.Term i k (TMul (span_at ts j) e g)
term_times (grammar.term d f) s c = grammar.term d (factor_more f s c)

sum_plus : {ts : List Token} {i j k : ℕ} {e g : Tree} → Derives ts grammar.Sum i j e → Is ts j kind.Plus → Derives ts grammar.Term (suc j) k g
    → Derives ts grammar.Sum i k (TAdd (span_at ts j) e g)
sum_plus (grammar.sum d f) s c = grammar.sum d (plus_more f s c)

sum_less : {ts : List Token} {i j k : ℕ} {e g : Tree} → Derives ts grammar.Sum i j e → Is ts j kind.Minus → Derives ts grammar.Term (suc j) k g
    → Derives ts grammar.Sum i k (TSub (span_at ts j) e g)
sum_less (grammar.sum d f) s c = grammar.sum d (less_more f s c)

module _ (scope : NameScope) (bytes : List ℕ) (ts : List Token) (keys : HasKeys scope) where
  named : {i j : ℕ} {ws : List Word} {e : algebra.Tree} → Contains scope (ws, e) → IsKey ws → Placed bytes ts i ws j
      → Read scope bytes ts grammar.Atom i j e
  named {i = i} {e = e} c (short {n = n} h) (word k t none) = record {
    tree = TName (span_at ts i);
    derives = grammar.name (k ∙ name_kind n h);
    means = name (subst (λ (w : Word). Contains scope (w ∷ [], e)) (sym t) c);
  }
  named {i = i} {e = e} c (long {n = n} {x = x} h g) (word k t (word l u (word m v none))) = record {
    tree = TInput (span_at ts i) (span_at ts (suc (suc i)));
    derives = grammar.input (k ∙ name_kind n h) l (m ∙ name_kind x g);
    means =
        input (subst (λ (w : Word). Contains scope (w ∷ codes "." ∷ text bytes (span_at ts (suc (suc i))) ∷ [], e)) (sym t)
        (subst (λ (w : Word). Contains scope (n ∷ codes "." ∷ w ∷ [], e)) (sym v) c));
  }

  -- a first word, and those after it
  pub front : {i j : ℕ} {w : Word} {ws : List Word} → Placed bytes ts i (w ∷ ws) j → (kind_at ts i ≡ kind_of w) × Placed bytes ts (suc i) ws j
  front (word k t p) = (k, p)

  closed : {i m j : ℕ} {e : algebra.Tree} → Is ts i kind.ParL → Read scope bytes ts grammar.Sum (suc i) m e → Placed bytes ts m (codes ")" ∷ []) j
      → Read scope bytes ts grammar.Atom i j e
  closed k r (word l t none) = record { tree = r.tree; derives = grammar.parens k r.derives l; means = r.means }

  raised : {i m j : ℕ} {e : algebra.Tree} (n : Word) → is_digits n ≡ true → Read scope bytes ts grammar.Atom i m e
      → Placed bytes ts m (codes "^" ∷ n ∷ []) j → Read scope bytes ts grammar.Power i j (algebra.Pow e (decimal_value n))
  raised {m = m} {e = e} n d r (word k t (word l u none)) = record {
    tree = TPow (span_at ts m) r.tree (span_at ts (suc m));
    derives = grammar.power r.derives k (l ∙ number_kind n d);
    means =
        subst (λ (w : Word). Means scope bytes (TPow (span_at ts m) r.tree (span_at ts (suc m))) (algebra.Pow e (decimal_value w))) u
        (pow r.means);
  }

  -- the words of an expression are tokens of one
  pub read : {l : Level} {i j : ℕ} {ws : List Word} {e : algebra.Tree} → SaysTree scope l ws e → Placed bytes ts i ws j
      → Read scope bytes ts (sort l) i j e
  read {i = i} (told.number n d) (word k t none) = record {
    tree = TNum (span_at ts i);
    derives = grammar.number (k ∙ number_kind n d);
    means = subst (λ (w : Word). Means scope bytes (TNum (span_at ts i)) (algebra.Num (pos (decimal_value w)))) t num;
  }
  read (told.name {ws = ws} {e = e} c) p = named c (keys ws e c) p
  read (told.parens {ws = ws} s) (word k t p) =
      let q = split bytes ts ws (codes ")" ∷ []) p in
      let r = read s q.left in
      closed k r q.right
  read (told.atom s) p = let r = read s p in record { tree = r.tree; derives = grammar.plain r.derives; means = r.means }
  read (told.power {ws = ws} n s d) p =
      let q = split bytes ts ws (codes "^" ∷ n ∷ []) p in
      raised n d (read s q.left) q.right
  read (told.base s) p = let r = read s p in record { tree = r.tree; derives = grammar.base r.derives; means = r.means }
  read (told.minus s) (word k t p) = let r = read s p in record { tree = _; derives = grammar.minus k r.derives; means = neg r.means }
  read (told.factor s) p = let r = read s p in record { tree = r.tree; derives = grammar.term r.derives grammar.no_factor; means = r.means }
  read (told.times {us = us} {ws = ws} s u) p =
      let q = split bytes ts us (codes "*" ∷ ws) p in
      let r = read s q.left in
      let b = front q.right in
      let c = read u b.1 in
      record { tree = _; derives = term_times r.derives b.0 c.derives; means = mul r.means c.means }
  read (told.term s) p = let r = read s p in record { tree = r.tree; derives = grammar.sum r.derives grammar.no_term; means = r.means }
  read (told.plus {us = us} {ws = ws} s u) p =
      let q = split bytes ts us (codes "+" ∷ ws) p in
      let r = read s q.left in
      let b = front q.right in
      let c = read u b.1 in
      record { tree = _; derives = sum_plus r.derives b.0 c.derives; means = add r.means c.means }
  read (told.less {us = us} {ws = ws} s u) p =
      let q = split bytes ts us (codes "-" ∷ ws) p in
      let r = read s q.left in
      let b = front q.right in
      let c = read u b.1 in
      record { tree = _; derives = sum_less r.derives b.0 c.derives; means = sub r.means c.means }

-- ---- formulas
-- the number of a token is the value of its digits
pub number_is : (bytes : List ℕ) (at : Span) → names.number bytes at ≡ decimal_value (text bytes at)
number_is bytes at = refl

-- names resolve to what the scope has for them
pub record Linked (scope : NameScope) (bytes : List ℕ) (s : rules.Scope) (vars : List VarInfo) (closed : List algebra.Tree) : Type 0 where
  pub short : (at : Span) (e : algebra.Tree) → Contains scope (text bytes at ∷ [], e)
      → algebra.inlined closed (tree vars (resolved bytes s (TName at))) ≡ e
  pub long : (at x : Span) (e : algebra.Tree) → Contains scope (text bytes at ∷ codes "." ∷ text bytes x ∷ [], e)
      → algebra.inlined closed (tree vars (resolved bytes s (TInput at x))) ≡ e

-- so a tree that means e is a formula whose closed tree is e
pub closed_tree : {scope : NameScope} {bytes : List ℕ} (s : rules.Scope) (vars : List VarInfo) (closed : List algebra.Tree)
    → Linked scope bytes s vars closed → {t : Tree} {e : algebra.Tree} → Means scope bytes t e
    → algebra.inlined closed (tree vars (resolved bytes s t)) ≡ e
closed_tree {bytes = bytes} s vars lets k (num {at = at}) = ap (λ (n : ℕ). algebra.Num (pos n)) (number_is bytes at)
closed_tree s vars lets k (name {at = at} {e = e} c) = k.short at e c
closed_tree s vars lets k (input {at = at} {x = x} {e = e} c) = k.long at x e c
closed_tree s vars lets k (neg m) = ap algebra.Neg (closed_tree s vars lets k m)
closed_tree s vars lets k (add m n) = let a = closed_tree s vars lets k m in let b = closed_tree s vars lets k n in (λ i. algebra.Add (a i) (b i))
closed_tree s vars lets k (sub m n) = let a = closed_tree s vars lets k m in let b = closed_tree s vars lets k n in (λ i. algebra.Sub (a i) (b i))
closed_tree s vars lets k (mul m n) = let a = closed_tree s vars lets k m in let b = closed_tree s vars lets k n in (λ i. algebra.Mul (a i) (b i))
closed_tree {bytes = bytes} s vars lets k (pow {n = n} m) =
    let a = closed_tree s vars lets k m in let b = number_is bytes n in (λ i. algebra.Pow (a i) (b i))
