-- The canonical text of what tokens say has no more tokens than they are, and no deeper parentheses.
use Rattle.std.proofs.Common.{◌≡◌, ℕ, suc, ◌+◌, ◌-◌, ◌≤◌, ◌||◌, ◌&&◌, true, false, List, take, Option, Some, None, refl, ◌∙◌, arith}
use Rattle.std.specs.Prelude.{slice_get, position, max}
use Rattle.std.proofs.lemmas.Bool.{and_parts}
use Rattle.std.proofs.lemmas.Bool.Decides.{nat_tests}
use Rattle.ln_syntax.specs.Raw.{Span, Token, Item, Is, span_at, same, Kind, Name, Number, ParL, ParR, Dot, Plus, Minus, Star, Caret}
use Rattle.ln_names.specs.Rules.{RawArg, RawLet, Scope, scope, has_let, has_param_arg, is_site_arg, is_param_arg}
use Rattle.ln_syntax.specs.Place.{depth_behind, depth_after, IsShallow}
use Rattle.ln_syntax.specs.Expression.{Tree, Sort, Atom, Term, Sum, Factors, Terms, Derives, number, name, input, parens, plain, power, base, minus, term}
use Rattle.ln_syntax.specs.Expression.{no_factor, times, sum, no_term, plus, less}
use Rattle.ln_syntax.proofs.Recognising.Depth.{depth_taken}
use Rattle.ln_parse.specs.Says.{Formula, ArgOf, SiteArg, ParamArg, place, name_of, resolved}
use Rattle.ln_tree.specs.Whole.{tightness, pairs, nesting, input_tokens, tokens_of}
use Rattle.ln_parse.specs.Ready.{Fit}
use Rattle.ln_parse.proofs.Expressions.Found.{found_at, no_position}
use Rattle.ln_parse.proofs.Expressions.Fitting.{said, said_at, said_param}
use Rattle.ln_parse.proofs.Texts.Nested.{nesting_is, tokens_are}

few : (o : Option ArgOf) → input_tokens o ≤ 3
few None = omega arith
few (Some (SiteArg n t)) = omega arith
few (Some (ParamArg p)) = omega arith

-- a bare name is one token
param_one : (bytes : List ℕ) (is : List Item) (raws : List RawArg) (at : Span) → has_param_arg bytes raws at ≡ true
    → input_tokens (slice_get (said bytes is raws) (place (λ a. is_param_arg a && same bytes a.name at) raws)) ≡ 1
param_one bytes is raws at h =
    let p = λ (a : RawArg). is_param_arg a && same bytes a.name at in
    let f = found_at p raws h in
    let yes : f.element.is_param ≡ true = (and_parts (is_param_arg f.element) (same bytes f.element.name at) f.passes).0 in
    let here = said_at bytes is raws (place p raws) f.element f.there in
    let q = said_param bytes is f.element f.element.is_param yes in
    rw here (rw q refl)

name_one : (bytes : List ℕ) (is : List Item) (raws : List RawArg) (ls : List RawLet) (at : Span) (o : Option ℕ)
    → position (λ l. same bytes l.name at) ls ≡ o → (has_let bytes ls at || has_param_arg bytes raws at) ≡ true
    → (r : ℕ) → tokens_of (said bytes is raws) r (name_of bytes (scope is raws ls) at o) ≡ 1
name_one bytes is raws ls at (Some j) e h r = refl
name_one bytes is raws ls at None e h r =
    let n : has_let bytes ls at ≡ false = no_position (λ (l : RawLet). same bytes l.name at) ls e in
    let q : has_param_arg bytes raws at ≡ true = rw n at h in
    param_one bytes is raws at q

pairs_grow : (j k t : ℕ) → j ≤ k → (pairs j t ≤ pairs k t) × (pairs k t ≤ 1)
pairs_grow j k t h = (grind (arith, nat_tests), grind (arith, nat_tests))

-- how many parentheses are open before place i
abbrev depth : List Token → ℕ → ℕ
depth ts i = depth_after 0 (take i ts)

passed : (ts : List Token) (i : ℕ) (k : Kind) → Is ts i k → depth ts (suc i) ≡ depth_behind (depth ts i) k
passed ts i k h = depth_taken ts i k 0 h

-- From place i to place j there are at least the tokens of the canonical text of an expression where tightness r is wanted; no parenthesis
-- is open that wasn't, and those of the canonical text are nested at most 64 deep.
record Covers (args : List ArgOf) (ts : List Token) (r i j : ℕ) (e : Formula) : Type 0 where
  pub enough : i + tokens_of args r e ≤ j
  pub back : depth ts j ≡ depth ts i
  pub shallow : nesting r e ≤ 64 - depth ts i

-- where less tightness is wanted there are fewer tokens and parentheses
loose : {args : List ArgOf} {ts : List Token} {k i l : ℕ} {e : Formula} (j : ℕ) → j ≤ k → k ≤ 3 → Covers args ts k i l e → Covers args ts j i l e
loose {args = args} {k = k} {e = e} j n m c =
    let p = (pairs_grow j k (tightness e) n).0 in
    let a = c.enough in
    let b = c.shallow in
    let t = tokens_are args j (omega arith) e in
    let u = tokens_are args k m e in
    let x = nesting_is j (omega arith) e in
    let y = nesting_is k m e in
    record { enough = omega arith; back = c.back; shallow = omega arith }

-- two operands with a token between them
two : {args : List ArgOf} {ts : List Token} {q r n i j : ℕ} {e f : Formula} → Covers args ts q n i e → depth ts (suc i) ≡ depth ts i
    → Covers args ts r (suc i) j f → (k : ℕ) (g : Formula) → tokens_of args k g ≡ 1 + (tokens_of args q e + tokens_of args r f)
    → nesting k g ≡ max (nesting q e) (nesting r f) → Covers args ts k n j g
two a s b k g t u =
    let a1 = a.enough in let a2 = a.back in let a3 = a.shallow in
    let b1 = b.enough in let b2 = b.back in let b3 = b.shallow in
    record { enough = omega arith; back = omega arith; shallow = omega arith }

name_flat : (bytes : List ℕ) (s : Scope) (at : Span) (o : Option ℕ) (r : ℕ) → nesting r (name_of bytes s at o) ≡ 0
name_flat bytes s at (Some j) r = refl
name_flat bytes s at None r = refl

module _ (bytes : List ℕ) (is : List Item) (raws : List RawArg) (ls : List RawLet) (ts : List Token) (h : IsShallow ts) where
  -- a fit expression is covered
  abbrev Covered : ℕ → ℕ → ℕ → Tree → Type 0
  Covered r i j e = Fit bytes (scope is raws ls) e → Covers (said bytes is raws) ts r i j (resolved bytes (scope is raws ls) e)

  -- what goes on with an expression covers it with what it goes on from
  abbrev Result : Sort → ℕ → ℕ → Tree → Type 0
  Result Atom i j e = Covered 3 i j e
  Result Term i j e = Covered 1 i j e
  Result Sum i j e = Covered 0 i j e
  Result (Factors f) i j e = (n : ℕ) → Covered 1 n i f → Covered 1 n j e
  Result (Terms f) i j e = (n : ℕ) → Covered 0 n i f → Covered 0 n j e
  Result s i j e = Covered 2 i j e

  covers : {s : Sort} {i j : ℕ} {e : Tree} → Derives ts s i j e → Result s i j e
  covers (number {i = i} n) = λ m. record { enough = omega arith; back = passed ts i Number n; shallow = omega arith }
  covers (name {i = i} n) = λ m.
      let o = position (λ (l : RawLet). same bytes l.name (span_at ts i)) ls in
      let q = name_one bytes is raws ls (span_at ts i) o refl m 3 in
      let f = name_flat bytes (scope is raws ls) (span_at ts i) o 3 in
      record { enough = omega arith; back = passed ts i Name n; shallow = omega arith }
  covers (input {i = i} n d x) = λ m.
      let q = few (slice_get (said bytes is raws) (place (λ a. is_site_arg a && same bytes a.name (span_at ts i)) raws)) in
      record { enough = omega arith; back = passed ts (suc (suc i)) Name x ∙ passed ts (suc i) Dot d ∙ passed ts i Name n; shallow = omega arith }
  covers (parens {i = i} {j = j} {e = t} n d c) = λ m.
      let f = resolved bytes (scope is raws ls) t in
      let a = covers d m in
      let x = a.enough in let y = a.back in let z = a.shallow in
      let o = passed ts i ParL n in
      let q = passed ts j ParR c in
      let l = h i n in
      let p = (pairs_grow 0 3 (tightness f) (omega arith)).1 in
      let u = tokens_are (said bytes is raws) 3 (omega arith) f in
      let v = nesting_is 3 (omega arith) f in
      record { enough = omega arith; back = omega arith; shallow = omega arith }
  covers (plain d) = λ m. loose 2 (omega arith) (omega arith) (covers d m)
  covers (power {j = j} d c n) = λ m.
      let a = covers d m.0 in
      let x = a.enough in let z = a.shallow in
      record { enough = omega arith; back = passed ts (suc j) Number n ∙ passed ts j Caret c ∙ a.back; shallow = omega arith }
  covers (base d) = covers d
  covers (minus {i = i} k d) = λ m.
      let a = covers d m in
      let x = a.enough in let z = a.shallow in
      let p = passed ts i Minus k in
      record { enough = omega arith; back = a.back ∙ p; shallow = omega arith }
  covers (term {i = i} d r) = covers r i (λ m. loose 1 (omega arith) (omega arith) (covers d m))
  covers no_factor = λ n b. b
  covers (times {i = i} t d r) = λ n b. covers r n (λ m. two (b m.0) (passed ts i Star t) (covers d m.1) 1 _ (omega arith) (omega arith))
  covers (sum {i = i} d r) = covers r i (λ m. loose 0 (omega arith) (omega arith) (covers d m))
  covers no_term = λ n b. b
  covers (plus {i = i} t d r) = λ n b. covers r n (λ m. two (b m.0) (passed ts i Plus t) (covers d m.1) 0 _ (omega arith) (omega arith))
  covers (less {i = i} t d r) = λ n b. covers r n (λ m. two (b m.0) (passed ts i Minus t) (covers d m.1) 0 _ (omega arith) (omega arith))

  -- the canonical text of a fit expression has no more tokens than it is said with, and its parentheses are nested at most 64 deep
  pub expression_covers : {i j : ℕ} {e : Tree} → Derives ts Sum i j e → Fit bytes (scope is raws ls) e
      → (i + tokens_of (said bytes is raws) 0 (resolved bytes (scope is raws ls) e) ≤ j) × (nesting 0 (resolved bytes (scope is raws ls) e) ≤ 64)
  expression_covers d m = let a = covers d m in let z = a.shallow in (a.enough, omega arith)
