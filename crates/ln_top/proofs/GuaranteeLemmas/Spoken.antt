-- What tokens spell, their texts say: the way back from tokens to words, for expressions and items whose meaning is known.
use Rattle.std.proofs.Common.{◌≡◌, ◌≢◌, ℕ, zero, suc, Bool, true, false, cond, Option, Some, None, ℤ, refl, ap, sym, ◌∙◌, subst}
use Rattle.std.specs.Prelude.{◌&&◌, ◌||◌, ◌==◌, not, List, [], ◌∷◌, ◌++◌, bytes_eq, codes, nat_lt, length}
use Rattle.std.specs.List.{list_all}
use Rattle.std.specs.Char.{is_ascii_digit}
use Rattle.std.proofs.lemmas.Bool.{eqb-true, and_parts, lt-ltb}
use Rattle.std.proofs.Common.{arith}
use Rattle.ln_base.proofs.Texts.Lists.{equal_bytes}
use Rattle.ln_base.specs.Decimal.{is_digits}
use Rattle.ln_base.specs.Words.{every, is_digit, is_letter, is_name, is_name_byte}
use Rattle.ln_algebra.specs.Tree as algebra
use Rattle.ln_lex.specs.declared.token.Token.{Token}
use Rattle.ln_lex.specs.declared.token.Kind.{Kind}
use Rattle.ln_lex.specs.declared.token.Kind.TheVariants as kind
use Rattle.ln_lex.specs.Tokens.{kind_of, sign_kind, sign_of, word_kind}
use Rattle.ln_syntax.specs.declared.raw.RawArg.{RawArg}
use Rattle.ln_syntax.specs.declared.raw.RawCoord.{RawCoord}
use Rattle.ln_syntax.specs.declared.raw.RawEnd.{RawEnd}
use Rattle.ln_syntax.specs.declared.raw.RawLet.{RawLet}
use Rattle.ln_syntax.specs.declared.raw.RawRange.{RawRange}
use Rattle.ln_syntax.specs.Expression as grammar
use Rattle.ln_syntax.specs.Expression.{Derives, Sort, Tree, TNum, TName, TInput, TNeg, TAdd, TSub, TMul, TPow}
use Rattle.ln_syntax.specs.File as file
use Rattle.ln_syntax.specs.Raw.{Is, Item, span_at, text}
use Rattle.ln_parse.proofs.Texts.Names.{Sliced}
use Rattle.ln_top.specs.Guarantee as told
use Rattle.ln_top.specs.Guarantee.{AreArguments, AreItems, AreLets, AreRanged, PredArgument, IsArgument}
use Rattle.ln_top.specs.Guarantee.{IsEnd, Level, Predicate, Ranged, SaysTree, NameScope}
use Rattle.ln_top.specs.Guarantee.{SiteType, Word}
use Rattle.ln_top.proofs.GuaranteeLemmas.Expr.{Means, num, name, input, neg, add, sub, mul, pow, Placed, none, word}
use Rattle.ln_top.proofs.GuaranteeLemmas.Items as mean
use Rattle.ln_top.proofs.GuaranteeLemmas.Items.{ArgMeans, ArgsMean, CoordsMean, EndMeans, ItemsMean, LetsMean, RangeMeans}
use Rattle.ln_top.proofs.GuaranteeLemmas.Lex.{same_digits}

-- ---- the texts of each kind
abbrev HasText : Kind → Word → Type 0
HasText kind.Name w = is_name w ≡ true
HasText kind.Number w = is_digits w ≡ true
HasText kind.Site w = w ≡ codes "site"
HasText kind.Param w = w ≡ codes "param"
HasText kind.Predicate w = w ≡ codes "predicate"
HasText kind.Let w = w ≡ codes "let"
HasText kind.Sign w = w ≡ codes "sign"
HasText kind.BraceL w = w ≡ codes "{"
HasText kind.BraceR w = w ≡ codes "}"
HasText kind.ParL w = w ≡ codes "("
HasText kind.ParR w = w ≡ codes ")"
HasText kind.Colon w = w ≡ codes ":"
HasText kind.Semi w = w ≡ codes ";"
HasText kind.Comma w = w ≡ codes ","
HasText kind.Dot w = w ≡ codes "."
HasText kind.Dots w = w ≡ codes ".."
HasText kind.Plus w = w ≡ codes "+"
HasText kind.Minus w = w ≡ codes "-"
HasText kind.Star w = w ≡ codes "*"
HasText kind.Caret w = w ≡ codes "^"
HasText kind.Equals w = w ≡ codes "="

pick : (w : Word) (v : Bool) (k : Kind) (o : Option Kind) → (v ≡ true → HasText k w) → ((j : Kind) → o ≡ Some j → HasText j w) → (j : Kind)
    → cond v (Some k) o ≡ Some j → HasText j w
pick w true k o a b j e = let q : k ≡ j = cc in subst (λ (z : Kind). HasText z w) q (a refl)
pick w false k o a b j e = b j e

no_text : (w : Word) (j : Kind) → None ≡ Some j → HasText j w
no_text w j e = absurd (cc)

one_byte : (b c : ℕ) → (b == c) ≡ true → b ∷ [] ≡ c ∷ []
one_byte b c e = ap (λ (x : ℕ). x ∷ []) (eqb-true b c e)

sign_text : (b : ℕ) (j : Kind) → sign_of b ≡ Some j → HasText j (b ∷ [])
sign_text b =
    pick (b ∷ []) (b == 123) kind.BraceL _ (one_byte b 123) (pick (b ∷ []) (b == 125) kind.BraceR _ (one_byte b 125)
    (pick (b ∷ []) (b == 40) kind.ParL _ (one_byte b 40) (pick (b ∷ []) (b == 41) kind.ParR _ (one_byte b 41)
    (pick (b ∷ []) (b == 58) kind.Colon _ (one_byte b 58) (pick (b ∷ []) (b == 59) kind.Semi _ (one_byte b 59)
    (pick (b ∷ []) (b == 44) kind.Comma _ (one_byte b 44) (pick (b ∷ []) (b == 46) kind.Dot _ (one_byte b 46)
    (pick (b ∷ []) (b == 43) kind.Plus _ (one_byte b 43) (pick (b ∷ []) (b == 45) kind.Minus _ (one_byte b 45)
    (pick (b ∷ []) (b == 42) kind.Star _ (one_byte b 42) (pick (b ∷ []) (b == 94) kind.Caret _ (one_byte b 94)
    (pick (b ∷ []) (b == 61) kind.Equals None (one_byte b 61) (no_text (b ∷ []))))))))))))))

two_bytes : (b c : ℕ) → ((b == 46) && (c == 46)) ≡ true → b ∷ c ∷ [] ≡ codes ".."
two_bytes b c e =
    let p = and_parts (b == 46) (c == 46) e in
    ap (λ (x : ℕ). x ∷ c ∷ []) (eqb-true b 46 p.0) ∙ ap (λ (x : ℕ). 46 ∷ x ∷ []) (eqb-true c 46 p.1)

signs_text : (b : ℕ) (bs : List ℕ) (j : Kind) → sign_kind b bs ≡ Some j → HasText j (b ∷ bs)
signs_text b [] j e = sign_text b j e
signs_text b (c ∷ []) j e = pick (b ∷ c ∷ []) ((b == 46) && (c == 46)) kind.Dots None (two_bytes b c) (no_text (b ∷ c ∷ [])) j e
signs_text b (c ∷ d ∷ bs) j e = absurd (cc)

-- a keyword, or else a name
word_by : (w : Word) (s p q l g : Bool) → bytes_eq w (codes "site") ≡ s → bytes_eq w (codes "param") ≡ p → bytes_eq w (codes "predicate") ≡ q
    → bytes_eq w (codes "let") ≡ l → bytes_eq w (codes "sign") ≡ g → (not (s || p || q || l || g) ≡ true → is_name w ≡ true)
    → HasText (cond s kind.Site (cond p kind.Param (cond q kind.Predicate (cond l kind.Let (cond g kind.Sign kind.Name))))) w
word_by w true p q l g a b c d e n = equal_bytes w (codes "site") a
word_by w false true q l g a b c d e n = equal_bytes w (codes "param") b
word_by w false false true l g a b c d e n = equal_bytes w (codes "predicate") c
word_by w false false false true g a b c d e n = equal_bytes w (codes "let") d
word_by w false false false false true a b c d e n = equal_bytes w (codes "sign") e
word_by w false false false false false a b c d e n = n refl

word_text : (b : ℕ) (bs : List ℕ) → is_letter b ≡ true → every is_name_byte bs ≡ true → HasText (word_kind (b ∷ bs)) (b ∷ bs)
word_text b bs l n =
    let w = b ∷ bs in
    word_by w (bytes_eq w (codes "site")) (bytes_eq w (codes "param")) (bytes_eq w (codes "predicate")) (bytes_eq w (codes "let"))
    (bytes_eq w (codes "sign")) refl refl refl refl refl (λ k. rw (l, n) k)

number_text : (b : ℕ) (bs : List ℕ) → is_digit b ≡ true → every is_digit bs ≡ true → is_digits (b ∷ bs) ≡ true
number_text b bs d n =
    let e : is_ascii_digit b ≡ true = d in
    let m : list_all is_ascii_digit bs ≡ true = sym (same_digits bs) ∙ n in
    let l : nat_lt 0 (suc (length bs)) ≡ true = lt-ltb 0 (suc (length bs)) (omega arith) in
    rw (e, m, l) refl

has_text : (w : Word) (j : Kind) → kind_of w ≡ Some j → HasText j w
has_text [] j e = absurd (cc)
has_text (b ∷ bs) j e = go (is_letter b) (is_digit b) (every is_name_byte bs) (every is_digit bs) refl refl refl refl e
  where
    go : (l d n m : Bool) → is_letter b ≡ l → is_digit b ≡ d → every is_name_byte bs ≡ n → every is_digit bs ≡ m
        → cond l (cond n (Some (word_kind (b ∷ bs))) None) (cond d (cond m (Some kind.Number) None) (sign_kind b bs)) ≡ Some j → HasText j (b ∷ bs)
    go true d true m p q r s k = let z : word_kind (b ∷ bs) ≡ j = cc in subst (λ (y : Kind). HasText y (b ∷ bs)) z (word_text b bs p r)
    go true d false m p q r s k = absurd (cc)
    go false true n true p q r s k = let z : kind.Number ≡ j = cc in subst (λ (y : Kind). HasText y (b ∷ bs)) z (number_text b bs q s)
    go false true n false p q r s k = absurd (cc)
    go false false n m p q r s k = signs_text b bs j k

module _ (bytes : List ℕ) (ts : List Token) (slices : Sliced bytes ts) where
  sliced_at : (us : List Token) → Sliced bytes us → (i : ℕ) (k : Kind) → Is us i k → kind_of (text bytes (span_at us i)) ≡ Some k
  sliced_at [] h i k n = absurd (cc)
  sliced_at (t ∷ us) h zero k n = let q : t.kind ≡ k = cc in h.0 ∙ ap (λ (w : Kind). Some w) q
  sliced_at (t ∷ us) h (suc i) k n = sliced_at us h.1 i k n

  -- the text of a token of this kind
  text_at : (i : ℕ) (k : Kind) → Is ts i k → HasText k (text bytes (span_at ts i))
  text_at i k n = has_text (text bytes (span_at ts i)) k (sliced_at ts slices i k n)

  -- one word more in front
  front : {i j : ℕ} {ws : List Word} (k : Kind) (w : Word) → Is ts i k → text bytes (span_at ts i) ≡ w → Placed bytes ts (suc i) ws j
      → Placed bytes ts i (w ∷ ws) j
  front {i = i} k w n e p = word (n ∙ sym (ap kind_of (sym e) ∙ sliced_at ts slices i k n)) e p

  joined : {i k j : ℕ} {us ws : List Word} → Placed bytes ts i us k → Placed bytes ts k ws j → Placed bytes ts i (us ++ ws) j
  joined none p = p
  joined (word k e q) p = word k e (joined q p)

  -- ---- expressions
  module _ (scope : NameScope) where
    record Spoken (l : Level) (i j : ℕ) (e : algebra.Tree) : Type 0 where
      ws : List Word
      says : SaysTree scope l ws e
      placed : Placed bytes ts i ws j

    abbrev SpokenOf : Sort → ℕ → ℕ → Tree → Type 0
    SpokenOf grammar.Atom i j t = (e : algebra.Tree) → Means scope bytes t e → Spoken told.Atom i j e
    SpokenOf grammar.Power i j t = (e : algebra.Tree) → Means scope bytes t e → Spoken told.Power i j e
    SpokenOf grammar.Unary i j t = (e : algebra.Tree) → Means scope bytes t e → Spoken told.Unary i j e
    SpokenOf grammar.Term i j t = (e : algebra.Tree) → Means scope bytes t e → Spoken told.Term i j e
    SpokenOf grammar.Sum i j t = (e : algebra.Tree) → Means scope bytes t e → Spoken told.Sum i j e
    SpokenOf (grammar.Factors f) i j t =
        (h : ℕ) → ((e : algebra.Tree) → Means scope bytes f e → Spoken told.Term h i e) → (e : algebra.Tree) → Means scope bytes t e → Spoken told.Term h j e
    SpokenOf (grammar.Terms f) i j t =
        (h : ℕ) → ((e : algebra.Tree) → Means scope bytes f e → Spoken told.Sum h i e) → (e : algebra.Tree) → Means scope bytes t e → Spoken told.Sum h j e

    number_back : {i : ℕ} → Is ts i kind.Number → SpokenOf grammar.Atom i (suc i) (TNum (span_at ts i))
    number_back {i = i} k e num =
        let w = text bytes (span_at ts i) in
        record { ws = w ∷ []; says = told.number w (text_at _ kind.Number k); placed = front kind.Number w k refl none }

    name_back : {i : ℕ} → Is ts i kind.Name → SpokenOf grammar.Atom i (suc i) (TName (span_at ts i))
    name_back {i = i} k e (name c) = record { ws = text bytes (span_at ts i) ∷ []; says = told.name c; placed = front kind.Name _ k refl none }

    input_back : {i : ℕ} → Is ts i kind.Name → Is ts (suc i) kind.Dot → Is ts (suc (suc i)) kind.Name
        → SpokenOf grammar.Atom i (suc (suc (suc i))) (TInput (span_at ts i) (span_at ts (suc (suc i))))
    input_back {i = i} k l m e (input c) = record {
      ws = text bytes (span_at ts i) ∷ codes "." ∷ text bytes (span_at ts (suc (suc i))) ∷ [];
      says = told.name c;
      placed = front kind.Name _ k refl (front kind.Dot (codes ".") l (text_at _ kind.Dot l) (front kind.Name _ m refl none));
    }

    parens_back : {i j : ℕ} {t : Tree} → Is ts i kind.ParL → SpokenOf grammar.Sum (suc i) j t → Is ts j kind.ParR → SpokenOf grammar.Atom i (suc j) t
    parens_back k f c e m =
        let r = f e m in
        record {
          ws = codes "(" ∷ r.ws ++ codes ")" ∷ [];
          says = told.parens r.says;
          placed = front kind.ParL (codes "(") k (text_at _ kind.ParL k) (joined r.placed (front kind.ParR (codes ")") c (text_at _ kind.ParR c) none));
        }

    power_back : {i j : ℕ} {t : Tree} → SpokenOf grammar.Atom i j t → Is ts j kind.Caret → Is ts (suc j) kind.Number
        → SpokenOf grammar.Power i (suc (suc j)) (TPow (span_at ts j) t (span_at ts (suc j)))
    power_back {j = j} f c n _ (pow {e = e} m) =
        let r = f e m in
        let w = text bytes (span_at ts (suc j)) in
        record {
          ws = r.ws ++ codes "^" ∷ w ∷ [];
          says = told.power w r.says (text_at _ kind.Number n);
          placed = joined r.placed (front kind.Caret (codes "^") c (text_at _ kind.Caret c) (front kind.Number w n refl none));
        }

    minus_back : {i j : ℕ} {t : Tree} → Is ts i kind.Minus → SpokenOf grammar.Unary (suc i) j t → SpokenOf grammar.Unary i j (TNeg (span_at ts i) t)
    minus_back k f _ (neg {e = e} m) =
        let r = f e m in
        record { ws = codes "-" ∷ r.ws; says = told.minus r.says; placed = front kind.Minus (codes "-") k (text_at _ kind.Minus k) r.placed }

    times_back : {h i j : ℕ} {t u : Tree} → Is ts i kind.Star → SpokenOf grammar.Unary (suc i) j u
        → ((e : algebra.Tree) → Means scope bytes t e → Spoken told.Term h i e) → (e : algebra.Tree) → Means scope bytes (TMul (span_at ts i) t u) e
        → Spoken told.Term h j e
    times_back k g f _ (mul {e = e} {f = d} m n) =
        let a = f e m in
        let b = g d n in
        record {
          ws = a.ws ++ codes "*" ∷ b.ws;
          says = told.times a.says b.says;
          placed = joined a.placed (front kind.Star (codes "*") k (text_at _ kind.Star k) b.placed);
        }

    plus_back : {h i j : ℕ} {t u : Tree} → Is ts i kind.Plus → SpokenOf grammar.Term (suc i) j u
        → ((e : algebra.Tree) → Means scope bytes t e → Spoken told.Sum h i e) → (e : algebra.Tree) → Means scope bytes (TAdd (span_at ts i) t u) e
        → Spoken told.Sum h j e
    plus_back k g f _ (add {e = e} {f = d} m n) =
        let a = f e m in
        let b = g d n in
        record {
          ws = a.ws ++ codes "+" ∷ b.ws;
          says = told.plus a.says b.says;
          placed = joined a.placed (front kind.Plus (codes "+") k (text_at _ kind.Plus k) b.placed);
        }

    less_back : {h i j : ℕ} {t u : Tree} → Is ts i kind.Minus → SpokenOf grammar.Term (suc i) j u
        → ((e : algebra.Tree) → Means scope bytes t e → Spoken told.Sum h i e) → (e : algebra.Tree) → Means scope bytes (TSub (span_at ts i) t u) e
        → Spoken told.Sum h j e
    less_back k g f _ (sub {e = e} {f = d} m n) =
        let a = f e m in
        let b = g d n in
        record {
          ws = a.ws ++ codes "-" ∷ b.ws;
          says = told.less a.says b.says;
          placed = joined a.placed (front kind.Minus (codes "-") k (text_at _ kind.Minus k) b.placed);
        }

    -- the texts of the tokens of a tree that means e say e
    spoken : {s : Sort} {i j : ℕ} {t : Tree} → Derives ts s i j t → SpokenOf s i j t
    spoken (grammar.number k) = number_back k
    spoken (grammar.name k) = name_back k
    spoken (grammar.input k l m) = input_back k l m
    spoken (grammar.parens k d c) = parens_back k (spoken d) c
    spoken (grammar.plain d) = λ e m. let r = spoken d e m in record { ws = r.ws; says = told.atom r.says; placed = r.placed }
    spoken (grammar.power d c n) = power_back (spoken d) c n
    spoken (grammar.base d) = λ e m. let r = spoken d e m in record { ws = r.ws; says = told.base r.says; placed = r.placed }
    spoken (grammar.minus k d) = minus_back k (spoken d)
    spoken (grammar.term d f) = spoken f _ (λ e m. let r = spoken d e m in record { ws = r.ws; says = told.factor r.says; placed = r.placed })
    spoken grammar.no_factor = λ h f. f
    spoken (grammar.times k d r) = λ h f. spoken r h (times_back k (spoken d) f)
    spoken (grammar.sum d f) = spoken f _ (λ e m. let r = spoken d e m in record { ws = r.ws; says = told.term r.says; placed = r.placed })
    spoken grammar.no_term = λ h f. f
    spoken (grammar.plus k d r) = λ h f. spoken r h (plus_back k (spoken d) f)
    spoken (grammar.less k d r) = λ h f. spoken r h (less_back k (spoken d) f)

  -- ---- ranges
  record SpokenEnd (i j : ℕ) (z : ℤ) : Type 0 where
    ws : List Word
    is : IsEnd ws z
    placed : Placed bytes ts i ws j

  end_back : {i j : ℕ} {e : RawEnd} {z : ℤ} → file.End ts i j e → EndMeans bytes e z → SpokenEnd i j z
  end_back {i = i} (file.plain k) (mean.plain h) =
      let w = text bytes (span_at ts i) in
      record { ws = w ∷ []; is = told.plain w (text_at _ kind.Number k); placed = front kind.Number w k refl none }
  end_back (file.plain k) (mean.minus h) = absurd (cc)
  end_back (file.minus k n) (mean.plain h) = absurd (cc)
  end_back {i = i} (file.minus k n) (mean.minus h) =
      let w = text bytes (span_at ts (suc i)) in
      record {
        ws = codes "-" ∷ w ∷ [];
        is = told.minus w (text_at _ kind.Number n);
        placed = front kind.Minus (codes "-") k (text_at _ kind.Minus k) (front kind.Number w n refl none);
      }

  record SpokenRanged (i j : ℕ) (rs : List Ranged) : Type 0 where
    ws : List Word
    are : AreRanged ws rs
    placed : Placed bytes ts i ws j

  -- one NAME : LOW .. HIGH ; more
  ranged_back : {i j k : ℕ} {raw : RawRange} {r : Ranged} {rs : List Ranged} → Is ts i kind.Name → Is ts (suc i) kind.Colon
      → file.Range ts (suc (suc i)) j raw → Is ts j kind.Semi → text bytes (span_at ts i) ≡ r.name → RangeMeans bytes raw r
      → SpokenRanged (suc j) k rs → SpokenRanged i k (r ∷ rs)
  ranged_back {r = r} n c (file.range a d b) s e m rest =
      let l = end_back a m.low in
      let h = end_back b m.high in
      record {
        ws = r.name ∷ codes ":" ∷ l.ws ++ (codes ".." ∷ h.ws ++ (codes ";" ∷ rest.ws));
        are = told.more (subst (λ (w : Word). is_name w ≡ true) e (text_at _ kind.Name n)) l.is h.is rest.are;
        placed = front kind.Name r.name n e (front kind.Colon (codes ":") c (text_at _ kind.Colon c)
            (joined l.placed (front kind.Dots (codes "..") d (text_at _ kind.Dots d)
            (joined h.placed (front kind.Semi (codes ";") s (text_at _ kind.Semi s) rest.placed)))));
      }

  coords_back : {i j : ℕ} {cs : List RawCoord} {rs : List Ranged} → file.Coords ts i j cs → CoordsMean bytes cs rs → SpokenRanged i j rs
  coords_back file.no_coord mean.no_coord = record { ws = []; are = told.none; placed = none }
  coords_back (file.coord n c g s rest) (mean.coord e m more) = ranged_back n c g s e m (coords_back rest more)

  -- ---- arguments
  record SpokenArg (types : List SiteType) (params : List Ranged) (i : ℕ) (a : PredArgument) : Type 0 where
    n : Word
    k : Word
    is : IsArgument types params n k a
    placed : {j : ℕ} {ws : List Word} → Placed bytes ts (suc (suc (suc i))) ws j → Placed bytes ts i (n ∷ codes ":" ∷ k ∷ ws) j

  arg_back : {types : List SiteType} {params : List Ranged} {i : ℕ} {raw : RawArg} {a : PredArgument} → file.Arg ts i raw
      → ArgMeans bytes types params raw a → SpokenArg types params i a
  arg_back {i = i} (file.site_arg n c k) (mean.a_site {t = t} q h d x) = record {
    n = text bytes (span_at ts i);
    k = t.name;
    is = told.site h d;
    placed = λ p. front kind.Name _ n refl (front kind.Colon (codes ":") c (text_at _ kind.Colon c) (front kind.Name t.name k x p));
  }
  arg_back (file.site_arg n c k) (mean.a_param q d x) = absurd (cc)
  arg_back (file.param_arg n c k) (mean.a_site q h d x) = absurd (cc)
  arg_back (file.param_arg n c k) (mean.a_param {p = p} q d x) = record {
    n = p.name;
    k = codes "param";
    is = told.param d;
    placed = λ r. front kind.Name p.name n x (front kind.Colon (codes ":") c (text_at _ kind.Colon c)
        (front kind.Param (codes "param") k (text_at _ kind.Param k) r));
  }

  record SpokenArgs (types : List SiteType) (params : List Ranged) (i j : ℕ) (args : List PredArgument) : Type 0 where
    ws : List Word
    are : AreArguments types params ws args
    placed : Placed bytes ts i ws j

  args_back : {types : List SiteType} {params : List Ranged} {i k : ℕ} {raws : List RawArg} {args : List PredArgument} → file.Args ts i k raws
      → Is ts k kind.ParR → ArgsMean bytes types params raws args → SpokenArgs types params i (suc k) args
  args_back (file.last_arg a) r (mean.an_arg m mean.no_arg) =
      let x = arg_back a m in
      record {
        ws = x.n ∷ codes ":" ∷ x.k ∷ codes ")" ∷ [];
        are = told.last x.is;
        placed = x.placed (front kind.ParR (codes ")") r (text_at _ kind.ParR r) none);
      }
  args_back (file.more_args a c rest) r (mean.an_arg m more) =
      let x = arg_back a m in
      let y = args_back rest r more in
      record {
        ws = x.n ∷ codes ":" ∷ x.k ∷ codes "," ∷ y.ws;
        are = told.more x.is y.are;
        placed = x.placed (front kind.Comma (codes ",") c (text_at _ kind.Comma c) y.placed);
      }

  -- ---- lets
  record SpokenLets (scope all : NameScope) (i j : ℕ) : Type 0 where
    ws : List Word
    are : AreLets scope ws all
    placed : Placed bytes ts i ws j

  lets_back : {scope all : NameScope} {i j : ℕ} {ls : List RawLet} → file.Lets ts i j ls → LetsMean bytes ts scope ls all → SpokenLets scope all i j
  lets_back file.no_let mean.no_let = record { ws = []; are = told.none; placed = none }
  lets_back {scope = scope} {i = i} (file.a_let k n q x s rest) (mean.a_let {e = e} v more) =
      let r = spoken scope v.derives e v.means in
      let y = lets_back {scope = (text bytes (span_at ts (suc i)) ∷ [], e) ∷ scope} rest more in
      record {
        ws = codes "let" ∷ text bytes (span_at ts (suc i)) ∷ codes "=" ∷ r.ws ++ codes ";" ∷ y.ws;
        are = told.more (text_at _ kind.Name n) r.says y.are;
        placed = front kind.Let (codes "let") k (text_at _ kind.Let k) (front kind.Name _ n refl (front kind.Equals (codes "=") q (text_at _ kind.Equals q)
            (joined r.placed (front kind.Semi (codes ";") s (text_at _ kind.Semi s) y.placed))));
      }

  -- ---- items
  some_words : {ws : List Word} {r : Ranged} {rs : List Ranged} → AreRanged ws (r ∷ rs) → ws ≢ []
  some_words (told.more n a b rest) = λ e. cc

  first_there : {c : RawCoord} {cs : List RawCoord} {rs : List Ranged} {ws : List Word} → CoordsMean bytes (c ∷ cs) rs → AreRanged ws rs → ws ≢ []
  first_there (mean.coord e m more) a = some_words a

  -- words of tokens that are items
  pub record SpokenItems (types : List SiteType) (params : List Ranged) (i j : ℕ) (ps : List Predicate) : Type 0 where
    pub ws : List Word
    pub are : AreItems types params ws ps
    pub placed : Placed bytes ts i ws j

  -- the texts of the tokens of items that mean predicates declare these
  pub items_back : {types : List SiteType} {params : List Ranged} {i j : ℕ} {is : List Item} {ps : List Predicate} → file.Items ts i j is
      → ItemsMean bytes ts types params is ps → SpokenItems types params i j ps
  items_back file.no_item mean.no_item = record { ws = []; are = told.none; placed = none }
  items_back {types = types} {params = params} (file.an_item (file.site k n b cs c) rest) (mean.a_type t e m more) =
      let x = coords_back cs m in
      let y = items_back {types = t ∷ types} {params = params} rest more in
      record {
        ws = codes "site" ∷ t.name ∷ codes "{" ∷ x.ws ++ codes "}" ∷ y.ws;
        are = told.site (subst (λ (w : Word). is_name w ≡ true) e (text_at _ kind.Name n)) x.are (first_there m x.are) y.are;
        placed = front kind.Site (codes "site") k (text_at _ kind.Site k) (front kind.Name t.name n e
            (front kind.BraceL (codes "{") b (text_at _ kind.BraceL b) (joined x.placed (front kind.BraceR (codes "}") c (text_at _ kind.BraceR c) y.placed))));
      }
  items_back {types = types} {params = params} (file.an_item (file.param k n c g s) rest) (mean.param p e m more) =
      let x = ranged_back n c g s e m (record { ws = []; are = told.none; placed = none }) in
      let y = items_back {types = types} {params = p ∷ params} rest more in
      record {
        ws = codes "param" ∷ x.ws ++ y.ws;
        are = told.param x.are y.are;
        placed = front kind.Param (codes "param") k (text_at _ kind.Param k) (joined x.placed y.placed);
      }
  items_back (file.an_item (file.predicate k n l args r b lets g x s c) rest) (mean.predicate {p = p} {scope = scope} e m ls v more) =
      let a = args_back args r m in
      let d = lets_back lets ls in
      let f = spoken scope v.derives p.root v.means in
      let y = items_back rest more in
      record {
        ws = codes "predicate" ∷ p.name ∷ codes "(" ∷ a.ws ++ (codes "{" ∷ d.ws ++ (codes "sign" ∷ f.ws ++ (codes ";" ∷ codes "}" ∷ y.ws)));
        are = told.predicate (subst (λ (w : Word). is_name w ≡ true) e (text_at _ kind.Name n)) a.are d.are f.says y.are;
        placed = front kind.Predicate (codes "predicate") k (text_at _ kind.Predicate k) (front kind.Name p.name n e
            (front kind.ParL (codes "(") l (text_at _ kind.ParL l) (joined a.placed (front kind.BraceL (codes "{") b (text_at _ kind.BraceL b)
            (joined d.placed (front kind.Sign (codes "sign") g (text_at _ kind.Sign g) (joined f.placed
            (front kind.Semi (codes ";") s (text_at _ kind.Semi s) (front kind.BraceR (codes "}") c (text_at _ kind.BraceR c) y.placed)))))))));
      }
