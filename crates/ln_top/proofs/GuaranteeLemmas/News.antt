-- The lets of a predicate are new after its inputs and the lets before them.
use Rattle.std.proofs.Common.{◌≡◌, ℕ, suc, arith, ◌+◌, length, Bool, true, false, ◌||◌, refl, ap, sym, ◌∙◌, subst}
use Rattle.std.specs.Prelude.{List, [], ◌∷◌, ◌++◌, Contains, bytes_eq}
use Rattle.std.specs.List.{list_any}
use Rattle.std.proofs.lemmas.Bool.{or_left, or_right}
use Rattle.std.proofs.lemmas.List.Folds.{list_any-append}
use Rattle.ln_algebra.specs.Tree as algebra
use Rattle.ln_syntax.specs.declared.raw.RawArg.{RawArg}
use Rattle.ln_syntax.specs.declared.raw.RawLet.{RawLet}
use Rattle.ln_lex.specs.declared.token.Token.{Token}
use Rattle.ln_syntax.specs.Raw.{Item, same, text}
use Rattle.ln_names.specs.Limits.{Each, LetWithin}
use Rattle.ln_parse.proofs.ReadBack.NamePlaces.{same_bytes}
use Rattle.ln_tree.specs.declared.shape.VarInfo.{VarInfo}
use Rattle.ln_top.specs.Guarantee.{PredArgument, Ranged, NameScope, SiteType, Word, inputs, numbered_inputs}
use Rattle.ln_top.proofs.GuaranteeLemmas.Items.{a_param, a_site, ArgsMean, an_arg, no_arg}
use Rattle.ln_top.proofs.GuaranteeLemmas.Lets.{AreNew, no_more, one_more}
use Rattle.ln_top.proofs.GuaranteeLemmas.Names.{nowhere, skip, tail_of, word_at}

module _ (bytes : List ℕ) (ts : List Token) (is : List Item) (args : List RawArg) (vars : List VarInfo) where
  -- each name of one word is an argument's or a let's
  abbrev AreTabled : NameScope → List RawLet → Type 0
  AreTabled names before = (w : Word) (f : algebra.Tree) → Contains names (w ∷ [], f)
      → (list_any (λ (a : RawArg). bytes_eq (text bytes a.name) w) args || list_any (λ (l : RawLet). bytes_eq (text bytes l.name) w) before) ≡ true

  parts : (a b : Bool) → (a || b) ≡ false → b ≡ false
  parts true b h = absurd (cc)
  parts false b h = h

  moved : (w : Word) (a : Bool) (xs ys : List RawLet) → (a || list_any (λ (l : RawLet). bytes_eq (text bytes l.name) w) xs) ≡ true
      → (a || list_any (λ (l : RawLet). bytes_eq (text bytes l.name) w) (xs ++ ys)) ≡ true
  moved w true xs ys h = refl
  moved w false xs ys h = list_any-append (λ (l : RawLet). bytes_eq (text bytes l.name) w) xs ys
      ∙ or_left (list_any (λ (l : RawLet). bytes_eq (text bytes l.name) w) xs) (list_any (λ (l : RawLet). bytes_eq (text bytes l.name) w) ys) h

  one_let : (names : NameScope) (before : List RawLet) (l : RawLet) (e : algebra.Tree) → AreTabled names before
      → AreTabled ((text bytes l.name ∷ [], e) ∷ names) (before ++ l ∷ [])
  one_let names before l e h w f c =
      let t : RawLet → Bool = λ (l : RawLet). bytes_eq (text bytes l.name) w in
      let a = list_any (λ (a : RawArg). bytes_eq (text bytes a.name) w) args in
      tail_of (text bytes l.name ∷ [], e) (w ∷ [], f) names ((a || list_any t (before ++ l ∷ [])) ≡ true) c
      (λ y.
      let n : text bytes l.name ≡ w = ap (λ (z : List Word × algebra.Tree). word_at 0 z.0) y in
      let s : t l ≡ true = subst (λ (u : Word). bytes_eq (text bytes l.name) u ≡ true) n (same_bytes (text bytes l.name)) in
      let o : list_any t (before ++ l ∷ []) ≡ true = list_any-append t before (l ∷ []) ∙ or_right (list_any t before) (list_any t (l ∷ [])) (rw s refl) in
      or_right a (list_any t (before ++ l ∷ [])) o)
      (λ d. moved w a before (l ∷ []) (h w f d))

  lets_new : (ls : List RawLet) (names : NameScope) (before : List RawLet) → AreTabled names before → Each (LetWithin bytes ts is args) before ls
      → AreNew bytes ts is args vars names before ls
  lets_new [] names before h e = no_more
  lets_new (l ∷ ls) names before h e =
      one_more (record {
        fresh = λ f c. let a = h (text bytes l.name) f c in let b = e.0.new in absurd (let z : true ≡ false = sym a ∙ b in cc);
        none = λ at n.
            nowhere (λ (k : RawLet). same bytes k.name at) before
            (subst (λ (w : Word). list_any (λ (k : RawLet). bytes_eq (text bytes k.name) w) before ≡ false) n
            (parts (list_any (λ (a : RawArg). same bytes a.name l.name) args) (list_any (λ (m : RawLet). same bytes m.name l.name) before) e.0.new));
      }) (λ f. lets_new ls ((text bytes l.name ∷ [], f) ∷ names) (before ++ l ∷ []) (one_let names before l f h) e.1)

inputs_of : (bytes : List ℕ) (types : List SiteType) (params : List Ranged) {rargs : List RawArg} {bs : List PredArgument}
    → ArgsMean bytes types params rargs bs → (v : ℕ) (w : Word) (f : algebra.Tree)
    → Contains (numbered_inputs v (inputs bs)) (w ∷ [], f) → list_any (λ (a : RawArg). bytes_eq (text bytes a.name) w) rargs ≡ true
inputs_of bytes types params no_arg v w f c = absurd (omega (arith, c.1))
inputs_of bytes types params (an_arg {as' = rest} {bs = bs} (a_site {a = a} {t = t} q n d x) m) v w f c =
    or_right (bytes_eq (text bytes a.name) w) (list_any (λ (a : RawArg). bytes_eq (text bytes a.name) w) rest)
    (inputs_of bytes types params m (v + length t.coords) w f (skip (text bytes a.name) t.coords (inputs bs) v (v + length t.coords) w f refl c))
inputs_of bytes types params (an_arg {as' = rest} {bs = bs} (a_param {a = a} {p = p} q d x) m) v w f c =
    let t : RawArg → Bool = λ (a : RawArg). bytes_eq (text bytes a.name) w in
    tail_of (p.name ∷ [], algebra.Input v) (w ∷ [], f) (numbered_inputs (suc v) (inputs bs)) (list_any t (a ∷ rest) ≡ true) c
    (λ y.
    let n : text bytes a.name ≡ w = x ∙ ap (λ (z : List Word × algebra.Tree). word_at 0 z.0) y in
    or_left (t a) (list_any t rest) (subst (λ (u : Word). bytes_eq (text bytes a.name) u ≡ true) n (same_bytes (text bytes a.name))))
    (λ later. or_right (t a) (list_any t rest) (inputs_of bytes types params m (suc v) w f later))

-- the lets of a predicate without a fault are new
pub are_new : (bytes : List ℕ) (ts : List Token) (is : List Item) (types : List SiteType) (params : List Ranged) {rargs : List RawArg}
    {bs : List PredArgument} (vars : List VarInfo) (ls : List RawLet) → ArgsMean bytes types params rargs bs
    → Each (LetWithin bytes ts is rargs) [] ls → AreNew bytes ts is rargs vars (numbered_inputs 0 (inputs bs)) [] ls
are_new bytes ts is types params {rargs = rargs} {bs = bs} vars ls m e =
    lets_new bytes ts is rargs vars ls (numbered_inputs 0 (inputs bs)) []
    (λ w f c. or_left (list_any (λ (a : RawArg). bytes_eq (text bytes a.name) w) rargs) false (inputs_of bytes types params m 0 w f c)) e
