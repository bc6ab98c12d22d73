-- A source with a table declares predicates: the items that its tokens spell mean some, since their names are known.
use Rattle.std.proofs.Common.{◌≡◌, ℕ, zero, suc, arith, ◌<◌, ◌≤◌, length, Bool, true, false, cond, Option, Some, ℤ, pos, refl, ap, sym, ◌∙◌, subst}
use Rattle.std.proofs.Common.{append_assoc, length-append}
use Rattle.std.proofs.lemmas.List.{append-nil}
use Rattle.std.specs.Prelude.{◌&&◌, ◌||◌, not, map, List, [], ◌∷◌, ◌++◌, Contains, codes, neg_ℤ, slice_index_or}
use Rattle.std.specs.List.{find, list_any}
use Rattle.std.proofs.lemmas.List.Folds.{list_any-append}
use Rattle.ln_base.specs.declared.span.Span.{Span}
use Rattle.ln_base.proofs.Texts.Lists.{equal_bytes}
use Rattle.ln_base.specs.Decimal.{decimal_value}
use Rattle.ln_algebra.specs.Tree as algebra
use Rattle.ln_lex.specs.declared.token.Token.{Token}
use Rattle.ln_lex.specs.Tokens.{Stand}
use Rattle.ln_syntax.specs.declared.raw.Places.{Places}
use Rattle.ln_syntax.specs.declared.raw.RawArg.{RawArg}
use Rattle.ln_syntax.specs.declared.raw.RawCoord.{RawCoord}
use Rattle.ln_syntax.specs.declared.raw.RawEnd.{RawEnd}
use Rattle.ln_syntax.specs.declared.raw.RawLet.{RawLet}
use Rattle.ln_syntax.specs.declared.raw.RawRange.{RawRange}
use Rattle.ln_syntax.specs.Expression.{Tree, TNum, TName, TInput, TNeg, TAdd, TSub, TMul, TPow}
use Rattle.ln_syntax.specs.Raw.{Item, SiteItem, ParamItem, PredItem, coords_in, is_param, is_site, item_name, same, span_at, span_or, text}
use Rattle.ln_names.proofs.Faultless.{faultless_is_within}
use Rattle.ln_names.specs.Limits.{Each, IsKnown, ItemWithin}
use Rattle.ln_names.specs.Rules as rules
use Rattle.ln_names.specs.Rules.{coords_of, has_let, has_param, has_param_arg, has_site, has_site_arg, is_site_arg}
use Rattle.ln_parse.specs.Ready.{Fit, ReadyArg, ReadyItem, ReadyLet, ReadyValue}
use Rattle.ln_parse.specs.Text.{TextOf}
use Rattle.ln_parse.proofs.Building.Readiness.{file_ready}
use Rattle.ln_parse.proofs.Texts.Names.{Sliced}
use Rattle.ln_tree.specs.Table.{TableOf}
use Rattle.ln_top.specs.Guarantee.{HasWords, SourceDeclares}
use Rattle.ln_top.specs.Guarantee.{PredArgument, OfParam, OfType, Predicate, Ranged, NameScope, SiteType, Word, inputs, numbered_inputs}
use Rattle.ln_top.proofs.GuaranteeLemmas.Expr.{Means, num, name, input, neg, add, sub, mul, pow, Placed, none, word}
use Rattle.ln_top.proofs.GuaranteeLemmas.Glue.{get_at}
use Rattle.ln_top.proofs.GuaranteeLemmas.Items.{a_param, a_site, ArgsMean, an_arg, no_arg, CoordsMean, coord, no_coord, EndMeans, minus, plain}
use Rattle.ln_top.proofs.GuaranteeLemmas.Items.{ItemsMean, a_type, no_item, param, predicate, LetsMean, a_let, no_let, RangeMeans, ValueMeans}
use Rattle.ln_top.proofs.GuaranteeLemmas.Names.{ParamsThere, TypesThere}
use Rattle.ln_top.proofs.GuaranteeLemmas.LexBack.{texts, words_back}
use Rattle.ln_top.proofs.GuaranteeLemmas.Spoken.{items_back}
use Rattle.ln_top.proofs.GuaranteeLemmas.Walk.{HaveSome, have_some, param_on, params_more, type_on, types_more}

-- ---- members of lists
later : {A : Type 0} (x y : A) (xs : List A) → Contains xs y → Contains (x ∷ xs) y
later x y xs c = (suc c.0, omega (arith, c.1), c.2)

after : {A : Type 0} (xs ys : List A) (y : A) → Contains ys y → Contains (xs ++ ys) y
after [] ys y c = c
after (x ∷ xs) ys y c = later x y (xs ++ ys) (after xs ys y c)

first : {A : Type 0} (x y : A) (xs : List A) → x ≡ y → Contains (x ∷ xs) y
first x y xs e = (0, omega arith, e)

-- a name of inputs stands for some variable
stands : (keys : List (List Word)) (ws : List Word) (v : ℕ) → Contains keys ws → (e : algebra.Tree) × Contains (numbered_inputs v keys) (ws, e)
stands [] ws v c = absurd (omega (arith, c.1))
stands (k ∷ keys) ws v c = go (stands keys ws (suc v)) c.0 c.1 c.2
  where
    go : (Contains keys ws → (e : algebra.Tree) × Contains (numbered_inputs (suc v) keys) (ws, e)) → (n : ℕ)
        → n < suc (length keys) → slice_index_or (k ∷ keys) n ws ≡ ws → (e : algebra.Tree) × Contains (numbered_inputs v (k ∷ keys)) (ws, e)
    go ih zero l e =
        (algebra.Input v, first (k, algebra.Input v) (ws, algebra.Input v) (numbered_inputs (suc v) keys) (ap (λ (z : List Word). (z, algebra.Input v)) e))
    go ih (suc n) l e =
        let r = ih (n, omega (arith, l), e) in
        (r.0, later (k, algebra.Input v) (ws, r.0) (numbered_inputs (suc v) keys) r.1)

module _ (bytes : List ℕ) where
  same_text : (a b : Span) → same bytes a b ≡ true → text bytes a ≡ text bytes b
  same_text a b h = equal_bytes (text bytes a) (text bytes b) h

  -- ---- ranges
  end_mean : (e : RawEnd) → (z : ℤ) × EndMeans bytes e z
  end_mean e = go e.negative refl
    where
      go : (b : Bool) → e.negative ≡ b → (z : ℤ) × EndMeans bytes e z
      go true h = (neg_ℤ (pos (decimal_value (text bytes e.at))), minus h)
      go false h = (pos (decimal_value (text bytes e.at)), plain h)

  record RangeMeant (n : Span) (r : RawRange) : Type 0 where
    is : Ranged
    named : text bytes n ≡ is.name
    means : RangeMeans bytes r is

  range_mean : (n : Span) (r : RawRange) → RangeMeant n r
  range_mean n r =
      let l = end_mean r.low in
      let h = end_mean r.high in
      record { is = record { name = text bytes n; lo = l.0; hi = h.0 }; named = refl; means = record { low = l.1; high = h.1 } }

  coords_mean : (cs : List RawCoord) → (rs : List Ranged) × CoordsMean bytes cs rs
  coords_mean [] = ([], no_coord)
  coords_mean (c ∷ cs) =
      let r = range_mean c.name c.range in
      let more = coords_mean cs in
      (r.is ∷ more.0, coord r.named r.means more.1)

  -- ---- site types and params by name
  abbrev TypesKnown : List Item → List SiteType → Type 0
  TypesKnown is types = (at : Span) → has_site bytes is at ≡ true → (t : SiteType) × Contains types t × (text bytes at ≡ t.name)

  abbrev ParamsKnown : List Item → List Ranged → Type 0
  ParamsKnown is params = (at : Span) → has_param bytes is at ≡ true → (p : Ranged) × Contains params p × (text bytes at ≡ p.name)

  -- an item more: it passes, or one before it does
  one_more : (p : Item → Bool) (before : List Item) (x : Item) (P : Type 0) → list_any p (before ++ x ∷ []) ≡ true
      → (list_any p before ≡ true → P) → (p x ≡ true → P) → P
  one_more p before x P h f g = go (list_any p before) (p x) refl refl (sym (list_any-append p before (x ∷ [])) ∙ h)
    where
      go : (a b : Bool) → list_any p before ≡ a → p x ≡ b → (a || (b || false)) ≡ true → P
      go true b q r k = f q
      go false true q r k = g r
      go false false q r k = absurd (cc)

  types_on : (is : List Item) (x : Item) (types : List SiteType) → is_site x ≡ false → TypesKnown is types → TypesKnown (is ++ x ∷ []) types
  types_on is x types n k = λ at h.
      one_more (λ (i : Item). is_site i && same bytes (item_name i) at) is x ((t : SiteType) × Contains types t × (text bytes at ≡ t.name)) h (k at)
      (λ e. absurd (let z : false ≡ true = ap (λ (b : Bool). b && same bytes (item_name x) at) (sym n) ∙ e in cc))

  params_on : (is : List Item) (x : Item) (params : List Ranged) → is_param x ≡ false → ParamsKnown is params → ParamsKnown (is ++ x ∷ []) params
  params_on is x params n k = λ at h.
      one_more (λ (i : Item). is_param i && same bytes (item_name i) at) is x ((p : Ranged) × Contains params p × (text bytes at ≡ p.name)) h (k at)
      (λ e. absurd (let z : false ≡ true = ap (λ (b : Bool). b && same bytes (item_name x) at) (sym n) ∙ e in cc))

  type_new : (is : List Item) (n : Span) (cs : List RawCoord) (types : List SiteType) (t : SiteType) → text bytes n ≡ t.name → TypesKnown is types
      → TypesKnown (is ++ SiteItem n cs ∷ []) (t ∷ types)
  type_new is n cs types t e k = λ at h.
      one_more (λ (i : Item). is_site i && same bytes (item_name i) at) is (SiteItem n cs)
      ((u : SiteType) × Contains (t ∷ types) u × (text bytes at ≡ u.name)) h
      (λ q. let r = k at q in (r.0, later t r.0 types r.1, r.2)) (λ q. (t, first t t types refl, sym (same_text n at q) ∙ e))

  param_new : (is : List Item) (n : Span) (r : RawRange) (params : List Ranged) (p : Ranged) → text bytes n ≡ p.name → ParamsKnown is params
      → ParamsKnown (is ++ ParamItem n r ∷ []) (p ∷ params)
  param_new is n r params p e k = λ at h.
      one_more (λ (i : Item). is_param i && same bytes (item_name i) at) is (ParamItem n r)
      ((u : Ranged) × Contains (p ∷ params) u × (text bytes at ≡ u.name)) h
      (λ q. let s = k at q in (s.0, later p s.0 params s.1, s.2)) (λ q. (p, first p p params refl, sym (same_text n at q) ∙ e))

  -- ---- arguments
  module _ (is : List Item) (types : List SiteType) (params : List Ranged) (tk : TypesKnown is types) (pk : ParamsKnown is params) where
    args_mean : (before raws : List RawArg) → Each (λ before a. ReadyArg bytes is a) before raws
        → (args : List PredArgument) × ArgsMean bytes types params raws args
    args_mean before [] w = ([], no_arg)
    args_mean before (a ∷ raws) w = go a.is_param refl w.0.known (args_mean (before ++ a ∷ []) raws w.1)
      where
        go : (b : Bool) → a.is_param ≡ b → IsKnown bytes is a a.is_param → (args : List PredArgument) × ArgsMean bytes types params raws args
            → (args : List PredArgument) × ArgsMean bytes types params (a ∷ raws) args
        go true q k m =
            let r = pk a.name (subst (λ (b : Bool). IsKnown bytes is a b) q k) in
            (OfParam r.0 ∷ m.0, an_arg (a_param q r.1 r.2) m.1)
        go false q k m =
            let r = tk a.kind (subst (λ (b : Bool). IsKnown bytes is a b) q k) in
            (OfType (text bytes a.name) r.0 ∷ m.0, an_arg (a_site q w.0.name.named r.1 r.2) m.1)

  -- what is in a scope of names has a tree
  record Covers (names : NameScope) (s : rules.Scope) : Type 0 where
    short : (at : Span) → Fit bytes s (TName at) → (e : algebra.Tree) × Contains names (text bytes at ∷ [], e)
    long : (at x : Span) → Fit bytes s (TInput at x) → (e : algebra.Tree) × Contains names (text bytes at ∷ codes "." ∷ text bytes x ∷ [], e)

  coord_key : (n : Word) (x : Span) {cs : List RawCoord} {rs : List Ranged} → CoordsMean bytes cs rs
      → list_any (λ (c : RawCoord). same bytes c.name x) cs ≡ true
      → Contains (map (λ (c : Ranged). n ∷ codes "." ∷ c.name ∷ []) rs) (n ∷ codes "." ∷ text bytes x ∷ [])
  coord_key n x no_coord h = absurd (cc)
  coord_key n x (coord {c = c} {cs = cs} {r = r} {rs = rs} e m rest) h = go (coord_key n x rest) (same bytes c.name x) refl h
    where
      go : (list_any (λ (c : RawCoord). same bytes c.name x) cs ≡ true
          → Contains (map (λ (c : Ranged). n ∷ codes "." ∷ c.name ∷ []) rs) (n ∷ codes "." ∷ text bytes x ∷ []))
          → (b : Bool) → same bytes c.name x ≡ b → (b || list_any (λ (c : RawCoord). same bytes c.name x) cs) ≡ true
          → Contains (map (λ (c : Ranged). n ∷ codes "." ∷ c.name ∷ []) (r ∷ rs)) (n ∷ codes "." ∷ text bytes x ∷ [])
      go ih true q k =
          first (n ∷ codes "." ∷ r.name ∷ []) (n ∷ codes "." ∷ text bytes x ∷ []) (map (λ (c : Ranged). n ∷ codes "." ∷ c.name ∷ []) rs)
          (ap (λ (w : Word). n ∷ codes "." ∷ w ∷ []) (sym e ∙ same_text c.name x q))
      go ih false q k =
          later (n ∷ codes "." ∷ r.name ∷ []) (n ∷ codes "." ∷ text bytes x ∷ []) (map (λ (c : Ranged). n ∷ codes "." ∷ c.name ∷ []) rs)
          (ih k)

  front_of : {A : Type 0} (xs ys : List A) (y : A) → Contains xs y → Contains (xs ++ ys) y
  front_of [] ys y c = absurd (omega (arith, c.1))
  front_of (x ∷ xs) ys y c = go (front_of xs ys y) c.0 c.1 c.2
    where
      go : (Contains xs y → Contains (xs ++ ys) y) → (n : ℕ) → n < suc (length xs) → slice_index_or (x ∷ xs) n y ≡ y → Contains (x ∷ (xs ++ ys)) y
      go ih zero l e = first x y (xs ++ ys) e
      go ih (suc n) l e = later x y (xs ++ ys) (ih (n, omega (arith, l), e))

  param_key : {types : List SiteType} {params : List Ranged} (at : Span) {raws : List RawArg} {args : List PredArgument}
      → ArgsMean bytes types params raws args → has_param_arg bytes raws at ≡ true → Contains (inputs args) (text bytes at ∷ [])
  param_key at no_arg h = absurd (cc)
  param_key at (an_arg {as' = raws} {bs = bs} (a_site {a = a} {t = t} q n d x) m) h =
      let k : has_param_arg bytes raws at ≡ true = sym (ap (λ (b : Bool). (b && same bytes a.name at) || has_param_arg bytes raws at) q) ∙ h in
      after (map (λ (c : Ranged). text bytes a.name ∷ codes "." ∷ c.name ∷ []) t.coords) (inputs bs) (text bytes at ∷ []) (param_key at m k)
  param_key at (an_arg {as' = raws} {bs = bs} (a_param {a = a} {p = p} q d x) m) h =
      go (param_key at m) (same bytes a.name at) refl (sym (ap (λ (b : Bool). (b && same bytes a.name at) || has_param_arg bytes raws at) q) ∙ h)
    where
      go : (has_param_arg bytes raws at ≡ true → Contains (inputs bs) (text bytes at ∷ [])) → (b : Bool)
          → same bytes a.name at ≡ b → (b || has_param_arg bytes raws at) ≡ true → Contains ((p.name ∷ []) ∷ inputs bs) (text bytes at ∷ [])
      go ih true s k = first (p.name ∷ []) (text bytes at ∷ []) (inputs bs) (ap (λ (w : Word). w ∷ []) (sym x ∙ same_text a.name at s))
      go ih false s k = later (p.name ∷ []) (text bytes at ∷ []) (inputs bs) (ih k)

  input_key : (is : List Item) {types : List SiteType} {params : List Ranged} (at x : Span) → TypesThere bytes is types params
      → {raws : List RawArg} {args : List PredArgument} → ArgsMean bytes types params raws args
      → list_any (λ (c : RawCoord). same bytes c.name x) (coords_of bytes is (find (λ (a : RawArg). is_site_arg a && same bytes a.name at) raws)) ≡ true
      → Contains (inputs args) (text bytes at ∷ codes "." ∷ text bytes x ∷ [])
  input_key is at x there no_arg h = absurd (cc)
  input_key is {types = types} {params = params} at x there (an_arg {as' = raws} {bs = bs} (a_site {a = a} {t = t} q n d k) m) h =
      go (input_key is at x there m) (same bytes a.name at) refl
      (sym (ap (λ (b : Bool). list_any (λ (c : RawCoord). same bytes c.name x) (coords_of bytes is
      (cond (not b && same bytes a.name at) (Some a) (find (λ (a : RawArg). is_site_arg a && same bytes a.name at) raws)))) q) ∙ h)
    where
      go : (list_any (λ (c : RawCoord). same bytes c.name x) (coords_of bytes is (find (λ (a : RawArg). is_site_arg a && same bytes a.name at) raws)) ≡ true
          → Contains (inputs bs) (text bytes at ∷ codes "." ∷ text bytes x ∷ []))
          → (b : Bool) → same bytes a.name at ≡ b → list_any (λ (c : RawCoord). same bytes c.name x) (coords_of bytes is
          (cond b (Some a) (find (λ (a : RawArg). is_site_arg a && same bytes a.name at) raws))) ≡ true
          → Contains (map (λ (c : Ranged). text bytes a.name ∷ codes "." ∷ c.name ∷ []) t.coords ++ inputs bs) (text bytes at ∷ codes "." ∷ text bytes x ∷ [])
      go ih true s l =
          let y = there t a.kind d k in
          let g : list_any (λ (c : RawCoord). same bytes c.name x) y.cs ≡ true =
          sym (ap (λ (o : Option Item). list_any (λ (c : RawCoord). same bytes c.name x) (coords_in o)) y.found) ∙ l in
          subst (λ (w : Word). Contains (map (λ (c : Ranged). text bytes a.name ∷ codes "." ∷ c.name ∷ []) t.coords ++ inputs bs)
          (w ∷ codes "." ∷ text bytes x ∷ []))
          (same_text a.name at s)
          (front_of (map (λ (c : Ranged). text bytes a.name ∷ codes "." ∷ c.name ∷ []) t.coords) (inputs bs)
          (text bytes a.name ∷ codes "." ∷ text bytes x ∷ []) (coord_key (text bytes a.name) x y.means g))
      go ih false s l =
          after (map (λ (c : Ranged). text bytes a.name ∷ codes "." ∷ c.name ∷ []) t.coords) (inputs bs) (text bytes at ∷ codes "." ∷ text bytes x ∷ [])
          (ih l)
  input_key is {types = types} {params = params} at x there (an_arg {as' = raws} {bs = bs} (a_param {a = a} {p = p} q d k) m) h =
      later (p.name ∷ []) (text bytes at ∷ codes "." ∷ text bytes x ∷ []) (inputs bs)
      (input_key is at x there m (sym (ap (λ (b : Bool). list_any (λ (c : RawCoord). same bytes c.name x) (coords_of bytes is
      (cond (not b && same bytes a.name at) (Some a) (find (λ (a : RawArg). is_site_arg a && same bytes a.name at) raws)))) q) ∙ h))

  -- the inputs of arguments are covered
  args_cover : (is : List Item) {types : List SiteType} {params : List Ranged} → TypesThere bytes is types params → {raws : List RawArg}
      {args : List PredArgument} → ArgsMean bytes types params raws args → Covers (numbered_inputs 0 (inputs args)) (rules.scope is raws [])
  args_cover is there {args = args} m = record {
    short = λ at h. stands (inputs args) (text bytes at ∷ []) 0 (param_key at m h);
    long = λ at x h. stands (inputs args) (text bytes at ∷ codes "." ∷ text bytes x ∷ []) 0 (input_key is at x there m h.1);
  }

  let_cover : (is : List Item) (raws : List RawArg) (names : NameScope) (before : List RawLet) (l : RawLet) (e : algebra.Tree)
      → Covers names (rules.scope is raws before) → Covers ((text bytes l.name ∷ [], e) ∷ names) (rules.scope is raws (before ++ l ∷ []))
  let_cover is raws names before l e c = record {
    short = λ at h. go at (has_let bytes before at) (same bytes l.name at) refl refl
        (sym (ap (λ (b : Bool). b || has_param_arg bytes raws at) (list_any-append (λ (l : RawLet). same bytes l.name at) before (l ∷ []))) ∙ h);
    long = λ at x h. let r = c.long at x h in (r.0, later (text bytes l.name ∷ [], e) (text bytes at ∷ codes "." ∷ text bytes x ∷ [], r.0) names r.1);
  }
    where
      on : (at : Span) → (has_let bytes before at || has_param_arg bytes raws at) ≡ true
          → (f : algebra.Tree) × Contains ((text bytes l.name ∷ [], e) ∷ names) (text bytes at ∷ [], f)
      on at h = let r = c.short at h in (r.0, later (text bytes l.name ∷ [], e) (text bytes at ∷ [], r.0) names r.1)

      go : (at : Span) (a b : Bool) → has_let bytes before at ≡ a → same bytes l.name at ≡ b → ((a || (b || false)) || has_param_arg bytes raws at) ≡ true
          → (f : algebra.Tree) × Contains ((text bytes l.name ∷ [], e) ∷ names) (text bytes at ∷ [], f)
      go at true b q r h = on at (rw q refl)
      go at false true q r h =
          (e, first (text bytes l.name ∷ [], e) (text bytes at ∷ [], e) names (ap (λ (w : Word). (w ∷ [], e)) (same_text l.name at r)))
      go at false false q r h = on at (rw q h)

  -- ---- expressions and lets
  tree_mean : (names : NameScope) (s : rules.Scope) → Covers names s → (t : Tree) → Fit bytes s t → (e : algebra.Tree) × Means names bytes t e
  tree_mean names s c (TNum at) h = (algebra.Num (pos (decimal_value (text bytes at))), num)
  tree_mean names s c (TName at) h = let r = c.short at h in (r.0, name r.1)
  tree_mean names s c (TInput at x) h = let r = c.long at x h in (r.0, input r.1)
  tree_mean names s c (TNeg at t) h = let r = tree_mean names s c t h in (algebra.Neg r.0, neg r.1)
  tree_mean names s c (TAdd at t u) h =
      let r = tree_mean names s c t h.0 in let q = tree_mean names s c u h.1 in (algebra.Add r.0 q.0, add r.1 q.1)
  tree_mean names s c (TSub at t u) h =
      let r = tree_mean names s c t h.0 in let q = tree_mean names s c u h.1 in (algebra.Sub r.0 q.0, sub r.1 q.1)
  tree_mean names s c (TMul at t u) h =
      let r = tree_mean names s c t h.0 in let q = tree_mean names s c u h.1 in (algebra.Mul r.0 q.0, mul r.1 q.1)
  tree_mean names s c (TPow at t n) h = let r = tree_mean names s c t h.0 in (algebra.Pow r.0 (decimal_value (text bytes n)), pow r.1)

  value_mean : (ts : List Token) (names : NameScope) (s : rules.Scope) (p : Places) → Covers names s → ReadyValue bytes ts s p
      → (e : algebra.Tree) × ValueMeans bytes ts names p e
  value_mean ts names s p c v =
      let r = tree_mean names s c v.tree v.fit in
      (r.0, record { tree = v.tree; derives = v.derives; ends = v.ends; means = r.1 })

  record LetsMeant (ts : List Token) (is : List Item) (raws : List RawArg) (names : NameScope) (before ls : List RawLet) : Type 0 where
    all : NameScope
    means : LetsMean bytes ts names ls all
    covers : Covers all (rules.scope is raws (before ++ ls))

  lets_mean : (ts : List Token) (is : List Item) (raws : List RawArg) (names : NameScope) (before ls : List RawLet)
      → Covers names (rules.scope is raws before) → Each (ReadyLet bytes ts is raws) before ls → LetsMeant ts is raws names before ls
  lets_mean ts is raws names before [] c w = record {
    all = names;
    means = no_let;
    covers = subst (λ (ls : List RawLet). Covers names (rules.scope is raws ls)) (sym (append-nil before)) c;
  }
  lets_mean ts is raws names before (l ∷ ls) c w =
      let v = value_mean ts names (rules.scope is raws before) l.value c w.0.value in
      let r = lets_mean ts is raws ((text bytes l.name ∷ [], v.0) ∷ names) (before ++ l ∷ []) ls (let_cover is raws names before l v.0 c) w.1 in
      record {
        all = r.all;
        means = a_let v.1 r.means;
        covers = subst (λ (ks : List RawLet). Covers r.all (rules.scope is raws ks)) (append_assoc before (l ∷ []) ls) r.covers;
      }

  -- ---- items
  -- what is known of the items before a place
  record Known (before : List Item) (types : List SiteType) (params : List Ranged) : Type 0 where
    types_are : TypesKnown before types
    params_are : ParamsKnown before params
    types_there : TypesThere bytes before types params
    params_there : ParamsThere bytes before types params

  items_mean : (ts : List Token) (before is : List Item) (types : List SiteType) (params : List Ranged) → Known before types params
      → HaveSome is → Each (ItemWithin bytes ts) before is → Each (ReadyItem bytes ts) before is
      → (ps : List Predicate) × ItemsMean bytes ts types params is ps
  items_mean ts before [] types params k hs w r = ([], no_item)
  items_mean ts before (SiteItem n cs ∷ is) types params k hs w r =
      let m = coords_mean cs in
      let t : SiteType = record { name = text bytes n; coords = m.0 } in
      let x = SiteItem n cs in
      let rest = items_mean ts (before ++ x ∷ []) is (t ∷ types) params (record {
        types_are = type_new before n cs types t refl k.types_are;
        params_are = params_on before x params refl k.params_are;
        types_there = types_more bytes before types params t n cs k.types_there refl m.1 hs.0 w.0.parts.1 w.0.new;
        params_there = λ p at d e. param_on bytes before x types (t ∷ types) params params p at (k.params_there p at d e);
      }) hs.1 w.1 r.1 in
      (rest.0, a_type t refl m.1 rest.1)
  items_mean ts before (ParamItem n g ∷ is) types params k hs w r =
      let m = range_mean n g in
      let x = ParamItem n g in
      let rest = items_mean ts (before ++ x ∷ []) is types (m.is ∷ params) (record {
        types_are = types_on before x types refl k.types_are;
        params_are = param_new before n g params m.is m.named k.params_are;
        types_there = λ t kind d e. type_on bytes before x types types params (m.is ∷ params) t kind (k.types_there t kind d e);
        params_there = params_more bytes before types params m.is n g k.params_there m.named m.means w.0.new;
      }) hs w.1 r.1 in
      (rest.0, param m.is m.named m.means rest.1)
  items_mean ts before (PredItem n raws ls root ∷ is) types params k hs w r =
      let x = PredItem n raws ls root in
      let a = args_mean before types params k.types_are k.params_are [] raws r.0.args in
      let l = lets_mean ts before raws (numbered_inputs 0 (inputs a.0)) [] ls (args_cover before k.types_there a.1) r.0.lets in
      let v = value_mean ts l.all (rules.scope before raws ls) root l.covers r.0.root in
      let p : Predicate = record { name = text bytes n; args = a.0; root = v.0 } in
      let rest = items_mean ts (before ++ x ∷ []) is types params (record {
        types_are = types_on before x types refl k.types_are;
        params_are = params_on before x params refl k.params_are;
        types_there = λ t kind d e. type_on bytes before x types types params params t kind (k.types_there t kind d e);
        params_there = λ q at d e. param_on bytes before x types types params params q at (k.params_there q at d e);
      }) hs w.1 r.1 in
      (p ∷ rest.0, predicate {p = p} refl a.1 l.means v.1 rest.1)

-- ---- sources
-- each token's text has its kind
sliced : (bytes : List ℕ) (ts : List Token) (at to : ℕ) → Stand bytes at ts to → Sliced bytes ts
sliced bytes [] at to s = tt
sliced bytes (t ∷ ts) at to (a, gap, o, first, rest) = (first.spelt, sliced bytes ts t.span.end to rest)

up : {bytes : List ℕ} {ts : List Token} {i j : ℕ} {ws : List Word} → Placed bytes ts i ws j → i ≤ j
up none = omega arith
up (word k t p) = let l = up p in omega (arith, l)

-- words that are placed from one place to the end are the texts of all tokens from there on
all_placed : {bytes : List ℕ} {ts : List Token} {i j : ℕ} {ws : List Word} → Placed bytes ts i ws j → (done rest : List Token) → ts ≡ done ++ rest
    → i ≡ length done → j ≡ length ts → ws ≡ texts bytes rest
all_placed none done [] e a b = refl
all_placed none done (r ∷ rest) e a b = absurd (omega (arith, a, b, ap length e, length-append done (r ∷ rest)))
all_placed (word k t p) done [] e a b = let l = up p in absurd (omega (arith, a, b, l, ap length e, length-append done []))
all_placed {bytes = bytes} {ts = ts} {i = i} (word {ws = ws} {w = w} k t p) done (r ∷ rest) e a b =
    let span_is : span_at ts i ≡ r.span = ap (λ (n : ℕ). span_at ts n) a ∙ ap (λ (us : List Token). span_at us (length done)) e
    ∙ ap span_or (get_at done rest r) in
    let here : w ≡ text bytes r.span = sym t ∙ ap (text bytes) span_is in
    let more = all_placed p (done ++ r ∷ []) rest (e ∙ sym (append_assoc done (r ∷ []) rest)) (omega (arith, a, length-append done (r ∷ []))) b in
    (λ j. here j ∷ more j)

-- a source with a table declares predicates
pub declares_some : (source : List ℕ) (t : TableOf) → TextOf source t → (ps : List Predicate) × SourceDeclares source ps
declares_some source t x =
    let slices = sliced source x.tokens 0 x.lexed.to x.lexed.tokens in
    let within = faultless_is_within source x.tokens x.items x.clean in
    let ready = file_ready source x.tokens x.items slices x.spelt within in
    let m = items_mean source x.tokens [] x.items [] [] (record {
      types_are = λ at h. absurd (cc);
      params_are = λ at h. absurd (cc);
      types_there = λ t kind c e. absurd (omega (arith, c.1));
      params_there = λ p at c e. absurd (omega (arith, c.1));
    }) (have_some x.spelt) within.each ready.each in
    let r = items_back source x.tokens slices x.spelt m.1 in
    let same : r.ws ≡ texts source x.tokens = all_placed r.placed [] x.tokens refl refl refl in (
      m.0,
      record {
        words = r.ws;
        are = subst (λ (ws : List Word). HasWords source ws) (sym same) (words_back source x.tokens x.lexed);
        items = r.are;
      },
    )
