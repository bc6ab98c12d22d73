-- Words that are items are tokens that spell items, which mean the same.
use Rattle.std.proofs.Common.{ℕ, zero, suc, arith, ◌<◌, length, true, false, ℤ, pos, refl, ap, sym, ◌∙◌, subst}
use Rattle.std.proofs.lemmas.List.Elements.{All-append, All-cons, All-head, All-map, All-nil, All-tail}
use Rattle.std.proofs.lemmas.List.{append-nil}
use Rattle.std.specs.Prelude.{All, map, ◌≡◌, List, [], ◌∷◌, ◌++◌, Contains, codes, neg_ℤ, slice_index_or}
use Rattle.ln_base.specs.Decimal.{decimal_value}
use Rattle.ln_base.specs.Words.{is_name}
use Rattle.ln_algebra.specs.Tree as algebra
use Rattle.ln_lex.specs.declared.token.Token.{Token}
use Rattle.ln_lex.specs.declared.token.Kind.TheVariants as kind
use Rattle.ln_syntax.specs.declared.raw.RawEnd.{RawEnd}
use Rattle.ln_syntax.specs.declared.raw.RawRange.{RawRange}
use Rattle.ln_syntax.specs.declared.raw.RawCoord.{RawCoord}
use Rattle.ln_syntax.specs.declared.raw.RawArg.{RawArg}
use Rattle.ln_syntax.specs.declared.raw.RawLet.{RawLet}
use Rattle.ln_syntax.specs.declared.raw.Places.{Places}
use Rattle.ln_lex.specs.Tokens.{kind_of}
use Rattle.ln_syntax.specs.Raw.{Is, Item, SiteItem, ParamItem, PredItem, kind_at, span_at, text}
use Rattle.ln_syntax.specs.Expression as grammar
use Rattle.ln_syntax.specs.Expression.{Derives, Tree}
use Rattle.ln_syntax.specs.File as file
use Rattle.ln_parse.proofs.Texts.WordTokens.{name_kind}
use Rattle.ln_top.specs.Guarantee as told
use Rattle.ln_top.specs.Guarantee.{PredArgument, OfParam, OfType, Predicate, Ranged, SaysTree, NameScope, SiteType, Word, inputs, numbered_inputs}
use Rattle.ln_top.proofs.GuaranteeLemmas.Expr.{HasKeys, IsKey, short, long, Means, Placed, none, word, number_kind, read, split}

-- ---- what raw items mean
-- the end of a range
pub data EndMeans (bytes : List ℕ) : RawEnd → ℤ → Type 0 where
  plain : {e : RawEnd} → e.negative ≡ false → EndMeans bytes e (pos (decimal_value (text bytes e.at)))
  minus : {e : RawEnd} → e.negative ≡ true → EndMeans bytes e (neg_ℤ (pos (decimal_value (text bytes e.at))))

-- a range
pub record RangeMeans (bytes : List ℕ) (range : RawRange) (r : Ranged) : Type 0 where
  pub low : EndMeans bytes range.low r.lo
  pub high : EndMeans bytes range.high r.hi

-- coordinates
pub data CoordsMean (bytes : List ℕ) : List RawCoord → List Ranged → Type 0 where
  no_coord : CoordsMean bytes [] []
  coord : {c : RawCoord} {cs : List RawCoord} {r : Ranged} {rs : List Ranged} → text bytes c.name ≡ r.name → RangeMeans bytes c.range r
      → CoordsMean bytes cs rs → CoordsMean bytes (c ∷ cs) (r ∷ rs)

-- an argument
pub data ArgMeans (bytes : List ℕ) (types : List SiteType) (params : List Ranged) : RawArg → PredArgument → Type 0 where
  a_site : {a : RawArg} {t : SiteType} → a.is_param ≡ false → is_name (text bytes a.name) ≡ true → Contains types t → text bytes a.kind ≡ t.name
      → ArgMeans bytes types params a (OfType (text bytes a.name) t)
  a_param : {a : RawArg} {p : Ranged} → a.is_param ≡ true → Contains params p → text bytes a.name ≡ p.name
      → ArgMeans bytes types params a (OfParam p)

-- arguments
pub data ArgsMean (bytes : List ℕ) (types : List SiteType) (params : List Ranged) : List RawArg → List PredArgument → Type 0 where
  no_arg : ArgsMean bytes types params [] []
  an_arg : {a : RawArg} {as' : List RawArg} {b : PredArgument} {bs : List PredArgument} → ArgMeans bytes types params a b
      → ArgsMean bytes types params as' bs → ArgsMean bytes types params (a ∷ as') (b ∷ bs)

-- the tokens from one place to another, before a semicolon, mean this tree
pub record ValueMeans (bytes : List ℕ) (ts : List Token) (scope : NameScope) (p : Places) (e : algebra.Tree) : Type 0 where
  pub tree : Tree
  pub derives : Derives ts grammar.Sum p.from p.to tree
  pub ends : Is ts p.to kind.Semi
  pub means : Means scope bytes tree e

-- lets, from the scope before them to the one after them
pub data LetsMean (bytes : List ℕ) (ts : List Token) : NameScope → List RawLet → NameScope → Type 0 where
  no_let : {scope : NameScope} → LetsMean bytes ts scope [] scope
  a_let : {scope all : NameScope} {l : RawLet} {ls : List RawLet} {e : algebra.Tree} → ValueMeans bytes ts scope l.value e
      → LetsMean bytes ts ((text bytes l.name ∷ [], e) ∷ scope) ls all → LetsMean bytes ts scope (l ∷ ls) all

-- items, after these site types and params
pub data ItemsMean (bytes : List ℕ) (ts : List Token) : List SiteType → List Ranged → List Item → List Predicate → Type 0 where
  no_item : {types : List SiteType} {params : List Ranged} → ItemsMean bytes ts types params [] []
  a_type : {types : List SiteType} {params : List Ranged} {name : _} {cs : List RawCoord} {is : List Item} {ps : List Predicate} (t : SiteType)
      → text bytes name ≡ t.name → CoordsMean bytes cs t.coords → ItemsMean bytes ts (t ∷ types) params is ps
      → ItemsMean bytes ts types params (SiteItem name cs ∷ is) ps
  param : {types : List SiteType} {params : List Ranged} {name : _} {r : RawRange} {is : List Item} {ps : List Predicate} (p : Ranged)
      → text bytes name ≡ p.name → RangeMeans bytes r p → ItemsMean bytes ts types (p ∷ params) is ps
      → ItemsMean bytes ts types params (ParamItem name r ∷ is) ps
  predicate : {types : List SiteType} {params : List Ranged} {name : _} {args : List RawArg} {ls : List RawLet} {root : Places} {is : List Item}
      {p : Predicate} {ps : List Predicate} {scope : NameScope} → text bytes name ≡ p.name → ArgsMean bytes types params args p.args
      → LetsMean bytes ts (numbered_inputs 0 (inputs p.args)) ls scope → ValueMeans bytes ts scope root p.root → ItemsMean bytes ts types params is ps
      → ItemsMean bytes ts types params (PredItem name args ls root ∷ is) (p ∷ ps)

-- ---- ranges
module _ (bytes : List ℕ) (ts : List Token) where
  record ReadEnd (i j : ℕ) (z : ℤ) : Type 0 where
    raw : RawEnd
    end : file.End ts i j raw
    means : EndMeans bytes raw z

  read_end : {i j : ℕ} {ws : List Word} {z : ℤ} → told.IsEnd ws z → Placed bytes ts i ws j → ReadEnd i j z
  read_end {i = i} (told.plain n d) (word k t none) = record {
    raw = record { negative = false; at = span_at ts i };
    end = file.plain (k ∙ number_kind n d);
    means = subst (λ (w : Word). EndMeans bytes (record { negative = false; at = span_at ts i }) (pos (decimal_value w))) t (plain refl);
  }
  read_end {i = i} (told.minus n d) (word k t (word l u none)) = record {
    raw = record { negative = true; at = span_at ts (suc i) };
    end = file.minus k (l ∙ number_kind n d);
    means =
        subst (λ (w : Word). EndMeans bytes (record { negative = true; at = span_at ts (suc i) }) (neg_ℤ (pos (decimal_value w)))) u (minus refl);
  }

  -- the parts of NAME : LOW .. HIGH ; and what follows
  record RangedParts (i j : ℕ) (n : Word) (l h ws : List Word) : Type 0 where
    low_end : ℕ
    high_end : ℕ
    named : kind_at ts i ≡ kind_of n
    name_text : text bytes (span_at ts i) ≡ n
    colon : Is ts (suc i) kind.Colon
    low : Placed bytes ts (suc (suc i)) l low_end
    dots : Is ts low_end kind.Dots
    high : Placed bytes ts (suc low_end) h high_end
    semi : Is ts high_end kind.Semi
    rest : Placed bytes ts (suc high_end) ws j

  first_of : {i j : ℕ} {w : Word} {ws : List Word} → Placed bytes ts i (w ∷ ws) j → kind_at ts i ≡ kind_of w
  first_of (word k t p) = k

  rest_of : {i j : ℕ} {w : Word} {ws : List Word} → Placed bytes ts i (w ∷ ws) j → Placed bytes ts (suc i) ws j
  rest_of (word k t p) = p

  ranged_parts : {i j : ℕ} (n : Word) (l h ws : List Word)
      → Placed bytes ts i (n ∷ codes ":" ∷ (l ++ (codes ".." ∷ (h ++ (codes ";" ∷ ws))))) j → RangedParts i j n l h ws
  ranged_parts n l h ws (word k t (word c u p)) =
      let q = split bytes ts l (codes ".." ∷ (h ++ (codes ";" ∷ ws))) p in
      let x = split bytes ts h (codes ";" ∷ ws) (rest_of q.right) in
      record {
        low_end = q.at;
        high_end = x.at;
        named = k;
        name_text = t;
        colon = c;
        low = q.left;
        dots = first_of q.right;
        high = x.left;
        semi = first_of x.right;
        rest = rest_of x.right;
      }

  record ReadCoords (i j : ℕ) (rs : List Ranged) : Type 0 where
    raw : List RawCoord
    coords : file.Coords ts i j raw
    means : CoordsMean bytes raw rs

  read_coords : {ws : List Word} {rs : List Ranged} → told.AreRanged ws rs → {i j : ℕ} → Placed bytes ts i ws j → ReadCoords i j rs
  read_coords told.none none = record { raw = []; coords = file.no_coord; means = no_coord }
  read_coords (told.more {l = l} {h = h} {ws = ws} {r = r} n a b rest) {i = i} p =
      let q = ranged_parts r.name l h ws p in
      let low = read_end a q.low in
      let high = read_end b q.high in
      let others = read_coords rest q.rest in
      record {
        raw = record { name = span_at ts i; range = record { low = low.raw; high = high.raw } } ∷ others.raw;
        coords = file.coord (q.named ∙ name_kind r.name n) q.colon (file.range low.end q.dots high.end) q.semi others.coords;
        means = coord q.name_text (record { low = low.means; high = high.means }) others.means;
      }

  record SomeCoords (i j : ℕ) (rs : List Ranged) : Type 0 where
    first : RawCoord
    others : List RawCoord
    coords : file.Coords ts i j (first ∷ others)
    means : CoordsMean bytes (first ∷ others) rs

  some_coords : {i j : ℕ} {raw : List RawCoord} {r : Ranged} {rs : List Ranged} → file.Coords ts i j raw → CoordsMean bytes raw (r ∷ rs)
      → SomeCoords i j (r ∷ rs)
  some_coords c (coord {c = x} {cs = xs} a b m) = record { first = x; others = xs; coords = c; means = coord a b m }

  -- ---- arguments
  record ReadArgs (types : List SiteType) (params : List Ranged) (i j : ℕ) (args : List PredArgument) : Type 0 where
    raw : List RawArg
    close : ℕ
    is_args : file.Args ts i close raw
    par : Is ts close kind.ParR
    ends : j ≡ suc close
    means : ArgsMean bytes types params raw args

  record ReadArg (types : List SiteType) (params : List Ranged) (i : ℕ) (a : PredArgument) : Type 0 where
    raw : RawArg
    is_arg : file.Arg ts i raw
    means : ArgMeans bytes types params raw a

  read_arg : {types : List SiteType} {params : List Ranged} {i j : ℕ} {n k : Word} {a : PredArgument} {ws : List Word}
      → ((p : Ranged) → Contains params p → is_name p.name ≡ true) → ((t : SiteType) → Contains types t → is_name t.name ≡ true)
      → told.IsArgument types params n k a → Placed bytes ts i (n ∷ codes ":" ∷ k ∷ ws) j → ReadArg types params i a
  read_arg {types = types} {params = params} {i = i} ps ss (told.site {n = n} {t = t} h c) (word k x (word l u (word m v p))) =
      let raw : RawArg = record { name = span_at ts i; kind = span_at ts (suc (suc i)); is_param = false } in
      record {
        raw = raw;
        is_arg = file.site_arg (k ∙ name_kind n h) l (m ∙ name_kind t.name (ss t c));
        means =
            subst (λ (w : Word). ArgMeans bytes types params raw (OfType w t)) x
            (a_site refl (subst (λ (w : Word). is_name w ≡ true) (sym x) h) c v);
      }
  read_arg {i = i} ps ss (told.param {p = q} c) (word k x (word l u (word m v p))) = record {
    raw = record { name = span_at ts i; kind = span_at ts (suc (suc i)); is_param = true };
    is_arg = file.param_arg (k ∙ name_kind q.name (ps q c)) l m;
    means = a_param refl c x;
  }

  past : {i j : ℕ} {n c k : Word} {ws : List Word} → Placed bytes ts i (n ∷ c ∷ k ∷ ws) j → Placed bytes ts (suc (suc (suc i))) ws j
  past (word a b (word d e (word f g p))) = p

  ended : {i j : ℕ} {w : Word} → Placed bytes ts i (w ∷ []) j → j ≡ suc i
  ended (word k t none) = refl

  read_args : {types : List SiteType} {params : List Ranged} {ws : List Word} {args : List PredArgument}
      → ((p : Ranged) → Contains params p → is_name p.name ≡ true) → ((t : SiteType) → Contains types t → is_name t.name ≡ true)
      → told.AreArguments types params ws args → {i j : ℕ} → Placed bytes ts i ws j → ReadArgs types params i j args
  read_args ps ss (told.last h) {i = i} p =
      let a = read_arg ps ss h p in
      record {
        raw = a.raw ∷ [];
        close = suc (suc (suc i));
        is_args = file.last_arg a.is_arg;
        par = first_of (past p);
        ends = ended (past p);
        means = an_arg a.means no_arg;
      }
  read_args ps ss (told.more h rest) p =
      let a = read_arg ps ss h p in
      let r = read_args ps ss rest (rest_of (past p)) in
      record {
        raw = a.raw ∷ r.raw;
        close = r.close;
        is_args = file.more_args a.is_arg (first_of (past p)) r.is_args;
        par = r.par;
        ends = r.ends;
        means = an_arg a.means r.means;
      }

  -- ---- lets and values
  record ReadValue (scope : NameScope) (i m : ℕ) (e : algebra.Tree) : Type 0 where
    is_expr : grammar.IsExpr ts i m
    means : ValueMeans bytes ts scope (record { from = i; to = m }) e

  read_value : {scope : NameScope} {i m j : ℕ} {ws rest : List Word} {e : algebra.Tree} → HasKeys scope → SaysTree scope told.Sum ws e
      → Placed bytes ts i ws m → Placed bytes ts m (codes ";" ∷ rest) j → ReadValue scope i m e
  read_value {scope = scope} keys s p q =
      let r = read scope bytes ts keys s p in
      record {
        is_expr = (r.tree, r.derives);
        means = record { tree = r.tree; derives = r.derives; ends = first_of q; means = r.means };
      }

  -- a scope with one more entry has keys
  keys_cons : (scope : NameScope) (key : List Word) (e : algebra.Tree) → IsKey key → HasKeys scope → HasKeys ((key, e) ∷ scope)
  keys_cons scope key e h keys ws f c = go c.0 c.1 c.2
    where
      go : (k : ℕ) → k < suc (length scope) → slice_index_or ((key, e) ∷ scope) k (ws, f) ≡ (ws, f) → IsKey ws
      go zero l x = subst IsKey (ap (λ (y : List Word × algebra.Tree). y.0) x) h
      go (suc k) l x = keys ws f (k, omega (arith, l), x)

  record ReadLets (scope all : NameScope) (i j : ℕ) : Type 0 where
    raw : List RawLet
    lets : file.Lets ts i j raw
    means : LetsMean bytes ts scope raw all
    keys : HasKeys all

  read_lets : {scope all : NameScope} {ws : List Word} → told.AreLets scope ws all → HasKeys scope → {i j : ℕ} → Placed bytes ts i ws j
      → ReadLets scope all i j
  read_lets told.none keys none = record { raw = []; lets = file.no_let; means = no_let; keys = keys }
  read_lets (told.more {scope = scope} {all = all} {n = n} {ws = ws} {rest = rest} {e = e} h s behind) keys {i = i} (word k t (word l u (word m v p))) =
      let q = split bytes ts ws (codes ";" ∷ rest) p in
      let x = read_value keys s q.left q.right in
      let r = read_lets behind (keys_cons scope (n ∷ []) e (short h) keys) (rest_of q.right) in
      record {
        raw = record { name = span_at ts (suc i); value = record { from = suc (suc (suc i)); to = q.at } } ∷ r.raw;
        lets = file.a_let k (l ∙ name_kind n h) m x.is_expr (first_of q.right) r.lets;
        means = a_let x.means (subst (λ (w : Word). LetsMean bytes ts ((w ∷ [], e) ∷ scope) r.raw all) (sym u) r.means);
        keys = r.keys;
      }

  -- ---- items
  -- tokens that spell items which mean these predicates
  pub record ReadItems (types : List SiteType) (params : List Ranged) (i j : ℕ) (ps : List Predicate) : Type 0 where
    pub raw : List Item
    pub items : file.Items ts i j raw
    pub means : ItemsMean bytes ts types params raw ps

  -- a site type and its coordinates have names
  pub record TypeNamed (t : SiteType) : Type 0 where
    name : is_name t.name ≡ true
    coords : All (λ (c : Ranged). is_name c.name ≡ true) t.coords

  -- so have all of these
  abbrev pub TypesNamed : List SiteType → Type 0
  TypesNamed types = (t : SiteType) → Contains types t → TypeNamed t

  -- params have names
  abbrev pub ParamsNamed : List Ranged → Type 0
  ParamsNamed params = (p : Ranged) → Contains params p → is_name p.name ≡ true

  ranged_named : {ws : List Word} {rs : List Ranged} → told.AreRanged ws rs → All (λ (c : Ranged). is_name c.name ≡ true) rs
  ranged_named told.none = All-nil (λ (c : Ranged). is_name c.name ≡ true)
  ranged_named (told.more {r = r} {rs = rs} n a b rest) = All-cons (λ (c : Ranged). is_name c.name ≡ true) r rs n (ranged_named rest)

  types_more : (types : List SiteType) (t : SiteType) → TypeNamed t → TypesNamed types → TypesNamed (t ∷ types)
  types_more types t h named u c = go c.0 c.1 c.2
    where
      go : (k : ℕ) → k < suc (length types) → slice_index_or (t ∷ types) k u ≡ u → TypeNamed u
      go zero l x = subst TypeNamed x h
      go (suc k) l x = named u (k, omega (arith, l), x)

  params_more : (params : List Ranged) (p : Ranged) → is_name p.name ≡ true → ParamsNamed params → ParamsNamed (p ∷ params)
  params_more params p h named u c = go c.0 c.1 c.2
    where
      go : (k : ℕ) → k < suc (length params) → slice_index_or (p ∷ params) k u ≡ u → is_name u.name ≡ true
      go zero l x = subst (λ (y : Ranged). is_name y.name ≡ true) x h
      go (suc k) l x = named u (k, omega (arith, l), x)

  -- the one coordinate of a param
  record ReadRange (i j : ℕ) (p : Ranged) : Type 0 where
    raw : RawRange
    high_end : ℕ
    named : is_name p.name ≡ true
    name_kind_is : Is ts i kind.Name
    name_text : text bytes (span_at ts i) ≡ p.name
    colon : Is ts (suc i) kind.Colon
    range : file.Range ts (suc (suc i)) high_end raw
    semi : Is ts high_end kind.Semi
    ends : j ≡ suc high_end
    means : RangeMeans bytes raw p

  read_range : {ws : List Word} {p : Ranged} → told.AreRanged ws (p ∷ []) → {i j : ℕ} → Placed bytes ts i ws j → ReadRange i j p
  read_range {p = r} (told.more {l = l} {h = h} n a b told.none) p =
      let q = ranged_parts r.name l h [] p in
      let low = read_end a q.low in
      let high = read_end b q.high in
      record {
        raw = record { low = low.raw; high = high.raw };
        high_end = q.high_end;
        named = n;
        name_kind_is = q.named ∙ name_kind r.name n;
        name_text = q.name_text;
        colon = q.colon;
        range = file.range low.end q.dots high.end;
        semi = q.semi;
        ends = none_left q.rest;
        means = record { low = low.means; high = high.means };
      }
    where
      none_left : {i j : ℕ} → Placed bytes ts i [] j → j ≡ i
      none_left none = refl

  -- ---- the names of inputs
  coord_keys : (n : Word) → is_name n ≡ true → (cs : List Ranged) → All (λ (c : Ranged). is_name c.name ≡ true) cs
      → All IsKey (map (λ (c : Ranged). n ∷ codes "." ∷ c.name ∷ []) cs)
  coord_keys n h cs a =
      All-map IsKey (λ (c : Ranged). n ∷ codes "." ∷ c.name ∷ []) cs (λ k d l. long h (a k d l))

  arg_keys : {types : List SiteType} {params : List Ranged} {n k : Word} {a : PredArgument} → TypesNamed types → ParamsNamed params
      → told.IsArgument types params n k a → All IsKey (inputs (a ∷ []))
  arg_keys ss ps (told.site {n = n} {t = t} h c) =
      All-append IsKey (map (λ (c : Ranged). n ∷ codes "." ∷ c.name ∷ []) t.coords) [] (coord_keys n h t.coords (ss t c).coords) (All-nil IsKey)
  arg_keys ss ps (told.param {p = p} c) = All-cons IsKey (p.name ∷ []) [] (short (ps p c)) (All-nil IsKey)

  both_keys : (a : PredArgument) (rest : List PredArgument) → All IsKey (inputs (a ∷ [])) → All IsKey (inputs rest) → All IsKey (inputs (a ∷ rest))
  both_keys (OfType n t) rest h k =
      let cs = map (λ (c : Ranged). n ∷ codes "." ∷ c.name ∷ []) t.coords in
      All-append IsKey cs (inputs rest) (rw append-nil at h) k
  both_keys (OfParam p) rest h k = All-cons IsKey (p.name ∷ []) (inputs rest) (All-head IsKey (p.name ∷ []) [] h) k

  args_keys : {types : List SiteType} {params : List Ranged} {ws : List Word} {args : List PredArgument} → TypesNamed types → ParamsNamed params
      → told.AreArguments types params ws args → All IsKey (inputs args)
  args_keys ss ps (told.last {a = a} h) = arg_keys ss ps h
  args_keys ss ps (told.more {a = a} {rest = rest} h k) = both_keys a rest (arg_keys ss ps h) (args_keys ss ps k)

  scope_keys : (v : ℕ) (keys : List (List Word)) → All IsKey keys → HasKeys (numbered_inputs v keys)
  scope_keys v [] h = λ ws e c. absurd (omega (arith, c.1))
  scope_keys v (key ∷ keys) h =
      keys_cons (numbered_inputs (suc v) keys) key (algebra.Input v) (All-head IsKey key keys h)
      (scope_keys (suc v) keys (All-tail IsKey key keys h))

  -- the words of items are tokens of items, which mean the same
  pub read_items : {types : List SiteType} {params : List Ranged} {ws : List Word} {ps : List Predicate} → told.AreItems types params ws ps
      → TypesNamed types → ParamsNamed params → {i j : ℕ} → Placed bytes ts i ws j → ReadItems types params i j ps
  read_items told.none ss qs none = record { raw = []; items = file.no_item; means = no_item }
  read_items (told.site n told.none some rest) ss qs p = absurd (some refl)
  read_items (told.site {types = types} {t = t} {ws = ws} {rest = behind} n (told.more {l = l} {h = h} {ws = us} {r = r} {rs = rs} x a b cs) some rest) ss qs
      {i = i} (word k y (word l1 u (word m v p))) =
      let q = split bytes ts ws (codes "}" ∷ behind) p in
      let d = read_coords (told.more {l = l} {h = h} {ws = us} {r = r} {rs = rs} x a b cs) q.left in
      let c = some_coords d.coords d.means in
      let t_named : TypeNamed t = record { name = n; coords = ranged_named (told.more {l = l} {h = h} {ws = us} {r = r} {rs = rs} x a b cs) } in
      let o = read_items rest (types_more types t t_named ss) qs (rest_of q.right) in
      record {
        raw = SiteItem (span_at ts (suc i)) (c.first ∷ c.others) ∷ o.raw;
        items = file.an_item (file.site k (l1 ∙ name_kind t.name n) m c.coords (first_of q.right)) o.items;
        means = a_type t u c.means o.means;
      }
  read_items (told.param {params = params} {p = r} {ws = ws} {rest = behind} a rest) ss qs {i = i} {j = j} (word k y p) =
      let q = split bytes ts ws behind p in
      let c = read_range a q.left in
      let here : Placed bytes ts (suc c.high_end) behind j = subst (λ (x : ℕ). Placed bytes ts x behind j) c.ends q.right in
      let o = read_items rest ss (params_more params r c.named qs) here in
      record {
        raw = ParamItem (span_at ts (suc i)) c.raw ∷ o.raw;
        items = file.an_item (file.param k c.name_kind_is c.colon c.range c.semi) o.items;
        means = param r c.name_text c.means o.means;
      }
  read_items (told.predicate {p = r} {args = as'} {lets = ls} {ws = ws} {rest = behind} n a l e rest) ss qs {i = i}
      (word k y (word l1 u (word m v p))) =
      let q = split bytes ts as' (codes "{" ∷ (ls ++ (codes "sign" ∷ (ws ++ (codes ";" ∷ codes "}" ∷ behind))))) p in
      let xs = read_args qs (λ t c. (ss t c).name) a q.left in
      let q2 = split bytes ts ls (codes "sign" ∷ (ws ++ (codes ";" ∷ codes "}" ∷ behind))) (rest_of q.right) in
      let zs = read_lets l (scope_keys 0 (inputs r.args) (args_keys ss qs a)) q2.left in
      let q3 = split bytes ts ws (codes ";" ∷ codes "}" ∷ behind) (rest_of q2.right) in
      let root = read_value zs.keys e q3.left q3.right in
      let o = read_items rest ss qs (rest_of (rest_of q3.right)) in
      let brace : Is ts (suc xs.close) kind.BraceL = subst (λ (x : ℕ). Is ts x kind.BraceL) xs.ends (first_of q.right) in
      let lets : file.Lets ts (suc (suc xs.close)) q2.at zs.raw = subst (λ (x : ℕ). file.Lets ts (suc x) q2.at zs.raw) xs.ends zs.lets in
      record {
        raw = PredItem (span_at ts (suc i)) xs.raw zs.raw (record { from = suc q2.at; to = q3.at }) ∷ o.raw;
        items =
            file.an_item (file.predicate k (l1 ∙ name_kind r.name n) m xs.is_args xs.par brace lets (first_of q2.right) root.is_expr
            (first_of q3.right) (first_of (rest_of q3.right))) o.items;
        means = predicate u xs.means zs.means root.means o.means;
      }
