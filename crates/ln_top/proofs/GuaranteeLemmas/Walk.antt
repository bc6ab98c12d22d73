-- Each declared predicate is the first of its name in the table that its items say, with its variables, columns and root.
use Rattle.std.proofs.Common.{◌≡◌, ℕ, arith, Bool, true, false, cond, ◌&&◌, ◌||◌, Option, Some, None, refl, ap, sym, ◌∙◌, subst}
use Rattle.std.proofs.Common.{append_assoc}
use Rattle.std.specs.Prelude.{map, ◌≢◌, List, [], ◌∷◌, ◌++◌, Contains, bytes_eq, count_by}
use Rattle.std.specs.List.{cons_option, filter_map, find, list_any}
use Rattle.std.proofs.lemmas.Bool.{and_parts}
use Rattle.std.proofs.lemmas.List.Folds.{list_any-append}
use Rattle.ln_base.specs.declared.span.Span.{Span}
use Rattle.ln_names.specs.First.{NoFault}
use Rattle.ln_names.proofs.Faultless.{faultless_is_within}
use Rattle.ln_parse.specs.Text.{TextOf}
use Rattle.ln_syntax.specs.File.{Spelt}
use Rattle.ln_lex.proofs.OneAnswer.{one_list}
use Rattle.ln_syntax.proofs.Spellings.OneSpelling.{one_spelling}
use Rattle.ln_top.proofs.GuaranteeLemmas.Glue.{declared}
use Rattle.ln_lex.specs.declared.token.Token.{Token}
use Rattle.ln_syntax.specs.declared.raw.Places.{Places}
use Rattle.ln_syntax.specs.declared.raw.RawArg.{RawArg}
use Rattle.ln_syntax.specs.declared.raw.RawCoord.{RawCoord}
use Rattle.ln_syntax.specs.declared.raw.RawLet.{RawLet}
use Rattle.ln_syntax.specs.declared.raw.RawRange.{RawRange}
use Rattle.ln_syntax.specs.File as file
use Rattle.ln_syntax.specs.Raw.{Item, ParamItem, PredItem, SiteItem, is_param, is_site, item_name, same, text}
use Rattle.ln_names.specs.Limits.{CoordWithin, Each, ItemWithin, PredWithin}
use Rattle.ln_parse.specs.Says.{ItemsSay, PredSays, PredsSay, arg_said, is_site_said, param_said, params_said, site_said, sites_said}
use Rattle.ln_parse.proofs.Building.LaidOut.{count_cons}
use Rattle.ln_parse.proofs.ReadBack.NamePlaces.{same_bytes}
use Rattle.ln_poly.specs.OfPred.{root_of}
use Rattle.ln_rows.specs.Header as header
use Rattle.ln_rows.specs.Header.{columns_of}
use Rattle.ln_tree.specs.Table.{PredOf, TableOf}
use Rattle.ln_tree.specs.Whole.{vars_behind}
use Rattle.ln_top.specs.Guarantee.{PredArgument, SourceDeclares, Predicate, Ranged, NameScope}
use Rattle.ln_top.specs.Guarantee.{SiteType, Word, columns_of_arguments, inputs, numbered_inputs}
use Rattle.ln_top.proofs.GuaranteeLemmas.Items.{a_param, a_site, ArgsMean, an_arg, no_arg, CoordsMean}
use Rattle.ln_top.proofs.GuaranteeLemmas.Items.{coord, no_coord, ItemsMean, a_type, no_item, param, predicate}
use Rattle.ln_top.proofs.GuaranteeLemmas.Items.{LetsMean, RangeMeans, ValueMeans}
use Rattle.ln_top.proofs.GuaranteeLemmas.Lets.{root_closed}
use Rattle.ln_top.proofs.GuaranteeLemmas.Names.{ParamFound, ParamsThere, TypeFound, TypesThere, find_here, free_more, linked, none_weaker, tail_of}
use Rattle.ln_top.proofs.GuaranteeLemmas.News.{are_new}
use Rattle.ln_top.proofs.GuaranteeLemmas.Range.{sites_in}
use Rattle.ln_top.proofs.GuaranteeLemmas.Rows.{HaveCoords, vars_for}
use Rattle.ln_top.proofs.GuaranteeLemmas.Tabled.{Holds, args_columns, args_vars}

-- ---- site types have coordinates
-- each site type of the items has a coordinate
abbrev pub HaveSome : List Item → Type 0
HaveSome [] = Unit {0}
HaveSome (SiteItem n cs ∷ is) = (cs ≢ []) × HaveSome is
HaveSome (ParamItem n r ∷ is) = HaveSome is
HaveSome (PredItem n a l r ∷ is) = HaveSome is

-- items that tokens spell have
pub have_some : {ts : List Token} {i k : ℕ} {is : List Item} → file.Items ts i k is → HaveSome is
have_some file.no_item = tt
have_some (file.an_item (file.site a b c d e) y) = ((λ q. cc), have_some y)
have_some (file.an_item (file.param a b c d e) y) = have_some y
have_some (file.an_item (file.predicate a b c d e f g h i j k) y) = have_some y

some_there : {bytes : List ℕ} {cs : List RawCoord} {rs : List Ranged} → CoordsMean bytes cs rs → cs ≢ [] → rs ≢ []
some_there no_coord h e = h refl
some_there (coord a b c) h e = absurd (cc)

-- ---- one item more
find_longer : {A : Type 0} (p : A → Bool) (xs ys : List A) (y : A) → find p xs ≡ Some y → find p (xs ++ ys) ≡ Some y
find_longer p [] ys y h = absurd (cc)
find_longer p (x ∷ xs) ys y h = go (p x) refl h (find_longer p xs ys y)
  where
    go : (b : Bool) → p x ≡ b → cond b (Some x) (find p xs) ≡ Some y → (find p xs ≡ Some y → find p (xs ++ ys) ≡ Some y)
        → find p (x ∷ (xs ++ ys)) ≡ Some y
    go true e k ih = rw e k
    go false e k ih = rw e (ih k)

module _ (bytes : List ℕ) (before : List Item) (x : Item) where
  -- a site type that was found is found after one item more
  pub type_on : (types types' : List SiteType) (params params' : List Ranged) (t : SiteType) (kind : Span)
      → TypeFound bytes before types params t kind → TypeFound bytes (before ++ x ∷ []) types' params' t kind
  type_on types types' params params' t kind f = record {
    name = f.name;
    cs = f.cs;
    found = find_longer (λ (i : Item). is_site i && same bytes (item_name i) kind) before (x ∷ []) (SiteItem f.name f.cs) f.found;
    means = f.means;
    some = f.some;
    own = f.own;
  }

  -- and so is a param
  pub param_on : (types types' : List SiteType) (params params' : List Ranged) (p : Ranged) (at : Span)
      → ParamFound bytes before types params p at → ParamFound bytes (before ++ x ∷ []) types' params' p at
  param_on types types' params params' p at f = record {
    name = f.name;
    range = f.range;
    found = find_longer (λ (i : Item). is_param i && same bytes (item_name i) at) before (x ∷ []) (ParamItem f.name f.range) f.found;
    named = f.named;
    means = f.means;
  }

-- an item's name is new, so a test of it passes nowhere before
item_free : (bytes : List ℕ) (test : Item → Bool) (name at : Span) (before : List Item) → text bytes name ≡ text bytes at
    → list_any (λ (j : Item). same bytes (item_name j) name) before ≡ false → list_any (λ (j : Item). test j && same bytes (item_name j) at) before ≡ false
item_free bytes test name at before q n =
    none_weaker (λ (j : Item). test j && same bytes (item_name j) at) (λ (j : Item). same bytes (item_name j) name)
    (λ j h. subst (λ (w : List ℕ). bytes_eq (text bytes (item_name j)) w ≡ true) (sym q) (and_parts (test j) (same bytes (item_name j) at) h).1) before n

own_name : (bytes : List ℕ) (n at : Span) → text bytes n ≡ text bytes at → same bytes n at ≡ true
own_name bytes n at q = subst (λ (w : List ℕ). bytes_eq (text bytes n) w ≡ true) q (same_bytes (text bytes n))

-- a site type more
pub types_more : (bytes : List ℕ) (before : List Item) (types : List SiteType) (params : List Ranged) (t : SiteType) (name : Span) (cs : List RawCoord)
    → TypesThere bytes before types params → text bytes name ≡ t.name → CoordsMean bytes cs t.coords → cs ≢ [] → Each (CoordWithin bytes) [] cs
    → list_any (λ (j : Item). same bytes (item_name j) name) before ≡ false
    → TypesThere bytes (before ++ SiteItem name cs ∷ []) (t ∷ types) params
types_more bytes before types params t name cs there n m s own new = λ u kind c q.
    tail_of t u types (TypeFound bytes (before ++ SiteItem name cs ∷ []) (t ∷ types) params u kind) c
    (λ e.
    let k : text bytes name ≡ text bytes kind = n ∙ ap (λ (z : SiteType). z.name) e ∙ sym q in
    subst (λ (z : SiteType). TypeFound bytes (before ++ SiteItem name cs ∷ []) (t ∷ types) params z kind) e (record {
      name = name;
      cs = cs;
      found = find_here (λ (i : Item). is_site i && same bytes (item_name i) kind) before (SiteItem name cs) []
          (item_free bytes is_site name kind before k new) (own_name bytes name kind k);
      means = m;
      some = some_there m s;
      own = own;
    }))
    (λ d. type_on bytes before (SiteItem name cs) types (t ∷ types) params params u kind (there u kind d q))

-- a param more
pub params_more : (bytes : List ℕ) (before : List Item) (types : List SiteType) (params : List Ranged) (p : Ranged) (name : Span) (r : RawRange)
    → ParamsThere bytes before types params → text bytes name ≡ p.name → RangeMeans bytes r p
    → list_any (λ (j : Item). same bytes (item_name j) name) before ≡ false
    → ParamsThere bytes (before ++ ParamItem name r ∷ []) types (p ∷ params)
params_more bytes before types params p name r there n m new = λ u at c q.
    tail_of p u params (ParamFound bytes (before ++ ParamItem name r ∷ []) types (p ∷ params) u at) c
    (λ e.
    let k : text bytes name ≡ text bytes at = n ∙ ap (λ (z : Ranged). z.name) e ∙ sym q in
    subst (λ (z : Ranged). ParamFound bytes (before ++ ParamItem name r ∷ []) types (p ∷ params) z at) e (record {
      name = name;
      range = r;
      found = find_here (λ (i : Item). is_param i && same bytes (item_name i) at) before (ParamItem name r) []
          (item_free bytes is_param name at before k new) (own_name bytes name at k);
      named = n;
      means = m;
    }))
    (λ d. param_on bytes before (ParamItem name r) types types params (p ∷ params) u at (there u at d q))

-- ---- one predicate
-- a predicate of the table agrees with a declared one
pub record Agreed (t : TableOf) (p : Predicate) (q : PredOf) : Type 0 where
  pub vars : q.vars ≡ vars_for 0 0 p.args
  pub cols : columns_of t q ≡ columns_of_arguments p.args
  pub root : root_of q ≡ p.root
  pub sites : q.sites ≡ sites_in p.args
  pub coords : HaveCoords p.args

sites_said_in : (bytes : List ℕ) (is : List Item) (types : List SiteType) (params : List Ranged) {rargs : List RawArg} {bs : List PredArgument}
    → ArgsMean bytes types params rargs bs → count_by is_site_said (map (λ (a : RawArg). arg_said bytes is a a.is_param) rargs) ≡ sites_in bs
sites_said_in bytes is types params no_arg = refl
sites_said_in bytes is types params (an_arg {as' = rest} {bs = bs} (a_site {a = a} {t = t} q n d x) m) =
    let ih = sites_said_in bytes is types params m in
    let more = map (λ (a : RawArg). arg_said bytes is a a.is_param) rest in
    ap (λ (b : Bool). count_by is_site_said (arg_said bytes is a b ∷ more)) q ∙ count_cons is_site_said (arg_said bytes is a false) more
    ∙ omega (arith, ih)
sites_said_in bytes is types params (an_arg {as' = rest} {bs = bs} (a_param {a = a} {p = p} q d x) m) =
    let ih = sites_said_in bytes is types params m in
    let more = map (λ (a : RawArg). arg_said bytes is a a.is_param) rest in
    ap (λ (b : Bool). count_by is_site_said (arg_said bytes is a b ∷ more)) q ∙ count_cons is_site_said (arg_said bytes is a true) more
    ∙ omega (arith, ih)

have_coords : (bytes : List ℕ) (is : List Item) (types : List SiteType) (params : List Ranged) {rargs : List RawArg} {bs : List PredArgument}
    → TypesThere bytes is types params → ArgsMean bytes types params rargs bs → HaveCoords bs
have_coords bytes is types params there no_arg = tt
have_coords bytes is types params there (an_arg (a_site {a = a} {t = t} q n d x) m) =
    ((there t a.kind d x).some, have_coords bytes is types params there m)
have_coords bytes is types params there (an_arg (a_param q d x) m) = have_coords bytes is types params there m

-- a predicate that means a declared one agrees with it
pub agrees : (bytes : List ℕ) (ts : List Token) (before : List Item) (t : TableOf) (types : List SiteType) (params : List Ranged) (name : Span)
    (rargs : List RawArg) (ls : List RawLet) (root : Places) (p : Predicate) (q : PredOf) (all : NameScope)
    → Holds bytes before types params t.sites t.params → ArgsMean bytes types params rargs p.args
    → LetsMean bytes ts (numbered_inputs 0 (inputs p.args)) ls all → ValueMeans bytes ts all root p.root
    → PredSays bytes ts before t name rargs ls root q → PredWithin bytes ts before rargs ls root → Agreed t p q
agrees bytes ts before t types params name rargs ls root p q all h m l v s w =
    let vars : q.vars ≡ vars_for 0 0 p.args = s.vars_are ∙ ap (vars_behind t.sites t.params 0 0) s.args_are
    ∙ args_vars bytes before types params t.sites t.params h m [] 0 0 w.args_each in
    record {
      vars = vars;
      cols = ap (header.names_over t.sites t.params) s.args_are
          ∙ args_columns bytes before types params t.sites t.params h m [] w.args_each;
      root = root_closed bytes ts before rargs q.vars root p.root q.lets q.root
          (linked bytes before types params q.vars m h.types_there w.args_each vars)
          (are_new bytes ts before types params q.vars ls m w.lets_each) l v s.lets_are s.root_is;
      sites = s.sites_are ∙ ap (count_by is_site_said) s.args_are ∙ sites_said_in bytes before types params m;
      coords = have_coords bytes before types params h.types_there m;
    }

-- ---- all items
-- what is taken from two lists
pub fm_append : {A B : Type 0} (f : A → Option B) (xs ys : List A) → filter_map f (xs ++ ys) ≡ filter_map f xs ++ filter_map f ys
fm_append {B = B} f [] ys = refl
fm_append {B = B} f (x ∷ xs) ys = ap (λ z. cons_option (f x) z) (fm_append f xs ys) ∙ go (f x) (filter_map f xs) (filter_map f ys)
  where
    go : (o : Option B) (us vs : List B) → cons_option o (us ++ vs) ≡ cons_option o us ++ vs
    go None us vs = refl
    go (Some y) us vs = refl

-- the first of its name among these agrees
pub record InTable (t : TableOf) (p : Predicate) (qs : List PredOf) : Type 0 where
  pub q : PredOf
  pub found : find (λ (r : PredOf). bytes_eq r.name p.name) qs ≡ Some q
  pub agreed : Agreed t p q

-- a name that no item has, no predicate of these has
abbrev NamesKept : List ℕ → List Item → List PredOf → Type 0
NamesKept bytes before done = (w : Word) → list_any (λ (j : Item). bytes_eq (text bytes (item_name j)) w) before ≡ false
    → list_any (λ (q : PredOf). bytes_eq q.name w) done ≡ false

neither_parts : (a b : Bool) → (a || b) ≡ false → (a ≡ false) × (b ≡ false)
neither_parts true b h = absurd (cc)
neither_parts false b h = (refl, h)

split_none : {A : Type 0} (p : A → Bool) (xs ys : List A) → list_any p (xs ++ ys) ≡ false → (list_any p xs ≡ false) × (list_any p ys ≡ false)
split_none p xs ys h = neither_parts (list_any p xs) (list_any p ys) (sym (list_any-append p xs ys) ∙ h)

kept_on : (bytes : List ℕ) (before : List Item) (x : Item) (done : List PredOf) → NamesKept bytes before done → NamesKept bytes (before ++ x ∷ []) done
kept_on bytes before x done h = λ w n. h w (split_none (λ (j : Item). bytes_eq (text bytes (item_name j)) w) before (x ∷ []) n).0

kept_more : (bytes : List ℕ) (before : List Item) (x : Item) (done : List PredOf) (q : PredOf) → q.name ≡ text bytes (item_name x)
    → NamesKept bytes before done → NamesKept bytes (before ++ x ∷ []) (done ++ q ∷ [])
kept_more bytes before x done q e h = λ w n.
    let s = split_none (λ (j : Item). bytes_eq (text bytes (item_name j)) w) before (x ∷ []) n in
    let a = (neither_parts (bytes_eq (text bytes (item_name x)) w) false s.1).0 in
    let b : bytes_eq q.name w ≡ false = ap (λ (z : List ℕ). bytes_eq z w) e ∙ a in
    free_more (λ (r : PredOf). bytes_eq r.name w) done (q ∷ []) (h w s.0) (rw b refl)

-- the predicates of the table, after these, are the declared ones, one by one; each has a name that none before it has
abbrev pub AreAgreed : TableOf → List PredOf → List Predicate → List PredOf → Type 0
AreAgreed t done [] [] = Unit {0}
AreAgreed t done [] (q ∷ qs) = ⊥
AreAgreed t done (p ∷ ps) [] = ⊥
AreAgreed t done (p ∷ ps) (q ∷ qs) = (q.name ≡ p.name) × (list_any (λ (r : PredOf). bytes_eq r.name p.name) done ≡ false) × Agreed t p q
    × AreAgreed t (done ++ q ∷ []) ps qs

module _ (bytes : List ℕ) (ts : List Token) (t : TableOf) (all : List Item) (sites_are : t.sites ≡ sites_said bytes all)
    (params_are : t.params ≡ params_said bytes all) where
  walk : {types : List SiteType} {params : List Ranged} {is : List Item} {ps : List Predicate} → ItemsMean bytes ts types params is ps
      → (before : List Item) (done qs : List PredOf) → all ≡ before ++ is → TypesThere bytes before types params
      → ParamsThere bytes before types params → Each (ItemWithin bytes ts) before is → HaveSome is → PredsSay bytes ts before t is qs
      → NamesKept bytes before done → AreAgreed t done ps qs
  walk no_item before done [] whole st pt w hs s kept = tt
  walk no_item before done (q ∷ qs) whole st pt w hs s kept = absurd s
  walk {types = types} {params = params} (a_type {name = name} {cs = cs} {is = is} u n m rest) before done qs whole st pt w hs s kept =
      walk rest (before ++ SiteItem name cs ∷ []) done qs (whole ∙ sym (append_assoc before (SiteItem name cs ∷ []) is))
      (types_more bytes before types params u name cs st n m hs.0 w.0.parts.1 w.0.new)
      (λ r at d e. param_on bytes before (SiteItem name cs) types (u ∷ types) params params r at (pt r at d e)) w.1 hs.1 s
      (kept_on bytes before (SiteItem name cs) done kept)
  walk {types = types} {params = params} (param {name = name} {r = r} {is = is} u n m rest) before done qs whole st pt w hs s kept =
      walk rest (before ++ ParamItem name r ∷ []) done qs (whole ∙ sym (append_assoc before (ParamItem name r ∷ []) is))
      (λ v kind d e. type_on bytes before (ParamItem name r) types types params (u ∷ params) v kind (st v kind d e))
      (params_more bytes before types params u name r pt n m w.0.new) w.1 hs s
      (kept_on bytes before (ParamItem name r) done kept)
  walk (predicate n m l v rest) before done [] whole st pt w hs s kept = absurd s
  walk {types = types} {params = params}
      (predicate {name = name} {args = rargs} {ls = ls} {root = root} {is = is} {p = p0} {ps = ps} {scope = scope} n m l v rest) before done (q ∷ qs)
      whole st pt w hs s kept =
      let x : Item = PredItem name rargs ls root in
      let h : Holds bytes before types params t.sites t.params = record {
        types_there = st;
        params_there = pt;
        more_sites = sites_said bytes (x ∷ is);
        sites_are = sites_are ∙ ap (sites_said bytes) whole ∙ fm_append (site_said bytes) before (x ∷ is);
        more_params = params_said bytes (x ∷ is);
        params_are = params_are ∙ ap (params_said bytes) whole ∙ fm_append (param_said bytes) before (x ∷ is);
      } in (
        s.0.name_is ∙ n,
        kept p0.name (subst (λ (z : List ℕ). list_any (λ (j : Item). bytes_eq (text bytes (item_name j)) z) before ≡ false) n w.0.new),
        agrees bytes ts before t types params name rargs ls root p0 q scope h m l v s.0 w.0.parts,
        walk rest (before ++ x ∷ []) (done ++ q ∷ []) qs (whole ∙ sym (append_assoc before (x ∷ []) is))
            (λ u kind a b. type_on bytes before x types types params params u kind (st u kind a b))
            (λ u at a b. param_on bytes before x types types params params u at (pt u at a b)) w.1 hs s.1
            (kept_more bytes before x done q s.0.name_is kept),
      )

-- of a source with a table
pub all_agreed : (source : List ℕ) (ps : List Predicate) (t : TableOf) → TextOf source t → SourceDeclares source ps → AreAgreed t [] ps t.preds
all_agreed source ps t x d =
    let k = declared source ps d in
    let q : k.tokens ≡ x.tokens = one_list source k.tokens x.tokens k.lexed x.lexed in
    let spelt : Spelt k.tokens x.items = subst (λ (w : List Token). Spelt w x.items) (sym q) x.spelt in
    let e : k.items ≡ x.items = one_spelling k.tokens k.items x.items k.spelt spelt in
    let clean : NoFault source k.tokens k.items = subst (λ (w : List Item). NoFault source k.tokens w) (sym e)
    (subst (λ (w : List Token). NoFault source w x.items) (sym q) x.clean) in
    let says : ItemsSay source k.tokens k.items t = subst (λ (w : List Item). ItemsSay source k.tokens w t) (sym e)
    (subst (λ (w : List Token). ItemsSay source w x.items t) (sym q) x.says) in
    walk source k.tokens t k.items says.sites_are says.params_are k.means [] [] t.preds refl (λ u kind a b. absurd (omega (arith, a.1)))
    (λ u at a b. absurd (omega (arith, a.1))) (faultless_is_within source k.tokens k.items clean).each (have_some k.spelt) says.preds_are (λ w n. refl)

-- a declared predicate is the first of its name
find_in : (t : TableOf) (done : List PredOf) (ps : List Predicate) (qs : List PredOf) → AreAgreed t done ps qs → (p : Predicate) → Contains ps p
    → InTable t p (done ++ qs)
find_in t done [] qs a p c = absurd (omega (arith, c.1))
find_in t done (p0 ∷ ps) [] a p c = absurd a
find_in t done (p0 ∷ ps) (q ∷ qs) (n, none, a, rest) p c =
    tail_of p0 p ps (InTable t p (done ++ q ∷ qs)) c
    (λ e.
    let pass : bytes_eq q.name p0.name ≡ true = subst (λ (z : List ℕ). bytes_eq z p0.name ≡ true) (sym n) (same_bytes p0.name) in
    subst (λ (z : Predicate). InTable t z (done ++ q ∷ qs)) e
    (record { q = q; found = find_here (λ (r : PredOf). bytes_eq r.name p0.name) done q qs none pass; agreed = a }))
    (λ d. subst (λ (z : List PredOf). InTable t p z) (append_assoc done (q ∷ []) qs) (find_in t (done ++ q ∷ []) ps qs rest p d))

-- so it is in the table of the source
pub in_table : (source : List ℕ) (ps : List Predicate) (p : Predicate) (t : TableOf) → TextOf source t → SourceDeclares source ps → Contains ps p
    → InTable t p t.preds
in_table source ps p t x d c = find_in t [] ps t.preds (all_agreed source ps t x d) p c
