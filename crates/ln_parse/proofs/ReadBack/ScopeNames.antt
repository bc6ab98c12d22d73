-- What the names of a canonical text stand for.
use Rattle.std.proofs.Common.{◌≡◌, ℕ, zero, suc, ◌+◌, ◌<◌, ◌&&◌, not, Bool, true, false, nat_lt, List, [], ◌∷◌, ◌++◌, length, map}
use Rattle.std.proofs.Common.{Some, None, refl, ap, sym, ◌∙◌, subst, arith, zero-add}
use Rattle.std.specs.Prelude.{slice_get, position, unwrap_or, bytes_eq, find, nat_le}
use Rattle.std.specs.List.{list_any, position_from, position_or_len}
use Rattle.std.proofs.lemmas.Bool.{and_parts, or_left, or_right, ltb-true, leb-true}
use Rattle.std.proofs.lemmas.List.{length-map}
use Rattle.std.proofs.lemmas.Slice.Eq.{bytes_eq-Decides}
use Rattle.std.proofs.lemmas.Iterator.Adapters.{position_from-zero}
use Rattle.ln_syntax.specs.Raw.{Span, Item, item_name, is_site, is_param, coords_in, text, same}
use Rattle.ln_names.specs.Rules.{RawArg, RawLet, RawCoord, Scope, is_site_arg, is_param_arg, coords_of}
use Rattle.ln_tree.specs.declared.shape.VarInfo.{VarInfo}
use Rattle.ln_tree.specs.Variables.{number_or_end}
use Rattle.ln_parse.specs.Says.{Formula, FNum, FInput, FName, FNeg, FAdd, FSub, FMul, FPow, tree, CoordOf, SiteOf, ArgOf, SiteArg, ParamArg, PredOf, TableOf}
use Rattle.ln_parse.specs.Says.{ranged, site_names, param_names, sites_said, params_said}
use Rattle.ln_tree.specs.Fits.{is_fit}
use Rattle.ln_tree.specs.Whole.{vars_behind, range_name, arg_name}
use Rattle.ln_parse.specs.ReadsBack.{Every, ArgWritten, ArgsWritten}
use Rattle.ln_parse.specs.Spanless.{no_span, spanless}
use Rattle.ln_parse.specs.WholeTable.{IsShortName, SiteNames, ArgNames}
use Rattle.ln_parse.specs.Written.{Written, WName, naming, input, written, site_name}
use Rattle.ln_parse.proofs.ReadBack.NamePlaces.{NoneIs, Differ, not_there, same_bytes, place_of_name}
use Rattle.ln_parse.proofs.Expressions.Meaning.{arg_called, meaning}
use Rattle.ln_parse.proofs.ReadBack.CleanValue.{Meant}
use Rattle.ln_parse.proofs.ReadBack.InputsThere.{InputThere, of_site, of_param, input_there, every_at, at_place, no_place, NamesGood, literal}
use Rattle.ln_parse.proofs.Expressions.Found.{sites_named, params_named, any_site, any_param, coords_found, position_is_len, get_longer}
use Rattle.ln_parse.proofs.Wholes.TestLemmas.{get_map}
use Rattle.ln_parse.proofs.Wholes.WholeParts.{SiteParts}

-- names that differ from a list's differ from its parts'
none_left : (t : List ℕ) (us vs : List (List ℕ)) → NoneIs t (us ++ vs) → NoneIs t us
none_left t [] vs h = tt
none_left t (u ∷ us) vs h = (h.0, none_left t us vs h.1)

none_right : (t : List ℕ) (us vs : List (List ℕ)) → NoneIs t (us ++ vs) → NoneIs t vs
none_right t [] vs h = h
none_right t (u ∷ us) vs h = none_right t us vs h.1

-- of two lists of names whose names all differ, those of the first differ
pub differ_left : (us vs : List (List ℕ)) → Differ (us ++ vs) → Differ us
differ_left [] vs h = tt
differ_left (u ∷ us) vs h = (none_left u us vs h.0, differ_left us vs h.1)

-- and those of the second
pub differ_right : (us vs : List (List ℕ)) → Differ (us ++ vs) → Differ vs
differ_right [] vs h = h
differ_right (u ∷ us) vs h = differ_right us vs h.1

-- a name of the first part is none of the second's
apart : (us vs : List (List ℕ)) (j : ℕ) (t : List ℕ) → Differ (us ++ vs) → slice_get us j ≡ Some t → NoneIs t vs
apart [] vs j t h e = absurd (cc)
apart (u ∷ us) vs zero t h e = let q : u ≡ t = cc in subst (λ (w : List ℕ). NoneIs w vs) q (none_right u us vs h.0)
apart (u ∷ us) vs (suc j) t h e = apart us vs j t h.1 e

flip_by : (t u : List ℕ) (b : Bool) → bytes_eq u t ≡ b → bytes_eq t u ≡ false → b ≡ false
flip_by t u false e h = refl
flip_by t u true e h =
    let q = (bytes_eq-Decides u t).0 e in
    let s = same_bytes t in
    absurd (let r : bytes_eq t t ≡ false = subst (λ (w : List ℕ). bytes_eq t w ≡ false) q h in cc)

-- unequal both ways
pub flip : (t u : List ℕ) → bytes_eq t u ≡ false → bytes_eq u t ≡ false
flip t u h = flip_by t u (bytes_eq u t) refl h

-- a name that is none of a list's is not found
pub none_called : {A : Type 0} (name : A → List ℕ) (xs : List A) (t : List ℕ) → NoneIs t (map name xs) → list_any (λ x. bytes_eq (name x) t) xs ≡ false
none_called name [] t h = refl
none_called name (x ∷ xs) t h = let a = flip t (name x) h.0 in let b = none_called name xs t h.1 in rw (a, b) refl

any_position_by : {A : Type 0} (p : A → Bool) (xs : List A) (j : ℕ) (b : Bool) → list_any p xs ≡ b → position p xs ≡ Some j → b ≡ true
any_position_by p xs j true e h = refl
any_position_by p xs j false e h = let q = no_place p xs e in absurd (cc)

any_position : {A : Type 0} (p : A → Bool) (xs : List A) (j : ℕ) → position p xs ≡ Some j → list_any p xs ≡ true
any_position p xs j h = any_position_by p xs j (list_any p xs) refl h

written_name : (bytes : List ℕ) (t : TableOf) (r : RawArg) (a : ArgOf) → ArgWritten bytes t r a → text bytes r.name ≡ arg_name t.params a
written_name bytes t r (SiteArg n k) h = h.1
written_name bytes t r (ParamArg p) h = h.1

-- the names of arguments that are written so
pub written_names : (bytes : List ℕ) (t : TableOf) (raws : List RawArg) (args : List ArgOf) → ArgsWritten bytes t raws args
    → map (λ (a : RawArg). text bytes a.name) raws ≡ map (arg_name t.params) args
written_names bytes t [] [] w = refl
written_names bytes t [] (a ∷ args) w = absurd w
written_names bytes t (r ∷ raws) [] w = absurd w
written_names bytes t (r ∷ raws) (a ∷ args) w =
    let n = written_name bytes t r a w.0 in
    let m = written_names bytes t raws args w.1 in
    rw (n, m) refl

and_false : (b c : Bool) → c ≡ false → (b && c) ≡ false
and_false true c h = h
and_false false c h = refl

-- an argument is found by its name
record ArgFound (bytes : List ℕ) (t : TableOf) (raws : List RawArg) (d : ℕ) (a : ArgOf) (p : RawArg → Bool) (n : List ℕ) : Type 0 where
  raw : RawArg
  writes : ArgWritten bytes t raw a
  found : find (arg_called bytes p n) raws ≡ Some raw
  at : (j : ℕ) → position_from (arg_called bytes p n) j raws ≡ Some (j + d)

arg_found : (bytes : List ℕ) (t : TableOf) (p : RawArg → Bool) (raws : List RawArg) (args : List ArgOf) (d : ℕ) (a : ArgOf)
    → ArgsWritten bytes t raws args → Differ (map (arg_name t.params) args) → slice_get args d ≡ Some a
    → ((r : RawArg) → ArgWritten bytes t r a → p r ≡ true) → ArgFound bytes t raws d a p (arg_name t.params a)
arg_found bytes t p [] [] d a w f e q = absurd (cc)
arg_found bytes t p [] (b ∷ args) d a w f e q = absurd w
arg_found bytes t p (r ∷ raws) [] d a w f e q = absurd w
arg_found bytes t p (r ∷ raws) (b ∷ args) zero a w f e q =
    let z : b ≡ a = cc in
    let v : ArgWritten bytes t r a = subst (λ (x : ArgOf). ArgWritten bytes t r x) z w.0 in
    let n = written_name bytes t r a v in
    let s = same_bytes (arg_name t.params a) in
    let y : (p r && bytes_eq (text bytes r.name) (arg_name t.params a)) ≡ true = rw (q r v, n, s) refl in
    record { raw = r; writes = v; found = rw y refl; at = λ j. let k : j ≡ j + 0 = omega arith in rw y (ap (λ (m : ℕ). Some m) k) }
arg_found bytes t p (r ∷ raws) (b ∷ args) (suc d) a w f e q =
    let g = arg_found bytes t p raws args d a w.1 f.1 e q in
    let n = written_name bytes t r b w.0 in
    let there : slice_get (map (arg_name t.params) args) d ≡ Some (arg_name t.params a) = get_map (arg_name t.params) args d a e in
    let x : bytes_eq (text bytes r.name) (arg_name t.params a) ≡ false =
    rw n (not_there (arg_name t.params b) (map (arg_name t.params) args) d (arg_name t.params a) f.0 there) in
    let y : (p r && bytes_eq (text bytes r.name) (arg_name t.params a)) ≡ false = and_false (p r) _ x in
    record {
      raw = g.raw;
      writes = g.writes;
      found = rw y g.found;
      at = λ j. let k : j + 1 + d ≡ j + suc d = omega arith in rw y (g.at (j + 1) ∙ ap (λ (m : ℕ). Some m) k);
    }

-- a site type is found by its name
pub record TypeThere (bytes : List ℕ) (is : List Item) (k : ℕ) (s : SiteOf) (q : Span) : Type 0 where
  pub known : list_any (λ i. is_site i && same bytes (item_name i) q) is ≡ true
  pub says : map (λ (c : RawCoord). ranged bytes c.name c.range) (coords_in (find (λ i. is_site i && same bytes (item_name i) q) is)) ≡ s.coords
  pub at : position (λ n. same bytes n q) (site_names is) ≡ Some k

-- and so is each site type among the items, where their names differ
pub type_there : (bytes : List ℕ) (is : List Item) (k : ℕ) (s : SiteOf) (q : Span) → Differ (map (λ (x : SiteOf). x.name) (sites_said bytes is))
    → slice_get (sites_said bytes is) k ≡ Some s → text bytes q ≡ s.name → TypeThere bytes is k s q
type_there bytes is k s q d e h =
    let p = λ (n : Span). same bytes n q in
    let e2 = get_map (λ (x : SiteOf). x.name) (sites_said bytes is) k s e ∙ ap (λ (w : List ℕ). Some w) (sym h) in
    let a = place_of_name (text bytes) (site_names is) k (text bytes q) (rw (sites_named bytes is) at d) (rw (sites_named bytes is) at e2) in
    let z : position_or_len p (site_names is) ≡ k = position_is_len p (site_names is) k a in
    record {
      known = sym (any_site p is) ∙ any_position p (site_names is) k a;
      says = sym (coords_found bytes p is) ∙ rw (z, e) refl;
      at = a;
    }

-- a param is found by its name
pub record ParamThere (bytes : List ℕ) (is : List Item) (k : ℕ) (q : Span) : Type 0 where
  pub known : list_any (λ i. is_param i && same bytes (item_name i) q) is ≡ true
  pub at : position (λ n. same bytes n q) (param_names is) ≡ Some k

-- and so is each param among the items, where their names differ
pub param_there : (bytes : List ℕ) (is : List Item) (k : ℕ) (c : CoordOf) (q : Span) → Differ (map (λ (x : CoordOf). x.name) (params_said bytes is))
    → slice_get (params_said bytes is) k ≡ Some c → text bytes q ≡ c.name → ParamThere bytes is k q
param_there bytes is k c q d e h =
    let p = λ (n : Span). same bytes n q in
    let e2 = get_map (λ (x : CoordOf). x.name) (params_said bytes is) k c e ∙ ap (λ (w : List ℕ). Some w) (sym h) in
    let a = place_of_name (text bytes) (param_names is) k (text bytes q) (rw (params_named bytes is) at d) (rw (params_named bytes is) at e2) in
    record { known = sym (any_param p is) ∙ any_position p (param_names is) k a; at = a }

-- a predicate of the table in a text, after these items and with these arguments, whose names are the table's, short and all different
pub record PredIn (bytes : List ℕ) (is : List Item) (raws : List RawArg) (t : TableOf) (p : PredOf) : Type 0 where
  pub args : ArgsWritten bytes t raws p.args
  pub sites : sites_said bytes is ≡ t.sites
  pub site_names : Differ (map (λ (x : SiteOf). x.name) t.sites)
  pub site_parts : Every SiteParts t.sites
  pub differ : Differ (map (arg_name t.params) p.args ++ p.let_names)
  pub good : NamesGood (naming t p)
  pub vars : p.vars ≡ vars_behind t.sites t.params 0 0 p.args

-- what an expression of the predicate can speak of is what the table has: its arguments, and the first of its lets
pub record InScope (bytes : List ℕ) (s : Scope) (t : TableOf) (p : PredOf) : Type 0 where
  pub pred : PredIn bytes s.items s.args t p
  pub more : List (List ℕ)
  pub lets : p.let_names ≡ map (λ (l : RawLet). text bytes l.name) s.lets ++ more

-- an expression as it is written means this formula, and its names are short and known
record Reads (bytes : List ℕ) (s : Scope) (w : Written) (f : Formula) : Type 0 where
  says : meaning bytes s w ≡ f
  meant : Meant bytes s w

let_reads : (bytes : List ℕ) (s : Scope) (t : TableOf) (p : PredOf) → InScope bytes s t p → (j : ℕ) → j < length s.lets
    → Reads bytes s (WName (unwrap_or (slice_get p.let_names j) [])) (FName no_span j)
let_reads bytes s t p c j l =
    let names = map (λ (l : RawLet). text bytes l.name) s.lets in
    let n : length names ≡ length s.lets = length-map s.lets (λ (l : RawLet). text bytes l.name) in
    let e = at_place names j (omega arith) in
    let u : slice_get p.let_names j ≡ Some e.0 = ap (λ (w : List (List ℕ)). slice_get w j) c.lets ∙ get_longer names c.more j e.0 e.1 in
    let d : Differ names = differ_left names c.more
    (subst (λ (w : List (List ℕ)). Differ w) c.lets (differ_right (map (arg_name t.params) p.args) p.let_names c.pred.differ)) in
    let m = place_of_name (λ (l : RawLet). text bytes l.name) s.lets j e.0 d e.1 in
    let k : list_any (λ (l : RawLet). bytes_eq (text bytes l.name) e.0) s.lets ≡ true =
    any_position _ s.lets j m in
    let q : IsShortName e.0 = every_at IsShortName p.let_names j e.0 c.pred.good.lets u in
    rw u (record { says = rw m refl; meant = (q.1, or_left _ _ k) })

site_called : (bytes : List ℕ) (t : TableOf) (n : List ℕ) (k : ℕ) (r : RawArg) → ArgWritten bytes t r (SiteArg n k) → is_site_arg r ≡ true
site_called bytes t n k r h = ap not h.0

param_called : (bytes : List ℕ) (t : TableOf) (p : ℕ) (r : RawArg) → ArgWritten bytes t r (ParamArg p) → is_param_arg r ≡ true
param_called bytes t p r h = h.0

-- the names of coordinates
pub coord_map : (bytes : List ℕ) (raws : List RawCoord)
    → map (λ (x : CoordOf). x.name) (map (λ (c : RawCoord). ranged bytes c.name c.range) raws) ≡ map (λ (c : RawCoord). text bytes c.name) raws
coord_map bytes [] = refl
coord_map bytes (c ∷ raws) = ap (λ (w : List (List ℕ)). text bytes c.name ∷ w) (coord_map bytes raws)

input_reads : (bytes : List ℕ) (s : Scope) (t : TableOf) (p : PredOf) → InScope bytes s t p → (d c : ℕ) → InputThere t.sites t.params p.args d c
    → Reads bytes s (input (naming t p) (slice_get p.args d) c) (FInput no_span d c)
input_reads bytes s t p v d c (of_site m k x y e f h) =
    let g = v.pred in
    let a = arg_found bytes t is_site_arg s.args p.args d (SiteArg m k) g.args
    (differ_left (map (arg_name t.params) p.args) p.let_names g.differ) e (site_called bytes t m k) in
    let kind : text bytes a.raw.kind ≡ x.name = a.writes.2 ∙ ap site_name f in
    let here : slice_get (sites_said bytes s.items) k ≡ Some x = ap (λ (w : List SiteOf). slice_get w k) g.sites ∙ f in
    let df = subst (λ (w : List SiteOf). Differ (map (λ (x : SiteOf). x.name) w)) (sym g.sites) g.site_names in
    let b = type_there bytes s.items k x a.raw.kind df here kind in
    let parts : SiteParts x = every_at SiteParts t.sites k x g.site_parts f in
    let raws = coords_of bytes s.items (Some a.raw) in
    let nm : map (λ (c : RawCoord). text bytes c.name) raws ≡ map (λ (x : CoordOf). x.name) x.coords =
    sym (coord_map bytes raws) ∙ ap (map (λ (x : CoordOf). x.name)) b.says in
    let dc = subst (λ (w : List (List ℕ)). Differ w) (sym nm) parts.differ in
    let there : slice_get (map (λ (c : RawCoord). text bytes c.name) raws) c ≡ Some y.name =
    ap (λ (w : List (List ℕ)). slice_get w c) nm ∙ get_map (λ (x : CoordOf). x.name) x.coords c y h in
    let pc = place_of_name (λ (c : RawCoord). text bytes c.name) raws c y.name dc there in
    let pa : position (arg_called bytes is_site_arg m) s.args ≡ Some d =
    position_from-zero (arg_called bytes is_site_arg m) s.args ∙ a.at 0 ∙ ap (λ (w : ℕ). Some w) (zero-add d) in
    let cs : coords_of bytes s.items (find (arg_called bytes is_site_arg m) s.args) ≡ raws = rw a.found refl in
    let ka : list_any (arg_called bytes is_site_arg m) s.args ≡ true = any_position (arg_called bytes is_site_arg m) s.args d pa in
    let kc : list_any (λ (c : RawCoord). bytes_eq (text bytes c.name) y.name) raws ≡ true =
    any_position _ raws c pc in
    let i : IsShortName m = every_at ArgNames p.args d (SiteArg m k) g.good.args e in
    let j : IsShortName y.name = every_at (λ (z : CoordOf). IsShortName z.name) x.coords c y (every_at SiteNames t.sites k x g.good.sites f).coords h in
    rw (e, f, h) (record { says = rw (pa, cs, pc) refl; meant = (i.1, j.1, ka, rw cs kc) })
input_reads bytes s t p v d c (of_param k x e f z) =
    let g = v.pred in
    let names = map (λ (l : RawLet). text bytes l.name) s.lets in
    let args = map (arg_name t.params) p.args in
    let a = arg_found bytes t is_param_arg s.args p.args d (ParamArg k) g.args (differ_left args p.let_names g.differ) e (param_called bytes t k) in
    let m : arg_name t.params (ParamArg k) ≡ x.name = ap range_name f in
    let pa : position (arg_called bytes is_param_arg (arg_name t.params (ParamArg k))) s.args ≡ Some d =
    position_from-zero _ s.args ∙ a.at 0 ∙ ap (λ (w : ℕ). Some w) (zero-add d) in
    let pb : position (arg_called bytes is_param_arg x.name) s.args ≡ Some d =
    subst (λ (w : List ℕ). position (arg_called bytes is_param_arg w) s.args ≡ Some d) m pa in
    let there : slice_get args d ≡ Some x.name = get_map (arg_name t.params) p.args d (ParamArg k) e ∙ ap (λ (w : List ℕ). Some w) m in
    let no : NoneIs x.name names =
    none_left x.name names v.more (subst (λ (w : List (List ℕ)). NoneIs x.name w) v.lets (apart args p.let_names d x.name g.differ there)) in
    let nl = none_called (λ (l : RawLet). text bytes l.name) s.lets x.name no in
    let pl : position (λ (l : RawLet). bytes_eq (text bytes l.name) x.name) s.lets ≡ None = no_place _ s.lets nl in
    let ka : list_any (arg_called bytes is_param_arg x.name) s.args ≡ true = any_position (arg_called bytes is_param_arg x.name) s.args d pb in
    let i : IsShortName x.name = every_at (λ (y : CoordOf). IsShortName y.name) t.params k x g.good.params f in
    rw (e, f, z) (record { says = rw (pl, pb) refl; meant = (i.1, or_right _ _ ka) })

-- a fit formula, written with the table's names, means itself
reads : (bytes : List ℕ) (s : Scope) (t : TableOf) (p : PredOf) → InScope bytes s t p → (f : Formula)
    → is_fit (length p.vars) (length s.lets) (tree p.vars f) ≡ true → Reads bytes s (written (naming t p) f) (spanless f)
reads bytes s t p v (FNum at c) h = let l = literal c h in record { says = ap (λ z. FNum no_span z) l.0; meant = l.1 }
reads bytes s t p v (FInput at a c) h =
    input_reads bytes s t p v a c
    (input_there t.sites t.params p.args a c (subst (λ (w : List VarInfo). nat_lt (number_or_end w a c) (length w) ≡ true) v.pred.vars h))
reads bytes s t p v (FName at j) h = let_reads bytes s t p v j (ltb-true j (length s.lets) h)
reads bytes s t p v (FNeg at e) h =
    let a = reads bytes s t p v e h in
    record { says = ap (λ (f : Formula). FNeg no_span f) a.says; meant = a.meant }
reads bytes s t p v (FAdd at e f) h =
    let q = and_parts (is_fit (length p.vars) (length s.lets) (tree p.vars e)) (is_fit (length p.vars) (length s.lets) (tree p.vars f)) h in
    let a = reads bytes s t p v e q.0 in
    let b = reads bytes s t p v f q.1 in
    let x = a.says in let y = b.says in record { says = rw (x, y) refl; meant = (a.meant, b.meant) }
reads bytes s t p v (FSub at e f) h =
    let q = and_parts (is_fit (length p.vars) (length s.lets) (tree p.vars e)) (is_fit (length p.vars) (length s.lets) (tree p.vars f)) h in
    let a = reads bytes s t p v e q.0 in
    let b = reads bytes s t p v f q.1 in
    let x = a.says in let y = b.says in record { says = rw (x, y) refl; meant = (a.meant, b.meant) }
reads bytes s t p v (FMul at e f) h =
    let q = and_parts (is_fit (length p.vars) (length s.lets) (tree p.vars e)) (is_fit (length p.vars) (length s.lets) (tree p.vars f)) h in
    let a = reads bytes s t p v e q.0 in
    let b = reads bytes s t p v f q.1 in
    let x = a.says in let y = b.says in record { says = rw (x, y) refl; meant = (a.meant, b.meant) }
reads bytes s t p v (FPow at e m) h =
    let q = and_parts (is_fit (length p.vars) (length s.lets) (tree p.vars e)) (nat_le m 16) h in
    let a = reads bytes s t p v e q.0 in
    let x = a.says in record { says = rw x refl; meant = (a.meant, leb-true m 16 q.1) }

-- a fit formula that is written with the table's names means itself, and its names are short and known
pub means : (bytes : List ℕ) (s : Scope) (t : TableOf) (p : PredOf) → InScope bytes s t p → (f : Formula)
    → is_fit (length p.vars) (length s.lets) (tree p.vars f) ≡ true
    → (meaning bytes s (written (naming t p) f) ≡ spanless f) × Meant bytes s (written (naming t p) f)
means bytes s t p v f h = let r = reads bytes s t p v f h in (r.says, r.meant)
