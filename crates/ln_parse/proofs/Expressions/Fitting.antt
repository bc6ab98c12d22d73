-- Resolved expressions are fit for a predicate.
use Rattle.std.proofs.Common.{◌≡◌, ℕ, ◌<◌, ◌^◌, ◌&&◌, ◌||◌, not, Bool, true, false, List, [], ◌∷◌, ◌++◌, length, map, Option}
use Rattle.std.proofs.Common.{Some, None, refl, ap, ◌∙◌, subst, arith}
use Rattle.std.specs.Prelude.{slice_get, position, option_map, int_lt, pos}
use Rattle.std.specs.List.{list_any, list_all, find}
use Rattle.std.proofs.lemmas.Bool.{and_parts, and_from, lt-ltb, le-leb, not-true}
use Rattle.std.proofs.lemmas.Bool.Decides.{nat_tests}
use Rattle.std.proofs.lemmas.Int.{ints}
use Rattle.std.proofs.lemmas.List.{length-map}
use Rattle.std.proofs.lemmas.Option.{slice_get-map, slice_get_within}
use Rattle.ln_syntax.specs.Raw.{Span, Item, item_name, is_site, is_param, coords_in, same, text}
use Rattle.ln_names.specs.Rules.{RawCoord, RawArg, RawLet, scope, is_site_arg, is_param_arg, has_let, has_site_arg, has_param_arg, coords_of, coords_at}
use Rattle.ln_syntax.specs.Expression.{Tree, TNum, TName, TInput, TNeg, TAdd, TSub, TMul, TPow}
use Rattle.ln_names.specs.Numbers.{number}
use Rattle.ln_names.specs.Limits.{Each, IsKnown}
use Rattle.ln_tree.specs.Variables.{number_or_end}
use Rattle.ln_tree.specs.Formula as formulas
use Rattle.ln_tree.specs.Fits.{is_fit}
use Rattle.ln_tree.specs.Table.{CoordOf, SiteOf, ArgOf, SiteArg, ParamArg}
use Rattle.ln_parse.specs.Says.{place, ranged, resolved, name_of, arg_said, site_names, param_names, sites_said, params_said, coords_or, vars_behind}
use Rattle.ln_parse.specs.Ready.{Declares, Fit}
use Rattle.ln_parse.proofs.Expressions.Found.{found_at, place_len, position_below, no_position, number_from, coord_there, param_there, sites_named}
use Rattle.ln_parse.proofs.Expressions.Found.{params_named, any_site, any_param, coords_found, get_longer, each_get}
use Rattle.ln_parse.proofs.ReadBack.InputsThere.{at_place}
use Rattle.ln_tree.specs.Whole.{is_one_of}

-- what follows the colons of arguments is declared
pub record Sees (bytes : List ℕ) (is : List Item) (raws : List RawArg) (S : List SiteOf) (P : List CoordOf) : Type 0 where
  pub declares : Declares bytes is S P
  pub known : Each (λ before a. IsKnown bytes is a a.is_param) [] raws

-- the arguments that these say
abbrev pub said : List ℕ → List Item → List RawArg → List ArgOf
said bytes is raws = map (λ a. arg_said bytes is a a.is_param) raws

-- the site type of a name is among those of the table
pub record TypeFound (bytes : List ℕ) (is : List Item) (S : List SiteOf) (kind : Span) : Type 0 where
  pub site : SiteOf
  pub there : slice_get S (place (λ n. same bytes n kind) (site_names is)) ≡ Some site
  pub size : length site.coords ≡ length (coords_in (find (λ i. is_site i && same bytes (item_name i) kind) is))

there_in : {A : Type 0} (all xs ys : List A) (k : ℕ) (x : A) → all ≡ xs ++ ys → slice_get xs k ≡ Some x → slice_get all k ≡ Some x
there_in all xs ys k x e h = rw e (get_longer xs ys k x h)

-- so it is for a name that an item declares as a site type
pub type_found : (bytes : List ℕ) (is : List Item) (S : List SiteOf) (P : List CoordOf) (kind : Span) → Declares bytes is S P
    → list_any (λ i. is_site i && same bytes (item_name i) kind) is ≡ true → TypeFound bytes is S kind
type_found bytes is S P kind d h =
    let q = λ (n : Span). same bytes n kind in
    let k = place q (site_names is) in
    let a = any_site q is ∙ h in
    let below = (found_at q (site_names is) a).below in
    let l = length-map (sites_said bytes is) (λ (s : SiteOf). s.name) in
    let m = length-map (site_names is) (text bytes) in
    let n = ap (λ (w : List (List ℕ)). length w) (sites_named bytes is) in
    let e = at_place (sites_said bytes is) k (omega arith) in
    let c : coords_or (slice_get (sites_said bytes is) k) ≡ map (λ (c : RawCoord). ranged bytes c.name c.range) (coords_in (find (λ i. is_site i
    && q (item_name i)) is)) = rw (place_len q (site_names is) a) (coords_found bytes q is) in
    record {
      site = e.0;
      there = there_in S (sites_said bytes is) d.more_sites k e.0 d.sites_are e.1;
      size = ap (λ (w : List CoordOf). length w) (rw e.1 at c) ∙ length-map _ (λ (c : RawCoord). ranged bytes c.name c.range);
    }

-- and the param of a name that an item declares is among those of the table
pub value_found : (bytes : List ℕ) (is : List Item) (S : List SiteOf) (P : List CoordOf) (name : Span) → Declares bytes is S P
    → list_any (λ i. is_param i && same bytes (item_name i) name) is ≡ true
    → (x : CoordOf) × (slice_get P (place (λ n. same bytes n name) (param_names is)) ≡ Some x)
value_found bytes is S P name d h =
    let q = λ (n : Span). same bytes n name in
    let k = place q (param_names is) in
    let below = (found_at q (param_names is) (any_param q is ∙ h)).below in
    let l = length-map (params_said bytes is) (λ (c : CoordOf). c.name) in
    let m = length-map (param_names is) (text bytes) in
    let n = ap (λ (w : List (List ℕ)). length w) (params_named bytes is) in
    let e = at_place (params_said bytes is) k (omega arith) in
    (e.0, there_in P (params_said bytes is) d.more_params k e.0 d.params_are e.1)

known_one : (bytes : List ℕ) (is : List Item) (S : List SiteOf) (P : List CoordOf) (a : RawArg) (b : Bool) → Declares bytes is S P
    → IsKnown bytes is a b → is_one_of (length S) (length P) (arg_said bytes is a b) ≡ true
known_one bytes is S P a true d k = let f = value_found bytes is S P a.name d k in lt-ltb _ (length P) (slice_get_within P _ f.0 f.1)
known_one bytes is S P a false d k = let f = type_found bytes is S P a.kind d k in lt-ltb _ (length S) (slice_get_within S _ f.site f.there)

known_from : (bytes : List ℕ) (is : List Item) (S : List SiteOf) (P : List CoordOf) (before raws : List RawArg) → Declares bytes is S P
    → Each (λ before a. IsKnown bytes is a a.is_param) before raws
    → list_all (is_one_of (length S) (length P)) (said bytes is raws) ≡ true
known_from bytes is S P before [] d e = refl
known_from bytes is S P before (a ∷ raws) d e =
    and_from _ _ (known_one bytes is S P a a.is_param d e.0) (known_from bytes is S P (before ++ (a ∷ [])) raws d e.1)

-- the arguments are of the table's site types and params
pub all_known : (bytes : List ℕ) (is : List Item) (raws : List RawArg) (S : List SiteOf) (P : List CoordOf) → Sees bytes is raws S P
    → list_all (is_one_of (length S) (length P)) (said bytes is raws) ≡ true
all_known bytes is raws S P s = known_from bytes is S P [] raws s.declares s.known

-- an argument that is no param is said to be a site
pub said_site : (bytes : List ℕ) (is : List Item) (a : RawArg) (b : Bool) → b ≡ false
    → arg_said bytes is a b ≡ SiteArg (text bytes a.name) (place (λ n. same bytes n a.kind) (site_names is))
said_site bytes is a b h = ap (arg_said bytes is a) h

-- and one that is a param to be a param
pub said_param : (bytes : List ℕ) (is : List Item) (a : RawArg) (b : Bool) → b ≡ true
    → arg_said bytes is a b ≡ ParamArg (place (λ n. same bytes n a.name) (param_names is))
said_param bytes is a b h = ap (arg_said bytes is a) h

-- the argument that is said at a place is what the one at the place says
pub said_at : (bytes : List ℕ) (is : List Item) (raws : List RawArg) (k : ℕ) (a : RawArg) → slice_get raws k ≡ Some a
    → slice_get (said bytes is raws) k ≡ Some (arg_said bytes is a a.is_param)
said_at bytes is raws k a h = slice_get-map (λ a. arg_said bytes is a a.is_param) raws k ∙ ap (option_map (λ a. arg_said bytes is a a.is_param)) h

-- an input is a variable
pub input_number : (bytes : List ℕ) (is : List Item) (raws : List RawArg) (ls : List RawLet) (S : List SiteOf) (P : List CoordOf) (at x : Span)
    → Sees bytes is raws S P → has_site_arg bytes raws at ≡ true
    → list_any (λ c. same bytes c.name x) (coords_at bytes (scope is raws ls) at) ≡ true
    → number_or_end (vars_behind S P 0 0 (said bytes is raws)) (place (λ a. is_site_arg a && same bytes a.name at) raws)
    (place (λ c. same bytes c.name x) (coords_at bytes (scope is raws ls) at))
    < length (vars_behind S P 0 0 (said bytes is raws))
input_number bytes is raws ls S P at x s h g =
    let p = λ (a : RawArg). is_site_arg a && same bytes a.name at in
    let cs = coords_at bytes (scope is raws ls) at in
    let k = place p raws in
    let c = place (λ (c : RawCoord). same bytes c.name x) cs in
    let f = found_at p raws h in
    let a = f.element in
    let no : a.is_param ≡ false = not-true a.is_param (and_parts (is_site_arg a) (same bytes a.name at) f.passes).0 in
    let kn : IsKnown bytes is a a.is_param = each_get (λ before a. IsKnown bytes is a a.is_param) [] raws k a s.known f.there in
    let ks : IsKnown bytes is a false = subst (λ (b : Bool). IsKnown bytes is a b) no kn in
    let t = type_found bytes is S P a.kind s.declares ks in
    let here : slice_get (said bytes is raws) k ≡ Some (SiteArg (text bytes a.name) (place (λ n. same bytes n a.kind) (site_names is))) =
    said_at bytes is raws k a f.there ∙ ap (λ (w : ArgOf). Some w) (said_site bytes is a a.is_param no) in
    let size : length cs ≡ length (coords_in (find (λ i. is_site i && same bytes (item_name i) a.kind) is)) =
    ap (λ (o : Option RawArg). length (coords_of bytes is o)) f.found in
    let below = (found_at (λ (c : RawCoord). same bytes c.name x) cs g).below in
    let ts = t.size in
    number_from (vars_behind S P 0 0 (said bytes is raws)) k c
    (coord_there S P 0 0 k c (said bytes is raws) (record {
      name = text bytes a.name;
      type = place (λ n. same bytes n a.kind) (site_names is);
      site = t.site;
      arg_is = here;
      type_is = t.there;
      below = omega arith;
    }))

-- a param argument is a variable
pub param_number : (bytes : List ℕ) (is : List Item) (raws : List RawArg) (S : List SiteOf) (P : List CoordOf) (at : Span)
    → Sees bytes is raws S P → has_param_arg bytes raws at ≡ true
    → number_or_end (vars_behind S P 0 0 (said bytes is raws)) (place (λ a. is_param_arg a && same bytes a.name at) raws) 0
    < length (vars_behind S P 0 0 (said bytes is raws))
param_number bytes is raws S P at s h =
    let p = λ (a : RawArg). is_param_arg a && same bytes a.name at in
    let k = place p raws in
    let f = found_at p raws h in
    let a = f.element in
    let yes : a.is_param ≡ true = (and_parts (is_param_arg a) (same bytes a.name at) f.passes).0 in
    let kn : IsKnown bytes is a a.is_param = each_get (λ before a. IsKnown bytes is a a.is_param) [] raws k a s.known f.there in
    let ks : IsKnown bytes is a true = subst (λ (b : Bool). IsKnown bytes is a b) yes kn in
    let v = value_found bytes is S P a.name s.declares ks in
    let here : slice_get (said bytes is raws) k ≡ Some (ParamArg (place (λ n. same bytes n a.name) (param_names is))) =
    said_at bytes is raws k a f.there ∙ ap (λ (w : ArgOf). Some w) (said_param bytes is a a.is_param yes) in
    number_from (vars_behind S P 0 0 (said bytes is raws)) k 0
    (param_there S P 0 0 k (place (λ n. same bytes n a.name) (param_names is)) v.0 (said bytes is raws) here v.1)

literal_fit : (n : ℕ) → n < 2 ^ 127 → (not (int_lt (pos n) (pos 0)) && int_lt (pos n) (pos (2 ^ 127))) ≡ true
literal_fit n h = grind (arith, nat_tests, ints)

name_fit : (bytes : List ℕ) (is : List Item) (raws : List RawArg) (ls : List RawLet) (S : List SiteOf) (P : List CoordOf) (at : Span)
    (o : Option ℕ) → Sees bytes is raws S P → position (λ l. same bytes l.name at) ls ≡ o
    → (has_let bytes ls at || has_param_arg bytes raws at) ≡ true
    → is_fit (length (vars_behind S P 0 0 (said bytes is raws))) (length ls)
    (formulas.tree (vars_behind S P 0 0 (said bytes is raws)) (name_of bytes (scope is raws ls) at o)) ≡ true
name_fit bytes is raws ls S P at (Some j) s e h = lt-ltb j (length ls) (position_below (λ (l : RawLet). same bytes l.name at) ls j e)
name_fit bytes is raws ls S P at None s e h =
    let n : has_let bytes ls at ≡ false = no_position (λ (l : RawLet). same bytes l.name at) ls e in
    let q : has_param_arg bytes raws at ≡ true = rw n at h in
    lt-ltb _ _ (param_number bytes is raws S P at s q)

-- a fit expression is fit once its names are resolved
pub fits : (bytes : List ℕ) (is : List Item) (raws : List RawArg) (ls : List RawLet) (S : List SiteOf) (P : List CoordOf) (e : Tree)
    → Sees bytes is raws S P → Fit bytes (scope is raws ls) e
    → is_fit (length (vars_behind S P 0 0 (said bytes is raws))) (length ls)
    (formulas.tree (vars_behind S P 0 0 (said bytes is raws)) (resolved bytes (scope is raws ls) e)) ≡ true
fits bytes is raws ls S P (TNum at) s h = literal_fit (number bytes at) h
fits bytes is raws ls S P (TName at) s h = name_fit bytes is raws ls S P at (position (λ l. same bytes l.name at) ls) s refl h
fits bytes is raws ls S P (TInput at x) s h = lt-ltb _ _ (input_number bytes is raws ls S P at x s h.0 h.1)
fits bytes is raws ls S P (TNeg at e) s h = fits bytes is raws ls S P e s h
fits bytes is raws ls S P (TAdd at e f) s h = and_from _ _ (fits bytes is raws ls S P e s h.0) (fits bytes is raws ls S P f s h.1)
fits bytes is raws ls S P (TSub at e f) s h = and_from _ _ (fits bytes is raws ls S P e s h.0) (fits bytes is raws ls S P f s h.1)
fits bytes is raws ls S P (TMul at e f) s h = and_from _ _ (fits bytes is raws ls S P e s h.0) (fits bytes is raws ls S P f s h.1)
fits bytes is raws ls S P (TPow at e n) s h = and_from _ _ (fits bytes is raws ls S P e s h.0) (le-leb _ 16 h.1)
