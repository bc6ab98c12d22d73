-- The arguments of a canonical text say those of the table, and their tokens have no fault.
use Rattle.std.proofs.Common.{◌≡◌, ℕ, ◌<◌, ◌≤◌, not, Bool, true, false, cond, List, [], ◌∷◌, ◌++◌, length, map, Some, None, refl}
use Rattle.std.proofs.Common.{ap, sym, ◌∙◌, subst, arith, append_assoc}
use Rattle.std.specs.Prelude.{slice_get, unwrap_or, count_by}
use Rattle.std.specs.List.{list_all}
use Rattle.std.proofs.lemmas.Bool.{and_parts, ltb-true}
use Rattle.ln_syntax.specs.Raw.{Span, Item, text, same}
use Rattle.ln_names.specs.Rules.{RawArg, is_site_arg, is_param_arg, ArgName, ArgSite, ArgParam, has_site, has_param, fault_at}
use Rattle.ln_names.specs.Visits.{visits_by, arg_visits}
use Rattle.ln_names.specs.First.{Clean}
use Rattle.ln_parse.specs.Says.{CoordOf, SiteOf, ArgOf, SiteArg, ParamArg, PredOf, TableOf, place, arg_said, site_names, param_names, sites_said, params_said}
use Rattle.ln_tree.specs.Whole.{arg_name, is_one_of, is_site_said, is_param_said}
use Rattle.ln_parse.specs.ReadsBack.{Every, ArgWritten, ArgsWritten}
use Rattle.ln_parse.specs.WholeTable.{IsShortName, SiteNames, ArgNames, PredKept}
use Rattle.ln_parse.specs.Written.{range_name, site_name}
use Rattle.ln_parse.proofs.Building.Kept.{sites_are, params_are}
use Rattle.ln_parse.proofs.Expressions.Fitting.{said}
use Rattle.ln_parse.proofs.ReadBack.NamePlaces.{Differ}
use Rattle.ln_parse.proofs.ReadBack.CleanValue.{not_over, not_at}
use Rattle.ln_parse.proofs.ReadBack.InputsThere.{at_place, every_at}
use Rattle.ln_parse.proofs.ReadBack.ScopeNames.{type_there, param_there, written_names, differ_left}
use Rattle.ln_parse.proofs.ReadBack.ValueBack.{new_among, room}
use Rattle.ln_parse.proofs.Wholes.WholeParts.{SiteParts, PredParts}

-- the site types and params of a table have names that differ and are short, and its site types are whole
pub record Facts (t : TableOf) : Type 0 where
  pub site_names : Differ (map (λ (x : SiteOf). x.name) t.sites)
  pub param_names : Differ (map (λ (x : CoordOf). x.name) t.params)
  pub short_sites : Every SiteNames t.sites
  pub short_params : Every (λ c. IsShortName c.name) t.params
  pub site_parts : Every SiteParts t.sites

-- the items before a predicate declare all site types and params of the table
pub record Declared (bytes : List ℕ) (is : List Item) (t : TableOf) : Type 0 where
  pub sites : sites_said bytes is ≡ t.sites
  pub params : params_said bytes is ≡ t.params
  pub facts : Facts t

-- an argument that is written so says the table's, and is known
record ArgBack (bytes : List ℕ) (is : List Item) (t : TableOf) (r : RawArg) (a : ArgOf) : Type 0 where
  says : arg_said bytes is r r.is_param ≡ a
  named : text bytes r.name ≡ arg_name t.params a
  short : length (text bytes r.name) ≤ 32
  clean : (before : List RawArg) (b : Bool) → r.is_param ≡ b → (b ≡ false → count_by is_site_arg before < 5)
      → (b ≡ true → count_by is_param_arg before < 8) → fault_at bytes (cond b (ArgParam is before r.name) (ArgSite is before)) r.kind ≡ None

site_clean : (bytes : List ℕ) (is : List Item) (before : List RawArg) (at : Span) → length (text bytes at) ≤ 32
    → count_by is_site_arg before < 5 → has_site bytes is at ≡ true → fault_at bytes (ArgSite is before) at ≡ None
site_clean bytes is before at l c k =
    rw (not_over 32 _ l, not_at (count_by is_site_arg before) 5 c, k) refl

param_clean : (bytes : List ℕ) (is : List Item) (before : List RawArg) (name at : Span) → count_by is_param_arg before < 8
    → has_param bytes is name ≡ true → fault_at bytes (ArgParam is before name) at ≡ None
param_clean bytes is before name at c k = rw (not_at (count_by is_param_arg before) 8 c, k) refl

of_site : (bytes : List ℕ) (is : List Item) (r : RawArg) (b : Bool) (n : List ℕ) (k : ℕ) → b ≡ false → text bytes r.name ≡ n
    → place (λ m. same bytes m r.kind) (site_names is) ≡ k → arg_said bytes is r b ≡ SiteArg n k
of_site bytes is r b n k e f g = rw e (rw (f, g) refl)

of_param : (bytes : List ℕ) (is : List Item) (r : RawArg) (b : Bool) (k : ℕ) → b ≡ true
    → place (λ m. same bytes m r.name) (param_names is) ≡ k → arg_said bytes is r b ≡ ParamArg k
of_param bytes is r b k e g = rw e (rw g refl)

arg_back : (bytes : List ℕ) (is : List Item) (t : TableOf) → Declared bytes is t → (r : RawArg) (a : ArgOf) → ArgWritten bytes t r a
    → is_one_of (length t.sites) (length t.params) a ≡ true → ArgNames a → ArgBack bytes is t r a
arg_back bytes is t d r (SiteArg n k) w o g =
    let e = at_place t.sites k (ltb-true k (length t.sites) o) in
    let s = e.0 in
    let kind : text bytes r.kind ≡ s.name = w.2 ∙ ap site_name e.1 in
    let here : slice_get (sites_said bytes is) k ≡ Some s = ap (λ (x : List SiteOf). slice_get x k) d.sites ∙ e.1 in
    let df = subst (λ (x : List SiteOf). Differ (map (λ (y : SiteOf). y.name) x)) (sym d.sites) d.facts.site_names in
    let b = type_there bytes is k s r.kind df here kind in
    let short : IsShortName s.name = (every_at SiteNames t.sites k s d.facts.short_sites e.1).name in
    let l : length (text bytes r.kind) ≤ 32 = subst (λ (x : List ℕ). length x ≤ 32) (sym kind) short.1 in
    record {
      says = of_site bytes is r r.is_param n k w.0 w.1 (ap (λ o. unwrap_or o 0) b.at);
      named = w.1;
      short = subst (λ (x : List ℕ). length x ≤ 32) (sym w.1) g.1;
      clean = λ before v q c1 c2.
          let z : v ≡ false = sym q ∙ w.0 in
          subst (λ (y : Bool). fault_at bytes (cond y (ArgParam is before r.name) (ArgSite is before)) r.kind ≡ None) (sym z)
          (site_clean bytes is before r.kind l (c1 z) b.known);
    }
arg_back bytes is t d r (ParamArg p) w o g =
    let e = at_place t.params p (ltb-true p (length t.params) o) in
    let c = e.0 in
    let nm : text bytes r.name ≡ c.name = w.1 ∙ ap range_name e.1 in
    let here : slice_get (params_said bytes is) p ≡ Some c = ap (λ (x : List CoordOf). slice_get x p) d.params ∙ e.1 in
    let df = subst (λ (x : List CoordOf). Differ (map (λ (y : CoordOf). y.name) x)) (sym d.params) d.facts.param_names in
    let b = param_there bytes is p c r.name df here nm in
    let short : IsShortName c.name = every_at (λ (y : CoordOf). IsShortName y.name) t.params p c d.facts.short_params e.1 in
    record {
      says = of_param bytes is r r.is_param p w.0 (ap (λ o. unwrap_or o 0) b.at);
      named = w.1;
      short = subst (λ (x : List ℕ). length x ≤ 32) (sym nm) short.1;
      clean = λ before v q c1 c2.
          let z : v ≡ true = sym q ∙ w.0 in
          subst (λ (y : Bool). fault_at bytes (cond y (ArgParam is before r.name) (ArgSite is before)) r.kind ≡ None) (sym z)
          (param_clean bytes is before r.name r.kind (c2 z) b.known);
    }

args_say : (bytes : List ℕ) (is : List Item) (t : TableOf) → Declared bytes is t → (raws : List RawArg) (xs : List ArgOf) → ArgsWritten bytes t raws xs
    → list_all (is_one_of (length t.sites) (length t.params)) xs ≡ true → Every ArgNames xs → said bytes is raws ≡ xs
args_say bytes is t d [] [] w o g = refl
args_say bytes is t d [] (a ∷ xs) w o g = absurd w
args_say bytes is t d (r ∷ raws) [] w o g = absurd w
args_say bytes is t d (r ∷ raws) (a ∷ xs) w o g =
    let p = and_parts (is_one_of (length t.sites) (length t.params) a) (list_all (is_one_of (length t.sites) (length t.params)) xs) o in
    let e = (arg_back bytes is t d r a w.0 p.0 g.0).says in
    let f = args_say bytes is t d raws xs w.1 p.1 g.1 in
    rw (e, f) refl

module _ (bytes : List ℕ) (is : List Item) (t : TableOf) (d : Declared bytes is t) (all : List RawArg)
    (own : Differ (map (λ (a : RawArg). text bytes a.name) all)) (sites : count_by is_site_arg all ≤ 5) (params : count_by is_param_arg all ≤ 8) where
  args_clean : (before raws : List RawArg) (xs : List ArgOf) → before ++ raws ≡ all → ArgsWritten bytes t raws xs
      → list_all (is_one_of (length t.sites) (length t.params)) xs ≡ true → Every ArgNames xs → Clean bytes (visits_by (arg_visits is) before raws)
  args_clean before [] [] q w o g = tt
  args_clean before [] (a ∷ xs) q w o g = absurd w
  args_clean before (r ∷ raws) [] q w o g = absurd w
  args_clean before (r ∷ raws) (a ∷ xs) q w o g =
      let p = and_parts (is_one_of (length t.sites) (length t.params) a) (list_all (is_one_of (length t.sites) (length t.params)) xs) o in
      let b = arg_back bytes is t d r a w.0 p.0 g.0 in
      let k = new_among (λ (a : RawArg). text bytes a.name) all before r raws own q in
      let c : fault_at bytes (ArgName before) r.name ≡ None = rw (not_over 32 _ b.short, k) refl in
      let f = b.clean before r.is_param refl (λ z. room is_site_arg 5 all before r raws q (ap not z) sites)
      (λ z. room is_param_arg 8 all before r raws q z params) in
      (c, (f, args_clean (before ++ (r ∷ [])) raws xs (append_assoc before (r ∷ []) raws ∙ q) w.1 p.1 g.1))

-- arguments that are written so say the table's
pub record ArgsBack (bytes : List ℕ) (is : List Item) (raws : List RawArg) (xs : List ArgOf) : Type 0 where
  pub say : said bytes is raws ≡ xs
  pub clean : Clean bytes (visits_by (arg_visits is) [] raws)

-- the arguments of a canonical text say the table's, and their tokens have no fault
pub args_back : (bytes : List ℕ) (is : List Item) (t : TableOf) (p : PredOf) → Declared bytes is t → (raws : List RawArg)
    → ArgsWritten bytes t raws p.args → PredKept p → PredParts t.sites t.params p → ArgsBack bytes is raws p.args
args_back bytes is t p d raws w k h =
    let e = args_say bytes is t d raws p.args w h.known k.args in
    let a = sites_are bytes is raws in let b = ap (count_by is_site_said) e in let c = h.few_sites in
    let l = params_are bytes is raws in let m = ap (count_by is_param_said) e in let n = h.few_params in
    let df = differ_left (map (arg_name t.params) p.args) p.let_names h.names in
    let own = subst (λ (v : List (List ℕ)). Differ v) (sym (written_names bytes t raws p.args w)) df in
    record { say = e; clean = args_clean bytes is t d raws own (omega arith) (omega arith) [] raws p.args refl w h.known k.args }
