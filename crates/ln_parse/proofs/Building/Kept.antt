-- What shapes, predicates and tables keep holds of what a ready file is built into.
use Rattle.std.proofs.Common.{◌≡◌, ℕ, suc, ◌+◌, ◌<◌, ◌≤◌, ◌^◌, not, Bool, true, false, cond, List, [], ◌∷◌, ◌++◌, length}
use Rattle.std.proofs.Common.{map, refl, ap, sym, ◌∙◌, subst, arith, length-append}
use Rattle.std.specs.Prelude.{pos, neg_ℤ, int_lt, count_by, filter_map, Option, Some, None, is_some}
use Rattle.std.specs.List.{list_all}
use Rattle.std.proofs.lemmas.Bool.{and_from, le-leb, eq-eqb, lt-ltb}
use Rattle.std.proofs.lemmas.Bool.Decides.{nat_tests}
use Rattle.std.proofs.lemmas.Int.{ints}
use Rattle.std.proofs.lemmas.List.{length-map}
use Rattle.std.proofs.lemmas.List.Elements.{filter_map-append}
use Rattle.std.proofs.lemmas.List.Sums.{sum_by-cons}
use Rattle.ln_syntax.specs.Raw.{Span, Token, Item, SiteItem, ParamItem, PredItem, is_site, is_param, is_pred, text}
use Rattle.ln_names.specs.Rules.{RawCoord, RawRange, RawArg, RawLet, Places, scope, is_site_arg, is_param_arg}
use Rattle.ln_syntax.proofs.Spellings.OneTree.{one_tree}
use Rattle.ln_names.specs.Numbers.{number, signed, end_value}
use Rattle.ln_names.specs.Visits.{value_nodes, nodes_before}
use Rattle.ln_names.specs.Limits.{Each, RangeWithin}
use Rattle.ln_tree.specs.declared.shape.VarInfo.{VarInfo}
use Rattle.ln_tree.specs.declared.expr.Expr.{Expr}
use Rattle.ln_tree.specs.declared.items.Arg.{Arg}
use Rattle.ln_tree.specs.Formula as formulas
use Rattle.ln_tree.specs.Formula.{Formula, formula, tree_of, node_count, node_counts}
use Rattle.ln_tree.specs.Fits.{is_fit, lets_fit}
use Rattle.ln_tree.specs.Arguments.{are_of as are, args_fit}
use Rattle.ln_tree.specs.Kept.{is_pred as keeps}
use Rattle.ln_tree.specs.declared.pred.Pred.{Pred}
use Rattle.ln_tree.specs.declared.name.Name.{Name}
use Rattle.ln_tree.specs.declared.items.Site.{Site}
use Rattle.ln_tree.specs.declared.items.Param.{Param}
use Rattle.ln_tree.specs.Names.{name_bytes}
use Rattle.ln_tree.specs.Variables.{is_laid_out}
use Rattle.ln_tree.specs.Table.{CoordOf, SiteOf, ArgOf, TableOf, PredOf, arg_of, site_of, param_of, pred_of, pred_fits, is_table}
use Rattle.ln_parse.specs.Says.{ranged, resolved, Says, LetsSay, PredsSay, arg_said, site_said, param_said, sites_said, params_said, vars_behind, is_site_said}
use Rattle.ln_parse.specs.Ready.{ReadyValue, ReadyCoord, ReadyArg, ReadyLet, ReadyPred, ReadyItem, ReadyFile, is_good_site, Declares}
use Rattle.ln_parse.proofs.Building.Predicates.{PredAt}
use Rattle.ln_parse.proofs.Building.LaidOut.{Known, count_cons, laid_out}
use Rattle.ln_parse.proofs.Building.Arguments.{all_are_of, all_fit}
use Rattle.ln_parse.proofs.Expressions.Found.{said_count, each_weaker}
use Rattle.ln_parse.proofs.Expressions.Fitting.{Sees, said, all_known, fits}
use Rattle.ln_parse.proofs.Wholes.TestLemmas.{in_order}
use Rattle.ln_tree.specs.Whole.{is_range, is_one_of, is_param_said}

above : (b : Bool) (n : ℕ) → n < 2 ^ 63 → int_lt (neg_ℤ (pos (2 ^ 63))) (signed b n) ≡ true
above false n h = grind (arith, nat_tests, ints)
above true n h = grind (arith, nat_tests, ints)

below : (b : Bool) (n : ℕ) → n < 2 ^ 63 → int_lt (signed b n) (pos (2 ^ 63)) ≡ true
below false n h = grind (arith, nat_tests, ints)
below true n h = grind (arith, nat_tests, ints)

-- a range within the limits is a range
pub ranged_good : (bytes : List ℕ) (name : Span) (r : RawRange) → RangeWithin bytes r → is_range (ranged bytes name r) ≡ true
ranged_good bytes name r w =
    and_from _ _ (and_from _ _ (ap not (in_order (end_value bytes r.low) (end_value bytes r.high) w.order))
    (above r.low.negative (number bytes r.low.at) w.low)) (below r.high.negative (number bytes r.high.at) w.high)

-- the ranges of coordinates that are ready are ranges
pub coords_good : (bytes : List ℕ) (before cs : List RawCoord) → Each (λ before c. ReadyCoord bytes c) before cs
    → list_all is_range (map (λ c. ranged bytes c.name c.range) cs) ≡ true
coords_good bytes before [] e = refl
coords_good bytes before (c ∷ cs) e = and_from _ _ (ranged_good bytes c.name c.range e.0.range) (coords_good bytes (before ++ (c ∷ [])) cs e.1)

-- the name of a predicate; of another item none
abbrev pub pred_name : Item → Option Span
pred_name (PredItem n as' ls r) = Some n
pred_name i = None

-- the site types and params of ready items are good
pub sites_good : (bytes : List ℕ) (ts : List Token) (before is : List Item) → Each (ReadyItem bytes ts) before is
    → list_all is_good_site (sites_said bytes is) ≡ true
sites_good bytes ts before [] e = refl
sites_good bytes ts before (SiteItem n cs ∷ is) e =
    let l = length-map cs (λ (c : RawCoord). ranged bytes c.name c.range) in
    let s = e.0.some in let f = e.0.few in
    and_from _ _ (and_from _ _ (and_from _ _ (lt-ltb 0 (length (map (λ (c : RawCoord). ranged bytes c.name c.range) cs)) (omega arith))
    (le-leb (length (map (λ (c : RawCoord). ranged bytes c.name c.range) cs)) 32 (omega arith))) (coords_good bytes [] cs e.0.coords))
    (sites_good bytes ts (before ++ (SiteItem n cs ∷ [])) is e.1)
sites_good bytes ts before (ParamItem n r ∷ is) e = sites_good bytes ts (before ++ (ParamItem n r ∷ [])) is e.1
sites_good bytes ts before (PredItem n as' ls p ∷ is) e = sites_good bytes ts (before ++ (PredItem n as' ls p ∷ [])) is e.1

-- and so are the params
pub params_good : (bytes : List ℕ) (ts : List Token) (before is : List Item) → Each (ReadyItem bytes ts) before is
    → list_all is_range (params_said bytes is) ≡ true
params_good bytes ts before [] e = refl
params_good bytes ts before (SiteItem n cs ∷ is) e = params_good bytes ts (before ++ (SiteItem n cs ∷ [])) is e.1
params_good bytes ts before (ParamItem n r ∷ is) e =
    and_from _ _ (ranged_good bytes n r e.0.range) (params_good bytes ts (before ++ (ParamItem n r ∷ [])) is e.1)
params_good bytes ts before (PredItem n as' ls p ∷ is) e = params_good bytes ts (before ++ (PredItem n as' ls p ∷ [])) is e.1

-- the table of a file begins with what the items before a place declare
pub declared : (bytes : List ℕ) (ts : List Token) (before rest is : List Item) (S : List SiteOf) (P : List CoordOf) → before ++ rest ≡ is
    → S ≡ sites_said bytes is → P ≡ params_said bytes is → Each (ReadyItem bytes ts) [] is → Declares bytes before S P
declared bytes ts before rest is S P q s p e =
    record {
      more_sites = sites_said bytes rest;
      sites_are = s ∙ ap (λ (w : List Item). sites_said bytes w) (sym q) ∙ filter_map-append (site_said bytes) before rest;
      more_params = params_said bytes rest;
      params_are = p ∙ ap (λ (w : List Item). params_said bytes w) (sym q) ∙ filter_map-append (param_said bytes) before rest;
      good_sites = ap (list_all is_good_site) s ∙ sites_good bytes ts [] is e;
      good_params = ap (list_all is_range) p ∙ params_good bytes ts [] is e;
    }

-- the arguments of a ready predicate are declared
pub sees : (bytes : List ℕ) (is : List Item) (args : List RawArg) (S : List SiteOf) (P : List CoordOf) → Declares bytes is S P
    → Each (λ before a. ReadyArg bytes is a) [] args → Sees bytes is args S P
sees bytes is args S P d e = record { declares = d; known = each_weaker _ _ (λ b a r. r.known) [] args e }

-- how many site arguments there are, and how many arguments
said_by : (bytes : List ℕ) (is : List Item) (a : RawArg) (b : Bool) → is_site_said (arg_said bytes is a b) ≡ not b
said_by bytes is a true = refl
said_by bytes is a false = refl

-- there are as many sites among the arguments that are said as site arguments
pub sites_are : (bytes : List ℕ) (is : List Item) (args : List RawArg) → count_by is_site_said (said bytes is args) ≡ count_by is_site_arg args
sites_are bytes is [] = refl
sites_are bytes is (a ∷ args) =
    let e = said_by bytes is a a.is_param in
    let r = sites_are bytes is args in
    count_cons is_site_said (arg_said bytes is a a.is_param) (said bytes is args) ∙ rw (e, r) (sym (count_cons is_site_arg a args))

param_by : (bytes : List ℕ) (is : List Item) (a : RawArg) (b : Bool) → is_param_said (arg_said bytes is a b) ≡ b
param_by bytes is a true = refl
param_by bytes is a false = refl

-- and as many params as param arguments
pub params_are : (bytes : List ℕ) (is : List Item) (args : List RawArg) → count_by is_param_said (said bytes is args) ≡ count_by is_param_arg args
params_are bytes is [] = refl
params_are bytes is (a ∷ args) =
    let e = param_by bytes is a a.is_param in
    let r = params_are bytes is args in
    count_cons is_param_said (arg_said bytes is a a.is_param) (said bytes is args) ∙ rw (e, r) (sym (count_cons is_param_arg a args))

either : (b : Bool) → cond (not b) 1 0 + cond b 1 0 ≡ 1
either true = refl
either false = refl

-- each argument is a site argument or a param argument
pub args_are : (args : List RawArg) → count_by is_site_arg args + count_by is_param_arg args ≡ length args
args_are [] = refl
args_are (a ∷ args) =
    let x = count_cons is_site_arg a args in
    let y = count_cons is_param_arg a args in
    let e = either a.is_param in
    let r = args_are args in omega arith

-- what tokens mean is what the ready expression means
value_fit : (bytes : List ℕ) (ts : List Token) (is : List Item) (args : List RawArg) (ls : List RawLet) (p : Places) (x : Formula)
    (S : List SiteOf) (P : List CoordOf) → Sees bytes is args S P
    → Says bytes ts (scope is args ls) p x → ReadyValue bytes ts (scope is args ls) p
    → (is_fit (length (vars_behind S P 0 0 (said bytes is args))) (length ls) (formulas.tree (vars_behind S P 0 0 (said bytes is args)) x) ≡ true)
    × (node_count x ≡ value_nodes ts p)
value_fit bytes ts is args ls p x S P g s v =
    let vars = vars_behind S P 0 0 (said bytes is args) in
    let t = (one_tree s.derives s.ends v.derives v.ends).tree in
    let q : resolved bytes (scope is args ls) v.tree ≡ x = ap (resolved bytes (scope is args ls)) (sym t) ∙ s.means in (
      subst (λ (w : Formula). is_fit (length vars) (length ls) (formulas.tree vars w) ≡ true) q (fits bytes is args ls S P v.tree g v.fit),
      ap node_count (sym q) ∙ v.counted,
    )

lets_kept : (bytes : List ℕ) (ts : List Token) (is : List Item) (args : List RawArg) (before ls : List RawLet) (xs : List Expr)
    (S : List SiteOf) (P : List CoordOf) → Sees bytes is args S P
    → LetsSay bytes ts is args before ls (map formula xs) → Each (ReadyLet bytes ts is args) before ls
    → (lets_fit (length (vars_behind S P 0 0 (said bytes is args))) (length before) (map (tree_of (vars_behind S P 0 0 (said bytes is args))) xs) ≡ true)
    × (node_counts (map formula xs) ≡ nodes_before ts ls) × (length xs ≡ length ls)
lets_kept bytes ts is args before [] [] S P g s e = (refl, refl, refl)
lets_kept bytes ts is args before [] (x ∷ xs) S P g s e = absurd s
lets_kept bytes ts is args before (l ∷ ls) [] S P g s e = absurd s
lets_kept bytes ts is args before (l ∷ ls) (x ∷ xs) S P g s e =
    let vars = vars_behind S P 0 0 (said bytes is args) in
    let a = value_fit bytes ts is args before l.value (formula x) S P g s.0 e.0.value in
    let r = lets_kept bytes ts is args (before ++ (l ∷ [])) ls xs S P g s.1 e.1 in
    let n : length (before ++ (l ∷ [])) ≡ suc (length before) = length-append before (l ∷ []) ∙ (omega arith) in
    let b = subst (λ (w : ℕ). lets_fit (length vars) w (map (tree_of vars) xs) ≡ true) n r.0 in
    let c : nodes_before ts (l ∷ ls) ≡ value_nodes ts l.value + nodes_before ts ls = sum_by-cons (λ (l : RawLet). value_nodes ts l.value) l ls in
    let d = a.1 in let f = r.1 in
    (and_from _ _ a.0 b, omega arith, ap suc r.2)

-- a predicate is ready after items that declare these site types and params, and these are its arguments
pub record PredReady (r : PredAt) (S : List SiteOf) (P : List CoordOf) (args : List Arg) : Type 0 where
  pub ready : ReadyPred r.bytes r.ts r.before r.name r.args r.lets r.root
  pub declares : Declares r.bytes r.before S P
  pub args_are : map arg_of args ≡ said r.bytes r.before r.args

-- the lets and the root of a predicate say these expressions, and there are as many names as lets
pub record BodySaid (r : PredAt) (lets : List Expr) (names : ℕ) (root : Expr) : Type 0 where
  pub lets_are : LetsSay r.bytes r.ts r.before r.args [] r.lets (map formula lets)
  pub root_is : Says r.bytes r.ts (scope r.before r.args r.lets) r.root (formula root)
  pub as_many : names ≡ length r.lets

-- a ready predicate keeps what predicates keep
pub pred_kept : {r : PredAt} {S : List SiteOf} {P : List CoordOf} {args : List Arg} → PredReady r S P args → (vars : List VarInfo) (xs : List Expr)
    (names : ℕ) (root : Expr) → vars ≡ vars_behind S P 0 0 (map arg_of args) → BodySaid r xs names root → keeps args vars xs names root ≡ true
pred_kept {r = r} {S = S} {P = P} {args = args} d vars xs names root v b =
    let g = sees r.bytes r.before r.args S P d.declares d.ready.args in
    let k : Known S P = record { sites = d.declares.good_sites; params = d.declares.good_params } in
    let h : list_all (is_one_of (length S) (length P)) (map arg_of args) ≡ true =
    ap (list_all (is_one_of (length S) (length P))) d.args_are ∙ all_known r.bytes r.before r.args S P g in
    let w : vars_behind S P 0 0 (said r.bytes r.before r.args) ≡ vars = ap (vars_behind S P 0 0) (sym d.args_are) ∙ sym v in
    let m = lets_kept r.bytes r.ts r.before r.args [] r.lets xs S P g b.lets_are d.ready.lets in
    let f = value_fit r.bytes r.ts r.before r.args r.lets r.root (formula root) S P g b.root_is d.ready.root in
    let m0 = subst (λ (u : List VarInfo). lets_fit (length u) 0 (map (tree_of u) xs) ≡ true) w m.0 in
    let m1 = m.1 in
    let m2 = m.2 in
    let f0 = subst (λ (u : List VarInfo). is_fit (length u) (length r.lets) (formulas.tree u (formula root)) ≡ true) w f.0 in
    let f1 = subst (λ (u : ℕ). is_fit (length vars) u (formulas.tree vars (formula root)) ≡ true) (sym m2) f0 in
    let f2 = f.1 in
    let n = b.as_many in
    let c = d.ready.let_count in
    let z = d.ready.nodes in
    let o : are args vars ≡ true = subst (λ (u : List VarInfo). are args u ≡ true) (sym v) (all_are_of S P k args h) in
    and_from _ _ (and_from _ _ (and_from _ _ (and_from _ _ (and_from _ _ o (le-leb (length xs) 64 (omega arith))) (eq-eqb names (length xs) (omega arith))) m0)
    f1) (le-leb (node_counts (map formula xs) + node_count (formula root)) 2048 (omega arith))

-- how many arguments a ready predicate has
pub record FewArgs (raws : List RawArg) (xs : List Arg) : Type 0 where
  pub raw : length raws ≤ 13
  pub all : length xs ≤ 13
  pub sites : count_by is_site_said (map arg_of xs) ≤ 5
  pub others : length xs ≤ count_by is_site_said (map arg_of xs) + 8

-- at most 5 of sites and 8 of params are at most 13
pub few_args : (bytes : List ℕ) (is : List Item) (raws : List RawArg) (xs : List Arg) → map arg_of xs ≡ said bytes is raws
    → count_by is_site_arg raws ≤ 5 → count_by is_param_arg raws ≤ 8 → FewArgs raws xs
few_args bytes is raws xs a m n =
    let l = length-map xs arg_of in
    let k = ap (λ (w : List ArgOf). length w) a in
    let r = length-map raws (λ (b : RawArg). arg_said bytes is b b.is_param) in
    let c = args_are raws in
    let s = sites_are bytes is raws in
    let t = ap (count_by is_site_said) a in
    record { raw = omega arith; all = omega arith; sites = omega arith; others = omega arith }

-- the arguments of a ready predicate are of the table's site types and params
pub args_known : {r : PredAt} {S : List SiteOf} {P : List CoordOf} {xs : List Arg} → PredReady r S P xs
    → list_all (is_one_of (length S) (length P)) (map arg_of xs) ≡ true
args_known {r = r} {S = S} {P = P} d = ap (list_all (is_one_of (length S) (length P))) d.args_are
    ∙ all_known r.bytes r.before r.args S P (sees r.bytes r.before r.args S P d.declares d.ready.args)

-- the variables of a ready predicate are those of a shape
pub shape_kept : {r : PredAt} {S : List SiteOf} {P : List CoordOf} {xs : List Arg} → PredReady r S P xs → (sites : ℕ) (vars : List VarInfo)
    → sites ≡ count_by is_site_said (map arg_of xs) → vars ≡ vars_behind S P 0 0 (map arg_of xs) → is_laid_out sites vars ≡ true
shape_kept {r = r} {S = S} {P = P} {xs = xs} d sites vars s v =
    let k : Known S P = record { sites = d.declares.good_sites; params = d.declares.good_params } in
    let h = args_known d in
    let f = few_args r.bytes r.before r.args xs d.args_are d.ready.site_args d.ready.param_args in
    let l = length-map xs arg_of in
    let g = f.sites in let o = f.others in
    let q = laid_out S P k (map arg_of xs) h (omega arith) (omega arith) in
    rw (s, v) q

-- a ready predicate fits the table
pub args_kept : {r : PredAt} {xs : List Arg} (sites : List Site) (params : List Param) (vars : List VarInfo)
    → PredReady r (map site_of sites) (map param_of params) xs → vars ≡ vars_behind (map site_of sites) (map param_of params) 0 0 (map arg_of xs)
    → args_fit sites params vars 0 xs ≡ true
args_kept {xs = xs} sites params vars d v =
    let h = args_known d in
    let m = length-map sites site_of in
    let n = length-map params param_of in
    let g : list_all (is_one_of (length sites) (length params)) (map arg_of xs) ≡ true =
    subst (λ (u : ℕ). list_all (is_one_of u (length params)) (map arg_of xs) ≡ true) m
    (subst (λ (u : ℕ). list_all (is_one_of (length (map site_of sites)) u) (map arg_of xs) ≡ true) n h) in
    rw v (all_fit sites params xs g)

-- there are as many names as lets
pub as_many : (bytes : List ℕ) (ls : List RawLet) (names : List Name) → map name_bytes names ≡ map (λ l. text bytes l.name) ls → length names ≡ length ls
as_many bytes ls names h =
    let a = length-map names name_bytes in
    let b = length-map ls (λ (l : RawLet). text bytes l.name) in
    let c = ap (λ (w : List (List ℕ)). length w) h in omega arith

-- the names of the predicates that items say
pub preds_named : (bytes : List ℕ) (ts : List Token) (t : TableOf) (before is : List Item) (ps : List PredOf) → PredsSay bytes ts before t is ps
    → map (λ (p : PredOf). p.name) ps ≡ map (text bytes) (filter_map pred_name is)
preds_named bytes ts t before [] [] s = refl
preds_named bytes ts t before [] (p ∷ ps) s = absurd s
preds_named bytes ts t before (SiteItem n cs ∷ is) ps s = preds_named bytes ts t (before ++ (SiteItem n cs ∷ [])) is ps s
preds_named bytes ts t before (ParamItem n r ∷ is) ps s = preds_named bytes ts t (before ++ (ParamItem n r ∷ [])) is ps s
preds_named bytes ts t before (PredItem n as' ls r ∷ is) [] s = absurd s
preds_named bytes ts t before (PredItem n as' ls r ∷ is) (p ∷ ps) s =
    let a = s.0.name_is in
    let b = preds_named bytes ts t (before ++ (PredItem n as' ls r ∷ [])) is ps s.1 in
    rw (a, b) refl

-- there are as many site types as items that are such
pub said_sites : (bytes : List ℕ) (is : List Item) → length (sites_said bytes is) ≡ count_by is_site is
said_sites bytes is = said_count (site_said bytes) is_site is (λ x. elim x as (λ y. is_site y ≡ is_some (site_said bytes y))
    [ SiteItem n cs ↦ refl | ParamItem n r ↦ refl | PredItem n as' ls r ↦ refl ])

-- and as many params
pub said_params : (bytes : List ℕ) (is : List Item) → length (params_said bytes is) ≡ count_by is_param is
said_params bytes is = said_count (param_said bytes) is_param is (λ x. elim x as (λ y. is_param y ≡ is_some (param_said bytes y))
    [ SiteItem n cs ↦ refl | ParamItem n r ↦ refl | PredItem n as' ls r ↦ refl ])

-- and as many names of predicates
pub preds_counted : (is : List Item) → length (filter_map pred_name is) ≡ count_by is_pred is
preds_counted is = said_count pred_name is_pred is (λ x. elim x as (λ y. is_pred y ≡ is_some (pred_name y))
    [ SiteItem n cs ↦ refl | ParamItem n r ↦ refl | PredItem n as' ls r ↦ refl ])

said_preds : (bytes : List ℕ) (ts : List Token) (before : List Item) (t : TableOf) (is : List Item) (ps : List PredOf)
    → PredsSay bytes ts before t is ps → length ps ≡ count_by is_pred is
said_preds bytes ts before t is ps s =
    let a = length-map ps (λ (p : PredOf). p.name) in
    let b = length-map (filter_map pred_name is) (text bytes) in
    let c = ap (λ (w : List (List ℕ)). length w) (preds_named bytes ts t before is ps s) in
    let d = preds_counted is in
    omega arith

-- the table of a ready file is a table
pub table_kept : (bytes : List ℕ) (ts : List Token) (is : List Item) (sites : List Site) (params : List Param) (preds : List Pred)
    → ReadyFile bytes ts is → map site_of sites ≡ sites_said bytes is → map param_of params ≡ params_said bytes is
    → list_all (pred_fits sites params) preds ≡ true
    → ((t : TableOf) → t.sites ≡ map site_of sites → t.params ≡ map param_of params → PredsSay bytes ts [] t is (map pred_of preds))
    → is_table sites params preds ≡ true
table_kept bytes ts is sites params preds r s p f q =
    let t : TableOf = record { sites = map site_of sites; params = map param_of params; preds = [] } in
    let a = ap (λ (w : List SiteOf). length w) s in let b = length-map sites site_of in let c = said_sites bytes is in
    let d = ap (λ (w : List CoordOf). length w) p in let e = length-map params param_of in let g = said_params bytes is in
    let h = said_preds bytes ts [] t is (map pred_of preds) (q t refl refl) in let i = length-map preds pred_of in
    let x = r.sites in let y = r.params in let z = r.preds in
    and_from _ _ (and_from _ _ (and_from _ _ (le-leb (length sites) 16 (omega arith)) (le-leb (length params) 16 (omega arith)))
    (le-leb (length preds) 16 (omega arith))) f
