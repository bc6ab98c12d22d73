-- Predicates: one among the items of a text, and two that agree.
use Rattle.std.proofs.Common.{◌≡◌, ℕ, List, [], map, refl}
use Rattle.std.specs.Prelude.{count_by}
use Rattle.ln_syntax.specs.Raw.{Span, Token, Item, text}
use Rattle.ln_names.specs.Rules.{RawArg, RawLet, Places, scope}
use Rattle.ln_parse.specs.Says.{Formula, CoordOf, SiteOf, PredOf, TableOf, LetsSay, Says, PredSays, vars_behind, is_site_said}
use Rattle.ln_parse.proofs.Expressions.Fitting.{said}

-- a predicate as it is read: the bytes, their tokens, the items before it, and its name, arguments, lets and root
pub record PredAt : Type 0 where
  pub bytes : List ℕ
  pub ts : List Token
  pub before : List Item
  pub name : Span
  pub args : List RawArg
  pub lets : List RawLet
  pub root : Places

-- two predicates agree in each of their parts
pub record SamePred (p q : PredOf) : Type 0 where
  pub name : p.name ≡ q.name
  pub at : p.at ≡ q.at
  pub args : p.args ≡ q.args
  pub shape_name : p.shape_name ≡ q.shape_name
  pub sites : p.sites ≡ q.sites
  pub vars : p.vars ≡ q.vars
  pub let_names : p.let_names ≡ q.let_names
  pub lets : p.lets ≡ q.lets
  pub root : p.root ≡ q.root

-- predicates that agree are equal
pub same_pred : (p q : PredOf) → SamePred p q → p ≡ q
same_pred p q s =
    let made : ◌≡◌ {A = PredOf} (record {
      name = p.name;
      at = p.at;
      args = p.args;
      shape_name = p.shape_name;
      sites = p.sites;
      vars = p.vars;
      let_names = p.let_names;
      lets = p.lets;
      root = p.root;
    }) q = rw (s.name, s.at, s.args, s.shape_name, s.sites, s.vars, s.let_names, s.lets, s.root) refl in
    made

-- what a predicate says whose lets and root say formulas, with a table of these site types and params
abbrev pub pred_said : PredAt → List SiteOf → List CoordOf → List Formula → Formula → PredOf
pred_said r ss cs xs x = record {
  name = text r.bytes r.name;
  at = r.name;
  args = said r.bytes r.before r.args;
  shape_name = text r.bytes r.name;
  sites = count_by is_site_said (said r.bytes r.before r.args);
  vars = vars_behind ss cs 0 0 (said r.bytes r.before r.args);
  let_names = map (λ (m : RawLet). text r.bytes m.name) r.lets;
  lets = xs;
  root = x;
}

-- it does
pub one_pred : (r : PredAt) (t : TableOf) (ss : List SiteOf) (cs : List CoordOf) (xs : List Formula) (x : Formula) → t.sites ≡ ss → t.params ≡ cs
    → LetsSay r.bytes r.ts r.before r.args [] r.lets xs → Says r.bytes r.ts (scope r.before r.args r.lets) r.root x
    → PredSays r.bytes r.ts r.before t r.name r.args r.lets r.root (pred_said r ss cs xs x)
one_pred r t ss cs xs x p q l v = record {
  name_is = refl;
  at_is = refl;
  args_are = refl;
  shape_is = refl;
  sites_are = refl;
  vars_are = rw (p, q) refl;
  names_are = refl;
  lets_are = l;
  root_is = v;
}
