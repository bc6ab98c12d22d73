-- Tables whose canonical text is a text.
use Rattle.std.specs.Prelude.{◌≡◌, ◌+◌, ◌≤◌, ℕ, true, List, length, map}
use Rattle.ln_base.specs.Words.{is_name}
use Rattle.ln_tree.specs.Formula.{node_count, node_counts, tree}
use Rattle.ln_tree.specs.Fits.{is_fit, lets_fit}
use Rattle.ln_tree.specs.Table.{SiteOf, ArgOf, SiteArg, ParamArg, PredOf, TableOf}
use Rattle.ln_tree.specs.Whole.{is_whole}
use Rattle.ln_parse.specs.ReadsBack.{Every}

-- a NAME of at most 32 bytes
abbrev pub IsShortName : List ℕ → Type 0
IsShortName t = (is_name t ≡ true) × (length t ≤ 32)

-- the names of a site type and its coordinates
pub record SiteNames (s : SiteOf) : Type 0 where
  pub name : IsShortName s.name
  pub coords : Every (λ c. IsShortName c.name) s.coords

-- the own name of an argument
abbrev pub ArgNames : ArgOf → Type 0
ArgNames (SiteArg n t) = IsShortName n
ArgNames (ParamArg p) = Unit {0}

-- a predicate's names, and what it keeps: as many names as lets, at most 64; expressions that are fit; at most 2,048 nodes
pub record PredKept (p : PredOf) : Type 0 where
  pub name : IsShortName p.name
  pub args : Every ArgNames p.args
  pub let_names : Every IsShortName p.let_names
  pub as_many : length p.let_names ≡ length p.lets
  pub few_lets : length p.lets ≤ 64
  pub lets_fit : lets_fit (length p.vars) 0 (map (tree p.vars) p.lets) ≡ true
  pub root_fit : is_fit (length p.vars) (length p.lets) (tree p.vars p.root) ≡ true
  pub few_nodes : node_counts p.lets + node_count p.root ≤ 2048

-- a table within the limits of the language, whose names are NAMEs of their own
pub record IsWhole (t : TableOf) : Type 0 where
  pub sites : Every SiteNames t.sites
  pub params : Every (λ c. IsShortName c.name) t.params
  pub preds : Every PredKept t.preds
  pub few_sites : length t.sites ≤ 16
  pub few_params : length t.params ≤ 16
  pub few_preds : length t.preds ≤ 16
  pub whole : is_whole t ≡ true
