-- What the canonical text of a table is read as.
use Rattle.std.specs.Prelude.{◌≡◌, ◌<◌, ◌^◌, ℕ, true, false, List, [], ◌∷◌, length, slice_get, unsigned_abs}
use Rattle.ln_syntax.specs.Raw.{Span, Token, Item, SiteItem, ParamItem, PredItem, Is, text, Semi}
use Rattle.ln_base.specs.Words.{is_name}
use Rattle.ln_lex.specs.Tokens.{Lexed}
use Rattle.ln_parse.specs.Says.{RawArg, RawLet, Places, sites_said, params_said, Formula, CoordOf, SiteOf, ArgOf, SiteArg, ParamArg, PredOf, TableOf}
use Rattle.ln_syntax.specs.Expression.{Tree, Derives, Sum}
use Rattle.ln_syntax.specs.File.{Spelt}
use Rattle.ln_parse.specs.Written.{Written, Naming, naming, written, range_name, site_name, spelling, IsNamed}
pub use Rattle.ln_base.specs.Exponents.{Each as Every}

-- a coordinate or a param with a NAME, whose ends have at most 64 digits
pub record CoordNamed (c : CoordOf) : Type 0 where
  pub name : is_name c.name ≡ true
  pub low : unsigned_abs c.lo < 10 ^ 64
  pub high : unsigned_abs c.hi < 10 ^ 64

-- a site type with a NAME and at least one coordinate
pub record SiteNamed (s : SiteOf) : Type 0 where
  pub name : is_name s.name ≡ true
  pub some : 0 < length s.coords
  pub coords : Every CoordNamed s.coords

-- the names by which an argument is written are NAMEs
abbrev pub ArgNamed : TableOf → ArgOf → Type 0
ArgNamed t (SiteArg a s) = (is_name a ≡ true) × (is_name (site_name (slice_get t.sites s)) ≡ true)
ArgNamed t (ParamArg p) = is_name (range_name (slice_get t.params p)) ≡ true

-- as many names as lets, which are NAMEs, as are the names in the lets
abbrev pub LetsNamed : Naming → List (List ℕ) → List Formula → Type 0
LetsNamed n [] [] = Unit {0}
LetsNamed n [] (e ∷ es) = ⊥
LetsNamed n (t ∷ ts) [] = ⊥
LetsNamed n (t ∷ ts) (e ∷ es) = (is_name t ≡ true) × IsNamed (written n e) × LetsNamed n ts es

-- a predicate with at least one argument, all of whose names are NAMEs
pub record PredNamed (t : TableOf) (p : PredOf) : Type 0 where
  pub name : is_name p.name ≡ true
  pub some : 0 < length p.args
  pub args : Every (ArgNamed t) p.args
  pub lets : LetsNamed (naming t p) p.let_names p.lets
  pub root : IsNamed (written (naming t p) p.root)

-- a table all of whose names are NAMEs
pub record TableNamed (t : TableOf) : Type 0 where
  pub sites : Every SiteNamed t.sites
  pub params : Every CoordNamed t.params
  pub preds : Every (PredNamed t) t.preds

-- an argument is written with these names
abbrev pub ArgWritten : List ℕ → TableOf → RawArg → ArgOf → Type 0
ArgWritten bytes t r (SiteArg a s) = (r.is_param ≡ false) × (text bytes r.name ≡ a) × (text bytes r.kind ≡ site_name (slice_get t.sites s))
ArgWritten bytes t r (ParamArg p) = (r.is_param ≡ true) × (text bytes r.name ≡ range_name (slice_get t.params p))

-- arguments are written with these names, one by one
abbrev pub ArgsWritten : List ℕ → TableOf → List RawArg → List ArgOf → Type 0
ArgsWritten bytes t [] [] = Unit {0}
ArgsWritten bytes t [] (a ∷ more) = ⊥
ArgsWritten bytes t (r ∷ rs) [] = ⊥
ArgsWritten bytes t (r ∷ rs) (a ∷ more) = ArgWritten bytes t r a × ArgsWritten bytes t rs more

-- the tokens at these places, before a semicolon, are an expression that is written so
pub record Spells (bytes : List ℕ) (ts : List Token) (p : Places) (e : Written) : Type 0 where
  pub tree : Tree
  pub derives : Derives ts Sum p.from p.to tree
  pub ends : Is ts p.to Semi
  pub same : spelling bytes tree ≡ e

-- lets are written with these names and expressions
abbrev pub LetsWritten : List ℕ → List Token → Naming → List RawLet → List (List ℕ) → List Formula → Type 0
LetsWritten bytes ts n [] [] [] = Unit {0}
LetsWritten bytes ts n (r ∷ rs) (t ∷ us) (e ∷ es) = (text bytes r.name ≡ t) × Spells bytes ts r.value (written n e)
    × LetsWritten bytes ts n rs us es
LetsWritten bytes ts n rs us es = ⊥

-- an item is this predicate, written with its names
pub record PredWritten (bytes : List ℕ) (ts : List Token) (t : TableOf) (name : Span) (args : List RawArg) (ls : List RawLet)
    (root : Places) (p : PredOf) : Type 0 where
  pub name_is : text bytes name ≡ p.name
  pub args_are : ArgsWritten bytes t args p.args
  pub lets_are : LetsWritten bytes ts (naming t p) ls p.let_names p.lets
  pub root_is : Spells bytes ts root (written (naming t p) p.root)

-- the predicates among items are these, in order
abbrev pub PredsWritten : List ℕ → List Token → TableOf → List Item → List PredOf → Type 0
PredsWritten bytes ts t [] [] = Unit {0}
PredsWritten bytes ts t [] (p ∷ ps) = ⊥
PredsWritten bytes ts t (SiteItem n cs ∷ is) ps = PredsWritten bytes ts t is ps
PredsWritten bytes ts t (ParamItem n r ∷ is) ps = PredsWritten bytes ts t is ps
PredsWritten bytes ts t (PredItem n args ls root ∷ is) [] = ⊥
PredsWritten bytes ts t (PredItem n args ls root ∷ is) (p ∷ ps) = PredWritten bytes ts t n args ls root p × PredsWritten bytes ts t is ps

-- the bytes are tokens that spell items: the site types and params of the table, and its predicates, written with their names
pub record ReadsBack (bytes : List ℕ) (t : TableOf) : Type 0 where
  pub tokens : List Token
  pub lexed : Lexed bytes tokens
  pub items : List Item
  pub spelt : Spelt tokens items
  pub sites : sites_said bytes items ≡ t.sites
  pub params : params_said bytes items ≡ t.params
  pub preds : PredsWritten bytes tokens t items t.preds
