-- The canonical text of a whole table is a text of it.
use Rattle.std.proofs.Common.{◌≡◌, ℕ, suc, ◌+◌, ◌≤◌, ◌<◌, true, List, [], ◌∷◌, length, map, refl, ap, sym, arith}
use Rattle.std.specs.List.{list_all}
use Rattle.std.proofs.lemmas.Bool.{and_parts, ltb-true}
use Rattle.ln_tree.specs.declared.shape.VarInfo.{VarInfo}
use Rattle.ln_parse.specs.Written.{Formula, tree, CoordOf, SiteOf, ArgOf, SiteArg, ParamArg, PredOf, TableOf, Naming, naming}
use Rattle.ln_tree.specs.Fits.{is_fit, lets_fit}
use Rattle.ln_tree.specs.Whole.{vars_behind, is_one_of, nesting}
use Rattle.ln_parse.specs.Canonical.{canonical, lexemes}
use Rattle.ln_parse.specs.ReadsBack.{Every, CoordNamed, SiteNamed, ArgNamed, LetsNamed, PredNamed, TableNamed}
use Rattle.ln_parse.specs.Spanless.{IsTextUpToSpans}
use Rattle.ln_parse.specs.WholeTable.{IsShortName, SiteNames, ArgNames, PredKept, IsWhole}
use Rattle.ln_parse.proofs.Texts.ItemsBack.{like_sites, like_params}
use Rattle.ln_parse.proofs.Texts.ClearText.{PredDeep, table_clear, table_back}
use Rattle.ln_parse.proofs.ReadBack.FileClean.{file_done}
use Rattle.ln_parse.proofs.ReadBack.InputsThere.{NamesGood, named, at_place, every_at}
use Rattle.ln_parse.proofs.Texts.LexBack.{toks, lexed}
use Rattle.ln_parse.proofs.Texts.Nested.{shallow, words_are}
use Rattle.ln_parse.proofs.Wholes.TextTokens.{table_words}
use Rattle.ln_parse.proofs.Wholes.WholeParts.{InRange, SiteParts, PredParts, table_parts, every_map}

-- what two facts on each element give
both : {A : Type 0} (P Q R : A → Type 0) (xs : List A) → ((x : A) → P x → Q x → R x) → Every P xs → Every Q xs → Every R xs
both P Q R [] f a b = tt
both P Q R (x ∷ xs) f a b = (f x a.0 b.0, both P Q R xs f a.1 b.1)

coord_named : (c : CoordOf) → IsShortName c.name → InRange c → CoordNamed c
coord_named c n r = let a = r.low in let b = r.high in record { name = n.0; low = omega arith; high = omega arith }

site_named : (s : SiteOf) → SiteNames s → SiteParts s → SiteNamed s
site_named s n p = record { name = n.name.0; some = p.some; coords = both (λ c. IsShortName c.name) InRange CoordNamed s.coords coord_named n.coords p.ranges }

arg_named : (t : TableOf) → Every SiteNames t.sites → Every (λ c. IsShortName c.name) t.params → (a : ArgOf)
    → is_one_of (length t.sites) (length t.params) a ≡ true → ArgNames a → ArgNamed t a
arg_named t ss cs (SiteArg n k) h g =
    let e = at_place t.sites k (ltb-true k (length t.sites) h) in
    (g.0, rw e.1 (every_at SiteNames t.sites k e.0 ss e.1).name.0)
arg_named t ss cs (ParamArg p) h g =
    let e = at_place t.params p (ltb-true p (length t.params) h) in
    let q : IsShortName e.0.name = every_at (λ (c : CoordOf). IsShortName c.name) t.params p e.0 cs e.1 in
    rw e.1 q.0

args_named : (t : TableOf) → Every SiteNames t.sites → Every (λ c. IsShortName c.name) t.params → (xs : List ArgOf)
    → list_all (is_one_of (length t.sites) (length t.params)) xs ≡ true → Every ArgNames xs → Every (ArgNamed t) xs
args_named t ss cs [] h g = tt
args_named t ss cs (a ∷ xs) h g =
    let p = and_parts (is_one_of (length t.sites) (length t.params) a) (list_all (is_one_of (length t.sites) (length t.params)) xs) h in
    (arg_named t ss cs a p.0 g.0, args_named t ss cs xs p.1 g.1)

lets_named : (n : Naming) → NamesGood n → (vars : List VarInfo) → vars ≡ vars_behind n.sites n.params 0 0 n.args
    → (j : ℕ) (us : List (List ℕ)) (es : List Formula) → j + length us ≤ length n.lets → length us ≡ length es → Every IsShortName us
    → lets_fit (length vars) j (map (tree vars) es) ≡ true → LetsNamed n us es
lets_named n g vars v j [] [] l m k h = tt
lets_named n g vars v j [] (e ∷ es) l m k h = absurd (omega arith)
lets_named n g vars v j (u ∷ us) [] l m k h = absurd (omega arith)
lets_named n g vars v j (u ∷ us) (e ∷ es) l m k h =
    let p = and_parts (is_fit (length vars) j (tree vars e)) (lets_fit (length vars) (suc j) (map (tree vars) es)) h in
    (k.0.0, named n g vars j v (omega arith) e p.0, lets_named n g vars v (suc j) us es (omega arith) (omega arith) k.1 p.1)

pred_named : (t : TableOf) → Every SiteNames t.sites → Every (λ c. IsShortName c.name) t.params → (p : PredOf) → PredKept p
    → PredParts t.sites t.params p → PredNamed t p
pred_named t ss cs p k h =
    let n = naming t p in
    let g : NamesGood n = record { sites = ss; params = cs; args = k.args; lets = k.let_names } in
    let m = k.as_many in
    record {
      name = k.name.0;
      some = h.some;
      args = args_named t ss cs p.args h.known k.args;
      lets = lets_named n g p.vars h.vars 0 p.let_names p.lets (omega arith) m k.let_names k.lets_fit;
      root = named n g p.vars (length p.lets) h.vars (omega arith) p.root k.root_fit;
    }

-- all names of a whole table are NAMEs
table_named : (t : TableOf) → IsWhole t → TableNamed t
table_named t w =
    let p = table_parts t w.whole in
    record {
      sites = both SiteNames SiteParts SiteNamed t.sites site_named w.sites p.sites;
      params = both (λ c. IsShortName c.name) InRange CoordNamed t.params coord_named w.params p.params;
      preds = both PredKept (PredParts t.sites t.params) (PredNamed t) t.preds (pred_named t w.sites w.params) w.preds p.preds;
    }

deep_from : {S : List SiteOf} {P : List CoordOf} (p : PredOf) → PredParts S P p → PredDeep (λ d. d < 64) p
deep_from p h = record {
  args = omega arith;
  lets = every_map (λ e. nesting 0 e ≤ 64) _ p.lets (λ e l d m. omega arith) h.lets;
  root = let l = h.root in λ d m. omega arith;
}

-- the canonical text of a whole table is a text of it, up to spans
pub has_table : (t : TableOf) → IsWhole t → IsTextUpToSpans (canonical t) t
has_table t w =
    let p = table_parts t w.whole in
    let n = table_named t w in
    let xs = lexemes t [] in
    let b = table_back t n in
    let d = file_done (canonical t) (toks 0 xs) t w p b.items b.derives b.like in
    let u : TableOf = record { sites = t.sites; params = t.params; preds = d.preds } in
    let a = words_are 0 xs in
    let c = table_words t w.preds p.preds in
    let e = p.tokens in
    let deep = every_map (PredParts t.sites t.params) (PredDeep (λ d. d < 64)) t.preds deep_from p.preds in
    let k = table_clear (λ d. d < 64) t n deep in
    record {
      table = u;
      text = record {
        tokens = toks 0 xs;
        lexed = lexed (λ d. d < 64) xs k;
        few = omega arith;
        shallow = shallow xs k;
        items = b.items;
        spelt = b.derives;
        clean = d.clean;
        says = record { sites_are = sym (like_sites b.like); params_are = sym (like_params b.like); preds_are = d.say u refl refl };
      };
      same = ap (λ (ps : List PredOf). record { sites = t.sites; params = t.params; preds = ps }) d.same;
    }
