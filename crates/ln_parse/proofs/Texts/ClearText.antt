-- No token of a canonical text runs on into what follows it.
use Rattle.std.proofs.Common.{ℕ, ◌<◌, ◌^◌, Bool, true, false, pos, List, [], ◌∷◌, refl, codes, arith}
use Rattle.std.specs.Prelude.{int_lt, slice_get}
use Rattle.ln_lex.specs.declared.token.Kind.TheVariants.{Semi, BraceL, BraceR, ParR, Comma, Dots}
use Rattle.ln_parse.specs.Written.{Formula, CoordOf, SiteOf, ArgOf, SiteArg, ParamArg, PredOf, TableOf, Naming, naming, range_name, site_name}
use Rattle.ln_tree.specs.Whole.{nesting}
use Rattle.ln_parse.specs.Canonical.{Lexeme, gap, line, word, signed, minus_if, number, each, ranged, coord, site, param, arg, args, lets, root, pred, lexemes}
use Rattle.ln_parse.specs.Canonical.{canonical}
use Rattle.ln_parse.specs.ReadsBack.{Every, CoordNamed, SiteNamed, ArgNamed, LetsNamed, PredNamed, TableNamed, ReadsBack}
use Rattle.ln_parse.proofs.Texts.WordTokens.{number_kind, name_kind}
use Rattle.ln_parse.proofs.Texts.LexBack.{Clear, toks, lexed}
use Rattle.ln_parse.proofs.Texts.DeriveBack.{Sits, sits}
use Rattle.ln_parse.proofs.Texts.Nested.{Clears, Below, whole_clear}
use Rattle.ln_parse.proofs.Wholes.TestLemmas.{every_of, every_pair}
use Rattle.ln_parse.proofs.Texts.ItemsBack.{FileBack, like_sites, like_params, like_preds, sites_back}

-- P holds at the depths of the parentheses of an expression
abbrev pub Deep : (ℕ → Type 0) → Formula → Type 0
Deep P e = Below P (nesting 0 e)

-- and at those of a predicate
pub record PredDeep (P : ℕ → Type 0) (p : PredOf) : Type 0 where
  pub args : P 0
  pub lets : Every (Deep P) p.lets
  pub root : Deep P p.root

module _ (P : ℕ → Type 0) where
  signed_by : (v : Bool) (n : ℕ) → n < 10 ^ 64 → Clears P 0 (λ rest. minus_if v (number n rest))
  signed_by false n h = λ rest s c. (number_kind n h, s, c)
  signed_by true n h = λ rest s c. (refl, tt, (number_kind n h, s, c))

  -- lexemes of nothing open that stay so
  abbrev Keeps : (List Lexeme → List Lexeme) → Type 0
  Keeps f = (rest : List Lexeme) → Clear P 0 rest → Clear P 0 (f rest)

  ranged_clear : (c : CoordOf) → CoordNamed c → Keeps (ranged c)
  ranged_clear c n rest k = (
    name_kind c.name n.name,
    refl,
    (
      refl,
      tt,
      signed_by (int_lt c.lo (pos 0)) _ n.low (gap ∷ word Dots (codes "..") ∷ gap ∷ signed c.hi (word Semi (codes ";") ∷ rest)) refl
          (refl, tt, signed_by (int_lt c.hi (pos 0)) _ n.high (word Semi (codes ";") ∷ rest) refl (refl, tt, k)),
    ),
  )

  each_clear : {A : Type 0} (f : A → List Lexeme → List Lexeme) (Q : A → Type 0) → ((x : A) → Q x → Keeps (f x))
      → (xs : List A) → Every Q xs → Keeps (each f xs)
  each_clear f Q h [] n rest k = k
  each_clear f Q h (x ∷ xs) n rest k = h x n.0 (each f xs rest) (each_clear f Q h xs n.1 rest k)

  site_clear : (s : SiteOf) → SiteNamed s → Keeps (site s)
  site_clear s n rest k =
      let c = each_clear coord CoordNamed (λ c m r. ranged_clear c m (gap ∷ r)) s.coords n.coords (word BraceR (codes "}") ∷ line ∷ rest) (refl, tt, k) in
      (refl, refl, (name_kind s.name n.name, refl, (refl, tt, c)))

  param_clear : (c : CoordOf) → CoordNamed c → Keeps (param c)
  param_clear c n rest k = (refl, refl, ranged_clear c n (line ∷ rest) k)

  arg_clear : (t : TableOf) (a : ArgOf) → ArgNamed t a → Clears P 1 (arg t a)
  arg_clear t (SiteArg a s) n = λ rest s1 c. (name_kind a n.0, refl, (refl, tt, (name_kind (site_name (slice_get t.sites s)) n.1, s1, c)))
  arg_clear t (ParamArg p) n = λ rest s1 c. (name_kind (range_name (slice_get t.params p)) n, refl, (refl, tt, (refl, s1, c)))

  args_clear : (t : TableOf) (xs : List ArgOf) → Every (ArgNamed t) xs → Clears P 1 (args t xs)
  args_clear t [] n = λ rest s c. c
  args_clear t (a ∷ []) n = arg_clear t a n.0
  args_clear t (a ∷ b ∷ bs) n =
      λ rest s c. arg_clear t a n.0 (word Comma (codes ",") ∷ gap ∷ args t (b ∷ bs) rest) refl (refl, tt, args_clear t (b ∷ bs) n.1 rest s c)

  lets_clear : (n : Naming) (us : List (List ℕ)) (es : List Formula) → LetsNamed n us es → Every (Deep P) es → Keeps (lets n us es)
  lets_clear n [] [] m l rest k = k
  lets_clear n [] (e ∷ es) m l rest k = absurd m
  lets_clear n (t ∷ us) [] m l rest k = absurd m
  lets_clear n (t ∷ us) (e ∷ es) m l rest k =
      let c = whole_clear P n e m.1 0 (λ d h. l.0 d (omega arith)) (word Semi (codes ";") ∷ gap ∷ lets n us es rest) refl
      (refl, tt, lets_clear n us es m.2 l.1 rest k) in
      (refl, refl, (name_kind t m.0, refl, (refl, tt, c)))

  pred_clear : (t : TableOf) (p : PredOf) → PredNamed t p × PredDeep P p → Keeps (pred t p)
  pred_clear t p q rest k =
      let m = q.0 in
      let n = naming t p in
      let c = whole_clear P n p.root m.root 0 (λ d h. q.1.root d (omega arith)) (word Semi (codes ";") ∷ gap ∷ word BraceR (codes "}") ∷ line ∷ rest) refl
      (refl, tt, (refl, tt, k)) in
      let l = lets_clear n p.let_names p.lets m.lets q.1.lets (root n p.root rest) (refl, refl, c) in
      let a = args_clear t p.args m.args (word ParR (codes ")") ∷ gap ∷ word BraceL (codes "{") ∷ gap ∷ lets n p.let_names p.lets (root n p.root rest)) refl
      (refl, tt, (refl, tt, l)) in
      (refl, refl, (name_kind p.name m.name, refl, (refl, q.1.args, a)))

  -- no token of the canonical text runs on, and P holds of the depths at which parentheses open
  pub table_clear : (t : TableOf) → TableNamed t → Every (PredDeep P) t.preds → Clear P 0 (lexemes t [])
  table_clear t n d =
      each_clear site SiteNamed site_clear t.sites n.sites _ (each_clear param CoordNamed param_clear t.params n.params _
      (each_clear (pred t) (λ p. PredNamed t p × PredDeep P p) (pred_clear t) t.preds (every_pair (PredNamed t) (PredDeep P) t.preds n.preds d) [] tt))

-- its tokens spell the table's items
pub table_back : (t : TableOf) → TableNamed t → FileBack (canonical t) (toks 0 (lexemes t [])) t 0 t.sites t.params t.preds
table_back t n =
    let h : Sits (canonical t) (toks 0 (lexemes t [])) 0 (lexemes t []) =
    sits (canonical t) (toks 0 (lexemes t [])) (lexemes t []) 0 0 refl refl (omega arith) in
    sites_back (canonical t) (toks 0 (lexemes t [])) t t.preds n.preds t.params n.params t.sites n.sites 0 h

-- the canonical text of a table is read back as its items
pub reads_back : (t : TableOf) → TableNamed t → ReadsBack (canonical t) t
reads_back t n =
    let f = table_back t n in
    let any = λ (e : Formula) (d : ℕ) (h : d < nesting 0 e). tt in
    let deep = every_of (PredDeep (λ d. Unit {0})) t.preds (λ p. record { args = tt; lets = every_of _ p.lets any; root = any p.root }) in
    record {
      tokens = toks 0 (lexemes t []);
      lexed = lexed (λ d. Unit {0}) (lexemes t []) (table_clear (λ d. Unit {0}) t n deep);
      items = f.items;
      spelt = f.derives;
      sites = like_sites f.like;
      params = like_params f.like;
      preds = like_preds f.like;
    }
