-- A file without a fault is ready to be built.
use Rattle.std.proofs.Common.{◌≡◌, ℕ, suc, ◌+◌, ◌≤◌, Bool, true, false, List, [], ◌∷◌, ◌++◌, length, refl, ◌∙◌, arith}
use Rattle.std.specs.Prelude.{count_by, is_some, All}
use Rattle.std.specs.List.{list_all}
use Rattle.std.proofs.lemmas.Bool.{and_from, le-leb}
use Rattle.std.proofs.lemmas.List.Folds.{list_all-append}
use Rattle.ln_syntax.specs.Raw.{Token, Item, SiteItem, ParamItem, PredItem, Is, is_site, is_param, span_at, Equals, Sign, Semi}
use Rattle.ln_lex.specs.Tokens.{IsSlice}
use Rattle.ln_names.specs.Rules.{RawCoord, RawArg, RawLet, Scope}
use Rattle.ln_syntax.specs.Expression.{IsExpr}
use Rattle.ln_syntax.specs.File.{Coords, no_coord, coord, Arg, site_arg, param_arg, Args, last_arg, more_args, Lets, no_let, a_let, IsItem, site, param}
use Rattle.ln_syntax.specs.File.{predicate, Items, no_item, an_item, Spelt}
use Rattle.ln_names.specs.Limits.{Each, CoordWithin, ArgWithin, LetWithin, ItemWithin, ValueWithin, FileWithin}
use Rattle.ln_names.proofs.Faultless.{faultless_is_within}
use Rattle.ln_parse.specs.Fault.{IsFaultless}
use Rattle.ln_parse.specs.Says.{name_if, site_names, param_names}
use Rattle.ln_parse.specs.Ready.{ReadyValue, ReadyCoord, ReadyArg, ReadyLet, ReadyItem, ReadyFile, is_few}
use Rattle.ln_parse.proofs.Texts.Names.{Sliced, name_text}
use Rattle.ln_parse.proofs.Expressions.Found.{said_count}
use Rattle.ln_names.specs.Nodes.{Begins}
use Rattle.ln_names.proofs.Machine.{begins}
use Rattle.ln_parse.proofs.Expressions.Counts.{node_count_is}
use Rattle.ln_parse.proofs.Building.LaidOut.{count_cons, count_append}

-- an expression whose tokens are within the limits
value_ready : {bytes : List ℕ} {ts : List Token} {s : Scope} {i j : ℕ} → IsExpr ts i j → Is ts j Semi → Begins ts i
    → ValueWithin bytes ts s (record { from = i; to = j }) → ReadyValue bytes ts s (record { from = i; to = j })
value_ready {bytes = bytes} {s = s} e m f w =
    record { tree = e.0; derives = e.1; ends = m; begins = f; fit = w e.0 e.1 m f; counted = node_count_is bytes s e.1 m f }

coords_ready : (bytes : List ℕ) (ts : List Token) (before : List RawCoord) {i j : ℕ} {cs : List RawCoord} → Sliced bytes ts
    → Coords ts i j cs → Each (CoordWithin bytes) before cs → Each (λ before c. ReadyCoord bytes c) before cs
coords_ready bytes ts before s no_coord w = tt
coords_ready bytes ts before s (coord {i = i} {r = r} n c g m d) w = (
  record { name = record { named = name_text bytes ts i s n; short = w.0.short }; range = w.0.range },
  coords_ready bytes ts (before ++ (record { name = span_at ts i; range = r } ∷ [])) s d w.1,
)

arg_ready : (bytes : List ℕ) (ts : List Token) (is : List Item) (before : List RawArg) {i : ℕ} {a : RawArg} → Sliced bytes ts → Arg ts i a
    → ArgWithin bytes is before a → ReadyArg bytes is a
arg_ready bytes ts is before s (site_arg {i = i} n c k) w = record { name = record { named = name_text bytes ts i s n; short = w.short }; known = w.known }
arg_ready bytes ts is before s (param_arg {i = i} n c k) w = record { name = record { named = name_text bytes ts i s n; short = w.short }; known = w.known }

args_ready : (bytes : List ℕ) (ts : List Token) (is : List Item) (before : List RawArg) {i j : ℕ} {args : List RawArg} → Sliced bytes ts
    → Args ts i j args → Each (ArgWithin bytes is) before args → Each (λ before a. ReadyArg bytes is a) before args
args_ready bytes ts is before s (last_arg d) w = (arg_ready bytes ts is before s d w.0, tt)
args_ready bytes ts is before s (more_args {a = a} d m r) w = (arg_ready bytes ts is before s d w.0, args_ready bytes ts is (before ++ (a ∷ [])) s r w.1)

lets_ready : (bytes : List ℕ) (ts : List Token) (is : List Item) (args : List RawArg) (before : List RawLet) {i j : ℕ} {ls : List RawLet}
    → Sliced bytes ts → Lets ts i j ls → Each (LetWithin bytes ts is args) before ls
    → Each (ReadyLet bytes ts is args) before ls
lets_ready bytes ts is args before s no_let w = tt
lets_ready bytes ts is args before s (a_let {i = i} {j = j} l n q e m r) w = (
  record { name = record { named = name_text bytes ts (suc i) s n; short = w.0.short }; value = value_ready e m (begins Equals q refl refl refl) w.0.value },
  lets_ready bytes ts is args (before ++ (record { name = span_at ts (suc i); value = record { from = suc (suc (suc i)); to = j } } ∷ [])) s r w.1,
)

item_ready : (bytes : List ℕ) (ts : List Token) (before : List Item) {i j : ℕ} {x : Item} → Sliced bytes ts → list_all is_few before ≡ true
    → length (site_names before) ≤ 16 → length (param_names before) ≤ 16 → IsItem ts i j x → ItemWithin bytes ts before x
    → ReadyItem bytes ts before x
item_ready bytes ts before s f m n (site {i = i} {c = c} {cs = cs} k a o d e) w =
    record {
      name = record { named = name_text bytes ts (suc i) s a; short = w.short };
      some = omega arith;
      few = w.parts.0;
      coords = coords_ready bytes ts [] s d w.parts.1;
    }
item_ready bytes ts before s f m n (param {i = i} k a o d e) w =
    record { name = record { named = name_text bytes ts (suc i) s a; short = w.short }; range = w.parts }
item_ready bytes ts before s f m n (predicate {i = i} {j = j} {k = k} {l = l} {args = args} {ls = ls} p a o d q b g h e t r) w =
    record {
      name = record { named = name_text bytes ts (suc i) s a; short = w.short };
      site_args = w.parts.site_args;
      param_args = w.parts.param_args;
      args = args_ready bytes ts before [] s d w.parts.args_each;
      let_count = w.parts.let_count;
      lets = lets_ready bytes ts before args [] s g w.parts.lets_each;
      root = value_ready e t (begins Sign h refl refl refl) w.parts.root_value;
      nodes = w.parts.node_count;
      few = f;
      sites = m;
      params = n;
    }

few_item : (bytes : List ℕ) (ts : List Token) (before : List Item) (x : Item) → ItemWithin bytes ts before x → is_few x ≡ true
few_item bytes ts before (SiteItem name cs) w = le-leb (length cs) 32 w.parts.0
few_item bytes ts before (ParamItem name r) w = refl
few_item bytes ts before (PredItem name args ls root) w = refl

sites_counted : (is : List Item) → length (site_names is) ≡ count_by is_site is
sites_counted is = said_count (name_if false) is_site is (λ x. elim x as (λ y. is_site y ≡ is_some (name_if false y))
    [ SiteItem n cs ↦ refl | ParamItem n r ↦ refl | PredItem n as' ls r ↦ refl ])

params_counted : (is : List Item) → length (param_names is) ≡ count_by is_param is
params_counted is = said_count (name_if true) is_param is (λ x. elim x as (λ y. is_param y ≡ is_some (name_if true y))
    [ SiteItem n cs ↦ refl | ParamItem n r ↦ refl | PredItem n as' ls r ↦ refl ])

moved : {A : Type 0} (p : A → Bool) (before : List A) (x : A) (xs : List A) (n : ℕ) → count_by p before + count_by p (x ∷ xs) ≤ n
    → count_by p (before ++ (x ∷ [])) + count_by p xs ≤ n
moved p before x xs n h =
    let a = count_cons p x xs in
    let b = count_append p before (x ∷ []) in
    let c = count_cons p x [] in
    let d : count_by p [] ≡ 0 = refl in omega arith

items_ready : (bytes : List ℕ) (ts : List Token) (before : List Item) {i j : ℕ} {xs : List Item} → Sliced bytes ts
    → list_all is_few before ≡ true → count_by is_site before + count_by is_site xs ≤ 16 → count_by is_param before + count_by is_param xs ≤ 16
    → Items ts i j xs → Each (ItemWithin bytes ts) before xs → Each (ReadyItem bytes ts) before xs
items_ready bytes ts before s f m n no_item w = tt
items_ready bytes ts before s f m n (an_item {x = x} {xs = xs} d r) w =
    let a = sites_counted before in
    let b = params_counted before in
    let g : list_all is_few (before ++ (x ∷ [])) ≡ true =
    list_all-append is_few before (x ∷ []) ∙ and_from _ _ f (and_from _ _ (few_item bytes ts before x w.0) refl) in (
      item_ready bytes ts before s f (omega arith) (omega arith) d w.0,
      items_ready bytes ts (before ++ (x ∷ [])) s g (moved is_site before x xs 16 m) (moved is_param before x xs 16 n) r w.1,
    )

-- a file within the limits is ready
pub file_ready : (bytes : List ℕ) (ts : List Token) (is : List Item) → Sliced bytes ts → Spelt ts is → FileWithin bytes ts is → ReadyFile bytes ts is
file_ready bytes ts is s d w =
    let a : count_by is_site [] ≡ 0 = refl in
    let b : count_by is_param [] ≡ 0 = refl in
    let m = w.sites in let n = w.params in
    record { sites = w.sites; params = w.params; preds = w.preds; each = items_ready bytes ts [] s refl (omega arith) (omega arith) d w.each }

-- each token's slice has its kind
pub all_sliced : (bytes : List ℕ) (ts : List Token) → All (IsSlice bytes) ts → Sliced bytes ts
all_sliced bytes [] h = tt
all_sliced bytes (t ∷ ts) h = ((h 0 t (omega arith)).text, all_sliced bytes ts (λ k d l. h (suc k) d (omega arith)))

-- a file without a fault is ready
pub faultless_ready : (bytes : List ℕ) (ts : List Token) (is : List Item) → All (IsSlice bytes) ts → IsFaultless bytes ts is → ReadyFile bytes ts is
faultless_ready bytes ts is s f = file_ready bytes ts is (all_sliced bytes ts s) f.spelt (faultless_is_within bytes ts is f.clean)
