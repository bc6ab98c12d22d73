-- The inputs of a fit expression are of arguments that there are, and their names are names.
use Rattle.std.proofs.Common.{◌≡◌, ℕ, zero, suc, ◌+◌, ◌<◌, ◌≤◌, ◌^◌, ◌==◌, ◌&&◌, ◌||◌, not, Bool, true, false, nat_lt}
use Rattle.std.proofs.Common.{List, [], ◌∷◌, length, Option, Some, None, refl, ap, sym, ◌∙◌, subst, arith}
use Rattle.std.specs.Prelude.{ℤ, pos, int_lt, unsigned_abs, slice_get, position, unwrap_or, nat_le}
use Rattle.std.specs.List.{list_any, position_from}
use Rattle.std.proofs.lemmas.Bool.{and_parts, leb-true, eqb-true}
use Rattle.std.proofs.lemmas.Bool.Decides.{nat_tests}
use Rattle.std.proofs.lemmas.Int.{ints}
use Rattle.std.proofs.lemmas.List.Folds.{list_any-append}
use Rattle.std.proofs.lemmas.Iterator.Adapters.{position_from-zero}
use Rattle.ln_tree.specs.declared.shape.VarInfo.{VarInfo}
use Rattle.ln_tree.specs.Variables.{is_var, number_or_end}
use Rattle.ln_parse.specs.Written.{Formula, FNum, FInput, FName, FNeg, FAdd, FSub, FMul, FPow, tree, CoordOf, SiteOf, ArgOf, SiteArg, ParamArg, Naming, input}
use Rattle.ln_parse.specs.Written.{written, IsNamed}
use Rattle.ln_tree.specs.Fits.{is_fit}
use Rattle.ln_tree.specs.Whole.{site_vars, coords_or, param_vars, vars_behind}
use Rattle.ln_parse.specs.ReadsBack.{Every}
use Rattle.ln_parse.specs.WholeTable.{IsShortName, SiteNames, ArgNames}
use Rattle.ln_parse.proofs.Wholes.TestLemmas.{below, neither, or_cases}

-- argument d is a site whose type has coordinate c, or a param, where c is 0
pub data InputThere (S : List SiteOf) (P : List CoordOf) (args : List ArgOf) (d c : ℕ) : Type 0 where
  of_site : (n : List ℕ) (t : ℕ) (s : SiteOf) (x : CoordOf) → slice_get args d ≡ Some (SiteArg n t) → slice_get S t ≡ Some s
      → slice_get s.coords c ≡ Some x → InputThere S P args d c
  of_param : (p : ℕ) (x : CoordOf) → slice_get args d ≡ Some (ParamArg p) → slice_get P p ≡ Some x → c ≡ 0 → InputThere S P args d c

-- at each place of a list there is an element
pub at_place : {A : Type 0} (xs : List A) (j : ℕ) → j < length xs → (x : A) × (slice_get xs j ≡ Some x)
at_place [] j h = absurd (omega arith)
at_place (x ∷ xs) zero h = (x, refl)
at_place (x ∷ xs) (suc j) h = at_place xs j (omega arith)

-- a coordinate of a site, from coordinate m on
record CoordThere (a k c m : ℕ) (xs : List CoordOf) : Type 0 where
  d : ℕ
  x : CoordOf
  arg : a ≡ k
  coord : c ≡ m + d
  there : slice_get xs d ≡ Some x

coord_there : (a c k s m : ℕ) (xs : List CoordOf) → list_any (is_var a c) (site_vars k s m xs) ≡ true → CoordThere a k c m xs
coord_there a c k s m [] h = absurd (cc)
coord_there a c k s m (x ∷ xs) h =
    or_cases ((k == a) && (m == c)) (list_any (is_var a c) (site_vars k s (suc m) xs)) h
    (λ e. let p = and_parts (k == a) (m == c) e in
    let q = eqb-true k a p.0 in let r = eqb-true m c p.1 in record { d = 0; x = x; arg = omega arith; coord = omega arith; there = refl })
    (λ e. let r = coord_there a c k s (suc m) xs e in let q = r.coord in record { d = suc r.d; x = r.x; arg = r.arg; coord = omega arith; there = r.there })

site_there : (S : List SiteOf) (P : List CoordOf) (a c k s t : ℕ) (n : List ℕ) (args : List ArgOf) (o : Option SiteOf) → slice_get S t ≡ o
    → list_any (is_var a c) (site_vars k s 0 (coords_or o)) ≡ true → (a ≡ k) × InputThere S P (SiteArg n t ∷ args) 0 c
site_there S P a c k s t n args None e h = absurd (cc)
site_there S P a c k s t n args (Some x) e h =
    let r = coord_there a c k s 0 x.coords h in
    let q : r.d ≡ c = let z = r.coord in omega arith in
    (r.arg, of_site n t x r.x refl e (subst (λ (w : ℕ). slice_get x.coords w ≡ Some r.x) q r.there))

param_there : (S : List SiteOf) (P : List CoordOf) (a c k p : ℕ) (args : List ArgOf) (o : Option CoordOf) → slice_get P p ≡ o
    → list_any (is_var a c) (param_vars k o) ≡ true → (a ≡ k) × InputThere S P (ParamArg p ∷ args) 0 c
param_there S P a c k p args None e h = absurd (cc)
param_there S P a c k p args (Some x) e h =
    or_cases ((k == a) && (0 == c)) false h
    (λ g. let r = and_parts (k == a) (0 == c) g in let q = eqb-true k a r.0 in let z = eqb-true 0 c r.1 in (omega arith, of_param p x refl e (omega arith)))
    (λ g. absurd (cc))

later : (S : List SiteOf) (P : List CoordOf) (b : ArgOf) (args : List ArgOf) (d c : ℕ) → InputThere S P args d c → InputThere S P (b ∷ args) (suc d) c
later S P b args d c (of_site n t s x e f g) = of_site n t s x e f g
later S P b args d c (of_param p x e f g) = of_param p x e f g

-- a variable is an input that is there
record VarThere (S : List SiteOf) (P : List CoordOf) (args : List ArgOf) (a k c : ℕ) : Type 0 where
  d : ℕ
  place : a ≡ k + d
  input : InputThere S P args d c

var_there : (S : List SiteOf) (P : List CoordOf) (a c k s : ℕ) (args : List ArgOf) → list_any (is_var a c) (vars_behind S P k s args) ≡ true
    → VarThere S P args a k c
var_there S P a c k s [] h = absurd (cc)
var_there S P a c k s (SiteArg n t ∷ args) h =
    let mine = site_vars k s 0 (coords_or (slice_get S t)) in
    let rest = vars_behind S P (suc k) (suc s) args in
    let e : (list_any (is_var a c) mine || list_any (is_var a c) rest) ≡ true = sym (list_any-append (is_var a c) mine rest) ∙ h in
    or_cases (list_any (is_var a c) mine) (list_any (is_var a c) rest) e
    (λ g. let r = site_there S P a c k s t n args (slice_get S t) refl g in let q = r.0 in record { d = 0; place = omega arith; input = r.1 })
    (λ g. let r = var_there S P a c (suc k) (suc s) args g in
    let q = r.place in record { d = suc r.d; place = omega arith; input = later S P (SiteArg n t) args r.d c r.input })
var_there S P a c k s (ParamArg p ∷ args) h =
    let mine = param_vars k (slice_get P p) in
    let rest = vars_behind S P (suc k) s args in
    let e : (list_any (is_var a c) mine || list_any (is_var a c) rest) ≡ true = sym (list_any-append (is_var a c) mine rest) ∙ h in
    or_cases (list_any (is_var a c) mine) (list_any (is_var a c) rest) e
    (λ g. let r = param_there S P a c k p args (slice_get P p) refl g in let q = r.0 in record { d = 0; place = omega arith; input = r.1 })
    (λ g. let r = var_there S P a c (suc k) s args g in
    let q = r.place in record { d = suc r.d; place = omega arith; input = later S P (ParamArg p) args r.d c r.input })

none_from : {A : Type 0} (p : A → Bool) (k : ℕ) (xs : List A) → list_any p xs ≡ false → position_from p k xs ≡ None
none_from p k [] h = refl
none_from p k (x ∷ xs) h = let q = neither (p x) (list_any p xs) h in let r = none_from p (k + 1) xs q.1 in rw q.0 r

-- where none passes there is no position
pub no_place : {A : Type 0} (p : A → Bool) (xs : List A) → list_any p xs ≡ false → position p xs ≡ None
no_place p xs h = position_from-zero p xs ∙ none_from p 0 xs h

numbered : (vars : List VarInfo) (a c : ℕ) (b : Bool) → list_any (is_var a c) vars ≡ b → number_or_end vars a c < length vars → b ≡ true
numbered vars a c true e h = refl
numbered vars a c false e h = let q = ap (λ (o : Option ℕ). unwrap_or o (length vars)) (no_place (is_var a c) vars e) in absurd (omega arith)

-- a number below the count of variables is that of an input that is there
pub input_there : (S : List SiteOf) (P : List CoordOf) (args : List ArgOf) (a c : ℕ)
    → nat_lt (number_or_end (vars_behind S P 0 0 args) a c) (length (vars_behind S P 0 0 args)) ≡ true → InputThere S P args a c
input_there S P args a c h =
    let vars = vars_behind S P 0 0 args in
    let l = below (number_or_end vars a c) (length vars) h in
    let r = var_there S P a c 0 0 args (numbered vars a c (list_any (is_var a c) vars) refl l) in
    let q : r.d ≡ a = let z = r.place in omega arith in
    subst (λ (w : ℕ). InputThere S P args w c) q r.input

-- what holds of each holds of the one at a place
pub every_at : {A : Type 0} (Q : A → Type 0) (xs : List A) (j : ℕ) (x : A) → Every Q xs → slice_get xs j ≡ Some x → Q x
every_at Q [] j x e h = absurd (cc)
every_at {A} Q (y ∷ xs) zero x e h = let q : y ≡ x = cc in subst (λ (w : A). Q w) q e.0
every_at Q (y ∷ xs) (suc j) x e h = every_at Q xs j x e.1 h

-- the names from which those of an expression are taken are NAMEs
pub record NamesGood (n : Naming) : Type 0 where
  pub sites : Every SiteNames n.sites
  pub params : Every (λ c. IsShortName c.name) n.params
  pub args : Every ArgNames n.args
  pub lets : Every IsShortName n.lets

-- the names of an input that is there
pub input_named : (n : Naming) → NamesGood n → (d c : ℕ) → InputThere n.sites n.params n.args d c → IsNamed (input n (slice_get n.args d) c)
input_named n g d c (of_site m t s x e f h) =
    let a : IsShortName m = every_at ArgNames n.args d (SiteArg m t) g.args e in
    let b : IsShortName x.name = every_at (λ (y : CoordOf). IsShortName y.name) s.coords c x (every_at SiteNames n.sites t s g.sites f).coords h in
    rw (e, f, h) (a.0, b.0)
input_named n g d c (of_param p x e f z) =
    let a : IsShortName x.name = every_at (λ (y : CoordOf). IsShortName y.name) n.params p x g.params f in
    rw (e, f) a.0

literal_same : (c : ℤ) → not (int_lt c (pos 0)) ≡ true → pos (unsigned_abs c) ≡ c
literal_same c h = grind (arith, nat_tests, ints)

literal_low : (c : ℤ) → not (int_lt c (pos 0)) ≡ true → int_lt c (pos (2 ^ 127)) ≡ true → unsigned_abs c < 2 ^ 127
literal_low c h l = grind (arith, nat_tests, ints)

-- a literal is what its digits say, and below 2^127
pub literal : (c : ℤ) → (not (int_lt c (pos 0)) && int_lt c (pos (2 ^ 127))) ≡ true → (pos (unsigned_abs c) ≡ c) × (unsigned_abs c < 2 ^ 127)
literal c h = let p = and_parts (not (int_lt c (pos 0))) (int_lt c (pos (2 ^ 127))) h in (literal_same c p.0, literal_low c p.0 p.1)

-- the names of a fit expression are NAMEs, and its numbers short
pub named : (n : Naming) → NamesGood n → (vars : List VarInfo) (j : ℕ) → vars ≡ vars_behind n.sites n.params 0 0 n.args → j ≤ length n.lets
    → (f : Formula) → is_fit (length vars) j (tree vars f) ≡ true → IsNamed (written n f)
named n g vars j v l (FNum at c) h = let q = (literal c h).1 in omega arith
named n g vars j v l (FInput at a c) h =
    input_named n g a c (input_there n.sites n.params n.args a c (subst (λ (w : List VarInfo). nat_lt (number_or_end w a c) (length w) ≡ true) v h))
named n g vars j v l (FName at k) h =
    let b = below k j h in
    let e = at_place n.lets k (omega arith) in
    let q : IsShortName e.0 = every_at IsShortName n.lets k e.0 g.lets e.1 in
    rw e.1 q.0
named n g vars j v l (FNeg at e) h = named n g vars j v l e h
named n g vars j v l (FAdd at e f) h =
    let p = and_parts (is_fit (length vars) j (tree vars e)) (is_fit (length vars) j (tree vars f)) h in
    (named n g vars j v l e p.0, named n g vars j v l f p.1)
named n g vars j v l (FSub at e f) h =
    let p = and_parts (is_fit (length vars) j (tree vars e)) (is_fit (length vars) j (tree vars f)) h in
    (named n g vars j v l e p.0, named n g vars j v l f p.1)
named n g vars j v l (FMul at e f) h =
    let p = and_parts (is_fit (length vars) j (tree vars e)) (is_fit (length vars) j (tree vars f)) h in
    (named n g vars j v l e p.0, named n g vars j v l f p.1)
named n g vars j v l (FPow at e k) h =
    let p = and_parts (is_fit (length vars) j (tree vars e)) (nat_le k 16) h in
    let q = leb-true k 16 p.1 in
    (named n g vars j v l e p.0, omega arith)
