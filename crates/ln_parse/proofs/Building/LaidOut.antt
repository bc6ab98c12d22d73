-- The variables of known arguments are laid out as a shape wants them.
use Rattle.std.proofs.Common.{◌≡◌, ℕ, zero, suc, ◌+◌, ◌*◌, ◌<◌, ◌≤◌, ◌==◌, ◌^◌, ◌&&◌, not, Bool, true, false, cond}
use Rattle.std.proofs.Common.{nat_lt, nat_le, List, [], ◌∷◌, ◌++◌, length, Option, Some, None, refl, ap, sym, ◌∙◌, subst, arith, length-append}
use Rattle.std.specs.Prelude.{slice_get, count_by, int_lt, neg_ℤ, pos}
use Rattle.std.specs.List.{list_all}
use Rattle.std.proofs.lemmas.Bool.{and_parts, and_from, ltb-true, lt-ltb, le-leb, leb-true, eq-eqb}
use Rattle.std.proofs.lemmas.Bool.Decides.{nat_tests}
use Rattle.std.proofs.lemmas.List.Sums.{sum_by-cons, sum_by-append}
use Rattle.std.proofs.lemmas.List.Folds.{list_all-append}
use Rattle.ln_tree.specs.declared.shape.VarInfo.{VarInfo}
use Rattle.ln_tree.specs.Variables.{in_order, goes_on, has_range, starts_site, starts_arg, is_param, no_var, is_laid_out}
use Rattle.ln_parse.specs.Says.{CoordOf, SiteOf, ArgOf, SiteArg, ParamArg, site_vars, coords_or, param_vars, vars_behind, is_site_said}
use Rattle.ln_parse.specs.Ready.{is_good_site}
use Rattle.ln_tree.specs.Whole.{is_range, is_one_of}

-- an element that passes, where all do
pub get_all : {A : Type 0} (p : A → Bool) (xs : List A) (k : ℕ) → list_all p xs ≡ true → k < length xs → (x : A) × (slice_get xs k ≡ Some x) × (p x ≡ true)
get_all p [] k h l = absurd (omega arith)
get_all p (x ∷ xs) zero h l = (x, refl, (and_parts (p x) (list_all p xs) h).0)
get_all p (x ∷ xs) (suc k) h l = get_all p xs k (and_parts (p x) (list_all p xs) h).1 (omega arith)

-- how many pass, of one element and the others
pub count_cons : {A : Type 0} (p : A → Bool) (x : A) (xs : List A) → count_by p (x ∷ xs) ≡ cond (p x) 1 0 + count_by p xs
count_cons p x xs = sum_by-cons (λ y. cond (p y) 1 0) x xs

-- how many pass, of two lists joined
pub count_append : {A : Type 0} (p : A → Bool) (xs ys : List A) → count_by p (xs ++ ys) ≡ count_by p xs + count_by p ys
count_append p xs ys = sum_by-append (λ y. cond (p y) 1 0) xs ys

same : (n : ℕ) → (n == n) ≡ true
same n = eq-eqb n n refl

not_first : (n : ℕ) → 1 ≤ n → (n == 0) ≡ false
not_first n h = grind (arith, nat_tests)

-- a coordinate goes on with the one before
goes : (a s n : ℕ) (x y : CoordOf) → suc n < 32 → goes_on (record { arg = a; site = Some s; coord = n; lo = x.lo; hi = x.hi })
    (record { arg = a; site = Some s; coord = suc n; lo = y.lo; hi = y.hi }) ≡ true
goes a s n x y h =
    let p : suc n ≡ n + 1 = omega arith in
    and_from ((a == a) && true && (s == s) && (suc n == n + 1)) (nat_lt (suc n) 32)
    (and_from ((a == a) && true && (s == s)) (suc n == n + 1)
    (and_from ((a == a) && true) (s == s) (and_from (a == a) true (same a) refl) (same s)) (eq-eqb (suc n) (n + 1) p))
    (lt-ltb (suc n) 32 h)

-- coordinates after coordinate n, and what follows them
site_goes : (a s n : ℕ) (x : CoordOf) (xs : List CoordOf) (rest : List VarInfo) → n + length xs < 32 → ((b : VarInfo) → in_order (suc a) (suc s) b rest ≡ true)
    → in_order (suc a) (suc s) (record { arg = a; site = Some s; coord = n; lo = x.lo; hi = x.hi }) (site_vars a s (suc n) xs ++ rest) ≡ true
site_goes a s n x [] rest h r = r (record { arg = a; site = Some s; coord = n; lo = x.lo; hi = x.hi })
site_goes a s n x (y ∷ ys) rest h r =
    let i : in_order (suc a) (suc s) (record { arg = a; site = Some s; coord = suc n; lo = y.lo; hi = y.hi }) (site_vars a s (suc (suc n)) ys ++ rest) ≡ true =
    site_goes a s (suc n) y ys rest (omega arith) r in
    let g = goes a s n x y (omega arith) in
    let z = not_first (suc n) (omega arith) in
    rw z (and_from _ _ g i)

-- the coordinates of a site, and what follows them
site_order : (a s : ℕ) (b : VarInfo) (x : CoordOf) (xs : List CoordOf) (rest : List VarInfo) → length xs < 32
    → ((b : VarInfo) → in_order (suc a) (suc s) b rest ≡ true) → in_order a s b (site_vars a s 0 (x ∷ xs) ++ rest) ≡ true
site_order a s b x xs rest h r =
    and_from _ _ (and_from (a == a) (s == s) (same a) (same s)) (site_goes a s 0 x xs rest (omega arith) r)

-- a param, and what follows it
param_order : (a s : ℕ) (b : VarInfo) (x : CoordOf) (rest : List VarInfo) → ((b : VarInfo) → in_order (suc a) s b rest ≡ true)
    → in_order a s b (param_vars a (Some x) ++ rest) ≡ true
param_order a s b x rest r = and_from _ _ (and_from (a == a) true (same a) refl) (r (record { arg = a; site = None; coord = 0; lo = x.lo; hi = x.hi }))

good_parts : (x : SiteOf) → is_good_site x ≡ true → (0 < length x.coords) × (length x.coords ≤ 32) × (list_all is_range x.coords ≡ true)
good_parts x h =
    let a = and_parts (nat_lt 0 (length x.coords) && nat_le (length x.coords) 32) (list_all is_range x.coords) h in
    let b = and_parts (nat_lt 0 (length x.coords)) (nat_le (length x.coords) 32) a.0 in
    (ltb-true 0 (length x.coords) b.0, leb-true (length x.coords) 32 b.1, a.1)

-- the site types and params of arguments are good, and the arguments are of them
pub record Known (S : List SiteOf) (P : List CoordOf) : Type 0 where
  pub sites : list_all is_good_site S ≡ true
  pub params : list_all is_range P ≡ true

coords_order : (a s : ℕ) (b : VarInfo) (xs : List CoordOf) (rest : List VarInfo) → 0 < length xs → length xs ≤ 32
    → ((b : VarInfo) → in_order (suc a) (suc s) b rest ≡ true) → in_order a s b (site_vars a s 0 xs ++ rest) ≡ true
coords_order a s b [] rest p q r = absurd (omega arith)
coords_order a s b (x ∷ xs) rest p q r = site_order a s b x xs rest (omega arith) r

in_range : (c : CoordOf) → is_range c ≡ true → (not (int_lt c.hi c.lo) && int_lt (neg_ℤ (pos (2 ^ 63))) c.lo) ≡ true
in_range c h = (and_parts (not (int_lt c.hi c.lo) && int_lt (neg_ℤ (pos (2 ^ 63))) c.lo) (int_lt c.hi (pos (2 ^ 63))) h).0

site_ranges : (k s c : ℕ) (xs : List CoordOf) → list_all is_range xs ≡ true → list_all has_range (site_vars k s c xs) ≡ true
site_ranges k s c [] h = refl
site_ranges k s c (x ∷ xs) h = let q = and_parts (is_range x) (list_all is_range xs) h in and_from _ _ (in_range x q.0) (site_ranges k s (suc c) xs q.1)

-- none of the variables of a site from coordinate c on passes a test that none from it on passes
pub site_none : (p : VarInfo → Bool) (k s c : ℕ) (xs : List CoordOf)
    → ((n : ℕ) (x : CoordOf) → c ≤ n → p (record { arg = k; site = Some s; coord = n; lo = x.lo; hi = x.hi }) ≡ false) → count_by p (site_vars k s c xs) ≡ 0
site_none p k s c [] h = refl
site_none p k s c (x ∷ xs) h =
    let e = h c x (omega arith) in
    let r = site_none p k s (suc c) xs (λ n y l. h n y (omega arith)) in
    count_cons p (record { arg = k; site = Some s; coord = c; lo = x.lo; hi = x.hi }) (site_vars k s (suc c) xs) ∙ rw (e, r) refl

site_one : (p : VarInfo → Bool) (k s : ℕ) (xs : List CoordOf) → 0 < length xs
    → ((x : CoordOf) → p (record { arg = k; site = Some s; coord = 0; lo = x.lo; hi = x.hi }) ≡ true)
    → ((n : ℕ) (x : CoordOf) → 1 ≤ n → p (record { arg = k; site = Some s; coord = n; lo = x.lo; hi = x.hi }) ≡ false) → count_by p (site_vars k s 0 xs) ≡ 1
site_one p k s [] l g h = absurd (omega arith)
site_one p k s (x ∷ xs) l g h =
    let e = g x in
    let r = site_none p k s 1 xs h in
    count_cons p (record { arg = k; site = Some s; coord = 0; lo = x.lo; hi = x.hi }) (site_vars k s 1 xs) ∙ rw (e, r) refl

-- a site has as many variables as coordinates
pub site_length : (k s c : ℕ) (xs : List CoordOf) → length (site_vars k s c xs) ≡ length xs
site_length k s c [] = refl
site_length k s c (x ∷ xs) = ap suc (site_length k s (suc c) xs)

-- the variables of arguments from number a on, after s sites, are in order, each with a range, and the arguments say how many are of each kind
pub record Laid (a s : ℕ) (as' : List ArgOf) (vars : List VarInfo) : Type 0 where
  pub order : (b : VarInfo) → in_order a s b vars ≡ true
  pub ranges : list_all has_range vars ≡ true
  pub sites : count_by starts_site vars ≡ count_by is_site_said as'
  pub args : count_by starts_arg vars ≡ length as'
  pub params : count_by is_param vars + count_by is_site_said as' ≡ length as'
  pub size : length vars + count_by is_site_said as' ≤ 32 * count_by is_site_said as' + length as'

-- the variables of known arguments are so
pub all_laid : (S : List SiteOf) (P : List CoordOf) → Known S P → (a s : ℕ) (args : List ArgOf)
    → list_all (is_one_of (length S) (length P)) args ≡ true → Laid a s args (vars_behind S P a s args)
all_laid S P g a s [] h =
    record { order = λ b. refl; ranges = refl; sites = refl; args = refl; params = refl; size = omega arith }
all_laid S P g a s (SiteArg n t ∷ args) h =
    let q = and_parts (nat_lt t (length S)) (list_all (is_one_of (length S) (length P)) args) h in
    let x = get_all is_good_site S t g.sites (ltb-true t (length S) q.0) in
    let y = good_parts x.0 x.2 in
    let mine = site_vars a s 0 x.0.coords in
    let rest = vars_behind S P (suc a) (suc s) args in
    let r = all_laid S P g (suc a) (suc s) args q.1 in
    let v : vars_behind S P a s (SiteArg n t ∷ args) ≡ mine ++ rest = ap (λ (o : Option SiteOf). site_vars a s 0 (coords_or o) ++ rest) x.1 in
    let here : count_by is_site_said (SiteArg n t ∷ args) ≡ 1 + count_by is_site_said args = count_cons is_site_said (SiteArg n t) args in
    let c1 = count_append starts_site mine rest in
    let c2 = count_append starts_arg mine rest in
    let c3 = count_append is_param mine rest in
    let c4 = length-append mine rest in
    let d1 = site_one starts_site a s x.0.coords y.0 (λ z. refl) (λ m z l. not_first m l) in
    let d2 = site_one starts_arg a s x.0.coords y.0 (λ z. refl) (λ m z l. not_first m l) in
    let d3 = site_none is_param a s 0 x.0.coords (λ m z l. refl) in
    let d4 = site_length a s 0 x.0.coords in
    let few = y.1 in
    let r1 = r.sites in let r2 = r.args in let r3 = r.params in let r4 = r.size in
    subst (λ (w : List VarInfo). Laid a s (SiteArg n t ∷ args) w) (sym v) (record {
      order = λ b. coords_order a s b x.0.coords rest y.0 y.1 r.order;
      ranges = list_all-append has_range mine rest ∙ and_from _ _ (site_ranges a s 0 x.0.coords y.2) r.ranges;
      sites = omega arith;
      args = omega arith;
      params = omega arith;
      size = omega arith;
    })
all_laid S P g a s (ParamArg p ∷ args) h =
    let q = and_parts (nat_lt p (length P)) (list_all (is_one_of (length S) (length P)) args) h in
    let x = get_all is_range P p g.params (ltb-true p (length P) q.0) in
    let mine = param_vars a (Some x.0) in
    let rest = vars_behind S P (suc a) s args in
    let r = all_laid S P g (suc a) s args q.1 in
    let v : vars_behind S P a s (ParamArg p ∷ args) ≡ mine ++ rest = ap (λ (o : Option CoordOf). param_vars a o ++ rest) x.1 in
    let here : count_by is_site_said (ParamArg p ∷ args) ≡ 0 + count_by is_site_said args = count_cons is_site_said (ParamArg p) args in
    let i : VarInfo = record { arg = a; site = None; coord = 0; lo = x.0.lo; hi = x.0.hi } in
    let c1 : count_by starts_site (mine ++ rest) ≡ 0 + count_by starts_site rest = count_cons starts_site i rest in
    let c2 : count_by starts_arg (mine ++ rest) ≡ 1 + count_by starts_arg rest = count_cons starts_arg i rest in
    let c3 : count_by is_param (mine ++ rest) ≡ 1 + count_by is_param rest = count_cons is_param i rest in
    let r1 = r.sites in let r2 = r.args in let r3 = r.params in let r4 = r.size in
    subst (λ (w : List VarInfo). Laid a s (ParamArg p ∷ args) w) (sym v) (record {
      order = λ b. param_order a s b x.0 rest r.order;
      ranges = and_from _ _ (in_range x.0 x.2) r.ranges;
      sites = omega arith;
      args = omega arith;
      params = omega arith;
      size = omega arith;
    })

-- the variables of known arguments are those of a shape
pub laid_out : (S : List SiteOf) (P : List CoordOf) → Known S P → (args : List ArgOf) → list_all (is_one_of (length S) (length P)) args ≡ true
    → count_by is_site_said args ≤ 5 → length args ≤ count_by is_site_said args + 8
    → is_laid_out (count_by is_site_said args) (vars_behind S P 0 0 args) ≡ true
laid_out S P g args h sites params =
    let n = all_laid S P g 0 0 args h in
    let vars = vars_behind S P 0 0 args in
    let a = n.sites in let b = n.params in let c = n.size in
    and_from _ _ (and_from _ _ (and_from _ _ (and_from _ _ (and_from _ _ (n.order no_var) n.ranges)
    (eq-eqb (count_by starts_site vars) (count_by is_site_said args) a))
    (le-leb (count_by is_site_said args) 5 sites)) (le-leb (count_by is_param vars) 8 (omega arith))) (le-leb (length vars) 168 (omega arith))

-- a site type has at most 32 coordinates
pub coords_few : (S : List SiteOf) (t : ℕ) → list_all is_good_site S ≡ true → length (coords_or (slice_get S t)) ≤ 32
coords_few [] t h = omega arith
coords_few (x ∷ S) zero h = (good_parts x (and_parts (is_good_site x) (list_all is_good_site S) h).0).1
coords_few (x ∷ S) (suc t) h = coords_few S t (and_parts (is_good_site x) (list_all is_good_site S) h).1
