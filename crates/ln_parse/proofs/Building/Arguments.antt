-- Variables are of their arguments, and arguments are of their types.
use Rattle.std.proofs.Common.{◌≡◌, ℕ, suc, ◌+◌, ◌<◌, ◌≤◌, ◌==◌, Bool, true, nat_lt, List, [], ◌∷◌, ◌++◌, length, map}
use Rattle.std.proofs.Common.{Option, Some, None, refl, ap, ◌∙◌, subst, arith, append_assoc}
use Rattle.std.specs.Prelude.{slice_get, count_by, option_map}
use Rattle.std.specs.List.{list_all}
use Rattle.std.proofs.lemmas.Bool.{and_parts, and_from, eq-eqb, ne_eqb}
use Rattle.std.proofs.lemmas.List.{length-map}
use Rattle.std.proofs.lemmas.List.Folds.{list_all-append}
use Rattle.std.proofs.lemmas.Option.{slice_get-map}
use Rattle.ln_tree.specs.declared.shape.VarInfo.{VarInfo}
use Rattle.ln_tree.specs.declared.items.Arg.{Arg}
use Rattle.ln_tree.specs.declared.items.Arg.TheVariants.{Site as IsSite, Param as IsParam}
use Rattle.ln_tree.specs.declared.items.Site.{Site}
use Rattle.ln_tree.specs.declared.items.Param.{Param}
use Rattle.ln_tree.specs.Variables.{same_site}
use Rattle.ln_tree.specs.Arguments.{site_behind, is_of, are_of, coords_of, args_fit}
use Rattle.ln_parse.specs.Says.{CoordOf, SiteOf, ArgOf, SiteArg, ParamArg, arg_of, site_of, param_of, coord_of, site_vars, coords_or, param_vars, vars_behind}
use Rattle.ln_parse.proofs.Building.LaidOut.{Known, all_laid, site_none, count_cons, count_append}
use Rattle.ln_tree.specs.Whole.{is_one_of}

-- all coordinates of a site pass
site_all : (p : VarInfo → Bool) (k s c : ℕ) (xs : List CoordOf)
    → ((n : ℕ) (x : CoordOf) → p (record { arg = k; site = Some s; coord = n; lo = x.lo; hi = x.hi }) ≡ true) → list_all p (site_vars k s c xs) ≡ true
site_all p k s c [] h = refl
site_all p k s c (x ∷ xs) h = and_from _ _ (h c x) (site_all p k s (suc c) xs h)

param_all : (p : VarInfo → Bool) (k : ℕ) (o : Option CoordOf)
    → ((x : CoordOf) → p (record { arg = k; site = None; coord = 0; lo = x.lo; hi = x.hi }) ≡ true) → list_all p (param_vars k o) ≡ true
param_all p k None h = refl
param_all p k (Some x) h = and_from _ _ (h x) refl

same_as : (s : ℕ) (o : Option ℕ) → o ≡ Some s → same_site (Some s) o ≡ true
same_as s o h = rw h (eq-eqb s s refl)

none_as : (o : Option ℕ) → o ≡ None → same_site None o ≡ true
none_as o h = rw h refl

-- the variables of the arguments from number a on are of all the arguments
of_all : (S : List SiteOf) (P : List CoordOf) (all : List Arg) (a s : ℕ) (args : List Arg)
    → ((d : ℕ) → site_behind 0 all (a + d) ≡ site_behind s args d) → list_all (is_of all) (vars_behind S P a s (map arg_of args)) ≡ true
of_all S P all a s [] h = refl
of_all S P all a s (IsSite n t ∷ args) h =
    let e : a + 0 ≡ a = omega arith in
    let here : site_behind 0 all a ≡ Some s = subst (λ (w : ℕ). site_behind 0 all w ≡ Some s) e (h 0) in
    let next = λ (d : ℕ). let q : a + suc d ≡ suc a + d = omega arith in subst (λ (w : ℕ). site_behind 0 all w ≡ site_behind (suc s) args d) q (h (suc d)) in
    list_all-append (is_of all) (site_vars a s 0 (coords_or (slice_get S t))) (vars_behind S P (suc a) (suc s) (map arg_of args))
    ∙ and_from _ _ (site_all (is_of all) a s 0 (coords_or (slice_get S t)) (λ m x. same_as s (site_behind 0 all a) here))
    (of_all S P all (suc a) (suc s) args next)
of_all S P all a s (IsParam p ∷ args) h =
    let e : a + 0 ≡ a = omega arith in
    let here : site_behind 0 all a ≡ None = subst (λ (w : ℕ). site_behind 0 all w ≡ None) e (h 0) in
    let next = λ (d : ℕ). let q : a + suc d ≡ suc a + d = omega arith in subst (λ (w : ℕ). site_behind 0 all w ≡ site_behind s args d) q (h (suc d)) in
    list_all-append (is_of all) (param_vars a (slice_get P p)) (vars_behind S P (suc a) s (map arg_of args))
    ∙ and_from _ _ (param_all (is_of all) a (slice_get P p) (λ x. none_as (site_behind 0 all a) here)) (of_all S P all (suc a) s args next)

-- the variables are those of the arguments, and each argument has some
pub all_are_of : (S : List SiteOf) (P : List CoordOf) → Known S P → (args : List Arg)
    → list_all (is_one_of (length S) (length P)) (map arg_of args) ≡ true → are_of args (vars_behind S P 0 0 (map arg_of args)) ≡ true
all_are_of S P g args h =
    let n = (all_laid S P g 0 0 (map arg_of args) h).args in
    let l = length-map args arg_of in
    and_from _ _ (of_all S P args 0 0 args (λ d. let e : 0 + d ≡ d = omega arith in ap (site_behind 0 args) e)) (eq-eqb _ _ (n ∙ l))

-- how many variables of an argument there are: those of one before have none after
abbrev of_arg : ℕ → VarInfo → Bool
of_arg k i = i.arg == k

site_count : (k s c : ℕ) (xs : List CoordOf) → count_by (of_arg k) (site_vars k s c xs) ≡ length xs
site_count k s c [] = refl
site_count k s c (x ∷ xs) =
    let r = site_count k s (suc c) xs in
    let e = eq-eqb k k refl in
    count_cons (of_arg k) (record { arg = k; site = Some s; coord = c; lo = x.lo; hi = x.hi }) (site_vars k s (suc c) xs) ∙ rw (e, r) (omega arith)

site_no_count : (j k s c : ℕ) (xs : List CoordOf) → (k ≡ j → ⊥) → count_by (of_arg j) (site_vars k s c xs) ≡ 0
site_no_count j k s c xs h = site_none (of_arg j) k s c xs (λ n x l. ne_eqb k j h)

param_no_count : (j k : ℕ) (o : Option CoordOf) → (k ≡ j → ⊥) → count_by (of_arg j) (param_vars k o) ≡ 0
param_no_count j k None h = refl
param_no_count j k (Some x) h = let e = ne_eqb k j h in count_cons (of_arg j) (record { arg = k; site = None; coord = 0; lo = x.lo; hi = x.hi }) [] ∙ rw e refl

later_none : (S : List SiteOf) (P : List CoordOf) (k a s : ℕ) (args : List ArgOf) → k < a → count_by (of_arg k) (vars_behind S P a s args) ≡ 0
later_none S P k a s [] h = refl
later_none S P k a s (SiteArg n t ∷ args) h =
    let q = site_no_count k a s 0 (coords_or (slice_get S t)) (λ e. omega arith) in
    let r = later_none S P k (suc a) (suc s) args (omega arith) in
    count_append (of_arg k) (site_vars a s 0 (coords_or (slice_get S t))) (vars_behind S P (suc a) (suc s) args) ∙ rw (q, r) refl
later_none S P k a s (ParamArg p ∷ args) h =
    let q = param_no_count k a (slice_get P p) (λ e. omega arith) in
    let r = later_none S P k (suc a) s args (omega arith) in
    count_append (of_arg k) (param_vars a (slice_get P p)) (vars_behind S P (suc a) s args) ∙ rw (q, r) refl

coords_length : (o : Option Site) → length (coords_or (option_map site_of o)) ≡ coords_of o
coords_length None = refl
coords_length (Some s) = length-map s.coords coord_of

coords_same : (sites : List Site) (t : ℕ) → length (coords_or (slice_get (map site_of sites) t)) ≡ coords_of (slice_get sites t)
coords_same sites t = ap (λ (o : Option SiteOf). length (coords_or o)) (slice_get-map site_of sites t) ∙ coords_length (slice_get sites t)

fit_from : (sites : List Site) (params : List Param) (a s : ℕ) (args : List Arg) (done : List VarInfo)
    → list_all (is_one_of (length sites) (length params)) (map arg_of args) ≡ true
    → ((k : ℕ) → a ≤ k → count_by (of_arg k) done ≡ 0)
    → args_fit sites params (done ++ vars_behind (map site_of sites) (map param_of params) a s (map arg_of args)) a args ≡ true
fit_from sites params a s [] done h z = refl
fit_from sites params a s (IsSite n t ∷ args) done h z =
    let S = map site_of sites in
    let P = map param_of params in
    let q = and_parts (nat_lt t (length sites)) (list_all (is_one_of (length sites) (length params)) (map arg_of args)) h in
    let mine = site_vars a s 0 (coords_or (slice_get S t)) in
    let rest = vars_behind S P (suc a) (suc s) (map arg_of args) in
    let c1 = count_append (of_arg a) done (mine ++ rest) in
    let c2 = count_append (of_arg a) mine rest in
    let c3 = site_count a s 0 (coords_or (slice_get S t)) in
    let c4 = later_none S P a (suc a) (suc s) (map arg_of args) (omega arith) in
    let c5 = z a (omega arith) in
    let c6 = coords_same sites t in
    let here : count_by (of_arg a) (done ++ (mine ++ rest)) ≡ coords_of (slice_get sites t) = omega arith in
    let next = λ (k : ℕ) (l : suc a ≤ k). let d1 = count_append (of_arg k) done mine in
    let d2 = z k (omega arith) in
    let d3 = site_no_count k a s 0 (coords_or (slice_get S t)) (λ e. omega arith) in
    let d : count_by (of_arg k) (done ++ mine) ≡ 0 = omega arith in
    d in
    let r : args_fit sites params ((done ++ mine) ++ rest) (suc a) args ≡ true = fit_from sites params (suc a) (suc s) args (done ++ mine) q.1 next in
    and_from _ _ (and_from _ _ q.0 (eq-eqb _ _ here))
    (subst (λ (w : List VarInfo). args_fit sites params w (suc a) args ≡ true) (append_assoc done mine rest) r)
fit_from sites params a s (IsParam p ∷ args) done h z =
    let S = map site_of sites in
    let P = map param_of params in
    let q = and_parts (nat_lt p (length params)) (list_all (is_one_of (length sites) (length params)) (map arg_of args)) h in
    let mine = param_vars a (slice_get P p) in
    let rest = vars_behind S P (suc a) s (map arg_of args) in
    let next = λ (k : ℕ) (l : suc a ≤ k). let d1 = count_append (of_arg k) done mine in
    let d2 = z k (omega arith) in
    let d3 = param_no_count k a (slice_get P p) (λ e. omega arith) in
    let d : count_by (of_arg k) (done ++ mine) ≡ 0 = omega arith in
    d in
    let r : args_fit sites params ((done ++ mine) ++ rest) (suc a) args ≡ true = fit_from sites params (suc a) s args (done ++ mine) q.1 next in
    and_from _ _ q.0 (subst (λ (w : List VarInfo). args_fit sites params w (suc a) args ≡ true) (append_assoc done mine rest) r)

-- known arguments with their variables are of the table's site types and params
pub all_fit : (sites : List Site) (params : List Param) (args : List Arg) → list_all (is_one_of (length sites) (length params)) (map arg_of args) ≡ true
    → args_fit sites params (vars_behind (map site_of sites) (map param_of params) 0 0 (map arg_of args)) 0 args ≡ true
all_fit sites params args h = fit_from sites params 0 0 args [] h (λ k l. refl)
