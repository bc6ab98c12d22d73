-- Variables in order are those of arguments.
use Rattle.std.proofs.Common.{◌≡◌, ◌⊎◌, inl, inr, ℕ, ◌+◌, ◌*◌, ◌<◌, ◌≤◌, zero, suc, List, [], ◌∷◌, ◌++◌, length, length-append, refl, sym}
use Rattle.std.proofs.Common.{◌∙◌, ap, arith, Bool, true, false, cond}
use Rattle.std.specs.Prelude.{◌==◌, ◌&&◌, ◌||◌, Option, Some, None, count_by, is_some, is_none, nat_lt}
use Rattle.std.specs.List.{list_all}
use Rattle.std.proofs.lemmas.List.Sums.{sum_by-cons}
use Rattle.std.proofs.lemmas.Bool.{and_parts, eqb-true, eq-eqb, le-leb, ltb-true, lt-ltb, ne_eqb}
use Rattle.ln_tree.specs.declared.shape.VarInfo.{VarInfo}
use Rattle.ln_tree.specs.Laid.{AParam, ASite, AreNarrow, AreOfArguments, Argument, Ends, VariablesAreOfArguments, coordinates_behind}
use Rattle.ln_tree.specs.Laid.{first_of, is_a_param, is_a_site, next_of, variables_from}
use Rattle.ln_tree.specs.Variables.{begins, goes_on, has_range, in_order, is_laid_out, is_param, no_var, same_site, sites_behind, starts_site}
use Rattle.ln_tree.proofs.KeptLemmas.{laid_out}

-- further coordinates after b: there are none, or b is of a site and has room for them
abbrev Fits : VarInfo → List Ends → Type 0
Fits b rest = (rest ≡ []) ⊎ ((is_some b.site ≡ true) × (b.coord + length rest < 32))

-- what follows the variable b, a arguments and s sites
record Split (a s : ℕ) (b : VarInfo) (vars : List VarInfo) : Type 0 where
  rest : List Ends
  args : List Argument
  are : vars ≡ coordinates_behind b rest ++ variables_from a s args
  fits : Fits b rest
  narrow : AreNarrow args

-- ---- tests and what they show
itself : (n : ℕ) → (n == n) ≡ true
itself n = eq-eqb n n refl

-- sites that are the same by the test are equal
pub same-site : (o p : Option ℕ) → same_site o p ≡ true → o ≡ p
same-site None None h = refl
same-site None (Some t) h = cc
same-site (Some s) None h = cc
same-site (Some s) (Some t) h = ap Some (eqb-true s t h)

same-refl : (o : Option ℕ) → same_site o o ≡ true
same-refl None = refl
same-refl (Some s) = itself s

var-is : (a c : ℕ) (o : Option ℕ) (i : VarInfo) → i.arg ≡ a → i.site ≡ o → i.coord ≡ c → i ≡ record { arg = a; site = o; coord = c; lo = i.lo; hi = i.hi }
var-is a c o i e f g = rw (← e, ← f, ← g) refl

-- the site of a variable that begins an argument
begun : (s : ℕ) (o : Option ℕ) → (is_none o || same_site o (Some s)) ≡ true → (o ≡ None) ⊎ (o ≡ Some s)
begun s None h = inl refl
begun s (Some t) h = inr (ap Some (eqb-true t s h))

-- ---- from the test
-- a variable that begins an argument, and what follows it
begins-split : (a s : ℕ) (b i : VarInfo) (is : List VarInfo) → i.coord ≡ 0 → begins a s i ≡ true → Split (suc a) (sites_behind s i) i is → Split a s b (i ∷ is)
begins-split a s b i is z h x = by_site (begun s i.site (and_parts (i.arg == a) (is_none i.site || same_site i.site (Some s)) h).1) where
  arg : i.arg ≡ a
  arg = eqb-true i.arg a (and_parts (i.arg == a) (is_none i.site || same_site i.site (Some s)) h).0

  ends : Ends
  ends = record { low = i.lo; high = i.hi }

  none_behind : i.site ≡ None → Fits i x.rest → x.rest ≡ []
  none_behind e (inl q) = q
  none_behind e (inr (q, l)) = absurd (let w : is_some i.site ≡ false = ap is_some e in let v : true ≡ false = sym q ∙ w in cc)

  short : Fits i x.rest → length x.rest < 32
  short (inl q) = omega (arith, ap length q)
  short (inr (q, l)) = omega (arith, l, z)

  by_site : (i.site ≡ None) ⊎ (i.site ≡ Some s) → Split a s b (i ∷ is)
  by_site (inl e) =
      let v : i ≡ first_of a None ends = var-is a 0 None i arg e z in
      let r : x.rest ≡ [] = none_behind e x.fits in
      let t : sites_behind s i ≡ s = rw e refl in
      let all : is ≡ variables_from (suc a) s x.args =
      x.are ∙ ap (λ q. coordinates_behind i q ++ variables_from (suc a) (sites_behind s i) x.args) r ∙ ap (λ q. variables_from (suc a) q x.args) t in
      record {
        rest = [];
        args = AParam ends ∷ x.args;
        are = ap (λ q. q ∷ is) v ∙ ap (λ q. first_of a None ends ∷ q) all;
        fits = inl refl;
        narrow = (tt, x.narrow);
      }
  by_site (inr e) =
      let v : i ≡ first_of a (Some s) ends = var-is a 0 (Some s) i arg e z in
      let t : sites_behind s i ≡ suc s = rw e refl in
      let all : is ≡ coordinates_behind (first_of a (Some s) ends) x.rest ++ variables_from (suc a) (suc s) x.args =
      x.are ∙ ap (λ q. coordinates_behind q x.rest ++ variables_from (suc a) (sites_behind s i) x.args) v
      ∙ ap (λ q. coordinates_behind (first_of a (Some s) ends) x.rest ++ variables_from (suc a) q x.args) t in
      record {
        rest = [];
        args = ASite ends x.rest ∷ x.args;
        are = ap (λ q. q ∷ is) v ∙ ap (λ q. first_of a (Some s) ends ∷ q) all;
        fits = inl refl;
        narrow = (short x.fits, x.narrow);
      }

-- a further coordinate of b, and what follows it
goes-split : (a s : ℕ) (b i : VarInfo) (is : List VarInfo) → goes_on b i ≡ true → Split a s i is → Split a s b (i ∷ is)
goes-split a s b i is h x =
    let p = and_parts ((i.arg == b.arg) && is_some b.site && same_site i.site b.site && (i.coord == b.coord + 1)) (nat_lt i.coord 32) h in
    let q = and_parts ((i.arg == b.arg) && is_some b.site && same_site i.site b.site) (i.coord == b.coord + 1) p.0 in
    let r = and_parts ((i.arg == b.arg) && is_some b.site) (same_site i.site b.site) q.0 in
    let u = and_parts (i.arg == b.arg) (is_some b.site) r.0 in
    let c : i.coord ≡ b.coord + 1 = eqb-true i.coord (b.coord + 1) q.1 in
    let small : i.coord < 32 = ltb-true i.coord 32 p.1 in
    let v : i ≡ next_of b (record { low = i.lo; high = i.hi }) =
    var-is b.arg (b.coord + 1) b.site i (eqb-true i.arg b.arg u.0) (same-site i.site b.site r.1) c in
    record {
      rest = record { low = i.lo; high = i.hi } ∷ x.rest;
      args = x.args;
      are = ap (λ q. q ∷ is) v
          ∙ ap (λ q. next_of b (record { low = i.lo; high = i.hi }) ∷ q) (x.are ∙ ap (λ q. coordinates_behind q x.rest ++ variables_from a s x.args) v);
      fits = inr (u.1, short small c x.fits);
      narrow = x.narrow;
    } where
      short : i.coord < 32 → i.coord ≡ b.coord + 1 → Fits i x.rest → b.coord + suc (length x.rest) < 32
      short small c (inl e) = omega (arith, small, c, ap length e)
      short small c (inr (y, l)) = omega (arith, l, c)

split : (a s : ℕ) (b : VarInfo) (vars : List VarInfo) → in_order a s b vars ≡ true → Split a s b vars
split a s b [] h = record { rest = []; args = []; are = refl; fits = inl refl; narrow = tt }
split a s b (i ∷ is) h = by_case (i.coord == 0) refl (λ k. split (suc a) (sites_behind s i) i is k) (λ k. split a s i is k) where
  by_case : (t : Bool) → (i.coord == 0) ≡ t → (in_order (suc a) (sites_behind s i) i is ≡ true → Split (suc a) (sites_behind s i) i is)
      → (in_order a s i is ≡ true → Split a s i is) → Split a s b (i ∷ is)
  by_case true e first behind =
      let g : (begins a s i && in_order (suc a) (sites_behind s i) i is) ≡ true = (let k : in_order a s b (i ∷ is) ≡ true = h in rw e at k) in
      let p = and_parts (begins a s i) (in_order (suc a) (sites_behind s i) i is) g in
      begins-split a s b i is (eqb-true i.coord 0 e) p.0 (first p.1)
  by_case false e first behind =
      let g : (goes_on b i && in_order a s i is) ≡ true = (let k : in_order a s b (i ∷ is) ≡ true = h in rw e at k) in
      let p = and_parts (goes_on b i) (in_order a s i is) g in
      goes-split a s b i is p.0 (behind p.1)

-- ---- and back
goes-true : (b : VarInfo) (r : Ends) → is_some b.site ≡ true → b.coord + 1 < 32 → goes_on b (next_of b r) ≡ true
goes-true b r e l = rw (itself b.arg, e, same-refl b.site, itself (b.coord + 1), lt-ltb (b.coord + 1) 32 l) refl

not-first : (n : ℕ) → (n + 1 == 0) ≡ false
not-first n = ne_eqb (n + 1) 0 (λ e. omega (arith, e))

back : (args : List Argument) (rest : List Ends) (a s : ℕ) (b : VarInfo) → Fits b rest → AreNarrow args
    → in_order a s b (coordinates_behind b rest ++ variables_from a s args) ≡ true
back [] [] a s b f n = refl
back (AParam r ∷ args) [] a s b f n = rw (itself a) (back args [] (suc a) s (first_of a None r) (inl refl) n.1)
back (ASite r rs ∷ args) [] a s b f n = rw (itself a, itself s) (back args rs (suc a) (suc s) (first_of a (Some s) r) (inr (refl, omega (arith, n.0))) n.1)
back args (r ∷ rest) a s b (inl q) n = absurd (let e : [] ≡ r ∷ rest = sym q in cc)
back args (r ∷ rest) a s b (inr (e, l)) n =
    rw (not-first b.coord, goes-true b r e (omega (arith, l))) (back args rest a s (next_of b r) (inr (e, omega (arith, l))) n)

-- ---- counts
and-false : (x y : Bool) → y ≡ false → (x && y) ≡ false
and-false true y e = e
and-false false y e = refl

-- what isn't counted
skip : (p : VarInfo → Bool) (x : VarInfo) (xs : List VarInfo) → p x ≡ false → count_by p (x ∷ xs) ≡ count_by p xs
skip p x xs e = rw e refl

-- and what is
counted : {X : Type 0} (p : X → Bool) (x : X) (xs : List X) → p x ≡ true → count_by p (x ∷ xs) ≡ suc (count_by p xs)
counted p x xs e =
    let h : count_by p (x ∷ xs) ≡ cond (p x) 1 0 + count_by p xs = sum_by-cons (λ y. cond (p y) 1 0) x xs in
    let k : cond {A = ℕ} (p x) 1 0 ≡ suc zero = rw e refl in
    omega (arith, h, k)

further-sites : (rs : List Ends) (b : VarInfo) (ys : List VarInfo) → count_by starts_site (coordinates_behind b rs ++ ys) ≡ count_by starts_site ys
further-sites [] b ys = refl
further-sites (r ∷ rs) b ys = skip starts_site (next_of b r) (coordinates_behind (next_of b r) rs ++ ys)
    (and-false (is_some b.site) (b.coord + 1 == 0) (not-first b.coord)) ∙ further-sites rs (next_of b r) ys

site-count : (args : List Argument) (a s : ℕ) → count_by starts_site (variables_from a s args) ≡ count_by is_a_site args
site-count [] a s = refl
site-count (ASite r rs ∷ args) a s =
    counted starts_site (first_of a (Some s) r) (coordinates_behind (first_of a (Some s) r) rs ++ variables_from (suc a) (suc s) args) refl
    ∙ ap suc (further-sites rs (first_of a (Some s) r) (variables_from (suc a) (suc s) args) ∙ site-count args (suc a) (suc s))
    ∙ sym (counted is_a_site (ASite r rs) args refl)
site-count (AParam r ∷ args) a s = site-count args (suc a) s

further-params : (rs : List Ends) (b : VarInfo) (ys : List VarInfo) → is_none b.site ≡ false
    → count_by is_param (coordinates_behind b rs ++ ys) ≡ count_by is_param ys
further-params [] b ys e = refl
further-params (r ∷ rs) b ys e = skip is_param (next_of b r) (coordinates_behind (next_of b r) rs ++ ys) e ∙ further-params rs (next_of b r) ys e

param-count : (args : List Argument) (a s : ℕ) → count_by is_param (variables_from a s args) ≡ count_by is_a_param args
param-count [] a s = refl
param-count (ASite r rs ∷ args) a s = further-params rs (first_of a (Some s) r) (variables_from (suc a) (suc s) args) refl ∙ param-count args (suc a) (suc s)
param-count (AParam r ∷ args) a s = counted is_param (first_of a None r) (variables_from (suc a) s args) refl
    ∙ ap suc (param-count args (suc a) s) ∙ sym (counted is_a_param (AParam r) args refl)

behind-length : (rs : List Ends) (b : VarInfo) → length (coordinates_behind b rs) ≡ length rs
behind-length [] b = refl
behind-length (r ∷ rs) b = ap suc (behind-length rs (next_of b r))

few : (args : List Argument) (a s : ℕ) → AreNarrow args → length (variables_from a s args) ≤ 32 * count_by is_a_site args + count_by is_a_param args
few [] a s n = omega arith
few (ASite r rs ∷ args) a s n =
    let e = length-append (coordinates_behind (first_of a (Some s) r) rs) (variables_from (suc a) (suc s) args) in
    let x : count_by is_a_site (ASite r rs ∷ args) ≡ suc (count_by is_a_site args) = counted is_a_site (ASite r rs) args refl in
    let y : count_by is_a_param (ASite r rs ∷ args) ≡ count_by is_a_param args = refl in
    omega (arith, e, x, y, behind-length rs (first_of a (Some s) r), n.0, few args (suc a) (suc s) n.1)
few (AParam r ∷ args) a s n =
    let x : count_by is_a_site (AParam r ∷ args) ≡ count_by is_a_site args = refl in
    let y : count_by is_a_param (AParam r ∷ args) ≡ suc (count_by is_a_param args) = counted is_a_param (AParam r) args refl in
    omega (arith, x, y, few args (suc a) s n.1)

-- ---- both ways
to : (sites : ℕ) (vars : List VarInfo) → is_laid_out sites vars ≡ true → AreOfArguments sites vars
to sites vars h =
    let p = laid_out sites vars h in
    made (split 0 0 no_var vars p.order) p.ranges p.counted p.few_sites p.few_params where
      none_behind : (rest : List Ends) → Fits no_var rest → rest ≡ []
      none_behind rest (inl e) = e
      none_behind rest (inr (e, l)) = absurd (let f : false ≡ true = e in cc)

      made : Split 0 0 no_var vars → list_all has_range vars ≡ true → count_by starts_site vars ≡ sites → sites ≤ 5
          → count_by is_param vars ≤ 8 → AreOfArguments sites vars
      made x ranges number low lower =
          let are : vars ≡ variables_from 0 0 x.args = x.are ∙ ap (λ q. coordinates_behind no_var q ++ variables_from 0 0 x.args) (none_behind x.rest x.fits) in
          record {
            args = x.args;
            are = are;
            narrow = x.narrow;
            sites_are = sym (site-count x.args 0 0) ∙ ap (count_by starts_site) (sym are) ∙ number;
            few_sites = low;
            few_params = omega (arith, lower, ap (count_by is_param) are, param-count x.args 0 0);
            ranges = ranges;
          }

from : (sites : ℕ) (vars : List VarInfo) → AreOfArguments sites vars → is_laid_out sites vars ≡ true
from sites vars x =
    let o : in_order 0 0 no_var vars ≡ true = rw x.are (back x.args [] 0 0 no_var (inl refl) x.narrow) in
    let c : count_by starts_site vars ≡ sites = ap (count_by starts_site) x.are ∙ site-count x.args 0 0 ∙ x.sites_are in
    let p : count_by is_param vars ≤ 8 = omega (arith, x.few_params, ap (count_by is_param) x.are, param-count x.args 0 0) in
    let l : length vars ≤ 168 = omega (arith, ap length x.are, few x.args 0 0 x.narrow, x.sites_are, x.few_sites, x.few_params) in
    rw (o, x.ranges, c, itself sites, le-leb sites 5 x.few_sites, le-leb (count_by is_param vars) 8 p, le-leb (length vars) 168 l) refl

-- the test of variables in order passes exactly those of arguments
pub variables-of-arguments : VariablesAreOfArguments
variables-of-arguments sites vars = (to sites vars, from sites vars)
