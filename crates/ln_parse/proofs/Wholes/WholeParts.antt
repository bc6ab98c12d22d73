-- What a whole table has, part by part.
use Rattle.std.proofs.Common.{◌≡◌, ℕ, ◌<◌, ◌≤◌, ◌^◌, ◌==◌, ◌&&◌, ◌||◌, not, Bool, true, false, nat_lt, List, [], ◌∷◌, ◌++◌, length, map, refl, arith}
use Rattle.std.specs.Prelude.{ℤ, pos, neg_ℤ, int_lt, unsigned_abs, nat_le, count_by, bytes_eq, ◌≤ℤ◌}
use Rattle.std.specs.List.{list_any, list_all}
use Rattle.std.specs.Ordering.{int_eq}
use Rattle.std.specs.Cmp.{signed_Decides}
use Rattle.std.proofs.lemmas.Bool.{and_parts, leb-true, eqb-true}
use Rattle.std.proofs.lemmas.Bool.Decides.{nat_tests}
use Rattle.std.proofs.lemmas.Int.{ints}
use Rattle.std.proofs.lemmas.Slice.Eq.{bytes_eq-Decides}
use Rattle.ln_base.specs.Limits.{most_tokens}
use Rattle.ln_tree.specs.declared.shape.VarInfo.{VarInfo}
use Rattle.ln_tree.specs.Variables.{same_site}
use Rattle.ln_tree.specs.Table.{CoordOf, SiteOf, PredOf, TableOf}
use Rattle.ln_tree.specs.Whole.{is_new, differ, is_range, site_whole, is_one_of, is_site_said, is_param_said, arg_name, vars_behind, same_var, same_vars}
use Rattle.ln_tree.specs.Whole.{nesting, pred_whole, item_names, text_tokens, is_whole}
use Rattle.ln_tree.proofs.LaidLemmas.{same-site}
use Rattle.ln_parse.specs.ReadsBack.{Every}
use Rattle.ln_parse.proofs.ReadBack.NamePlaces.{NoneIs, Differ}
use Rattle.ln_parse.proofs.Wholes.TestLemmas.{below}

-- what a test finds of all elements holds of each
pub every : {A : Type 0} (p : A → Bool) (xs : List A) → list_all p xs ≡ true → Every (λ x. p x ≡ true) xs
every p [] h = tt
every p (x ∷ xs) h = let q = and_parts (p x) (list_all p xs) h in (q.0, every p xs q.1)

-- what holds of each element holds by a weaker fact
pub every_map : {A : Type 0} (P Q : A → Type 0) (xs : List A) → ((x : A) → P x → Q x) → Every P xs → Every Q xs
every_map P Q [] f e = tt
every_map P Q (x ∷ xs) f e = (f x e.0, every_map P Q xs f e.1)

either_not : (a b : Bool) → not (a || b) ≡ true → (a ≡ false) × (not b ≡ true)
either_not true b h = absurd (cc)
either_not false b h = (refl, h)

none_is : (t : List ℕ) (us : List (List ℕ)) → is_new t us ≡ true → NoneIs t us
none_is t [] h = tt
none_is t (u ∷ us) h = let q = either_not (bytes_eq t u) (list_any (λ v. bytes_eq t v) us) h in (q.0, none_is t us q.1)

-- names that differ by the test differ
pub differing : (us : List (List ℕ)) → differ us ≡ true → Differ us
differing [] h = tt
differing (u ∷ us) h = let q = and_parts (is_new u us) (differ us) h in (none_is u us q.0, differing us q.1)

-- a range in order, within the limits
pub record InRange (c : CoordOf) : Type 0 where
  pub order : c.lo ≤ℤ c.hi
  pub low : unsigned_abs c.lo < 2 ^ 63
  pub high : unsigned_abs c.hi < 2 ^ 63

ordered : (x y : ℤ) → not (int_lt y x) ≡ true → x ≤ℤ y
ordered x y h = grind (arith, nat_tests, ints)

abs_low : (x y : ℤ) → not (int_lt y x) ≡ true → int_lt (neg_ℤ (pos (2 ^ 63))) x ≡ true → int_lt y (pos (2 ^ 63)) ≡ true → unsigned_abs x < 2 ^ 63
abs_low x y h l u = grind (arith, nat_tests, ints)

abs_high : (x y : ℤ) → not (int_lt y x) ≡ true → int_lt (neg_ℤ (pos (2 ^ 63))) x ≡ true → int_lt y (pos (2 ^ 63)) ≡ true → unsigned_abs y < 2 ^ 63
abs_high x y h l u = grind (arith, nat_tests, ints)

-- a coordinate or param that passes the test of ranges has such a range
pub in_range : (c : CoordOf) → is_range c ≡ true → InRange c
in_range c h =
    let p = and_parts (not (int_lt c.hi c.lo) && int_lt (neg_ℤ (pos (2 ^ 63))) c.lo) (int_lt c.hi (pos (2 ^ 63))) h in
    let q = and_parts (not (int_lt c.hi c.lo)) (int_lt (neg_ℤ (pos (2 ^ 63))) c.lo) p.0 in
    record { order = ordered c.lo c.hi q.0; low = abs_low c.lo c.hi q.0 q.1 p.1; high = abs_high c.lo c.hi q.0 q.1 p.1 }

-- a site type
pub record SiteParts (s : SiteOf) : Type 0 where
  pub some : 0 < length s.coords
  pub few : length s.coords ≤ 32
  pub ranges : Every InRange s.coords
  pub differ : Differ (map (λ c. c.name) s.coords)

-- a site type that is whole is such
pub site_parts : (s : SiteOf) → site_whole s ≡ true → SiteParts s
site_parts s h =
    let a = and_parts (nat_lt 0 (length s.coords) && nat_le (length s.coords) 32 && list_all is_range s.coords) (differ (map (λ c. c.name) s.coords)) h in
    let b = and_parts (nat_lt 0 (length s.coords) && nat_le (length s.coords) 32) (list_all is_range s.coords) a.0 in
    let c = and_parts (nat_lt 0 (length s.coords)) (nat_le (length s.coords) 32) b.0 in
    record {
      some = below _ _ c.0;
      few = leb-true _ _ c.1;
      ranges = every_map (λ x. is_range x ≡ true) InRange s.coords in_range (every is_range s.coords b.1);
      differ = differing _ a.1;
    }

same_var_is : (i j : VarInfo) → same_var i j ≡ true → i ≡ j
same_var_is i j h =
    let a = and_parts ((i.arg == j.arg) && same_site i.site j.site && (i.coord == j.coord) && int_eq i.lo j.lo) (int_eq i.hi j.hi) h in
    let b = and_parts ((i.arg == j.arg) && same_site i.site j.site && (i.coord == j.coord)) (int_eq i.lo j.lo) a.0 in
    let c = and_parts ((i.arg == j.arg) && same_site i.site j.site) (i.coord == j.coord) b.0 in
    let d = and_parts (i.arg == j.arg) (same_site i.site j.site) c.0 in
    let arg = eqb-true i.arg j.arg d.0 in
    let site = same-site i.site j.site d.1 in
    let coord = eqb-true i.coord j.coord c.1 in
    let lo = (signed_Decides i.lo j.lo).0 b.1 in
    let hi = (signed_Decides i.hi j.hi).0 a.1 in
    let made : ◌≡◌ {A = VarInfo} (record { arg = i.arg; site = i.site; coord = i.coord; lo = i.lo; hi = i.hi }) j =
    rw (arg, site, coord, lo, hi) refl in
    made

-- the same variables are equal
pub same_vars_are : (is js : List VarInfo) → same_vars is js ≡ true → is ≡ js
same_vars_are [] [] h = refl
same_vars_are [] (j ∷ js) h = absurd (cc)
same_vars_are (i ∷ is) [] h = absurd (cc)
same_vars_are (i ∷ is) (j ∷ js) h =
    let q = and_parts (same_var i j) (same_vars is js) h in
    let a = same_var_is i j q.0 in
    let b = same_vars_are is js q.1 in
    rw (a, b) refl

-- a predicate
pub record PredParts (S : List SiteOf) (P : List CoordOf) (p : PredOf) : Type 0 where
  pub shape_name : p.shape_name ≡ p.name
  pub some : 0 < length p.args
  pub known : list_all (is_one_of (length S) (length P)) p.args ≡ true
  pub few_sites : count_by is_site_said p.args ≤ 5
  pub few_params : count_by is_param_said p.args ≤ 8
  pub sites : p.sites ≡ count_by is_site_said p.args
  pub vars : p.vars ≡ vars_behind S P 0 0 p.args
  pub names : Differ (map (arg_name P) p.args ++ p.let_names)
  pub lets : Every (λ e. nesting 0 e ≤ 64) p.lets
  pub root : nesting 0 p.root ≤ 64

-- a predicate that is whole is such
pub pred_parts : (S : List SiteOf) (P : List CoordOf) (p : PredOf) → pred_whole S P p ≡ true → PredParts S P p
pred_parts S P p h =
    let t1 = bytes_eq p.shape_name p.name in
    let t2 = nat_lt 0 (length p.args) in
    let t3 = list_all (is_one_of (length S) (length P)) p.args in
    let t4 = nat_le (count_by is_site_said p.args) 5 in
    let t5 = nat_le (count_by is_param_said p.args) 8 in
    let t6 = p.sites == count_by is_site_said p.args in
    let t7 = same_vars p.vars (vars_behind S P 0 0 p.args) in
    let t8 = differ (map (arg_name P) p.args ++ p.let_names) in
    let t9 = list_all (λ e. nat_le (nesting 0 e) 64) p.lets in
    let j = and_parts (t1 && t2 && t3 && t4 && t5 && t6 && t7 && t8 && t9) (nat_le (nesting 0 p.root) 64) h in
    let i = and_parts (t1 && t2 && t3 && t4 && t5 && t6 && t7 && t8) t9 j.0 in
    let g = and_parts (t1 && t2 && t3 && t4 && t5 && t6 && t7) t8 i.0 in
    let f = and_parts (t1 && t2 && t3 && t4 && t5 && t6) t7 g.0 in
    let e = and_parts (t1 && t2 && t3 && t4 && t5) t6 f.0 in
    let d = and_parts (t1 && t2 && t3 && t4) t5 e.0 in
    let c = and_parts (t1 && t2 && t3) t4 d.0 in
    let b = and_parts (t1 && t2) t3 c.0 in
    let a = and_parts t1 t2 b.0 in
    record {
      shape_name = (bytes_eq-Decides p.shape_name p.name).0 a.0;
      some = below _ _ a.1;
      known = b.1;
      few_sites = leb-true _ _ c.1;
      few_params = leb-true _ _ d.1;
      sites = eqb-true _ _ e.1;
      vars = same_vars_are _ _ f.1;
      names = differing _ g.1;
      lets = every_map (λ e. nat_le (nesting 0 e) 64 ≡ true) (λ e. nesting 0 e ≤ 64) p.lets (λ e q. leb-true _ _ q)
          (every (λ e. nat_le (nesting 0 e) 64) p.lets i.1);
      root = leb-true _ _ j.1;
    }

-- a table
pub record TableParts (t : TableOf) : Type 0 where
  pub sites : Every SiteParts t.sites
  pub params : Every InRange t.params
  pub preds : Every (PredParts t.sites t.params) t.preds
  pub names : Differ (item_names t)
  pub tokens : text_tokens t ≤ most_tokens

-- a table that is whole is such
pub table_parts : (t : TableOf) → is_whole t ≡ true → TableParts t
table_parts t h =
    let t1 = list_all site_whole t.sites in
    let t2 = list_all is_range t.params in
    let t3 = list_all (pred_whole t.sites t.params) t.preds in
    let d = and_parts (t1 && t2 && t3 && differ (item_names t)) (nat_le (text_tokens t) most_tokens) h in
    let c = and_parts (t1 && t2 && t3) (differ (item_names t)) d.0 in
    let b = and_parts (t1 && t2) t3 c.0 in
    let a = and_parts t1 t2 b.0 in
    record {
      sites = every_map (λ s. site_whole s ≡ true) SiteParts t.sites site_parts (every site_whole t.sites a.0);
      params = every_map (λ c. is_range c ≡ true) InRange t.params in_range (every is_range t.params a.1);
      preds = every_map (λ p. pred_whole t.sites t.params p ≡ true) (PredParts t.sites t.params) t.preds (pred_parts t.sites t.params)
          (every (pred_whole t.sites t.params) t.preds b.1);
      names = differing _ c.1;
      tokens = leb-true _ _ d.1;
    }
