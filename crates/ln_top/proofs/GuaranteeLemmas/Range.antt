-- A row of declared arguments is in the range of their variables.
use Rattle.std.proofs.Common.{◌≡◌, ◌≢◌, ℕ, zero, suc, arith, ◌<◌, ◌^◌, ◌-◌, ◌≤ℤ◌, length, ℤ, pos, Option, Some, None, refl, ap, sym, ◌∙◌}
use Rattle.std.specs.Prelude.{List, [], ◌∷◌, ◌++◌, map, All, AllPairs, slice_index_or}
use Rattle.std.proofs.lemmas.List.Elements.{All-cons, All-nil}
use Rattle.std.proofs.lemmas.List.{length-map}
use Rattle.std.proofs.lemmas.Int.{ints}
use Rattle.std.proofs.lemmas.Bool.Decides.{nat_tests}
use Rattle.ln_tree.specs.declared.shape.VarInfo.{VarInfo}
use Rattle.ln_tree.specs.Row.{InRange}
use Rattle.ln_top.specs.Guarantee as told
use Rattle.ln_top.specs.Guarantee.{AreRowFields, AreValues, PredArgument, OfParam, OfType, Ranged, sites_after}
use Rattle.ln_top.proofs.GuaranteeLemmas.Rows.{coords_vars, fields_within, vars_for}

-- how many sites there are
abbrev pub sites_in : List PredArgument → ℕ
sites_in [] = 0
sites_in (OfType n t ∷ args) = suc (sites_in args)
sites_in (OfParam p ∷ args) = sites_in args

as_many : {args : List PredArgument} {fs : List (List ℕ)} {ns : List ℕ} {zs : List ℤ} → AreRowFields args fs ns zs → length ns ≡ sites_in args
as_many told.none = refl
as_many (told.site a b v rest) = ap suc (as_many rest)
as_many (told.param v rest) = as_many rest

low : (n : ℕ) → pos 0 ≤ℤ pos n
low n = grind (arith, nat_tests, ints)

high : (n : ℕ) → n < 2 ^ 63 → pos n ≤ℤ pos (2 ^ 63 - 1)
high n h = grind (arith, nat_tests, ints, h)

are_indices : {args : List PredArgument} {fs : List (List ℕ)} {ns : List ℕ} {zs : List ℤ} → AreRowFields args fs ns zs
    → All (λ z. (pos 0 ≤ℤ z) × (z ≤ℤ pos (2 ^ 63 - 1))) (map pos ns)
are_indices told.none = All-nil (λ z. (pos 0 ≤ℤ z) × (z ≤ℤ pos (2 ^ 63 - 1)))
are_indices (told.site {n = n} {ns = ns} a b v rest) =
    All-cons (λ z. (pos 0 ≤ℤ z) × (z ≤ℤ pos (2 ^ 63 - 1))) (pos n) (map pos ns) (low n, high n b) (are_indices rest)
are_indices (told.param v rest) = are_indices rest

get_pos : (ns : List ℕ) (k : ℕ) (d : ℤ) → k < length ns → slice_index_or (map pos ns) k d ≡ pos (slice_index_or ns k 0)
get_pos [] k d h = absurd (omega (arith, h))
get_pos (n ∷ ns) zero d h = refl
get_pos (n ∷ ns) (suc k) d h = get_pos ns k d (omega (arith, h))

pos_same : (m n : ℕ) → pos m ≡ pos n → m ≡ n
pos_same m n h = grind (arith, ints, h)

differ_there : (ns : List ℕ) → AllPairs (λ m n. m ≢ n) ns → AllPairs (λ y z. y ≢ z) (map pos ns)
differ_there ns h = λ i j d l b e.
    let m : j < length ns = omega (arith, b, length-map ns pos) in
    h i j 0 l m (pos_same (slice_index_or ns i 0) (slice_index_or ns j 0)
    (sym (get_pos ns i d (omega (arith, l, m))) ∙ e ∙ get_pos ns j d m))

-- a row of declared arguments is in range
pub in_range : {args : List PredArgument} {fs : List (List ℕ)} {ns : List ℕ} {zs : List ℤ} → AreRowFields args fs ns zs → AllPairs (λ m n. m ≢ n) ns
    → InRange (sites_in args) (vars_for 0 0 args) (record { index = map pos ns; values = zs })
in_range {ns = ns} f d = record {
  size = length-map ns pos ∙ as_many f;
  indices = are_indices f;
  differ = differ_there ns d;
  values = fields_within f 0 0;
}

-- ---- the sites of the variables
append_sites : (is js : List VarInfo) → map (λ (i : VarInfo). i.site) (is ++ js) ≡ map (λ (i : VarInfo). i.site) is ++ map (λ (i : VarInfo). i.site) js
append_sites [] js = refl
append_sites (i ∷ is) js = ap (λ (x : List (Option ℕ)). i.site ∷ x) (append_sites is js)

coords_sites : (k s c : ℕ) (rs : List Ranged) → map (λ (i : VarInfo). i.site) (coords_vars k s c rs) ≡ map (λ (r : Ranged). Some s) rs
coords_sites k s c [] = refl
coords_sites k s c (r ∷ rs) = ap (λ (x : List (Option ℕ)). Some s ∷ x) (coords_sites k s (suc c) rs)

-- the sites of the variables
pub vars_sites : (k s : ℕ) (args : List PredArgument) → map (λ (i : VarInfo). i.site) (vars_for k s args) ≡ sites_after s args
vars_sites k s [] = refl
vars_sites k s (OfType n t ∷ args) =
    append_sites (coords_vars k s 0 t.coords) (vars_for (suc k) (suc s) args)
    ∙ (λ i. coords_sites k s 0 t.coords i ++ vars_sites (suc k) (suc s) args i)
vars_sites k s (OfParam p ∷ args) = ap (λ (x : List (Option ℕ)). None ∷ x) (vars_sites (suc k) s args)
