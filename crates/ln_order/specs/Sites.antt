-- The sites of a shape, with their indices in an order or a row, and their variables by rising infinitesimal.
use Rattle.std.specs.Prelude.{◌≡◌, ◌↔◌, ℕ, ◌≤ℤ◌, eqb, true, List, [], ◌∷◌, ◌++◌, length, All}
use Rattle.std.specs.Prelude.{ℤ, pos, unsigned_abs, Option, Some, None, if◌then◌else◌}
use Rattle.std.proofs.Common.{zero, suc}
use Rattle.std.specs.Ordering.{nat_cmp, ordering_then}
use Rattle.std.specs.declared.cmp.Ordering.{Ordering}
use Rattle.std.specs.declared.cmp.Ordering.TheVariants.{Equal}
use Rattle.ln_algebra.specs.Earlier.{Earlier, Sites}
use Rattle.ln_tree.specs.declared.shape.VarInfo.{VarInfo}
use Rattle.ln_tree.specs.Exps.{Pairs, exponent}
use Rattle.ln_tree.specs.Variables.{is_laid_out, same_site}
use Rattle.ln_order.specs.Order.{IsOrder, index_at}

-- the place of the site of variable v; a param has none
abbrev pub site_of : List VarInfo → ℕ → Option ℕ
site_of [] v = None
site_of (i ∷ is) zero = i.site
site_of (i ∷ is) (suc v) = site_of is v

-- how many sites are before s in an order
abbrev pub place_in : List ℕ → ℕ → ℕ
place_in [] s = 0
place_in (t ∷ o) s = if eqb t s then 0 else suc (place_in o s)

-- the sites of a shape, in an order: the index of each is its place in it
abbrev pub sites_of : List VarInfo → List ℕ → Sites
sites_of vars order = record { site = site_of vars; index = place_in order }

-- the sites of a shape, with a row's own indices, which are from 0 on
abbrev pub row_sites : List VarInfo → List ℤ → Sites
row_sites vars indices = record { site = site_of vars; index = λ s. unsigned_abs (index_at indices s) }

-- a row's own indices give the same order of vectors as the order of its sites
abbrev pub OrdersAreThoseOfRows : Type 0
OrdersAreThoseOfRows =
    (sites : ℕ) (vars : List VarInfo) (indices : List ℤ) (order a b : List ℕ) → is_laid_out sites vars ≡ true → length indices ≡ sites →
    All (λ z. pos 0 ≤ℤ z) indices → IsOrder indices order → Earlier (row_sites vars indices) a b ↔ Earlier (sites_of vars order) a b

-- ---- variables by rising infinitesimal
-- the variables of site s, where these are numbered from v on
abbrev pub vars_of : ℕ → List VarInfo → ℕ → List ℕ
vars_of s [] v = []
vars_of s (i ∷ is) v = if same_site i.site (Some s) then (v ∷ vars_of s is (suc v)) else vars_of s is (suc v)

-- the variables of these sites, those of the last one first
abbrev pub ranking_of : List VarInfo → List ℕ → List ℕ
ranking_of vars [] = []
ranking_of vars (s ∷ o) = ranking_of vars o ++ vars_of s vars 0

-- the order of two exponents at the first of these variables where they differ
abbrev pub along : List ℕ → Pairs → Pairs → Ordering
along [] a b = Equal
along (v ∷ vs) a b = ordering_then (nat_cmp (exponent v a) (exponent v b)) (along vs a b)
