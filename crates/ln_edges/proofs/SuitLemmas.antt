-- Points that were read are in range.
use Rattle.std.proofs.Common.{◌≡◌, ℕ, suc, ◌^◌, ◌-◌, Bool, true, false, ◌&&◌, List, [], ◌∷◌, length, map, ℤ, pos, ◌≤ℤ◌}
use Rattle.std.proofs.Common.{Option, Some, None, Result, Ok, Err}
use Rattle.std.proofs.Common.{refl, ap, sym, ◌∙◌, subst, arith}
use Rattle.std.specs.Prelude.{int_le, if◌then◌else◌, All}
use Rattle.std.proofs.lemmas.Bool.{and_parts}
use Rattle.std.proofs.lemmas.Bool.Decides.{nat_tests}
use Rattle.std.proofs.lemmas.Int.{ints}
use Rattle.std.proofs.lemmas.List.Elements.{All-nil, All-cons}
use Rattle.ln_base.specs.Decimal.{integer_value}
use Rattle.ln_tree.specs.Row.{AreWithin}
use Rattle.ln_tree.specs.Table.{CoordOf}
use Rattle.ln_tree.specs.Whole.{site_vars}
use Rattle.ln_rows.specs.Left.{Records}
use Rattle.ln_rows.specs.Number.{within, number_in}
use Rattle.ln_rows.specs.declared.numbers.NumberStop.{NumberStop}
use Rattle.ln_rows.specs.declared.numbers.NumberStop.TheVariants.{Range}
use Rattle.ln_edges.specs.Points.{IsPoint, PointOf, point_of}
use Rattle.ln_edges.specs.Edges.{ArePoints, width}
use Rattle.ln_edges.specs.Law.{PointsSuit}
use Rattle.ln_edges.specs.Read.{SayPoints, both, numbers_in, pointed, point_in}
use Rattle.ln_edges.proofs.RowLemmas.{three_width}

le_of : (x y : ℤ) → int_le x y ≡ true → x ≤ℤ y
le_of x y h = grind (arith, nat_tests, ints)

within_ends : (lo hi z : ℤ) (o : Option ℤ) → within lo hi o ≡ Ok z → (lo ≤ℤ z) × (z ≤ℤ hi)
within_ends lo hi z None h = absurd (cc)
within_ends lo hi z (Some y) h = go (int_le lo y && int_le y hi) refl h where
  go : (b : Bool) → (int_le lo y && int_le y hi) ≡ b → (if b then Ok y else Err Range) ≡ Ok z → (lo ≤ℤ z) × (z ≤ℤ hi)
  go true e q =
      let same : y ≡ z = cc in
      let p = and_parts (int_le lo y) (int_le y hi) e in
      (subst (λ (x : ℤ). lo ≤ℤ x) same (le_of lo y p.0), subst (λ (x : ℤ). x ≤ℤ hi) same (le_of y hi p.1))
  go false e q = absurd (cc)

-- a number and those after it
both_parts : (r : Result ℤ NumberStop) (o : Option (List ℤ)) (zs : List ℤ) → both r o ≡ Some zs
    → (z : ℤ) × (ys : List ℤ) × (r ≡ Ok z) × (o ≡ Some ys) × (zs ≡ z ∷ ys)
both_parts (Ok z) (Some ys) zs h = (z, ys, refl, refl, cc)
both_parts r o zs h = absurd (cc)

coords_within : (k : ℕ) (cs : List CoordOf) (fs : List (List ℕ)) (zs : List ℤ) → numbers_in cs fs ≡ Some zs → AreWithin (site_vars 0 0 k cs) zs
coords_within k [] [] [] h = tt
coords_within k (c ∷ cs) (f ∷ fs) zs h =
    let p = both_parts (number_in c.lo c.hi f) (numbers_in cs fs) zs h in
    let e = within_ends c.lo c.hi p.0 (integer_value f) p.2 in
    subst (AreWithin (site_vars 0 0 k (c ∷ cs))) (sym p.4) (e.0, e.1, coords_within (suc k) cs fs p.1 p.3)
coords_within k cs fs zs h = absurd (cc)

pointed_parts : (r : Result ℤ NumberStop) (o : Option (List ℤ)) (p : PointOf) → pointed r o ≡ Some p
    → (r ≡ Ok p.index) × (o ≡ Some p.coords)
pointed_parts (Ok z) (Some ys) p h =
    let e : record { index = z; coords = ys } ≡ p = cc in
    (ap (λ (q : PointOf). Ok q.index) e, ap (λ (q : PointOf). Some q.coords) e)
pointed_parts r o p h = absurd (cc)

is_point : (cs : List CoordOf) (fields : List (List ℕ)) (p : PointOf) → point_in cs fields ≡ Some p → IsPoint cs p
is_point cs [] p h = absurd (cc)
is_point cs (f ∷ fs) p h =
    let q = pointed_parts (number_in (pos 0) (pos (2 ^ 63 - 1)) f) (numbers_in cs fs) p h in
    let e = within_ends (pos 0) (pos (2 ^ 63 - 1)) p.index (integer_value f) q.0 in
    record { low = e.0; high = e.1; within = coords_within 0 cs fs p.coords q.1 }

all_points : (cs : List CoordOf) (rs : Records) (ps : List PointOf) → SayPoints cs rs ps → All (IsPoint cs) ps
all_points cs [] [] s = All-nil (IsPoint cs)
all_points cs (r ∷ rs) (p ∷ ps) s = All-cons (IsPoint cs) p ps (is_point cs r p s.0)
    (all_points cs rs ps s.1)
all_points cs rs ps s = absurd s

-- the points of records of a type are points for a part over three sites of that type
pub points_fit : PointsSuit
points_fit cs rs points sites vars e f narrow a =
    let w : length cs ≡ width vars = sym (ap width f ∙ three_width cs) in
    let here : ArePoints cs (map (point_of (length cs)) points) =
    record { each = all_points cs rs (map (point_of (length cs)) points) a.say; differ = a.differ } in
    record {
      type = cs;
      three = e;
      are = f;
      narrow = narrow;
      points = subst (λ (n : ℕ). ArePoints cs (map (point_of n) points)) w here;
    }
