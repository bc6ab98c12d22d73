-- Points of a site type, and rows of points.
use Rattle.std.specs.Prelude.{◌≡◌, ℕ, ◌*◌, ◌^◌, ◌-◌, ◌≤◌, ℤ, pos, ◌≤ℤ◌, List, [], length, map, flat_map, take}
use Rattle.std.specs.Prelude.{slice_index_or}
use Rattle.ln_tree.specs.Row.{AreWithin, Row}
use Rattle.ln_tree.specs.Table.{CoordOf}
use Rattle.ln_tree.specs.Whole.{site_vars}
use Rattle.ln_code.specs.declared.row.Row as code
use Rattle.ln_edges.specs.declared.point.Point.{Point}

-- a point: its index and its coordinates
pub record PointOf : Type 0 where
  pub index : ℤ
  pub coords : List ℤ

-- the point that is kept, of a type of this many coordinates
abbrev pub point_of : ℕ → Point → PointOf
point_of n p = record { index = p.index; coords = take n p.values }

-- the places after this many coordinates are 0
abbrev pub IsZeroAfter : ℕ → Point → Type 0
IsZeroAfter n p = (k : ℕ) → n ≤ k → slice_index_or p.values k (pos 0) ≡ pos 0

-- the point with index 0 and no coordinates, for a place past the end of a list
abbrev pub no_point : PointOf
no_point = record { index = pos 0; coords = [] }

-- a point of the type with these coordinates: its index is from 0 to 2^63 - 1, each coordinate in its range, as in the variables of a site
pub record IsPoint (cs : List CoordOf) (p : PointOf) : Type 0 where
  pub low : pos 0 ≤ℤ p.index
  pub high : p.index ≤ℤ pos (2 ^ 63 - 1)
  pub within : AreWithin (site_vars 0 0 0 cs) p.coords

-- the row of these points, one for each site
abbrev pub row_with : List PointOf → Row
row_with ps = record { index = map (λ p. p.index) ps; values = flat_map (λ p. p.coords) ps }

-- the first places of the program's row hold these points, each of this many coordinates
pub record Holds (width : ℕ) (ps : List PointOf) (r : code.Row) : Type 0 where
  pub index : take (length ps) r.index ≡ map (λ p. p.index) ps
  pub values : take (length ps * width) r.values ≡ flat_map (λ p. p.coords) ps
