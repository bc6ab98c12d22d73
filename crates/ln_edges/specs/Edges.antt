-- Edges of a set of points.
use Rattle.std.specs.Prelude.{◌≡◌, ◌≢◌, ℕ, ◌/◌, ◌<◌, ◌≤◌, pos, List, [], ◌∷◌, ◌++◌, length, map, All, AllPairs}
use Rattle.std.specs.Prelude.{slice_index_or}
use Rattle.ln_base.specs.declared.sign.Sign.TheVariants.{Plus}
use Rattle.ln_algebra.specs.Sign.{IsPerturbedSign}
use Rattle.ln_algebra.specs.Tree.{Tree}
use Rattle.ln_tree.specs.declared.shape.VarInfo.{VarInfo}
use Rattle.ln_tree.specs.Row.{Row, values}
use Rattle.ln_tree.specs.Table.{CoordOf}
use Rattle.ln_tree.specs.Whole.{site_vars}
use Rattle.ln_order.specs.Sites.{row_sites}
use Rattle.ln_code.specs.declared.verdict.Verdict.{Verdict}
use Rattle.ln_code.specs.Part.{Part}
use Rattle.ln_code.specs.Verdict.{IsVerdict}
use Rattle.ln_edges.specs.declared.point.Point.{Point}
use Rattle.ln_code.specs.declared.row.Row as code
use Rattle.ln_edges.specs.Points.{Holds, IsPoint, PointOf, no_point, point_of, row_with}

-- the point at a place
abbrev pub point_at : List PointOf → ℕ → PointOf
point_at ps k = slice_index_or ps k no_point

-- each other point is on the plus side of these two, by a claim on three points
abbrev pub IsAround : (PointOf → PointOf → PointOf → Type 0) → List PointOf → ℕ → ℕ → Type 0
IsAround plus ps i j = (k : ℕ) → k < length ps → k ≢ i → k ≢ j → plus (point_at ps i) (point_at ps j) (point_at ps k)

-- the perturbed sign of an expression over these variables is plus on the row of three points
abbrev pub HasPlus : List VarInfo → Tree → PointOf → PointOf → PointOf → Type 0
HasPlus vars e a b c = IsPerturbedSign (length vars) (row_sites vars (row_with (a ∷ b ∷ c ∷ [])).index)
    (values (row_with (a ∷ b ∷ c ∷ [])).values) e (pos 1)

-- the pair of points i and j is an edge: for every point that is neither, the perturbed sign of the row of the three is
-- plus
pub record Edge (vars : List VarInfo) (e : Tree) (ps : List PointOf) (i j : ℕ) : Type 0 where
  pub first : i < length ps
  pub second : j < length ps
  pub differ : i ≢ j
  pub around : IsAround (HasPlus vars e) ps i j

-- ---- by the program
-- the variables of three sites of the type with these coordinates
abbrev pub three_of : List CoordOf → List VarInfo
three_of cs = site_vars 0 0 0 cs ++ (site_vars 1 1 0 cs ++ (site_vars 2 2 0 cs ++ []))

-- how many of them each of the three sites has
abbrev pub width : List VarInfo → ℕ
width vars = length vars / 3

-- the points that are kept, each with as many coordinates as one of the three sites over these variables has
abbrev pub points_in : List VarInfo → List Point → List PointOf
points_in vars points = map (point_of (width vars)) points

-- points of the type with these coordinates, whose indices differ
pub record ArePoints (cs : List CoordOf) (ps : List PointOf) : Type 0 where
  pub each : All (IsPoint cs) ps
  pub differ : AllPairs (λ p q. p.index ≢ q.index) ps

-- the part is over three sites of one type, of at most 32 coordinates, of which these are points
pub record AreFor (sites : ℕ) (vars : List VarInfo) (ps : List PointOf) : Type 0 where
  pub type : List CoordOf
  pub three : sites ≡ 3
  pub are : vars ≡ three_of type
  pub narrow : length type ≤ 32
  pub points : ArePoints type ps

-- the part is over three sites of one type, and the points that are kept are points of it
abbrev pub ArePointsFor : Part → List Point → Type 0
ArePointsFor part points = AreFor part.shape.sites part.shape.vars (points_in part.shape.vars points)

-- the machine's sign on the row is plus
abbrev pub IsPlus : Part → Row → Type 0
IsPlus part row = (v : Verdict) × IsVerdict part row v × (v.sign ≡ Plus)

-- the machine's sign on the row of points i, j and k is plus
abbrev pub IsPlusOn : Part → List PointOf → ℕ → ℕ → ℕ → Type 0
IsPlusOn part ps i j k = IsPlus part (row_with (point_at ps i ∷ point_at ps j ∷ point_at ps k ∷ []))

-- each other point is on the plus side of these two by the machine
abbrev pub IsMachineEdge : Part → List PointOf → ℕ → ℕ → Type 0
IsMachineEdge part = IsAround (λ a b c. IsPlus part (row_with (a ∷ b ∷ c ∷ [])))

-- the row holds these two points
abbrev pub HoldsPair : Part → List Point → ℕ → ℕ → code.Row → Type 0
HoldsPair part points i j r =
    Holds (width part.shape.vars)
    (point_at (points_in part.shape.vars points) i ∷ point_at (points_in part.shape.vars points) j ∷ []) r
