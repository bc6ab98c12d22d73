-- The lines of the edges.
use Rattle.std.specs.Prelude.{◌≢◌, ℕ, ◌<◌, ℤ, unsigned_abs, List, [], ◌∷◌, ◌++◌, length, decimal}
use Rattle.ln_code.specs.Part.{Part}
use Rattle.ln_edges.specs.declared.point.Point.{Point}
use Rattle.ln_edges.specs.Points.{PointOf}
use Rattle.ln_edges.specs.Edges.{IsMachineEdge, point_at, points_in}
use Rattle.ln_edges.specs.Pairs.{AreLines, Pair, SoFar}

-- the digits of an index, which is at least 0
abbrev pub index_text : ℤ → List ℕ
index_text z = decimal (unsigned_abs z)

-- `I J`
abbrev pub edge_line : List PointOf → Pair → List ℕ
edge_line ps e = index_text (point_at ps e.from).index ++ 32 ∷ (index_text (point_at ps e.to).index ++ 10 ∷ [])

-- i and j are different points, and each other point is on their plus side by the machine
pub record ProgramEdge (part : Part) (ps : List PointOf) (i j : ℕ) : Type 0 where
  pub first : i < length ps
  pub second : j < length ps
  pub differ : i ≢ j
  pub around : IsMachineEdge part ps i j

-- a text is the lines of all pairs that are edges by the machine
abbrev pub AreEdgeLines : Part → List Point → List ℕ → Type 0
AreEdgeLines part points text =
    AreLines (ProgramEdge part (points_in part.shape.vars points)) (edge_line (points_in part.shape.vars points)) text

-- a text that begins so and goes on with the lines of the edges that precede the pair of i and j
abbrev pub EdgesSoFar : Part → List Point → List ℕ → ℕ → ℕ → List ℕ → Type 0
EdgesSoFar part points start i j text =
    SoFar (ProgramEdge part (points_in part.shape.vars points)) (edge_line (points_in part.shape.vars points))
    start i j text
