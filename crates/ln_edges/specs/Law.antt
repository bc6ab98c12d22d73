-- The pairs that the machine finds are the edges.
use Rattle.std.specs.Prelude.{◌≡◌, ◌≢◌, ◌↔◌, ℕ, ◌<◌, ◌≤◌, List, length, map}
use Rattle.ln_algebra.specs.Orders.{BySmallest}
use Rattle.ln_algebra.specs.Terms.{Term}
use Rattle.ln_algebra.specs.Tree.{Tree}
use Rattle.ln_code.specs.Carried.{Carries, Runs}
use Rattle.ln_code.specs.Part.{Part}
use Rattle.ln_tree.specs.declared.shape.VarInfo.{VarInfo}
use Rattle.ln_tree.specs.Table.{CoordOf}
use Rattle.ln_rows.specs.Left.{Records}
use Rattle.ln_edges.specs.declared.point.Point.{Point}
use Rattle.ln_edges.specs.Points.{PointOf, point_of}
use Rattle.ln_edges.specs.Read.{ArePointsOf}
use Rattle.ln_edges.specs.Edges.{AreFor, Edge, IsMachineEdge, points_in, three_of}
use Rattle.ln_edges.specs.Lines.{ProgramEdge, edge_line}
use Rattle.ln_edges.specs.Pairs.{AreLines}

-- for a part that carries an expression, over three sites of one type, and different points i and j of that type
abbrev pub MachineFindsEdges : Type 0
MachineFindsEdges =
    (p : Part) (e : Tree) (f : List Term) (ps : List PointOf) (i j : ℕ) → Runs p → Carries BySmallest p e f
    → AreFor p.shape.sites p.shape.vars ps → i < length ps → j < length ps → i ≢ j
    → IsMachineEdge p ps i j ↔ Edge p.shape.vars e ps i j

-- the points of records of a type are points for a program over three sites of that type
abbrev pub PointsSuit : Type 0
PointsSuit =
    (cs : List CoordOf) (rs : Records) (points : List Point) (sites : ℕ) (vars : List VarInfo)
    → sites ≡ 3 → vars ≡ three_of cs → length cs ≤ 32 → ArePointsOf cs rs (map (point_of (length cs)) points)
    → AreFor sites vars (points_in vars points)

-- and the lines of the one are the lines of the other
abbrev pub LinesAreOfEdges : Type 0
LinesAreOfEdges =
    (p : Part) (e : Tree) (f : List Term) (ps : List PointOf) (text : List ℕ) → Runs p → Carries BySmallest p e f
    → AreFor p.shape.sites p.shape.vars ps → AreLines (ProgramEdge p ps) (edge_line ps) text
    → AreLines (Edge p.shape.vars e ps) (edge_line ps) text
