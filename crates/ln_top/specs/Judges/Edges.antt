-- `edges FILE NAME POINTS`: a line on Out for each ordered pair of points that has every other point on the plus side of the predicate.
use Rattle.std.specs.Prelude.{◌≡◌, ℕ, ◌<◌, ◌≤◌, List, [], ◌∷◌, length, map, Some, codes}
use Rattle.ln_tree.specs.Table.{ArgOf, PredOf, SiteArg, SiteOf}
use Rattle.ln_compile.specs.Accepted.{root_of}
use Rattle.ln_rows.specs.Left.{Records, records_in}
use Rattle.ln_edges.specs.declared.point.Point.{Point as code_point}
use Rattle.ln_edges.specs.Edges.{Edge}
use Rattle.ln_edges.specs.Lines.{edge_line}
use Rattle.ln_edges.specs.Pairs.{AreLines}
use Rattle.ln_edges.specs.Points.{PointOf, point_of}
use Rattle.ln_edges.specs.Read.{ArePointsOf, IsPointFault}
use Rattle.ln_edges.specs.Three.{IsOfThree}
use Rattle.ln_top.specs.declared.frame.status.End.{End}
use Rattle.ln_top.specs.declared.frame.status.End.TheVariants.{Done}
use Rattle.ln_top.specs.declared.frame.stop.Stop.{Stop}
use Rattle.ln_top.specs.declared.frame.stop.Why.{Why}
use Rattle.ln_top.specs.declared.frame.stop.Why.TheVariants.{Header, Many, Point}
use Rattle.ln_rows.specs.Header.{site_names}
use Rattle.ln_rows.specs.Header.{IsWrongHeader}
use Rattle.ln_top.specs.Frame.Said.{Said, whole}
use Rattle.ln_top.specs.Frame.Given.{Given, Outcome, stops, gives}
use Rattle.ln_top.specs.Frame.Stop.{said_of, why_end}
use Rattle.ln_top.specs.Frame.Carried.{Halts, NoPart}
use Rattle.ln_top.specs.Frame.Work.{Work}
use Rattle.ln_top.specs.Frame.Signature.{Signature}
use Rattle.ln_top.specs.declared.frame.asked.Asked.TheVariants.{ThreeSites}

-- the columns of a points file: the index, named as the type, and for each coordinate the type's name, a dot and the coordinate's name
abbrev pub point_names : SiteOf → List (List ℕ)
point_names type = site_names type.name (Some type)

-- the one predicate that is given, the type of its three sites
pub record HasType (g : Given) (p : PredOf) (type : SiteOf) : Type 0 where
  pub pred : g.preds ≡ p ∷ []
  pub three : IsOfThree g.table p type

-- and the records of the points file
pub record HasPoints (g : Given) (p : PredOf) (type : SiteOf) (records : Records) : Type 0 where
  pub has : HasType g p type
  pub bytes : List ℕ
  pub text : g.texts ≡ bytes ∷ []
  pub are : records_in bytes ≡ records

-- what the records come to: the first that holds
pub data ReadsPoints (type : SiteOf) (records : Records) : Outcome (List PointOf) → Type 0 where
  -- the first record isn't the columns' names
  wrong : IsWrongHeader (point_names type) records → ReadsPoints type records (stops Header)
  -- more than 256 records follow it
  many : (rest : Records) → records ≡ point_names type ∷ rest → 256 < length rest → ReadsPoints type records (stops Many)
  -- of these, number n is the first that is no point
  fault : (rest : Records) (n : ℕ) → records ≡ point_names type ∷ rest → length rest ≤ 256 → IsPointFault type.coords rest n
      → ReadsPoints type records (stops (Point n))
  -- they are points
  points : (rest : Records) (ps : List PointOf) → records ≡ point_names type ∷ rest → length rest ≤ 256
      → ArePointsOf type.coords rest ps → ReadsPoints type records (gives ps)

-- the text has a line for each pair that is an edge, by the perturbed sign of the predicate, in order, and nothing else
abbrev pub AreEdgesOf : PredOf → List PointOf → List ℕ → Type 0
AreEdgesOf p ps text = AreLines (Edge p.vars (root_of p) ps) (edge_line ps) text

-- what is required: the error line of what the points file stops with, or the lines of the edges
pub data EdgesSaid (g : Given) : Said → Type 0 where
  stopped : (p : PredOf) (type : SiteOf) (records : Records) (why : Why) → HasPoints g p type records
      → ReadsPoints type records (stops why) → EdgesSaid g (said_of why)
  listed : (p : PredOf) (type : SiteOf) (records : Records) (ps : List PointOf) (text : List ℕ) → HasPoints g p type records
      → ReadsPoints type records (gives ps) → AreEdgesOf p ps text → EdgesSaid g (whole Done text)

-- how it ends, and where
pub data EdgesEnds (g : Given) (e : End) : Type 0 where
  stopped : (p : PredOf) (type : SiteOf) (records : Records) (why : Why) → HasPoints g p type records
      → ReadsPoints type records (stops why) → e ≡ why_end why → EdgesEnds g e
  done : (p : PredOf) (type : SiteOf) (records : Records) (ps : List PointOf) → HasPoints g p type records
      → ReadsPoints type records (gives ps) → e ≡ Done → EdgesEnds g e

-- ---- in memory
-- the arguments are exactly three sites of the type of this number
abbrev pub AreOfType : ℕ → List ArgOf → Type 0
AreOfType kind args =
    (a : List ℕ) × (b : List ℕ) × (c : List ℕ) × (args ≡ SiteArg a kind ∷ SiteArg b kind ∷ SiteArg c kind ∷ [])

-- the type is that of the one predicate's sites
pub record IsTypeOf (g : Given) (type : SiteOf) : Type 0 where
  pub pred : PredOf
  pub has : HasType g pred type

-- these arrays are the points of the points file
pub record HoldsPoints (g : Given) (points : List code_point) : Type 0 where
  pub pred : PredOf
  pub type : SiteOf
  pub records : Records
  pub has : HasPoints g pred type records
  pub read : ReadsPoints type records (gives (map (point_of (length type.coords)) points))

-- the points file stops the command
pub record StopsPoints (g : Given) (s : Stop) : Type 0 where
  pub pred : PredOf
  pub type : SiteOf
  pub records : Records
  pub has : HasPoints g pred type records
  pub halts : Halts (ReadsPoints type records) ⊥ s

-- the signature of `edges`
abbrev pub edges_signature : Signature
edges_signature = record {
  word = codes "edges";
  form = record { least = 1; most = 1; files = 1 };
  suits = ThreeSites;
}

-- the work of `edges`
abbrev pub edges_work : Work
edges_work = record { owes = λ boxes. EdgesSaid; part = λ boxes g. NoPart; ends = EdgesEnds; one = Unit {0} }
