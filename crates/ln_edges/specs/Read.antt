-- The points of a points file: what a record says, and the first record that is no point.
use Rattle.std.specs.Prelude.{◌≡◌, ◌≢◌, ◌⊎◌, ℕ, ◌+◌, ◌-◌, ◌^◌, ◌<◌, ◌≤◌, ℤ, pos, List, [], ◌∷◌, ◌++◌, length, map}
use Rattle.std.specs.Prelude.{AllPairs, Contains}
use Rattle.std.specs.Prelude.{Option, Some, None, Result, Ok, Err}
use Rattle.ln_tree.specs.declared.items.Site.{Site}
use Rattle.ln_tree.specs.Table.{CoordOf, site_of}
use Rattle.ln_rows.specs.Left.{Records}
use Rattle.ln_rows.specs.Number.{number_in}
use Rattle.ln_rows.specs.declared.numbers.NumberStop.{NumberStop}
use Rattle.ln_edges.specs.declared.read.Found.{Found}
use Rattle.ln_edges.specs.declared.read.Found.TheVariants.{Points, Many, NoPoint}
use Rattle.ln_edges.specs.declared.point.Point.{Point}
use Rattle.ln_edges.specs.Points.{PointOf, point_of}

-- the coordinates of a type in memory
abbrev pub coords_of : Site → List CoordOf
coords_of s = (site_of s).coords

-- the point of the type that is kept
abbrev pub point_for : Site → Point → PointOf
point_for s = point_of (length (coords_of s))

-- the points of the type that are kept, in order
abbrev pub points_for : Site → List Point → List PointOf
points_for s ps = map (point_for s) ps

-- a number and the numbers after it, where all of them are there
abbrev pub both : Result ℤ NumberStop → Option (List ℤ) → Option (List ℤ)
both (Err e) rest = None
both (Ok z) None = None
both (Ok z) (Some zs) = Some (z ∷ zs)

-- the numbers of the fields, one for each coordinate and each in its range; none where there is another number of
-- fields, or one is refused
abbrev pub numbers_in : List CoordOf → List (List ℕ) → Option (List ℤ)
numbers_in [] [] = Some []
numbers_in [] (f ∷ fs) = None
numbers_in (c ∷ cs) [] = None
numbers_in (c ∷ cs) (f ∷ fs) = both (number_in c.lo c.hi f) (numbers_in cs fs)

-- the point with this index and these coordinates, where all of them are there
abbrev pub pointed : Result ℤ NumberStop → Option (List ℤ) → Option PointOf
pointed (Err e) zs = None
pointed (Ok z) None = None
pointed (Ok z) (Some zs) = Some (record { index = z; coords = zs })

-- the point that a record says: its index, from 0 to 2^63 - 1, and a number for each coordinate; none where it says
-- none
abbrev pub point_in : List CoordOf → List (List ℕ) → Option PointOf
point_in cs [] = None
point_in cs (f ∷ fs) = pointed (number_in (pos 0) (pos (2 ^ 63 - 1)) f) (numbers_in cs fs)

-- each record says the point at its place
abbrev pub SayPoints : List CoordOf → Records → List PointOf → Type 0
SayPoints cs [] [] = Unit {0}
SayPoints cs [] (p ∷ ps) = ⊥
SayPoints cs (r ∷ rs) [] = ⊥
SayPoints cs (r ∷ rs) (p ∷ ps) = (point_in cs r ≡ Some p) × SayPoints cs rs ps

-- the records are points, whose indices differ
pub record ArePointsOf (cs : List CoordOf) (records : Records) (ps : List PointOf) : Type 0 where
  pub say : SayPoints cs records ps
  pub differ : AllPairs (λ p q. p.index ≢ q.index) ps

-- a record is no point after these: it says none, or has the index of one of them
abbrev pub IsNoPoint : List CoordOf → List PointOf → List (List ℕ) → Type 0
IsNoPoint cs ps fields = (point_in cs fields ≡ None)
    ⊎ ((p : PointOf) × (point_in cs fields ≡ Some p) × Contains (map (λ q. q.index) ps) p.index)

-- record n, from 1, is the first that is no point
pub record IsPointFault (cs : List CoordOf) (records : Records) (n : ℕ) : Type 0 where
  pub before : Records
  pub fields : List (List ℕ)
  pub after : Records
  pub are : records ≡ before ++ fields ∷ after
  pub number : n ≡ length before + 1
  pub points : List PointOf
  pub are_points : ArePointsOf cs before points
  pub fault : IsNoPoint cs points fields

-- it is a point after these
pub record IsNextPoint (cs : List CoordOf) (ps : List PointOf) (fields : List (List ℕ)) (p : PointOf) : Type 0 where
  pub says : point_in cs fields ≡ Some p
  pub new : Contains (map (λ q. q.index) ps) p.index → ⊥

-- what the records are that have been read: all of them points, or this one the first that is none
pub data AreReadAs (cs : List CoordOf) (done : Records) (ps : List PointOf) : Option ℕ → Type 0 where
  fine : ArePointsOf cs done ps → AreReadAs cs done ps None
  faulty : (n : ℕ) → IsPointFault cs done n → AreReadAs cs done ps (Some n)

-- what the records after the header are
abbrev pub IsFound : List CoordOf → Records → Found → Type 0
IsFound cs records (Points v) = (length records ≤ 256) × ArePointsOf cs records (map (point_of (length cs)) v.items)
IsFound cs records Many = 256 < length records
IsFound cs records (NoPoint n) = (length records ≤ 256) × IsPointFault cs records n

-- ---- laws
-- records say one list of points
abbrev pub PointsAreOne : Type 0
PointsAreOne = (cs : List CoordOf) (rs : Records) (ps qs : List PointOf) → ArePointsOf cs rs ps → ArePointsOf cs rs qs
    → ps ≡ qs

-- or have one first that is none
abbrev pub PointFaultIsOne : Type 0
PointFaultIsOne = (cs : List CoordOf) (rs : Records) (m n : ℕ) → IsPointFault cs rs m → IsPointFault cs rs n → m ≡ n

-- and not both
abbrev pub PointsHaveNoFault : Type 0
PointsHaveNoFault = (cs : List CoordOf) (rs : Records) (ps : List PointOf) (n : ℕ) → ArePointsOf cs rs ps
    → IsPointFault cs rs n → ⊥
