-- What sources declare: each accepted source the predicates of its table, and a source worked out by hand.
use Rattle.std.specs.Prelude.{◌≡◌, ◌≢◌, ℕ, ℤ, pos, neg_ℤ, List, [], ◌∷◌, ◌++◌, map, AllPairs, codes}
use Rattle.ln_algebra.specs.Worked.{orientation}
use Rattle.ln_tree.specs.Table.{PredOf, TableOf}
use Rattle.ln_compile.specs.Accepted.{Accepted, root_of}
use Rattle.ln_rows.specs.Header.{columns_of}
use Rattle.ln_top.specs.Guarantee.{AreRowFields, HasSign, OfType, Predicate, Ranged, SiteType, SourceDeclares, columns_of_arguments}

-- ---- accepted sources
-- a predicate of the table has the name, the columns and the expression of a declared one
pub record IsTabled (t : TableOf) (p : Predicate) (q : PredOf) : Type 0 where
  pub name : q.name ≡ p.name
  pub columns_are : columns_of t q ≡ columns_of_arguments p.args
  pub root : root_of q ≡ p.root

-- those of the table are the declared ones, one by one
abbrev pub AreTabled : TableOf → List Predicate → List PredOf → Type 0
AreTabled t [] [] = Unit {0}
AreTabled t [] (q ∷ qs) = ⊥
AreTabled t (p ∷ ps) [] = ⊥
AreTabled t (p ∷ ps) (q ∷ qs) = IsTabled t p q × AreTabled t ps qs

-- an accepted source declares predicates, those of its table
abbrev pub AcceptedDeclare : Type 0
AcceptedDeclare = (source : List ℕ) (t : TableOf) → Accepted source t → (ps : List Predicate) × SourceDeclares source ps × AreTabled t ps t.preds

-- and no others
abbrev pub DeclaredAreOf : Type 0
DeclaredAreOf = (source : List ℕ) (t : TableOf) (ps : List Predicate) → Accepted source t → SourceDeclares source ps → AreTabled t ps t.preds

-- ---- a source
-- the bytes of examples/orientation/orient.ln
abbrev pub orientation_source : List ℕ
orientation_source =
    codes "// + says that p, q, r turn left (counterclockwise), - that they turn right: the signs of CGAL's orientation and of Shewchuk's orient2d.\n"
    ++ (codes "site point { x: -1000 .. 1000; y: -1000 .. 1000; }\n"
    ++ codes "predicate orient(p: point, q: point, r: point) { sign (p.x - r.x)*(q.y - r.y) - (p.y - r.y)*(q.x - r.x); }\n")

-- a coordinate from -1000 to 1000
abbrev pub thousand : List ℕ → Ranged
thousand name = record { name = name; lo = neg_ℤ (pos 1000); hi = pos 1000 }

-- its site type
abbrev pub plane_point : SiteType
plane_point = record { name = codes "point"; coords = thousand (codes "x") ∷ thousand (codes "y") ∷ [] }

-- its predicate: the orientation of three points (ln_algebra, specs/Worked.antt)
abbrev pub orientation_of_points : Predicate
orientation_of_points = record {
  name = codes "orient";
  args = OfType (codes "p") plane_point ∷ OfType (codes "q") plane_point ∷ OfType (codes "r") plane_point ∷ [];
  root = orientation;
}

-- the source declares the orientation of three points
abbrev pub OrientationIsDeclared : Type 0
OrientationIsDeclared = SourceDeclares orientation_source (orientation_of_points ∷ [])

-- The fields of three points on a line, (0, 0), (1, 1) and (2, 2), with the indices 1, 2 and 3.
abbrev pub collinear_fields : List (List ℕ)
collinear_fields = map (λ b. b ∷ []) (codes "100211322")

-- their indices
abbrev pub collinear_indices : List ℕ
collinear_indices = 1 ∷ 2 ∷ 3 ∷ []

-- their values
abbrev pub collinear_values : List ℤ
collinear_values = pos 0 ∷ pos 0 ∷ pos 1 ∷ pos 1 ∷ pos 2 ∷ pos 2 ∷ []

-- They are a row, whose indices differ, and its perturbed sign is plus.
abbrev pub CollinearIsPlus : Type 0
CollinearIsPlus =
    AreRowFields orientation_of_points.args collinear_fields collinear_indices collinear_values × AllPairs (λ m n. m ≢ n) collinear_indices
    × HasSign orientation_of_points collinear_indices collinear_values (pos 1)
