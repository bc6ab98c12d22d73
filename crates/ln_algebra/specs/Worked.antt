-- Worked values: small predicates, rows of them, and what the definitions give there.
use Rattle.std.specs.Prelude.{◌≡◌, ℕ, ℤ, pos, negsuc, ◌-ℤ◌, List, [], ◌∷◌, Option, Some, None, slice_index, slice_index_or}
use Rattle.std.proofs.Common.{zero, suc}
use Rattle.ln_algebra.specs.Earlier.{Earlier, Sites}
use Rattle.ln_algebra.specs.Sign.{IsPerturbedSign, perturbed}
use Rattle.ln_algebra.specs.Stage.{IsStageList}
use Rattle.ln_algebra.specs.Terms.{IsCollected, IsNormalOf, Term, derived}
use Rattle.ln_algebra.specs.Tree.{Add, Input, Mul, Pow, Sub, Tree}
use Rattle.ln_algebra.specs.Weights.{weight}

-- ---- rows
-- The entry of a list of owners, and none past its end.
abbrev pub owner_in : List (Option ℕ) → ℕ → Option ℕ
owner_in [] v = None
owner_in (o ∷ os) zero = o
owner_in (o ∷ os) (suc v) = owner_in os v

-- The sites with these owners of the variables, in order, and these indices.
abbrev pub sites_of : List (Option ℕ) → List ℕ → Sites
sites_of owners indices = record { site = λ v. owner_in owners v; index = λ s. slice_index indices s }

-- The values of a row, in order of the variables.
abbrev pub values : List ℤ → ℕ → ℤ
values xs v = slice_index_or xs v (pos 0)

-- ---- the orientation of three points p, q, r of the plane; the variables are p.x, p.y, q.x, q.y, r.x, r.y
-- (p.x - r.x)*(q.y - r.y) - (p.y - r.y)*(q.x - r.x)
abbrev pub orientation : Tree
orientation = Sub (Mul (Sub (Input 0) (Input 4)) (Sub (Input 3) (Input 5))) (Mul (Sub (Input 1) (Input 5)) (Sub (Input 2) (Input 4)))

-- Three points of the plane with these indices.
abbrev pub three_points : ℕ → ℕ → ℕ → Sites
three_points p q r = sites_of (Some 0 ∷ Some 0 ∷ Some 1 ∷ Some 1 ∷ Some 2 ∷ Some 2 ∷ []) (p ∷ q ∷ r ∷ [])

-- The exponent vector with these exponents of p.x, p.y, q.x, q.y, and 0 for r.
abbrev pub of_points : ℕ → ℕ → ℕ → ℕ → List ℕ
of_points px py qx qy = px ∷ py ∷ qx ∷ qy ∷ 0 ∷ 0 ∷ []

-- The coefficient of p.y is r.x - q.x on every row.
abbrev pub CoefficientOfPy : Type 0
CoefficientOfPy = (x : ℕ → ℤ) → perturbed (three_points 1 2 3) x orientation (of_points 0 1 0 0) ≡ x 4 -ℤ x 2

-- The row of the collinear points (0, 0), (1, 1), (2, 2).
abbrev pub collinear : ℕ → ℤ
collinear = values (pos 0 ∷ pos 0 ∷ pos 1 ∷ pos 1 ∷ pos 2 ∷ pos 2 ∷ [])

-- There the value is 0 and the coefficient of p.y is 1.
abbrev pub CollinearCoefficients : Type 0
CollinearCoefficients =
    (perturbed (three_points 1 2 3) collinear orientation (of_points 0 0 0 0) ≡ pos 0)
    × (perturbed (three_points 1 2 3) collinear orientation (of_points 0 1 0 0) ≡ pos 1)

-- p.x*q.y - p.x*r.y - q.y*r.x - p.y*q.x + p.y*r.x + q.x*r.y
abbrev pub six_terms : List Term
six_terms =
    record { exponents = of_points 1 0 0 1; factor = pos 1 }
    ∷ record { exponents = 1 ∷ 0 ∷ 0 ∷ 0 ∷ 0 ∷ 1 ∷ []; factor = negsuc 0 }
    ∷ record { exponents = 0 ∷ 0 ∷ 0 ∷ 1 ∷ 1 ∷ 0 ∷ []; factor = negsuc 0 }
    ∷ record { exponents = of_points 0 1 1 0; factor = negsuc 0 }
    ∷ record { exponents = 0 ∷ 1 ∷ 0 ∷ 0 ∷ 1 ∷ 0 ∷ []; factor = pos 1 }
    ∷ record { exponents = 0 ∷ 0 ∷ 1 ∷ 0 ∷ 0 ∷ 1 ∷ []; factor = pos 1 }
    ∷ []

-- These are the normal polynomial of the orientation: the products of r.x and r.y cancel.
abbrev pub SixTermsAreNormal : Type 0
SixTermsAreNormal = IsNormalOf 6 orientation six_terms × IsCollected six_terms

-- Where each weight is 1001, the orientation weighs 2002 * 2002 * 2.
abbrev pub WeightOfOrientation : Type 0
WeightOfOrientation = weight (λ v. 1001) orientation ≡ 8016008

-- ---- scaled derivatives
-- The scaled derivative of x^3 by 2 is 3x, where the plain second derivative is 6x.
abbrev pub DerivativeOfCube : Type 0
DerivativeOfCube = derived (2 ∷ []) (record { exponents = 3 ∷ []; factor = pos 1 } ∷ [])
    ≡ record { exponents = 1 ∷ []; factor = pos 3 } ∷ []

-- The derivative of the orientation's normal polynomial by p.y is r.x - q.x.
abbrev pub DerivativeOfOrientation : Type 0
DerivativeOfOrientation =
    derived (of_points 0 1 0 0) six_terms
    ≡ record { exponents = of_points 0 0 1 0; factor = negsuc 0 } ∷ record { exponents = 0 ∷ 0 ∷ 0 ∷ 0 ∷ 1 ∷ 0 ∷ []; factor = pos 1 } ∷ []

-- ---- the order
-- p has the smallest index, and p.y is declared last: so p.y has the largest infinitesimal, and its vector is the earliest but 0.
-- Were the first coordinate the largest, p.x would come first.
abbrev pub LastCoordinateIsLargest : Type 0
LastCoordinateIsLargest =
    Earlier (three_points 1 2 3) (of_points 0 1 0 0) (of_points 1 0 0 0)
    × Earlier (three_points 1 2 3) (of_points 1 0 0 0) (of_points 0 0 0 1)
    × (Earlier (three_points 1 2 3) (of_points 1 0 0 0) (of_points 0 1 0 0) → ⊥)

-- With the indices of p and q exchanged it is q.y.
abbrev pub IndicesDecide : Type 0
IndicesDecide = Earlier (three_points 2 1 3) (of_points 0 0 0 1) (of_points 0 1 0 0)

-- One site with the coordinates x, y in that order.
abbrev pub one_point : Sites
one_point = sites_of (Some 0 ∷ Some 0 ∷ []) (1 ∷ [])

-- x has the smaller infinitesimal, and x*y has the smaller exponent in it: so x*y is earlier than x^2.
-- Compared from the largest infinitesimal, that of y, it would be the other way round.
abbrev pub SmallestInfinitesimalDecides : Type 0
SmallestInfinitesimalDecides = Earlier one_point (1 ∷ 1 ∷ []) (2 ∷ 0 ∷ []) × (Earlier one_point (2 ∷ 0 ∷ []) (1 ∷ 1 ∷ []) → ⊥)

-- ---- two numbers a, b
-- a^2 - b^2
abbrev pub squares : Tree
squares = Sub (Pow (Input 0) 2) (Pow (Input 1) 2)

-- Two numbers with these indices.
abbrev pub two_numbers : ℕ → ℕ → Sites
two_numbers a b = sites_of (Some 0 ∷ Some 1 ∷ []) (a ∷ b ∷ [])

-- The stages are 1, a, a^2 where a comes first, and 1, b, b^2 where b does.
abbrev pub StagesOfSquares : Type 0
StagesOfSquares =
    IsStageList 2 (two_numbers 1 2) squares ((0 ∷ 0 ∷ []) ∷ (1 ∷ 0 ∷ []) ∷ (2 ∷ 0 ∷ []) ∷ [])
    × IsStageList 2 (two_numbers 2 1) squares ((0 ∷ 0 ∷ []) ∷ (0 ∷ 1 ∷ []) ∷ (0 ∷ 2 ∷ []) ∷ [])

-- The signs where the two are equal: that of 2a, else 1, with a first; that of -2b, else -1, with b first.
abbrev pub SignsOfSquares : Type 0
SignsOfSquares =
    IsPerturbedSign 2 (two_numbers 1 2) (values (pos 3 ∷ pos 3 ∷ [])) squares (pos 1)
    × IsPerturbedSign 2 (two_numbers 1 2) (values (negsuc 2 ∷ negsuc 2 ∷ [])) squares (negsuc 0)
    × IsPerturbedSign 2 (two_numbers 1 2) (values (pos 0 ∷ pos 0 ∷ [])) squares (pos 1)
    × IsPerturbedSign 2 (two_numbers 2 1) (values (pos 0 ∷ pos 0 ∷ [])) squares (negsuc 0)

-- ---- two numbers a, b and a param c
-- c*a + b; the variables are a, b, c.
abbrev pub scaled_sum : Tree
scaled_sum = Add (Mul (Input 2) (Input 0)) (Input 1)

-- Two numbers and a param; a has the smaller index.
abbrev pub two_and_param : Sites
two_and_param = sites_of (Some 0 ∷ Some 1 ∷ None ∷ []) (1 ∷ 2 ∷ [])

-- The derivative by a is c, which has no variable of a site and can be 0 all the same: the list goes on to b.
abbrev pub StagesPastAParam : Type 0
StagesPastAParam = IsStageList 3 two_and_param scaled_sum ((0 ∷ 0 ∷ 0 ∷ []) ∷ (1 ∷ 0 ∷ 0 ∷ []) ∷ (0 ∷ 1 ∷ 0 ∷ []) ∷ [])

-- Where c and b are 0 the sign is that of the coefficient of b, 1.
abbrev pub SignPastAParam : Type 0
SignPastAParam = IsPerturbedSign 3 two_and_param (values (pos 7 ∷ pos 0 ∷ pos 0 ∷ [])) scaled_sum (pos 1)

-- ---- a number a and a param c
-- c*a; the variables are a, c.
abbrev pub with_param : Tree
with_param = Mul (Input 1) (Input 0)

-- A number and a param.
abbrev pub one_and_param : Sites
one_and_param = sites_of (Some 0 ∷ None ∷ []) (1 ∷ [])

-- With c at 0 every coefficient is 0, and so is the sign; with a at 0 it is that of c.
abbrev pub SignsWithAParam : Type 0
SignsWithAParam =
    IsPerturbedSign 2 one_and_param (values (pos 7 ∷ pos 0 ∷ [])) with_param (pos 0)
    × IsPerturbedSign 2 one_and_param (values (pos 0 ∷ pos 2 ∷ [])) with_param (pos 1)

-- ---- stages and signs of the orientation
-- With p first, then q, then r: 1, p.y, p.x, q.y, p.x*q.y. With q first, then p: 1, q.y, q.x, p.y, q.x*p.y.
abbrev pub StagesOfOrientation : Type 0
StagesOfOrientation =
    IsStageList 6 (three_points 1 2 3) orientation (of_points 0 0 0 0 ∷ of_points 0 1 0 0 ∷ of_points 1 0 0 0 ∷ of_points 0 0 0 1
    ∷ of_points 1 0 0 1 ∷ [])
    × IsStageList 6 (three_points 2 1 3) orientation (of_points 0 0 0 0 ∷ of_points 0 0 0 1 ∷ of_points 0 0 1 0
    ∷ of_points 0 1 0 0 ∷ of_points 0 1 1 0 ∷ [])

-- The signs of points on a line: (0, 0), (1, 1), (2, 2); (0, 0), (0, 1), (0, 2); (1, 0), (0, 0), (0, 0); and three times (5, 5),
-- with p first and with q first.
abbrev pub SignsOfOrientation : Type 0
SignsOfOrientation =
    IsPerturbedSign 6 (three_points 1 2 3) collinear orientation (pos 1)
    × IsPerturbedSign 6 (three_points 1 2 3) (values (pos 0 ∷ pos 0 ∷ pos 0 ∷ pos 1 ∷ pos 0 ∷ pos 2 ∷ [])) orientation (negsuc 0)
    × IsPerturbedSign 6 (three_points 1 2 3) (values (pos 1 ∷ pos 0 ∷ pos 0 ∷ pos 0 ∷ pos 0 ∷ pos 0 ∷ [])) orientation (pos 1)
    × IsPerturbedSign 6 (three_points 1 2 3) (λ v. pos 5) orientation (pos 1)
    × IsPerturbedSign 6 (three_points 2 1 3) (λ v. pos 5) orientation (negsuc 0)
