-- The worked values, computed by the definitions.
use Rattle.std.proofs.Common.{◌≡◌, ℕ, refl, sym, ◌∙◌, arith, List, [], ◌∷◌, Bool, true, false, Some, None, if◌then◌else◌, inl, inr}
use Rattle.std.proofs.lemmas.Int.{ints}
use Rattle.std.proofs.Math.IntN.{ℤ, pos, negsuc, ◌+ℤ◌}
use Rattle.ln_algebra.proofs.Walking.Along.{sign-along}
use Rattle.ln_algebra.proofs.Examples.Decided.{differ-by, earlier-by, ranking-by, stages-by}
use Rattle.ln_algebra.proofs.Expanded.Expansion.{expanded}
use Rattle.ln_algebra.proofs.Expanded.Normal.{normal_is}
use Rattle.ln_algebra.proofs.Ordering.Order.{earlier-asymmetric}
use Rattle.ln_algebra.specs.Earlier.{Earlier, IndicesDiffer}
use Rattle.ln_algebra.specs.Stage.{IsStageList}
use Rattle.ln_algebra.specs.Terms.{factor_at}
use Rattle.ln_algebra.specs.Tree.{InputsBelow}
use Rattle.ln_algebra.specs.Vector.{same_vector}
use Rattle.ln_algebra.specs.Walk.{IsRanking}
use Rattle.ln_algebra.specs.Worked.{CoefficientOfPy, IndicesDecide, LastCoordinateIsLargest, SignPastAParam, SignsOfOrientation}
use Rattle.ln_algebra.specs.Worked.{SignsOfSquares, SignsWithAParam, SixTermsAreNormal, SmallestInfinitesimalDecides, StagesOfOrientation}
use Rattle.ln_algebra.specs.Worked.{StagesOfSquares, StagesPastAParam, collinear, of_points, one_and_param, one_point, orientation}
use Rattle.ln_algebra.specs.Worked.{scaled_sum, six_terms, squares, three_points, two_and_param, two_numbers, values, with_param}

-- ---- coefficients
-- the coefficient of p.y
pub coefficient_of_py : CoefficientOfPy
coefficient_of_py x = omega (arith, ints)

-- ---- stages and signs
-- the monomials of the orientation
abbrev six_vectors : List (List ℕ)
six_vectors = of_points 1 0 0 1 ∷ (1 ∷ 0 ∷ 0 ∷ 0 ∷ 0 ∷ 1 ∷ []) ∷ (0 ∷ 0 ∷ 0 ∷ 1 ∷ 1 ∷ 0 ∷ []) ∷ of_points 0 1 1 0
    ∷ (0 ∷ 1 ∷ 0 ∷ 0 ∷ 1 ∷ 0 ∷ []) ∷ (0 ∷ 0 ∷ 1 ∷ 0 ∷ 0 ∷ 1 ∷ []) ∷ []

-- its variables are two
squares_below : InputsBelow 2 squares
squares_below = (omega arith, omega arith)

-- the stages with a first
squares_a : IsStageList 2 (two_numbers 1 2) squares ((0 ∷ 0 ∷ []) ∷ (1 ∷ 0 ∷ []) ∷ (2 ∷ 0 ∷ []) ∷ [])
squares_a = stages-by 2 (Some 0 ∷ Some 1 ∷ []) (1 ∷ 2 ∷ []) squares 3 (1 ∷ 0 ∷ []) ((2 ∷ 0 ∷ []) ∷ (0 ∷ 2 ∷ []) ∷ []) squares_below refl

-- and with b first
squares_b : IsStageList 2 (two_numbers 2 1) squares ((0 ∷ 0 ∷ []) ∷ (0 ∷ 1 ∷ []) ∷ (0 ∷ 2 ∷ []) ∷ [])
squares_b = stages-by 2 (Some 0 ∷ Some 1 ∷ []) (2 ∷ 1 ∷ []) squares 3 (0 ∷ 1 ∷ []) ((2 ∷ 0 ∷ []) ∷ (0 ∷ 2 ∷ []) ∷ []) squares_below refl

-- both lists
pub stages_of_squares : StagesOfSquares
stages_of_squares = (squares_a, squares_b)

-- its variables are six
orientation_below : InputsBelow 6 orientation
orientation_below = (((omega arith, omega arith), (omega arith, omega arith)), ((omega arith, omega arith), (omega arith, omega arith)))

-- the stages with p first, then q
orientation_pqr : IsStageList 6 (three_points 1 2 3) orientation
    (of_points 0 0 0 0 ∷ of_points 0 1 0 0 ∷ of_points 1 0 0 0 ∷ of_points 0 0 0 1 ∷ of_points 1 0 0 1 ∷ [])
orientation_pqr = stages-by 6 (Some 0 ∷ Some 0 ∷ Some 1 ∷ Some 1 ∷ Some 2 ∷ Some 2 ∷ []) (1 ∷ 2 ∷ 3 ∷ []) orientation 2
    (4 ∷ 5 ∷ 2 ∷ 3 ∷ 0 ∷ 1 ∷ []) six_vectors orientation_below refl

-- and with q first, then p
orientation_qpr : IsStageList 6 (three_points 2 1 3) orientation
    (of_points 0 0 0 0 ∷ of_points 0 0 0 1 ∷ of_points 0 0 1 0 ∷ of_points 0 1 0 0 ∷ of_points 0 1 1 0 ∷ [])
orientation_qpr = stages-by 6 (Some 0 ∷ Some 0 ∷ Some 1 ∷ Some 1 ∷ Some 2 ∷ Some 2 ∷ []) (2 ∷ 1 ∷ 3 ∷ []) orientation 2
    (4 ∷ 5 ∷ 0 ∷ 1 ∷ 2 ∷ 3 ∷ []) six_vectors orientation_below refl

-- both lists
pub stages_of_orientation : StagesOfOrientation
stages_of_orientation = (orientation_pqr, orientation_qpr)

-- the list goes on after a param
pub stages_past_a_param : StagesPastAParam
stages_past_a_param = stages-by 3 (Some 0 ∷ Some 1 ∷ None ∷ []) (1 ∷ 2 ∷ []) scaled_sum 2 (1 ∷ 0 ∷ [])
    ((1 ∷ 0 ∷ 1 ∷ []) ∷ (0 ∷ 1 ∷ 0 ∷ []) ∷ []) ((omega arith, omega arith), omega arith) refl

-- the stages of c*a
with_param_stages : IsStageList 2 one_and_param with_param ((0 ∷ 0 ∷ []) ∷ (1 ∷ 0 ∷ []) ∷ [])
with_param_stages = stages-by 2 (Some 0 ∷ None ∷ []) (1 ∷ []) with_param 2 (0 ∷ []) ((1 ∷ 1 ∷ []) ∷ []) (omega arith, omega arith) refl

-- two indices that differ, a first
numbers_differ_a : IndicesDiffer (two_numbers 1 2)
numbers_differ_a = differ-by (Some 0 ∷ Some 1 ∷ []) (1 ∷ 2 ∷ []) refl

-- and b first
numbers_differ_b : IndicesDiffer (two_numbers 2 1)
numbers_differ_b = differ-by (Some 0 ∷ Some 1 ∷ []) (2 ∷ 1 ∷ []) refl

-- three indices that differ, p first
points_differ_pqr : IndicesDiffer (three_points 1 2 3)
points_differ_pqr = differ-by (Some 0 ∷ Some 0 ∷ Some 1 ∷ Some 1 ∷ Some 2 ∷ Some 2 ∷ []) (1 ∷ 2 ∷ 3 ∷ []) refl

-- and q first
points_differ_qpr : IndicesDiffer (three_points 2 1 3)
points_differ_qpr = differ-by (Some 0 ∷ Some 0 ∷ Some 1 ∷ Some 1 ∷ Some 2 ∷ Some 2 ∷ []) (2 ∷ 1 ∷ 3 ∷ []) refl

-- the signs of four rows
pub signs_of_squares : SignsOfSquares
signs_of_squares = (
  sign-along 2 (two_numbers 1 2) squares (values (pos 3 ∷ pos 3 ∷ [])) _ squares_below numbers_differ_a squares_a,
  sign-along 2 (two_numbers 1 2) squares (values (negsuc 2 ∷ negsuc 2 ∷ [])) _ squares_below numbers_differ_a squares_a,
  sign-along 2 (two_numbers 1 2) squares (values (pos 0 ∷ pos 0 ∷ [])) _ squares_below numbers_differ_a squares_a,
  sign-along 2 (two_numbers 2 1) squares (values (pos 0 ∷ pos 0 ∷ [])) _ squares_below numbers_differ_b squares_b,
)

-- the sign where c and b are 0
pub sign_past_a_param : SignPastAParam
sign_past_a_param = sign-along 3 two_and_param scaled_sum (values (pos 7 ∷ pos 0 ∷ pos 0 ∷ [])) _ ((omega arith, omega arith), omega arith)
    (differ-by (Some 0 ∷ Some 1 ∷ None ∷ []) (1 ∷ 2 ∷ []) refl) stages_past_a_param

-- one site alone
one_differs : IndicesDiffer one_and_param
one_differs = differ-by (Some 0 ∷ None ∷ []) (1 ∷ []) refl

-- the signs of two rows
pub signs_with_a_param : SignsWithAParam
signs_with_a_param = (
  sign-along 2 one_and_param with_param (values (pos 7 ∷ pos 0 ∷ [])) _ (omega arith, omega arith) one_differs with_param_stages,
  sign-along 2 one_and_param with_param (values (pos 0 ∷ pos 2 ∷ [])) _ (omega arith, omega arith) one_differs with_param_stages,
)

-- the signs of five rows
pub signs_of_orientation : SignsOfOrientation
signs_of_orientation = (
  sign-along 6 (three_points 1 2 3) orientation collinear _ orientation_below points_differ_pqr orientation_pqr,
  sign-along 6 (three_points 1 2 3) orientation (values (pos 0 ∷ pos 0 ∷ pos 0 ∷ pos 1 ∷ pos 0 ∷ pos 2 ∷ [])) _ orientation_below
      points_differ_pqr orientation_pqr,
  sign-along 6 (three_points 1 2 3) orientation (values (pos 1 ∷ pos 0 ∷ pos 0 ∷ pos 0 ∷ pos 0 ∷ pos 0 ∷ [])) _ orientation_below
      points_differ_pqr orientation_pqr,
  sign-along 6 (three_points 1 2 3) orientation (λ v. pos 5) _ orientation_below points_differ_pqr orientation_pqr,
  sign-along 6 (three_points 2 1 3) orientation (λ v. pos 5) _ orientation_below points_differ_qpr orientation_qpr,
)

-- ---- the order
-- the variables by rising infinitesimal, p first, then q
pqr : IsRanking 6 (three_points 1 2 3) (4 ∷ 5 ∷ 2 ∷ 3 ∷ 0 ∷ 1 ∷ [])
pqr = ranking-by 6 (Some 0 ∷ Some 0 ∷ Some 1 ∷ Some 1 ∷ Some 2 ∷ Some 2 ∷ []) (1 ∷ 2 ∷ 3 ∷ []) (4 ∷ 5 ∷ 2 ∷ 3 ∷ 0 ∷ 1 ∷ []) refl refl refl

-- and q first, then p
qpr : IsRanking 6 (three_points 2 1 3) (4 ∷ 5 ∷ 0 ∷ 1 ∷ 2 ∷ 3 ∷ [])
qpr = ranking-by 6 (Some 0 ∷ Some 0 ∷ Some 1 ∷ Some 1 ∷ Some 2 ∷ Some 2 ∷ []) (2 ∷ 1 ∷ 3 ∷ []) (4 ∷ 5 ∷ 0 ∷ 1 ∷ 2 ∷ 3 ∷ []) refl refl refl

-- p.y before p.x
py_px : Earlier (three_points 1 2 3) (of_points 0 1 0 0) (of_points 1 0 0 0)
py_px = earlier-by 6 (three_points 1 2 3) (4 ∷ 5 ∷ 2 ∷ 3 ∷ 0 ∷ 1 ∷ []) (of_points 0 1 0 0) (of_points 1 0 0 0) pqr
    (inr (refl, inr (refl, inr (refl, inr (refl, inl (omega arith))))))

-- p.x before q.y
px_qy : Earlier (three_points 1 2 3) (of_points 1 0 0 0) (of_points 0 0 0 1)
px_qy = earlier-by 6 (three_points 1 2 3) (4 ∷ 5 ∷ 2 ∷ 3 ∷ 0 ∷ 1 ∷ []) (of_points 1 0 0 0) (of_points 0 0 0 1) pqr
    (inr (refl, inr (refl, inr (refl, inl (omega arith)))))

-- the last coordinate of the first point is the largest
pub last_coordinate_is_largest : LastCoordinateIsLargest
last_coordinate_is_largest = (py_px, px_qy, earlier-asymmetric (three_points 1 2 3) points_differ_pqr (of_points 0 1 0 0) (of_points 1 0 0 0) py_px)

-- and of the first by its index
pub indices_decide : IndicesDecide
indices_decide = earlier-by 6 (three_points 2 1 3) (4 ∷ 5 ∷ 0 ∷ 1 ∷ 2 ∷ 3 ∷ []) (of_points 0 0 0 1) (of_points 0 1 0 0) qpr
    (inr (refl, inr (refl, inr (refl, inl (omega arith)))))

-- x*y before x^2
product_square : Earlier one_point (1 ∷ 1 ∷ []) (2 ∷ 0 ∷ [])
product_square = earlier-by 2 one_point (0 ∷ 1 ∷ []) (1 ∷ 1 ∷ []) (2 ∷ 0 ∷ [])
    (ranking-by 2 (Some 0 ∷ Some 0 ∷ []) (1 ∷ []) (0 ∷ 1 ∷ []) refl refl refl) (inl (omega arith))

-- and not the other way
pub smallest_infinitesimal_decides : SmallestInfinitesimalDecides
smallest_infinitesimal_decides =
    (product_square, earlier-asymmetric one_point (differ-by (Some 0 ∷ Some 0 ∷ []) (1 ∷ []) refl) (1 ∷ 1 ∷ []) (2 ∷ 0 ∷ []) product_square)

-- ---- the normal polynomial of the orientation
-- the product of r.x and r.y comes twice, with both signs
cancelled : (a b c d f g : ℤ) (t : Bool) → a +ℤ (b +ℤ (c +ℤ ((if t then pos 1 else pos 0) +ℤ (d +ℤ (f +ℤ (g +ℤ ((if t then negsuc 0 else pos 0) +ℤ pos 0)))))))
    ≡ a +ℤ (b +ℤ (c +ℤ (d +ℤ (f +ℤ (g +ℤ pos 0)))))
cancelled a b c d f g true = omega (arith, ints)
cancelled a b c d f g false = omega (arith, ints)

-- eight terms of the expansion have the coefficients of six
six_terms-at : (m : List ℕ) → factor_at (expanded 6 orientation) m ≡ factor_at six_terms m
six_terms-at m = cancelled _ _ _ _ _ _ (same_vector (0 ∷ 0 ∷ 0 ∷ 0 ∷ 1 ∷ 1 ∷ []) m)

-- the six are the normal polynomial
pub six_terms_are_normal : SixTermsAreNormal
six_terms_are_normal = (
  record {
    over = (refl, (refl, (refl, (refl, (refl, (refl, tt))))));
    coefficients = λ m e. sym (normal_is 6 orientation orientation_below m e ∙ six_terms-at m);
  },
  (
    (refl, (refl, (refl, (refl, (refl, tt))))),
    ((refl, (refl, (refl, (refl, tt)))), ((refl, (refl, (refl, tt))), ((refl, (refl, tt)), ((refl, tt), (tt, tt))))),
  ),
)
