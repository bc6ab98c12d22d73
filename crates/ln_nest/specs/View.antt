-- The working terms of the code, seen as terms, and what is kept on the way.
use Rattle.std.specs.Prelude.{◌≡◌, ℕ, ◌+◌, ◌^◌, ◌≤◌, max, pos, negsuc, List, [], ◌∷◌, unsigned_abs, map, if◌then◌else◌}
use Rattle.ln_algebra.specs.Terms.{Term}
use Rattle.ln_algebra.specs.Tree.{Tree}
use Rattle.ln_interval.specs.Range.{magnitude, opposite, power, product, sum}
use Rattle.ln_tree.specs.declared.shape.VarInfo.{VarInfo}
use Rattle.ln_bound.specs.Exact.{IsExact}
use Rattle.ln_bound.specs.Typed.{Typed, TNeg, TPow, TTwo, pair, untyped, width}
use Rattle.ln_bound.specs.Value.{sizes}
use Rattle.ln_bound.specs.Widths.{least, wider}
use Rattle.ln_bound.specs.declared.fitted.Two.TheVariants.{Plus, Times}
use Rattle.ln_nest.specs.Nested as nested
use Rattle.ln_nest.specs.Nested.{is_number}
use Rattle.ln_nest.specs.declared.work.Work.{Work}

-- a working term of the code, seen as a term
abbrev pub term_in : Work → Term
term_in w = record { exponents = w.exponents.items; factor = w.factor }

-- working terms of the code, seen as terms
abbrev pub terms_in : List Work → List Term
terms_in ws = map term_in ws

-- M of variable v, and 1 past the last variable
abbrev pub scale : List VarInfo → ℕ → ℕ
scale vars v = max 1 (sizes vars v)

-- the sum of the absolute factors
abbrev pub abs_total : List Term → ℕ
abs_total [] = 0
abs_total (t ∷ f) = unsigned_abs t.factor + abs_total f

-- the opposite of a tree, with its range and width
abbrev pub opposite_of : Typed → Typed
opposite_of x = TNeg x (opposite (pair x)) (wider (width x) (least (magnitude (opposite (pair x)))))

-- the product of two trees, with its range and width
abbrev pub times_of : Typed → Typed → Typed
times_of x y = TTwo Times x y (product (pair x) (pair y))
    (wider (wider (width x) (width y)) (least (magnitude (product (pair x) (pair y)))))

-- the sum of two trees, with its range and width
abbrev pub plus_of : Typed → Typed → Typed
plus_of x y = TTwo Plus x y (sum (pair x) (pair y)) (wider (wider (width x) (width y)) (least (magnitude (sum (pair x) (pair y)))))

-- x times y: where y is 1 or -1 it is x or its opposite
abbrev pub product_of : Typed → Typed → Typed
product_of x y = if is_number (pos 1) (untyped y) then x else (if is_number (negsuc 0) (untyped y) then opposite_of x else times_of x y)

-- the square of a tree, with its range and width
abbrev pub square_of : Typed → Typed
square_of x = TPow x 2 (power (pair x) 2) (wider (width x) (least (magnitude (power (pair x) 2))))

-- the typed tree is this tree, with exact ranges, and its own range is within -b .. b
pub record Has (vars : List VarInfo) (t : Typed) (e : Tree) (b : ℕ) : Type 0 where
  pub same : untyped t ≡ e
  pub exact : IsExact vars [] t
  pub small : magnitude (pair t) ≤ b

-- t is the power e of variable v times h
pub record IsScaled (vars : List VarInfo) (v e : ℕ) (h t : Typed) : Type 0 where
  pub by : Typed
  pub own : Has vars by (nested.power e v e) (scale vars v ^ e)
  pub is : t ≡ product_of by h
