-- The range and the size of each node of an expression.
use Rattle.std.specs.Prelude.{ℕ, max, ℤ, pos, List, [], ◌∷◌, ◌++◌, Option, Some, None, slice_get, slice_index_or}
use Rattle.ln_algebra.specs.Tree.{Tree, Num, Input, Name, Neg, Add, Sub, Mul, Pow}
use Rattle.ln_tree.specs.declared.shape.VarInfo.{VarInfo}
use Rattle.ln_algebra.specs.Sizes.{two}
use Rattle.ln_bound.specs.UpTo.{AreUpTo}
use Rattle.ln_bound.specs.Value.{value, weight_over}
use Rattle.ln_interval.specs.Range.{most, Range, Holds, point, sum, difference, opposite, product, power, magnitude}

-- the range of an expression where variable v has the range r v, and let j the range of number j in the list
abbrev pub range_over : (ℕ → Range) → List Range → Tree → Range
range_over r lets (Num c) = point c
range_over r lets (Input v) = r v
range_over r lets (Name j) = slice_index_or lets j (point (pos 0))
range_over r lets (Neg e) = opposite (range_over r lets e)
range_over r lets (Add e f) = sum (range_over r lets e) (range_over r lets f)
range_over r lets (Sub e f) = difference (range_over r lets e) (range_over r lets f)
range_over r lets (Mul e f) = product (range_over r lets e) (range_over r lets f)
range_over r lets (Pow e n) = power (range_over r lets e) n

-- the size of an expression, where let j has the size of number j in the list: its weight where each variable weighs 2
abbrev pub size_over : List ℕ → Tree → ℕ
size_over lets e = weight_over two lets e

-- what is tested of a node: the largest absolute value of the ends of its range, or its size where that is larger
abbrev pub load_over : (ℕ → Range) → List Range → List ℕ → Tree → ℕ
load_over r lets ss e = max (magnitude (range_over r lets e)) (size_over ss e)

-- the declared range of a variable
abbrev pub range_or : Option VarInfo → Range
range_or None = point (pos 0)
range_or (Some i) = record { low = i.lo; high = i.hi }

-- the declared range of variable number v
abbrev pub ranges : List VarInfo → ℕ → Range
ranges vars v = range_or (slice_get vars v)

-- the ranges of lets, each over the lets before it, after these
abbrev pub let_ranges : (ℕ → Range) → List Range → List Tree → List Range
let_ranges r done [] = done
let_ranges r done (e ∷ es) = let_ranges r (done ++ range_over r done e ∷ []) es

-- the value of each node is in its range
abbrev pub AreHeld : (ℕ → ℤ) → List ℤ → (ℕ → Range) → List Range → Tree → Type 0
AreHeld x zs r ps (Num c) = Holds (range_over r ps (Num c)) (value x zs (Num c))
AreHeld x zs r ps (Input v) = Holds (range_over r ps (Input v)) (value x zs (Input v))
AreHeld x zs r ps (Name j) = Holds (range_over r ps (Name j)) (value x zs (Name j))
AreHeld x zs r ps (Neg e) = AreHeld x zs r ps e × Holds (range_over r ps (Neg e)) (value x zs (Neg e))
AreHeld x zs r ps (Add e f) = AreHeld x zs r ps e × AreHeld x zs r ps f × Holds (range_over r ps (Add e f)) (value x zs (Add e f))
AreHeld x zs r ps (Sub e f) = AreHeld x zs r ps e × AreHeld x zs r ps f × Holds (range_over r ps (Sub e f)) (value x zs (Sub e f))
AreHeld x zs r ps (Mul e f) = AreHeld x zs r ps e × AreHeld x zs r ps f × Holds (range_over r ps (Mul e f)) (value x zs (Mul e f))
AreHeld x zs r ps (Pow e n) = AreHeld x zs r ps e × Holds (range_over r ps (Pow e n)) (value x zs (Pow e n))

-- so in each let, over the lets before it, after these
abbrev pub LetsAreHeld : (ℕ → ℤ) → List ℤ → (ℕ → Range) → List Range → List Tree → Type 0
LetsAreHeld x zs r ps [] = Unit {0}
LetsAreHeld x zs r ps (e ∷ es) = AreHeld x zs r ps e × LetsAreHeld x (zs ++ value x zs e ∷ []) r (ps ++ range_over r ps e ∷ []) es

-- the range of each node is within 2^127 - 1, after lets of these ranges
abbrev pub HaveRange : List VarInfo → List Range → Tree → Type 0
HaveRange vars ps e = AreUpTo (λ n. magnitude (range_over (ranges vars) ps n)) most e

-- so in each let, over the lets before it, after these
abbrev pub LetsHaveRange : List VarInfo → List Range → List Tree → Type 0
LetsHaveRange vars ps [] = Unit {0}
LetsHaveRange vars ps (e ∷ es) = HaveRange vars ps e × LetsHaveRange vars (ps ++ range_over (ranges vars) ps e ∷ []) es
