-- The truncated numbers of a filter's nodes on a row, and where they decide its sign.
use Rattle.std.specs.Prelude.{ℕ, zero, suc, ◌-◌, ◌<◌, ℤ, pos, ◌+ℤ◌, ◌-ℤ◌, ◌*ℤ◌, neg_ℤ, unsigned_abs, List, [], ◌∷◌, ◌++◌, slice_index_or}
use Rattle.ln_algebra.specs.Tree.{Tree, Num, Input, Name, Neg, Add, Sub, Mul, Pow}
use Rattle.ln_tree.specs.declared.shape.VarInfo.{VarInfo}
use Rattle.ln_bound.specs.Value.{sizes, values}
use Rattle.ln_code.specs.declared.op.Triple.{Triple}
use Rattle.ln_code.specs.Numbers.{cut_by}
use Rattle.ln_filter.specs.Triples.{excess, triple, let_triples, powered, sum_of, product_of}
use Rattle.ln_filter.specs.Steady.{HasFilter}

-- a leaf up to m, truncated by as many binary digits as leave 31 of m
abbrev pub leaf_number : ℕ → ℤ → ℤ
leaf_number m z = cut_by (excess m) z

-- of the sum of operands with the triples a and b and the truncated numbers y and z, which are aligned first
abbrev pub sum_number : Triple → Triple → ℤ → ℤ → ℤ
sum_number a b y z = cut_by (excess (sum_of a b).h) (cut_by (b.k - a.k) y +ℤ cut_by (a.k - b.k) z)

-- of their difference: they are aligned as for the sum
abbrev pub difference_number : Triple → Triple → ℤ → ℤ → ℤ
difference_number a b y z = cut_by (excess (sum_of a b).h) (cut_by (b.k - a.k) y -ℤ cut_by (a.k - b.k) z)

-- of their product, which needs no alignment
abbrev pub product_number : Triple → Triple → ℤ → ℤ → ℤ
product_number a b y z = cut_by (excess (product_of a b).h) (y *ℤ z)

-- of the n-th power of what has the triple a and the truncated number z: the number 1, z, or the power before it times z
abbrev pub power_number : Triple → ℤ → ℕ → ℤ
power_number a z zero = leaf_number 1 (pos 1)
power_number a z (suc zero) = z
power_number a z (suc (suc n)) = product_number (powered a (suc n)) a (power_number a z (suc n)) z

-- the truncated number of an expression where variable v has the value x v and the lets have these triples and these truncated numbers
abbrev pub number : List VarInfo → (ℕ → ℤ) → List Triple → List ℤ → Tree → ℤ
number vars x lets hs (Num c) = leaf_number (unsigned_abs c) c
number vars x lets hs (Input v) = leaf_number (sizes vars v) (x v)
number vars x lets hs (Name j) = slice_index_or hs j (pos 0)
number vars x lets hs (Neg e) = neg_ℤ (number vars x lets hs e)
number vars x lets hs (Add e f) = sum_number (triple vars lets e) (triple vars lets f) (number vars x lets hs e) (number vars x lets hs f)
number vars x lets hs (Sub e f) = difference_number (triple vars lets e) (triple vars lets f) (number vars x lets hs e)
    (number vars x lets hs f)
number vars x lets hs (Mul e f) = product_number (triple vars lets e) (triple vars lets f) (number vars x lets hs e)
    (number vars x lets hs f)
number vars x lets hs (Pow e n) = power_number (triple vars lets e) (number vars x lets hs e) n

-- the truncated numbers of lets, each over the lets before it, after these
abbrev pub let_numbers : List VarInfo → (ℕ → ℤ) → List Triple → List ℤ → List Tree → List ℤ
let_numbers vars x lets hs [] = hs
let_numbers vars x lets hs (t ∷ ts) = let_numbers vars x (lets ++ triple vars lets t ∷ []) (hs ++ number vars x lets hs t ∷ []) ts

-- the triple of the sign expression of a predicate, after its lets
abbrev pub root_triple : List VarInfo → List Tree → Tree → Triple
root_triple vars lets root = triple vars (let_triples vars [] lets) root

-- its truncated number on a row with these values
abbrev pub root_number : List VarInfo → List ℤ → List Tree → Tree → ℤ
root_number vars zs lets root = number vars (values zs) (let_triples vars [] lets) (let_numbers vars (values zs) [] [] lets) root

-- the filter decides the row: there is one, and the truncated number is above its error
pub record Decides (vars : List VarInfo) (zs : List ℤ) (lets : List Tree) (root : Tree) : Type 0 where
  pub has : HasFilter vars lets root
  pub above : (root_triple vars lets root).e < unsigned_abs (root_number vars zs lets root)
