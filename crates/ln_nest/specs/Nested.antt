-- A list of terms as a nested tree.
use Rattle.std.specs.Prelude.{ℕ, zero, suc, ◌-◌, ◌/◌, ◌%◌, min, nat_eq, nat_le, Bool, true, false, ◌&&◌, ℤ, pos, ◌+ℤ◌, List, [], ◌∷◌, map, if◌then◌else◌}
use Rattle.std.specs.Prelude.{negsuc}
use Rattle.std.specs.List.{list_any}
use Rattle.ln_algebra.specs.Terms.{Term}
pub use Rattle.ln_poly.specs.Lean.{exponent_of}
use Rattle.std.specs.Ordering.{int_eq}
use Rattle.ln_algebra.specs.Tree.{Tree, Num, Input, Name, Neg, Add, Sub, Mul, Pow}

-- is the exponent above 0?
abbrev pub is_positive : ℕ → Bool
is_positive zero = false
is_positive (suc n) = true

-- the vector with e less of variable v
abbrev pub lessened : ℕ → ℕ → List ℕ → List ℕ
lessened e v [] = []
lessened e zero (n ∷ m) = (n - e) ∷ m
lessened e (suc v) (n ∷ m) = n ∷ lessened e v m

-- the terms with variable v, divided by its power e
abbrev pub divided : ℕ → ℕ → List Term → List Term
divided e v [] = []
divided e v (t ∷ f) = if is_positive (exponent_of v t.exponents)
    then record { exponents = lessened e v t.exponents; factor = t.factor } ∷ divided e v f else divided e v f

-- the terms without variable v
abbrev pub free_of : ℕ → List Term → List Term
free_of v [] = []
free_of v (t ∷ f) = if is_positive (exponent_of v t.exponents) then free_of v f else t ∷ free_of v f

-- the sum of the factors
abbrev pub total : List Term → ℤ
total [] = pos 0
total (t ∷ f) = t.factor +ℤ total f

-- is the tree the number z?
abbrev pub is_number : ℤ → Tree → Bool
is_number z (Num c) = int_eq c z
is_number z (Input v) = false
is_number z (Name j) = false
is_number z (Neg e) = false
is_number z (Add e f) = false
is_number z (Sub e f) = false
is_number z (Mul e f) = false
is_number z (Pow e n) = false

-- x times h: where h is 1 or -1, x or its opposite
abbrev pub scaled : Tree → Tree → Tree
scaled x h = if is_number (pos 1) h then x else (if is_number (negsuc 0) h then Neg x else Mul x h)

-- x times h, and i, each where it has a term
abbrev pub joined : Tree → Tree → Tree → List Term → List Term → Tree
joined x h i [] g = i
joined x h i (t ∷ f) [] = scaled x h
joined x h i (t ∷ f) (s ∷ g) = Add (scaled x h) i

-- the least exponent of variable v in the terms that have it, or b where that is less
abbrev pub least_power : ℕ → ℕ → List Term → ℕ
least_power v b [] = b
least_power v b (t ∷ f) = least_power v (if is_positive (exponent_of v t.exponents) then min b (exponent_of v t.exponents) else b) f

-- the power of variable v by which the terms that have it are divided at once: their least one from 8 on, else the first
abbrev pub power_at_once : ℕ → List Term → ℕ
power_at_once v f = if nat_le 8 (least_power v 126 f) then least_power v 126 f else 1

-- is a power the square of its half, and not a product with the variable?
abbrev pub is_square : ℕ → Bool
is_square e = nat_le 4 e && nat_eq (e % 2) 0

-- the power e of variable v, from 1 on, in at most k steps
abbrev pub power : ℕ → ℕ → ℕ → Tree
power zero v e = Input v
power (suc k) v e = if nat_le e 1 then Input v else (if is_square e then Pow (power k v (e / 2)) 2 else Mul (power k v (e - 1)) (Input v))

-- by powers of variable v, in at most d steps; inner has the variables after it
abbrev pub horner : (List Term → Tree) → ℕ → ℕ → List Term → Tree
horner inner v zero f = inner f
horner inner v (suc d) f = joined (power (power_at_once v f) v (power_at_once v f)) (horner inner v d (divided (power_at_once v f) v f)) (inner (free_of v f))
    (divided (power_at_once v f) v f) (free_of v f)

-- the variables from v on, of which there are k, with exponents of at most d
abbrev pub nested : ℕ → ℕ → ℕ → List Term → Tree
nested d zero v f = Num (total f)
nested d (suc k) v f = horner (nested d k (suc v)) v d f

-- ---- one term by squares
-- half of each exponent
abbrev pub halved : List ℕ → List ℕ
halved m = map (λ n. n / 2) m

-- 1 for each odd exponent, else 0
abbrev pub odd_part : List ℕ → List ℕ
odd_part m = map (λ n. n % 2) m

-- is an exponent b or more?
abbrev pub has_power : ℕ → List ℕ → Bool
has_power b m = list_any (nat_le b) m

-- is there one term, with an exponent of b or more?
abbrev pub is_power : ℕ → List Term → Bool
is_power b [] = false
is_power b (t ∷ []) = has_power b t.exponents
is_power b (t ∷ s ∷ f) = false

-- the half of a monomial: a term is its square times the rest
abbrev pub half_term : Term → Term
half_term t = record { exponents = halved t.exponents; factor = pos 1 }

-- what remains of a term without the square of its half
abbrev pub rest_term : Term → Term
rest_term t = record { exponents = odd_part t.exponents; factor = t.factor }

-- one term with an exponent of b or more, as the square of its half times the rest; the half in the same way from 4 on, in at most k squares
abbrev pub by_squares : ℕ → ℕ → ℕ → ℕ → List Term → Tree
by_squares d n zero b f = nested d n 0 f
by_squares d n (suc k) b f = if is_power b f then scaled (Pow (by_squares d n k 4 (map half_term f)) 2) (nested d n 0 (map rest_term f)) else nested d n 0 f

-- the nested form of terms over n variables with exponents of at most 126; of one term with an exponent from 8 on it is by squares
abbrev pub nested_form : ℕ → List Term → Tree
nested_form n f = by_squares 126 n 7 8 f
