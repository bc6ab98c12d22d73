-- The triples of a filter's nodes: by which power of 2 a truncated number is divided, how large it is at most, and how far it may be off.
use Rattle.std.specs.Prelude.{ℕ, zero, suc, ◌+◌, ◌-◌, ◌*◌, ◌/◌, ◌^◌, ◌==◌, max, unsigned_abs}
use Rattle.std.specs.Prelude.{List, [], ◌∷◌, ◌++◌, slice_index_or, if◌then◌else◌}
use Rattle.ln_algebra.specs.Tree.{Tree, Num, Input, Name, Neg, Add, Sub, Mul, Pow}
use Rattle.ln_tree.specs.declared.shape.VarInfo.{VarInfo}
use Rattle.ln_bound.specs.declared.fitted.Two.{Two}
use Rattle.ln_bound.specs.declared.fitted.Two.TheVariants.{Plus, Minus, Times}
use Rattle.ln_bound.specs.Value.{sizes}
use Rattle.ln_code.specs.declared.op.Triple.{Triple}
use Rattle.ln_code.specs.FilterRules.{error_after}
use Rattle.ln_code.specs.Kept.{no_triple}

-- the number of binary digits of n, where it is at most this many
abbrev pub digits : ℕ → ℕ → ℕ
digits zero n = 0
digits (suc most) n = if n == 0 then 0 else suc (digits most (n / 2))

-- the number of binary digits of n; 0 has none
unfoldable pub bits : ℕ → ℕ
bits n = digits n n

-- by which power of 2 a number up to r is divided, so that 31 binary digits remain
abbrev pub excess : ℕ → ℕ
excess r = bits r - 31

-- the triple after a division by 2^n towards 0: the error is divided too, rounded up, and is 1 more for what the division drops
abbrev pub cut : ℕ → Triple → Triple
cut n a = record { k = a.k + n; h = a.h / 2 ^ n; e = error_after n a.e }

-- the triple after a division that leaves 31 binary digits
abbrev pub trimmed : Triple → Triple
trimmed a = cut (excess a.h) a

-- the triple of a number up to m that is whole
abbrev pub whole : ℕ → Triple
whole m = record { k = 0; h = m; e = 0 }

-- the triple of a leaf, a number or a variable, up to m
abbrev pub leaf : ℕ → Triple
leaf m = trimmed (whole m)

-- a, divided so that its power of 2 isn't below that of b
abbrev pub aligned : Triple → Triple → Triple
aligned a b = cut (b.k - a.k) a

-- of a sum or a difference before it is cut
abbrev pub sum_of : Triple → Triple → Triple
sum_of a b = record { k = max a.k b.k; h = (aligned a b).h + (aligned b a).h; e = (aligned a b).e + (aligned b a).e }

-- of a product before it is cut
abbrev pub product_of : Triple → Triple → Triple
product_of a b = record { k = a.k + b.k; h = a.h * b.h; e = a.h * b.e + b.h * a.e + a.e * b.e }

-- of a sum, a difference or a product before it is cut
abbrev pub raw_of : Two → Triple → Triple → Triple
raw_of Plus a b = sum_of a b
raw_of Minus a b = sum_of a b
raw_of Times a b = product_of a b

-- by which power of 2 an operand with the triple a is divided beside one with the triple b
abbrev pub align : Two → Triple → Triple → ℕ
align Plus a b = b.k - a.k
align Minus a b = b.k - a.k
align Times a b = 0

-- of a sum or a difference, cut so that 31 binary digits remain
abbrev pub added : Triple → Triple → Triple
added a b = trimmed (sum_of a b)

-- of a product, cut so that 31 binary digits remain
abbrev pub multiplied : Triple → Triple → Triple
multiplied a b = trimmed (product_of a b)

-- of a sum, a difference or a product
abbrev pub both : Two → Triple → Triple → Triple
both o a b = trimmed (raw_of o a b)

-- of the n-th power: the number 1, the base, or the power before it times the base
abbrev pub powered : Triple → ℕ → Triple
powered a zero = leaf 1
powered a (suc zero) = a
powered a (suc (suc n)) = multiplied (powered a (suc n)) a

-- the triple of an expression over these variables, where the lets have these triples
abbrev pub triple : List VarInfo → List Triple → Tree → Triple
triple vars lets (Num c) = leaf (unsigned_abs c)
triple vars lets (Input v) = leaf (sizes vars v)
triple vars lets (Name j) = slice_index_or lets j no_triple
triple vars lets (Neg e) = triple vars lets e
triple vars lets (Add e f) = added (triple vars lets e) (triple vars lets f)
triple vars lets (Sub e f) = added (triple vars lets e) (triple vars lets f)
triple vars lets (Mul e f) = multiplied (triple vars lets e) (triple vars lets f)
triple vars lets (Pow e n) = powered (triple vars lets e) n

-- the triples of lets, each over the lets before it, after these
abbrev pub let_triples : List VarInfo → List Triple → List Tree → List Triple
let_triples vars done [] = done
let_triples vars done (t ∷ ts) = let_triples vars (done ++ triple vars done t ∷ []) ts
