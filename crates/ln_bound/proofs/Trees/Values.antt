-- The value of an expression is at most its weight; lets may be substituted for their names.
use Rattle.std.proofs.Common.{◌≡◌, ℕ, ℤ, List, [], ◌∷◌, map, refl, zero, suc, ap, pos, neg_ℤ}
use Rattle.std.specs.Prelude.{slice_index_or}
use Rattle.ln_algebra.specs.Tree.{Tree, Num, Input, Name, Neg, Add, Sub, Mul, Pow, inlined}
use Rattle.ln_bound.specs.Value.{power, value}

named : (x : ℕ → ℤ) (ts : List Tree) (j : ℕ) → value x [] (slice_index_or ts j (Num (pos 0))) ≡ slice_index_or (map (value x []) ts) j (pos 0)
named x [] j = refl
named x (t ∷ ts) zero = refl
named x (t ∷ ts) (suc j) = named x ts j

-- the value of a tree with its lets substituted is its value over the values of the lets
pub value-inlined : (x : ℕ → ℤ) (ts : List Tree) (e : Tree) → value x [] (inlined ts e) ≡ value x (map (value x []) ts) e
value-inlined x ts (Num c) = refl
value-inlined x ts (Input v) = refl
value-inlined x ts (Name j) = named x ts j
value-inlined x ts (Neg e) = ap neg_ℤ (value-inlined x ts e)
value-inlined x ts (Add e f) = let p = value-inlined x ts e in let q = value-inlined x ts f in rw (p, q) refl
value-inlined x ts (Sub e f) = let p = value-inlined x ts e in let q = value-inlined x ts f in rw (p, q) refl
value-inlined x ts (Mul e f) = let p = value-inlined x ts e in let q = value-inlined x ts f in rw (p, q) refl
value-inlined x ts (Pow e n) = ap (λ z. power z n) (value-inlined x ts e)
