-- What an expression may hold.
use Rattle.std.specs.Prelude.{ℕ, suc, ◌^◌, ◌&&◌, not, nat_lt, nat_le, int_lt, Bool, true, pos, List, [], ◌∷◌}
use Rattle.ln_algebra.specs.Tree.{Tree, Num, Input, Name, Neg, Add, Sub, Mul, Pow}

-- its inputs are below n, its lets below j, its literals from 0 to 2^127 - 1, its exponents at most 16
abbrev pub is_fit : ℕ → ℕ → Tree → Bool
is_fit n j (Num c) = not (int_lt c (pos 0)) && int_lt c (pos (2 ^ 127))
is_fit n j (Input v) = nat_lt v n
is_fit n j (Name k) = nat_lt k j
is_fit n j (Neg e) = is_fit n j e
is_fit n j (Add e f) = is_fit n j e && is_fit n j f
is_fit n j (Sub e f) = is_fit n j e && is_fit n j f
is_fit n j (Mul e f) = is_fit n j e && is_fit n j f
is_fit n j (Pow e k) = is_fit n j e && nat_le k 16

-- each let is fit after the lets before it, of which there are j before the first
abbrev pub lets_fit : ℕ → ℕ → List Tree → Bool
lets_fit n j [] = true
lets_fit n j (t ∷ ts) = is_fit n j t && lets_fit n (suc j) ts
