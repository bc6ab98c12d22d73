-- This file defines the powers of an integer, which lie in the powers of each range that holds it.
use Rattle.std.specs.Prelude.{ℕ, suc, zero, ℤ, pos, ◌*ℤ◌}

-- z to the power of n
abbrev pub power : ℤ → ℕ → ℤ
power z zero = pos 1
power z (suc n) = power z n *ℤ z
