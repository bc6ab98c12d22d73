-- What is said of each node of an expression.
use Rattle.std.specs.Prelude.{ℕ, ◌≤◌}
use Rattle.ln_algebra.specs.Tree.{Tree, Num, Input, Name, Neg, Add, Sub, Mul, Pow}

-- the number of each node is at most n
abbrev pub AreUpTo : (Tree → ℕ) → ℕ → Tree → Type 0
AreUpTo by n (Num c) = by (Num c) ≤ n
AreUpTo by n (Input v) = by (Input v) ≤ n
AreUpTo by n (Name j) = by (Name j) ≤ n
AreUpTo by n (Neg e) = AreUpTo by n e × (by (Neg e) ≤ n)
AreUpTo by n (Add e f) = AreUpTo by n e × AreUpTo by n f × (by (Add e f) ≤ n)
AreUpTo by n (Sub e f) = AreUpTo by n e × AreUpTo by n f × (by (Sub e f) ≤ n)
AreUpTo by n (Mul e f) = AreUpTo by n e × AreUpTo by n f × (by (Mul e f) ≤ n)
AreUpTo by n (Pow e k) = AreUpTo by n e × (by (Pow e k) ≤ n)
