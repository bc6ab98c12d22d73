-- Expressions whose weights fit 128 bits.
use Rattle.std.specs.Prelude.{ℕ, ◌≤◌, List, [], ◌∷◌, ◌++◌}
use Rattle.ln_algebra.specs.Tree.{Tree, Num, Input, Name, Neg, Add, Sub, Mul, Pow}
use Rattle.ln_bound.specs.Value.{weight_over}
use Rattle.ln_bound.specs.Light.{most}

-- the weight of each node is at most 2^127 - 1, where variable v weighs m v, and let j what is at number j in the list
abbrev pub HasRoom : (ℕ → ℕ) → List ℕ → Tree → Type 0
HasRoom m lets (Num c) = weight_over m lets (Num c) ≤ most
HasRoom m lets (Input v) = weight_over m lets (Input v) ≤ most
HasRoom m lets (Name j) = weight_over m lets (Name j) ≤ most
HasRoom m lets (Neg e) = HasRoom m lets e × (weight_over m lets (Neg e) ≤ most)
HasRoom m lets (Add e f) = HasRoom m lets e × HasRoom m lets f × (weight_over m lets (Add e f) ≤ most)
HasRoom m lets (Sub e f) = HasRoom m lets e × HasRoom m lets f × (weight_over m lets (Sub e f) ≤ most)
HasRoom m lets (Mul e f) = HasRoom m lets e × HasRoom m lets f × (weight_over m lets (Mul e f) ≤ most)
HasRoom m lets (Pow e n) = HasRoom m lets e × (weight_over m lets (Pow e n) ≤ most)

-- so in each let, over the weights of the lets before it, after these
abbrev pub HaveRoom : (ℕ → ℕ) → List ℕ → List Tree → Type 0
HaveRoom m done [] = Unit {0}
HaveRoom m done (e ∷ es) = HasRoom m done e × HaveRoom m (done ++ weight_over m done e ∷ []) es

-- the weights of lets, each over the lets before it, after these
abbrev pub let_bounds : (ℕ → ℕ) → List ℕ → List Tree → List ℕ
let_bounds m done [] = done
let_bounds m done (e ∷ es) = let_bounds m (done ++ weight_over m done e ∷ []) es
