-- Which predicates have a filter: those in which no node's error and no node's power of 2 is too large.
use Rattle.std.specs.Prelude.{ℕ, ◌≤◌, List, [], ◌∷◌, ◌++◌}
use Rattle.ln_algebra.specs.Tree.{Tree, Num, Input, Name, Neg, Add, Sub, Mul, Pow}
use Rattle.ln_tree.specs.declared.shape.VarInfo.{VarInfo}
use Rattle.ln_code.specs.declared.op.Triple.{Triple}
use Rattle.ln_filter.specs.Triples.{triple, let_triples, powered}

-- an error of at most 2^31 - 1, a division by 2^255 at most
pub record IsSteady (a : Triple) : Type 0 where
  pub error : a.e ≤ 2147483647
  pub power : a.k ≤ 255

-- so has each product on the way to the n-th power
abbrev pub ArePowersSteady : Triple → ℕ → Type 0
ArePowersSteady a n = (m : ℕ) → 2 ≤ m → m ≤ n → IsSteady (powered a m)

-- so has each node, where the lets have these triples; each product on the way to a power counts as a node, and the base of the
-- power 0, which is the number 1, is judged too. The name of a let and a negation have the triple of what they stand for
abbrev pub AreSteady : List VarInfo → List Triple → Tree → Type 0
AreSteady vars lets (Num c) = IsSteady (triple vars lets (Num c))
AreSteady vars lets (Input v) = IsSteady (triple vars lets (Input v))
AreSteady vars lets (Name j) = Unit {0}
AreSteady vars lets (Neg e) = AreSteady vars lets e
AreSteady vars lets (Add e f) = AreSteady vars lets e × AreSteady vars lets f × IsSteady (triple vars lets (Add e f))
AreSteady vars lets (Sub e f) = AreSteady vars lets e × AreSteady vars lets f × IsSteady (triple vars lets (Sub e f))
AreSteady vars lets (Mul e f) = AreSteady vars lets e × AreSteady vars lets f × IsSteady (triple vars lets (Mul e f))
AreSteady vars lets (Pow e n) = AreSteady vars lets e × ArePowersSteady (triple vars lets e) n

-- so has each node of the lets, used or not, each over the lets before it, after these
abbrev pub AreLetsSteady : List VarInfo → List Triple → List Tree → Type 0
AreLetsSteady vars done [] = Unit {0}
AreLetsSteady vars done (t ∷ ts) = AreSteady vars done t × AreLetsSteady vars (done ++ triple vars done t ∷ []) ts

-- a predicate with these lets and this sign expression has a filter
pub record HasFilter (vars : List VarInfo) (lets : List Tree) (root : Tree) : Type 0 where
  pub lets_steady : AreLetsSteady vars [] lets
  pub root_steady : AreSteady vars (let_triples vars [] lets) root
