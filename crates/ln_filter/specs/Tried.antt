-- Triples as they are worked out, node by node, up to the first that isn't steady.
use Rattle.std.specs.Prelude.{ℕ, zero, suc, ◌^◌, ◌<◌, ◌≤◌, ◌&&◌, nat_le, Bool, unsigned_abs}
use Rattle.std.specs.Prelude.{◌≡◌, List, [], ◌∷◌, ◌++◌, Option, Some, IfSome, slice_index_or}
use Rattle.ln_algebra.specs.Tree.{Tree, Num, Input, Name, Neg, Add, Sub, Mul, Pow}
use Rattle.ln_tree.specs.declared.shape.VarInfo.{VarInfo}
use Rattle.ln_bound.specs.Value.{sizes}
use Rattle.ln_code.specs.declared.op.Triple.{Triple}
use Rattle.ln_code.specs.Engine.{when, next}
use Rattle.ln_code.specs.Kept.{no_triple}
use Rattle.ln_filter.specs.declared.arithmetic.Raw.{Raw}
use Rattle.ln_filter.specs.Triples.{leaf, added, multiplied}

-- is the triple steady: its error at most 2^31 - 1, and its division at most by 2^255?
abbrev pub is_steady : Triple → Bool
is_steady a = nat_le a.e 2147483647 && nat_le a.k 255

-- a, where it is steady
abbrev pub settled : Triple → Option Triple
settled a = when (is_steady a) a

-- the triple of the n-th power of what has the triple a; none where a product on the way isn't steady
abbrev pub power_tried : Triple → ℕ → Option Triple
power_tried a zero = settled (leaf 1)
power_tried a (suc zero) = Some a
power_tried a (suc (suc n)) = next (power_tried a (suc n)) (λ p. settled (multiplied p a))

-- the triple of an expression where the lets have these triples; none where a node of it isn't steady
abbrev pub tried : List VarInfo → List Triple → Tree → Option Triple
tried vars lets (Num c) = settled (leaf (unsigned_abs c))
tried vars lets (Input v) = settled (leaf (sizes vars v))
tried vars lets (Name j) = Some (slice_index_or lets j no_triple)
tried vars lets (Neg e) = tried vars lets e
tried vars lets (Add e f) = next (tried vars lets e) (λ a. next (tried vars lets f) (λ b. settled (added a b)))
tried vars lets (Sub e f) = next (tried vars lets e) (λ a. next (tried vars lets f) (λ b. settled (added a b)))
tried vars lets (Mul e f) = next (tried vars lets e) (λ a. next (tried vars lets f) (λ b. settled (multiplied a b)))
tried vars lets (Pow e n) = next (tried vars lets e) (λ a. power_tried a n)

-- the lets' triples, each over those before it, after these
abbrev pub lets_tried : List VarInfo → List Triple → List Tree → Option (List Triple)
lets_tried vars done [] = Some done
lets_tried vars done (t ∷ ts) = next (tried vars done t) (λ a. lets_tried vars (done ++ a ∷ []) ts)

-- what is steady and cut has 31 binary digits, as its error does
pub record IsSmall (a : Triple) : Type 0 where
  pub power : a.k ≤ 255
  pub size : a.h < 2 ^ 31
  pub error : a.e < 2 ^ 31

-- a triple before its cut, as it is worked out
abbrev pub of_raw : Raw → Triple
of_raw r = record { k = r.k; h = r.h; e = r.e }

-- the result for a tree: its triple, or none where a node isn't steady
pub record IsTried (vars : List VarInfo) (lets : List Triple) (t : Tree) (o : Option Triple) : Type 0 where
  pub value : o ≡ tried vars lets t
  pub small : IfSome o (λ a. IsSmall a)
