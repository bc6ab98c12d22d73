-- A row whose plain value isn't 0: it is decided without any infinitesimal.
use Rattle.std.specs.Prelude.{◌≡◌, ◌≢◌, ◌⊎◌, ℕ, ℤ, pos, []}
use Rattle.ln_algebra.specs.Earlier.{Sites}
use Rattle.ln_algebra.specs.Orders.{BySmallest, Rank}
use Rattle.ln_algebra.specs.Sign.{perturbed, sign_of}
use Rattle.ln_algebra.specs.Tree.{Tree}
use Rattle.ln_algebra.specs.Vector.{zeros}
use Rattle.ln_tree.specs.declared.shape.Shape.{Shape}
use Rattle.ln_tree.specs.Row.{InRange, Row, values}
use Rattle.ln_bound.specs.Value.{value}
use Rattle.ln_code.specs.declared.verdict.By.TheVariants.{Filter, Stage}
use Rattle.ln_code.specs.declared.verdict.Verdict.{Verdict}
use Rattle.ln_due.specs.Due.{Due, Filtering, sign_number}

-- the coefficient at the vector of zeros is the value of the expression
abbrev pub ZerosHaveTheValue : Type 0
ZerosHaveTheValue = (n : ℕ) (sites : Sites) (x : ℕ → ℤ) (e : Tree) → perturbed sites x e (zeros n) ≡ value x [] e

-- the verdict has the sign of the number z, and the filter decides or the first stage
pub record IsPlain (z : ℤ) (v : Verdict) : Type 0 where
  pub sign : sign_number v.sign ≡ sign_of z
  pub by : (v.by ≡ Filter) ⊎ (v.by ≡ Stage 0)

-- where the value on a row in range isn't 0, the required verdict has its sign, from the filter or from the first stage
abbrev pub PlainValuesDecide : Type 0
PlainValuesDecide =
    (rank : Rank) (s : Shape) (e : Tree) (row : Row) (does : Filtering) (v : Verdict) → InRange s.sites s.vars row →
    value (values row.values) [] e ≢ pos 0 → Due rank does s.vars e row v → IsPlain (value (values row.values) [] e) v

-- so by the smallest infinitesimal in which two vectors differ
abbrev pub RunIsPlain : Type 0
RunIsPlain =
    (s : Shape) (e : Tree) (row : Row) (does : Filtering) (v : Verdict) → InRange s.sites s.vars row →
    value (values row.values) [] e ≢ pos 0 → Due BySmallest does s.vars e row v → IsPlain (value (values row.values) [] e) v
