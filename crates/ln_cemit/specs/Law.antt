-- States what is promised of the emitted functions.
use Rattle.std.specs.Prelude.{◌≡◌, ℕ, true, nat_lt, if◌then◌else◌, ℤ, pos, unsigned_abs, List, [], length, Some, None}
use Rattle.ln_tree.specs.declared.shape.VarInfo.{VarInfo}
use Rattle.ln_tree.specs.Row.{AreWithin}
use Rattle.ln_code.specs.Exact.{Held}
use Rattle.ln_code.specs.Part.{Code, FilterCode, block_value, filter_value}
use Rattle.ln_code.specs.Kept.{FollowsRules, FollowsFilterRules}
use Rattle.ln_code.specs.Errors.{left_error}
use Rattle.ln_csyn.specs.declared.tree.CType.TheVariants.{Int}
use Rattle.ln_csyn.specs.Tree.{Body}
use Rattle.ln_csyn.specs.Meaning.{Counts, Fails, Said, has, runs}
use Rattle.ln_cemit.specs.Ways.{block_lines, lines_of_filter}
use Rattle.ln_cemit.specs.Emit.{body_of, wide_lines}
use Rattle.ln_cemit.specs.Checked.{sign_of, plus, AreNames}

-- on these values the body returns the sign, makes these counts, and no line fails
pub record Means (zs : List ℤ) (body : Body) (sign : ℤ) (after : Counts → Counts) : Type 0 where
  pub says : (k : Counts) → runs (record { values = zs; index = None; call = λ g j. Fails None }) [] body k ≡ Said sign (after k)
  pub small : has Int sign ≡ true
  pub keeps : (k : Counts) → (after k).calls ≡ k.calls

-- on a row in range the body of a block returns the sign of the block's value
pub record BlockSays (name : ℕ → List ℕ) (zs : List ℤ) (c : Code) : Type 0 where
  pub value : ℤ
  pub machine : block_value zs c ≡ Some value
  pub means : Means zs (body_of name 0 (block_lines c)) (sign_of value) (λ k. plus (wide_lines (block_lines c)) k)

-- the body of each block that follows the rules returns, on each row in range, the sign of the block's value
abbrev pub BlocksSay : Type 0
BlocksSay = (name : ℕ → List ℕ) (vars : List VarInfo) (zs : List ℤ) (c : Code) → AreNames name (length (block_lines c)) →
    AreWithin vars zs → FollowsRules vars c → BlockSays name zs c

-- the error of what a filter leaves
abbrev pub error_of : FilterCode → ℕ
error_of f = left_error f.ops f.triples 0 0

-- the sign where the filter decides, else 0
abbrev pub decided : Held → ℤ
decided h = if nat_lt h.error (unsigned_abs h.number) then sign_of h.number else pos 0

-- on a row in range the body of a filter returns 0 where it doesn't decide, else the sign, with no wide operation
pub record FilterSays (name : ℕ → List ℕ) (zs : List ℤ) (f : FilterCode) : Type 0 where
  pub left : Held
  pub machine : filter_value zs f ≡ Some left
  pub means : Means zs (body_of name (error_of f) (lines_of_filter f)) (decided left) (λ k. k)

-- the body of each filter that follows the rules returns, on each row in range, the sign where the filter decides, else 0
abbrev pub FiltersSay : Type 0
FiltersSay = (name : ℕ → List ℕ) (vars : List VarInfo) (zs : List ℤ) (f : FilterCode) → AreNames name (length (lines_of_filter f)) →
    AreWithin vars zs → FollowsFilterRules vars f → FilterSays name zs f
