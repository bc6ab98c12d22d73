-- What the rules promise of every row in range.
use Rattle.std.specs.Prelude.{◌≡◌, ◌<◌, ◌≤◌, ℤ, pos, ◌<ℤ◌, unsigned_abs, List, [], Some}
use Rattle.ln_interval.specs.Range.{Holds, magnitude}
use Rattle.ln_tree.specs.declared.shape.VarInfo.{VarInfo}
use Rattle.ln_tree.specs.Row.{AreWithin}
use Rattle.ln_bound.specs.Value.{value, values}
use Rattle.ln_bound.specs.Widths.{limit}
use Rattle.ln_code.specs.Exact.{Held}
use Rattle.ln_code.specs.Rules.{Known}
use Rattle.ln_code.specs.FilterRules.{FilterKnown, Approximates}
use Rattle.ln_code.specs.Part.{Code, FilterCode, block_value, filter_value, known_of, filter_known_of}
use Rattle.ln_code.specs.Kept.{FollowsRules, FollowsFilterRules}

-- a block has a result, so each value stays in its range and its width; it is the value of the expression that the rules know,
-- and in the range that they know
pub record BlockMeans (vars : List VarInfo) (zs : List ℤ) (c : Code) : Type 0 where
  pub what : Known
  pub known : known_of vars c ≡ Some what
  pub answer : block_value zs c ≡ Some (value (values zs) [] what.tree)
  pub within : Holds what.range (value (values zs) [] what.tree)
  pub fits : magnitude what.range ≤ limit what.width

-- a block that follows the rules has, on each row in range, the value of the expression that the rules know
abbrev pub BlocksMean : Type 0
BlocksMean = (vars : List VarInfo) (zs : List ℤ) (c : Code) → AreWithin vars zs → FollowsRules vars c → BlockMeans vars zs c

-- a filter has a result, which stands for the value of the expression that the rules know; above its error it has the value's sign
pub record FilterMeans (vars : List VarInfo) (zs : List ℤ) (f : FilterCode) : Type 0 where
  pub what : FilterKnown
  pub known : filter_known_of vars f ≡ Some what
  pub left : Held
  pub answer : filter_value zs f ≡ Some left
  pub stands : Approximates what.triple left.number (value (values zs) [] what.tree)
  pub error : left.error ≡ what.triple.e
  pub plus : left.error < unsigned_abs left.number → pos 0 <ℤ left.number → pos 0 <ℤ value (values zs) [] what.tree
  pub minus : left.error < unsigned_abs left.number → left.number <ℤ pos 0 → value (values zs) [] what.tree <ℤ pos 0

-- a filter that follows the rules leaves, on each row in range, a truncated number for the value of the expression that the rules know
abbrev pub FiltersMean : Type 0
FiltersMean = (vars : List VarInfo) (zs : List ℤ) (f : FilterCode) → AreWithin vars zs → FollowsFilterRules vars f → FilterMeans vars zs f
