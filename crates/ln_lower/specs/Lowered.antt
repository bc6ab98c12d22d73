-- Which trees are lowered, and what a lowered block is.
use Rattle.std.specs.Prelude.{◌≡◌, ℕ, ℤ, ◌+◌, ◌*◌, ◌≤◌, List, [], Some, length, map}
use Rattle.ln_algebra.specs.Coefficient.{normal_coefficient}
use Rattle.ln_interval.specs.Range.{Covers, magnitude, most, power}
use Rattle.ln_tree.specs.Exps.{Pairs}
use Rattle.ln_tree.specs.Row.{AreWithin}
use Rattle.ln_tree.specs.declared.shape.VarInfo.{VarInfo}
use Rattle.ln_bound.specs.Light.{let_values}
use Rattle.ln_bound.specs.Typed.{Typed, TNum, TInput, TLet, TNeg, TTwo, TPow, cost, costs, pair, polynomial, untyped}
use Rattle.ln_bound.specs.Value.{value, values}
use Rattle.ln_code.specs.Kept.{FollowsRules, IsBlock}
use Rattle.ln_code.specs.Nodes.{IsNodeOf}
use Rattle.ln_code.specs.Part.{Code, block_value, known_of, lines_of}
use Rattle.ln_code.specs.Rules.{Known}
use Rattle.ln_lower.specs.Nodes.{KeepsLets, PushNodes, pushed_by}
use Rattle.ln_lower.specs.StackCode.{IsCodeOf}

-- the range of each power is within 2^127 - 1, and that of the power 1 is the base's
abbrev pub PowersFit : Typed → Type 0
PowersFit (TNum c p w) = Unit {0}
PowersFit (TInput v p w) = Unit {0}
PowersFit (TLet j p w) = Unit {0}
PowersFit (TNeg t p w) = PowersFit t
PowersFit (TTwo k s t p w) = PowersFit s × PowersFit t
PowersFit (TPow t n p w) = PowersFit t × (magnitude (power (pair t) n) ≤ most) × (power (pair t) 1 ≡ pair t)

-- what is known of a lowered block: the rules that it follows, its value, what it pushes, its locals, and its operations
pub record IsLoweredBlock (vars : List VarInfo) (a : Pairs) (lets : List Typed) (t : Typed) (b : Code) : Type 0 where
  pub exponents : b.exps ≡ a
  pub block : IsBlock b
  pub follows : FollowsRules vars b
  pub gives : (zs : List ℤ) → AreWithin vars zs → block_value zs b ≡ Some (value (values zs) (let_values (values zs) [] (map untyped lets)) (untyped t))
  pub covers : (k : Known) → known_of vars b ≡ Some k → Covers (pair t) k.range
  pub root : (k : Known) → known_of vars b ≡ Some k → (m : List ℕ) → normal_coefficient k.tree m ≡ polynomial lets t m
  pub nodes : PushNodes (IsNodeOf lets t) (pushed_by vars b)
  pub locals : KeepsLets vars b lets
  pub code : IsCodeOf lets t (lines_of b.ops b.pairs)
  pub small : length b.ops ≤ 4 * (cost t + costs lets) + 64
