-- Defines what the code says of the rule on a line, and what is known of values with limits in code.
use Rattle.std.specs.Prelude.{◌≡◌, ℕ, ◌≤◌, nat_le, List, Option, None, Some, MatchOption, refl, slice_get}
use Rattle.std.proofs.Common.{ap, sym}
use Rattle.ln_algebra.specs.Tree.{Tree, Input}
use Rattle.ln_interval.specs.declared.pair.Pair.{Pair}
use Rattle.ln_interval.specs.Range.{Range, most, magnitude}
use Rattle.ln_interval.specs.View.{range}
use Rattle.ln_tree.specs.declared.shape.VarInfo.{VarInfo}
use Rattle.ln_bound.specs.declared.fitted.Width.TheVariants.{W128}
use Rattle.ln_bound.specs.Sound.{IsIn}
use Rattle.ln_bound.specs.Value.{size_of}
use Rattle.ln_bound.specs.Widths.{least}
use Rattle.ln_code.specs.declared.op.Triple.{Triple}
use Rattle.ln_code.specs.Engine.{Engine, next, when}
use Rattle.ln_code.specs.FilterRules.{FilterKnown, filter_known}
use Rattle.ln_code.specs.Numbers.{with_local}
use Rattle.ln_code.specs.Rules.{Known, known}
use Rattle.ln_verify.specs.BlockRules.{Version, block_rules, deepest, triple_rules}
use Rattle.ln_verify.specs.declared.ranged.Ranged.{Ranged}

-- ---- a rule
-- what the rule on a line knows of what its operation makes, against the limits of it in code: nothing where there are none; else these limits,
-- with this expression and this running size, where the size is at most 2^127 - 1
abbrev pub IsRule : {L K : Type 0} → (L → Tree → ℕ → K) → Option L → Tree → ℕ → Option K → Type 0
IsRule known None t s r = r ≡ None
IsRule known (Some x) t s r = r ≡ when (nat_le s most) (known x t s)

-- the same where the running size was tested too
abbrev pub IsKnown : {L K : Type 0} → (L → Tree → ℕ → K) → Option L → Tree → ℕ → Option K → Type 0
IsKnown known None t s r = r ≡ None
IsKnown known (Some x) t s r = r ≡ Some (known x t s)

-- the running size in code is this one, where either is at most 2^127 - 1
abbrev pub IsSize : ℕ → ℕ → Type 0
IsSize size s = (size ≤ most → size ≡ s) × (s ≤ most → size ≡ s)

-- the stack has room for 2,048 values, and a local is found as it was put
pub record HasStack {B K : Type 0} (e : Engine B K (ℕ → Option K)) : Type 0 where
  pub got : (l : ℕ → Option K) (j : ℕ) → e.got l j ≡ l j
  pub put : (l : ℕ → Option K) (j : ℕ) (k : K) → e.put l j k ≡ with_local l j k
  pub room : (m : ℕ) → e.room m ≡ nat_le m deepest

-- ---- in a block
-- the two ends aren't those of a pair that fits 128 bits
abbrev pub FitsNot : Range → Type 0
FitsNot p = IsIn p W128 → ⊥

-- the ends on a line, which may be those of no pair
abbrev pub AreEnds : Option Pair → Range → Type 0
AreEnds ends p = MatchOption ends (FitsNot p) (λ b. range b ≡ p)

-- what is known of a value with this range and width
abbrev pub in_range : Ranged → Tree → ℕ → Known
in_range x t s = record { range = range x.pair; width = x.width; tree = t; size = s }

-- nothing is known of a variable that isn't there
pub no_variable : (v : Version) (vars : List VarInfo) (k : ℕ) (p : Range) → None ≡ slice_get vars k → (block_rules v vars).input k p ≡ None
no_variable v vars k p e = ap (λ (o : Option VarInfo). next o (λ i. known (v.range i) p (least (magnitude p)) (v.size i) (Input k))) (sym e)

-- the rules of a block keep a stack and locals as every machine does
pub blocks_have_stack : (v : Version) (vars : List VarInfo) → HasStack (block_rules v vars)
blocks_have_stack v vars = record { got = λ l j. refl; put = λ l j k. refl; room = λ m. refl }

-- ---- in a filter
-- what is known of a truncated number with this triple
abbrev pub in_triple : Triple → Tree → ℕ → FilterKnown
in_triple a t s = record { triple = a; tree = t; size = s }

-- nothing is known of a variable that isn't there
pub no_number : (v : Version) (vars : List VarInfo) (k : ℕ) (a : Triple) → None ≡ slice_get vars k → (triple_rules v vars).input k a ≡ None
no_number v vars k a e = ap (λ (o : Option VarInfo). next o (λ i. filter_known 0 (size_of i) 0 (v.size i) (Input k) a)) (sym e)

-- the rules of a filter keep a stack and locals as every machine does
pub triples_have_stack : (v : Version) (vars : List VarInfo) → HasStack (triple_rules v vars)
triples_have_stack v vars = record { got = λ l j. refl; put = λ l j k. refl; room = λ m. refl }
