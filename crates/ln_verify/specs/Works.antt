-- Defines what one operation does to a stack in code.
use Rattle.std.specs.Prelude.{ℕ, Bool, List, length, Option}
use Rattle.ln_algebra.specs.Tree.{Tree}
use Rattle.ln_interval.specs.Range.{Range}
use Rattle.ln_tree.specs.declared.shape.VarInfo.{VarInfo}
use Rattle.ln_code.specs.declared.op.Op.{Op}
use Rattle.ln_code.specs.declared.op.Triple.{Triple}
use Rattle.ln_code.specs.Engine.{Engine, State}
use Rattle.ln_code.specs.FilterRules.{FilterKnown}
use Rattle.ln_code.specs.Rules.{Known}
use Rattle.ln_verify.specs.BlockRules.{Version, block_rules, triple_rules}
use Rattle.ln_verify.specs.Line.{filter_tree_of, tree_of}
use Rattle.ln_verify.specs.Rules.{in_range, in_triple}
use Rattle.ln_verify.specs.Values.{Came, IsFor, IsState}
use Rattle.ln_verify.specs.declared.ranged.Ranged.{Ranged}
use Rattle.ln_verify.specs.declared.stacks.Stack.{Stack}
use Rattle.ln_verify.specs.declared.value.Value.{Value}

-- an operation leads each state that the old stack is for to one that the new one is for, or nowhere
abbrev pub StackStep : {L B K : Type 0} → (L → Tree → ℕ → K) → (K → Tree) → (Version → List VarInfo → Engine B K (ℕ → Option K)) → Version →
    List VarInfo → Stack (Value L) → Op → B → Bool → Stack (Value L) → Type 0
StackStep {K = K} known tree rules v vars old op b ok new =
    (s : State K (ℕ → Option K)) → IsState (IsFor known (length vars)) old.values.items old.locals.items s →
    Came (IsFor known (length vars)) tree (length vars) (rules v vars) s op b ok new.values.items new.locals.items

-- ---- of a block
-- the stack and the locals of a block
abbrev pub BlockStack : Type 0
BlockStack = Stack (Value Ranged)

-- the stack and the locals are for a state
abbrev pub IsBlockStack : ℕ → BlockStack → State Known (ℕ → Option Known) → Type 0
IsBlockStack n b s = IsState (IsFor in_range n) b.values.items b.locals.items s

-- what an operation does to them
abbrev pub BlockStep : Version → List VarInfo → BlockStack → Op → Range → Bool → BlockStack → Type 0
BlockStep v vars old op p ok new = StackStep in_range tree_of block_rules v vars old op p ok new

-- ---- of a filter
-- the stack and the locals of a filter
abbrev pub FilterStack : Type 0
FilterStack = Stack (Value Triple)

-- the stack and the locals are for a state
abbrev pub IsFilterStack : ℕ → FilterStack → State FilterKnown (ℕ → Option FilterKnown) → Type 0
IsFilterStack n b s = IsState (IsFor in_triple n) b.values.items b.locals.items s

-- what an operation does to them
abbrev pub FilterStep : Version → List VarInfo → FilterStack → Op → Triple → Bool → FilterStack → Type 0
FilterStep v vars old op a ok new = StackStep in_triple filter_tree_of triple_rules v vars old op a ok new
