-- The stack code of a tree: which operations it has, in order, each with the range that it carries. Equal subtrees may be computed once.
use Rattle.std.specs.Prelude.{List}
use Rattle.ln_interval.specs.Range.{Range}
use Rattle.ln_bound.specs.Typed.{Typed, pair}
use Rattle.ln_code.specs.Engine.{Line}
use Rattle.ln_code.specs.StackCode.{IsCodeIn, Style}
use Rattle.ln_code.specs.Kept.{nothing}

-- each operation carries the range of its node, within a power that of the lower power, and is done in the node's width; nothing is divided
abbrev pub block_style : Style Range
block_style = record {
  mark = pair;
  raw = pair;
  excess = λ p. 0;
  align = λ o p q. 0;
  divided = λ n p. p;
  at_width = λ w. w;
  none = nothing;
}

-- the operations of lets, then those of the tree, and nothing else
abbrev pub IsCodeOf : List Typed → Typed → List (Line Range) → Type 0
IsCodeOf lets t lines = IsCodeIn (λ done. block_style) lets t lines
