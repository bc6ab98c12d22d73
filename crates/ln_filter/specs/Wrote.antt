-- What a draft has more.
use Rattle.std.specs.Prelude.{◌≡◌, ◌++◌, [], ℕ, All, IfSome, List, Option}
use Rattle.ln_algebra.specs.Tree.{Tree}
use Rattle.ln_tree.specs.declared.shape.VarInfo.{VarInfo}
use Rattle.ln_code.specs.declared.draft.Draft.{Draft}
use Rattle.ln_code.specs.declared.op.Triple.{Triple}
use Rattle.ln_code.specs.Engine.{Line}
use Rattle.ln_filter.specs.Lines.{filter_lines, let_lines}
use Rattle.ln_filter.specs.Tried.{IsSmall, lets_tried, tried}

-- the second draft has these operations more, and no subtree is kept
pub record Wrote (before after : Draft Triple) (lines : List (Line Triple)) : Type 0 where
  pub code : after.code ≡ before.code ++ lines
  pub kept : after.kept ≡ []

-- the result for a tree; where it is a triple, the second draft has the tree's operations appended
pub record SteadyPut (vars : List VarInfo) (lets : List Triple) (before after : Draft Triple) (t : Tree) (o : Option Triple) : Type 0 where
  pub tried : o ≡ tried vars lets t
  pub small : IfSome o (λ a. IsSmall a)
  pub wrote : IfSome o (λ a. Wrote before after (filter_lines vars lets t))

-- the same of lets from number j on, each over the lets before it, after lets with these triples
pub record LetsPut (vars : List VarInfo) (j : ℕ) (done : List Triple) (before after : Draft Triple) (ts : List Tree) (o : Option (List Triple)) : Type 0 where
  pub tried : o ≡ lets_tried vars done ts
  pub small : IfSome o (λ xs. All IsSmall xs)
  pub wrote : IfSome o (λ xs. Wrote before after (let_lines vars j done ts))
