-- What a predicate of a table is made of, with its lets substituted for their names.
use Rattle.std.specs.Prelude.{ℕ, List}
use Rattle.ln_base.specs.declared.span.Span.{Span}
use Rattle.ln_algebra.specs.Tree.{Tree}
use Rattle.ln_tree.specs.Table.{PredOf}
use Rattle.ln_bound.specs.Loads.{loaded_pred}
use Rattle.ln_poly.specs.Expansion.{closed_root, expanded_pred}

-- the nodes of a predicate in order of evaluation, each with the largest absolute value of the ends of its range, or with its
-- size where that is larger
abbrev pub loaded_of : PredOf → List (Span × ℕ)
loaded_of p = loaded_pred p.vars p.lets p.root

-- what is expanded of it, in order of evaluation
abbrev pub expanded_of : PredOf → List (Span × Tree)
expanded_of p = expanded_pred p.vars p.lets p.root

-- its root with its lets in place of their names
abbrev pub root_of : PredOf → Tree
root_of p = closed_root p.vars p.lets p.root
