-- Defines when bytes are the text of a table up to its spans.
use Rattle.std.specs.Prelude.{◌≡◌, ℕ, List, map}
use Rattle.ln_base.specs.declared.span.Span.{Span}
use Rattle.ln_tree.specs.Formula.{Formula, FNum, FInput, FName, FNeg, FAdd, FSub, FMul, FPow}
use Rattle.ln_tree.specs.Table.{PredOf, TableOf}
use Rattle.ln_parse.specs.Text.{TextOf}

-- the span that replaces each span of a table, where spans don't count
abbrev pub no_span : Span
no_span = record { start = 0; end = 0 }

-- a formula without its spans
abbrev pub spanless : Formula → Formula
spanless (FNum at c) = FNum no_span c
spanless (FInput at a c) = FInput no_span a c
spanless (FName at j) = FName no_span j
spanless (FNeg at e) = FNeg no_span (spanless e)
spanless (FAdd at e f) = FAdd no_span (spanless e) (spanless f)
spanless (FSub at e f) = FSub no_span (spanless e) (spanless f)
spanless (FMul at e f) = FMul no_span (spanless e) (spanless f)
spanless (FPow at e n) = FPow no_span (spanless e) n

-- a predicate without its spans
abbrev pub pred_spanless : PredOf → PredOf
pred_spanless p = record {
  name = p.name;
  at = no_span;
  args = p.args;
  shape_name = p.shape_name;
  sites = p.sites;
  vars = p.vars;
  let_names = p.let_names;
  lets = map spanless p.lets;
  root = spanless p.root;
}

-- a table without its spans
abbrev pub table_spanless : TableOf → TableOf
table_spanless t = record { sites = t.sites; params = t.params; preds = map pred_spanless t.preds }

-- the bytes are a text of this table but for its spans
pub record IsTextUpToSpans (bytes : List ℕ) (t : TableOf) : Type 0 where
  pub table : TableOf
  pub text : TextOf bytes table
  pub same : table_spanless table ≡ table_spanless t
