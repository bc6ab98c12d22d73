-- Defines what a source is: accepted, with a table, or refused for a reason at a place.
use Rattle.std.specs.Prelude.{◌≡◌, ℕ, List, Some}
use Rattle.ln_base.specs.declared.span.Span.{Span}
use Rattle.ln_base.specs.Place.{line_of, column_of}
use Rattle.ln_tree.specs.declared.table.Table.{Table}
use Rattle.ln_tree.specs.Table.{TableOf, table_of}
use Rattle.ln_compile.specs.Accepted.{Accepted}
use Rattle.ln_compile.specs.Refused.{IsRefusedFor, span_of}
use Rattle.ln_compile.specs.declared.refusal.Refusal.{Refusal}
use Rattle.ln_top.specs.declared.frame.stop.Place.{Place}

-- what a table in memory stands for
abbrev pub view : Table → TableOf
view t = table_of t.sites t.params t.preds

-- the source has this table, which one in memory stands for, and no predicate of it has a fault
pub record IsAccepted (bytes : List ℕ) (t : TableOf) : Type 0 where
  pub table : Table
  pub is : view table ≡ t
  pub accepted : Accepted bytes t

-- the place of the start of a span: its line and its column
abbrev pub place_at : List ℕ → Span → Place
place_at bytes at = record { line = line_of bytes at.start; col = column_of bytes at.start }

-- the source is refused for this, at this place
pub record IsRefusedAt (bytes : List ℕ) (r : Refusal) (place : Place) : Type 0 where
  pub cause : IsRefusedFor bytes r
  pub at : Span
  pub span : span_of r ≡ Some at
  pub start : place ≡ place_at bytes at
