-- States that the lines that `edges` writes are those of the edges.
use Rattle.std.specs.Prelude.{◌≡◌, ℕ, List, [], Option}
use Rattle.ln_base.specs.Outside.{Shelf, Shown}
use Rattle.ln_tree.specs.Table.{PredOf, SiteOf}
use Rattle.ln_rows.specs.Left.{Records}
use Rattle.ln_edges.specs.Points.{PointOf}
use Rattle.ln_top.specs.declared.words.Command.TheVariants as command
use Rattle.ln_top.specs.Judges.Edges.{AreEdgesOf, HasPoints, ReadsPoints}
use Rattle.ln_top.specs.Frame.Said.{put_both}
use Rattle.ln_top.specs.Steps.{WhereGiven}
use Rattle.ln_top.specs.Frame.Given.{gives}

-- what came to Out is exactly one line for each pair of these points that is an edge, in order; nothing came to Err
pub record PutEdges (p : PredOf) (ps : List PointOf) (was now : Option Shown) : Type 0 where
  pub lines : List ℕ
  pub are : AreEdgesOf p ps lines
  pub shown : now ≡ put_both lines [] was

-- where the words are `edges FILE NAME POINTS`, and the files contain a predicate of three sites of one type and a points file whose records
-- after the right header are at most 256 points, the lines of the edges came to Out
abbrev pub EdgesAreListed : List (List ℕ) → Shelf → Option Shown → Option Shown → Type 0
EdgesAreListed words shelf was now = WhereGiven words shelf command.Edges (λ g. (p : PredOf) (type : SiteOf) (records : Records)
    (ps : List PointOf) → HasPoints g p type records → ReadsPoints type records (gives ps) → PutEdges p ps was now)
