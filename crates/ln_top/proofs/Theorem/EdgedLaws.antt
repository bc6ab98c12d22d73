-- The lines of the edges that were written are those of the edges of the points that the words name.
use Rattle.std.proofs.Common.{◌≡◌, List, Option}
use Rattle.ln_base.specs.Outside.{Shown}
use Rattle.ln_tree.specs.Table.{PredOf, SiteOf}
use Rattle.ln_rows.specs.Left.{Records}
use Rattle.ln_watch.specs.Panel.{State}
use Rattle.ln_edges.specs.Points.{PointOf}
use Rattle.ln_top.specs.declared.frame.status.Status.{Status}
use Rattle.ln_top.specs.declared.words.Command.TheVariants as command
use Rattle.ln_top.specs.Edged.{PutEdges}
use Rattle.ln_top.specs.Judges.Edges as edges
use Rattle.ln_top.specs.Judges.Edges.{EdgesSaid, HasPoints, ReadsPoints}
use Rattle.ln_top.specs.Frame.Said.{Said, put_both}
use Rattle.ln_top.specs.Frame.Given.{Given, gives}
use Rattle.ln_top.proofs.JudgesLemmas.EdgesLaws.{never_both, one_read, same_pred}
use Rattle.ln_top.proofs.Steps.Grounded.{IsFine}
use Rattle.ln_top.proofs.Steps.TopLaws.{Worked}

-- what is required for a points file that is points
put_edges : (g : Given) (p : PredOf) (type : SiteOf) (records : Records) (ps : List PointOf) (a : Said) (was now : Option Shown)
    → EdgesSaid g a → HasPoints g p type records → ReadsPoints type records (gives ps) → now ≡ put_both a.out a.err was
    → PutEdges p ps was now
put_edges g p type records ps a was now (edges.stopped q s rs why h x) k y e = never_both g q p s type rs records why ps h k x y
put_edges g p type records ps a was now (edges.listed q s rs qs text h x z) k y e = record {
  lines = text;
  are = rw (same_pred g q p s type h.has k.has, one_read g q p s type rs records qs ps h k x y) at z;
  shown = e;
}

-- what `edges` says are the lines of the edges
pub edged : {boxes : List State} {result : Status} {was now : Option Shown} (g : Given) → IsFine command.Edges g
    → Worked command.Edges boxes g result was now → (p : PredOf) (type : SiteOf) (records : Records) (ps : List PointOf)
    → HasPoints g p type records → ReadsPoints type records (gives ps) → PutEdges p ps was now
edged g i w p type records ps k y = put_edges g p type records ps w.said _ _ w.owed k y w.shown
