use Rattle.ln_stage.proofs.Results.SegmentLemmas.{segments-make-the-list}
use Rattle.ln_stage.proofs.segments.segments_make_the_list.Goals as goal

pub returns : goal.returns
returns c = segments-make-the-list
