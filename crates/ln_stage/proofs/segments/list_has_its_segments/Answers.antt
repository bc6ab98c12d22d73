use Rattle.ln_stage.proofs.Results.SegmentLemmas.{list-has-its-segments}
use Rattle.ln_stage.proofs.segments.list_has_its_segments.Goals as goal

pub returns : goal.returns
returns c = list-has-its-segments
