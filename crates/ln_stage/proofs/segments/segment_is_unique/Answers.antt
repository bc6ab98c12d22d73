use Rattle.ln_stage.proofs.Results.SegmentLemmas.{segment-is-unique}
use Rattle.ln_stage.proofs.segments.segment_is_unique.Goals as goal

pub returns : goal.returns
returns c = segment-is-unique
