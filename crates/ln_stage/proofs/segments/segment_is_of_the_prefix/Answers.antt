use Rattle.ln_stage.proofs.Results.SegmentLemmas.{segment-is-of-the-prefix}
use Rattle.ln_stage.proofs.segments.segment_is_of_the_prefix.Goals as goal

pub returns : goal.returns
returns c = segment-is-of-the-prefix
