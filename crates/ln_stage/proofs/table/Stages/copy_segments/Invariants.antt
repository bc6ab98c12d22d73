use Rattle.std.proofs.Common.{◌≡◌, take}
use Rattle.ln_stage.proofs.table.Stages.copy_segments.Given as goal

abbrev pub invariant-each : goal.invariant-each
invariant-each l = l.segments.items ≡ take l.segment-index l.segment-items
