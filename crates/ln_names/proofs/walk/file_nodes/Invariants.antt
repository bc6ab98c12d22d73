use Rattle.std.proofs.Common.{[], take}
use Rattle.ln_syntax.specs.Raw.{items}
use Rattle.ln_names.specs.Nodes.{ArePairedBy, BodyIs}
use Rattle.ln_names.specs.Visits.{item_visits}
use Rattle.ln_names.proofs.Walking.{Left}
use Rattle.ln_names.proofs.walk.file_nodes.Given as goal

abbrev pub invariant-loop-i : goal.invariant-loop-i
invariant-loop-i l = Left l.bytes (item_visits l.ts) (items l.its) l.i × ArePairedBy (BodyIs l.bytes l.ts) [] (take l.i (items l.its)) l.bodies
