use Rattle.std.proofs.Common.{map}
use Rattle.ln_bound.specs.View.{typed}
use Rattle.ln_lower.proofs.Subtrees.Numbering.{stand_behind}
use Rattle.ln_lower.proofs.blocks.written.Goals as goal

pub drafted-requires-clause-stand : goal.drafted-requires-clause-stand
drafted-requires-clause-stand c = rw (c.place.ensures, c.as_slice.ensures)
    (stand_behind _ _ _ (map typed c.args.lets.now) c.in_ok-k.k (typed c.args.t.now) c.in_ok-k.ensures c.in_ok-numbers.ensures)
