use Rattle.std.proofs.Common.{◌∙◌, sym, arith}
use Rattle.ln_names.specs.Visits.{coord_visits}
use Rattle.ln_names.proofs.Walking.{walked, stopped}
use Rattle.ln_names.proofs.walk.coords_fault.Goals as goal

pub returns-in-Some : goal.returns-in-Some
returns-in-Some c = sym (stopped c.args.bytes.now coord_visits c.args.coords.now c.loop-i.i _ c.in-Some.found
    (omega arith) c.loop-i.invariant (sym c.coord_fault.ensures ∙ c.in-Some.is))

pub loop-i-preserved : goal.loop-i-preserved
loop-i-preserved c =
    walked c.args.bytes.now coord_visits c.args.coords.now c.loop-i.i _ (omega arith) c.loop-i.invariant (sym c.coord_fault.ensures ∙ c.in_default.is)
