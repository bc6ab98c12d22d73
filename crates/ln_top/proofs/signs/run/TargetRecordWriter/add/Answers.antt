use Rattle.std.proofs.Common.{refl}
use Rattle.ln_top.proofs.signs.run.TargetRecordWriter.add.Goals as goal

pub returns-clause-line : goal.returns-clause-line
returns-clause-line c = λ fields r ps k. (
  _,
  record { said = _; says = c.in_ok-said.ensures.says fields r; shows = c.shown_of.ensures; is = refl },
  c.in_ok-said.ensures.line,
)
