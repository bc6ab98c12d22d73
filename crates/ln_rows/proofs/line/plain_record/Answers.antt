use Rattle.std.proofs.Common.{take, refl}
use Rattle.ln_rows.specs.Line.{fields_in}
use Rattle.ln_rows.proofs.Records.LineLemmas.{record_gives}
use Rattle.ln_rows.proofs.line.plain_record.Goals as goal

pub returns-in_ok-split-in-Some : goal.returns-in_ok-split-in-Some
returns-in_ok-split-in-Some c = (
  fields_in (take c.line_length-size.result c.args.text.now),
  record_gives _ _ _ _ refl c.line_length-size.ensures.within c.if-size-eq0.false c.line_length-size.ensures.all c.in-Some.ensures,
  c.in_ok-split-in-Some.ensures,
)
