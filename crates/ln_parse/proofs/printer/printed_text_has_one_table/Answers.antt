use Rattle.std.proofs.Common.{ap, ◌∙◌}
use Rattle.ln_parse.specs.Spanless.{table_spanless}
use Rattle.ln_parse.proofs.Settling.OneAnswer.{one_table}
use Rattle.ln_parse.proofs.printer.printed_text_has_one_table.Goals as goal

pub returns : goal.returns
returns c bytes t u a b = ap table_spanless (one_table bytes u a.table b a.text) ∙ a.same
