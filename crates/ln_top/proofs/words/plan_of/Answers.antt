use Rattle.std.proofs.Common.{string_bytes}
use Rattle.ln_top.proofs.Steps.WordsLaws.{plan_short}
use Rattle.ln_top.proofs.words.plan_of.Goals as goal

pub returns-in_default-clause-is : goal.returns-in_default-clause-is
returns-in_default-clause-is c = plan_short string_bytes c.args.words.now c.in_default.len_below
