-- Answers to the goals of `ends` in src/args.rt.
use Rattle.std.proofs.Common.{sym, ◌∙◌}
use Rattle.ln_base.specs.Lines.{words_from}
use Rattle.ln_cert.proofs.Writing.Wrote.{no_ends}
use Rattle.ln_cert.proofs.args.ends.Goals as goal

pub returns-else-takes_off-clause-none : goal.returns-else-takes_off-clause-none
returns-else-takes_off-clause-none c = no_ends c.args.verb (words_from c.args.at c.args.bytes.now) c.ends_at.result
    (sym c.takes_off.ensures ∙ c.if-takes_off.false) c.ends_at.ensures.none
