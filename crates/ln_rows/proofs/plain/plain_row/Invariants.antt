use Rattle.ln_rows.proofs.Fields.PlainRowLemmas.{Reading}
use Rattle.ln_rows.proofs.plain.plain_row.Given as goal

abbrev pub invariant-vars : goal.invariant-vars
invariant-vars l = Reading l.vars l.text l.initial.into.index l.initial.into.values l.v l.site l.rest l.into.index l.into.values
