use Rattle.ln_top.proofs.SignsLemmas.MadeLemmas.{Filled}
use Rattle.ln_top.proofs.signs.gen_row.fill.Given as goal

abbrev pub invariant-vars : goal.invariant-vars
invariant-vars l =
    Filled (record { number = l.n; vars = l.vars; first = l.initial.g })
    (record { v = l.v; site = l.site; from = l.g; index = l.row.index; value = l.row.values })
