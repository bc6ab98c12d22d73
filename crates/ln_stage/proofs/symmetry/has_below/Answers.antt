use Rattle.std.proofs.Common.{◌≡◌, true, false, arith, rules}
use Rattle.ln_stage.proofs.Testing.Variables.{below_none, below_short, below_there}
use Rattle.ln_stage.proofs.symmetry.has_below.Goals as goal

pub returns-then-not-is_of_site : goal.returns-then-not-is_of_site
returns-then-not-is_of_site c =
    let q : c.is_of_site.result ≡ false = search rules in
    below_none c.args.vars.now c.args.j c.args.d c.args.v _ c.is_of_site.result (omega arith) c.is_of_site.ensures q

pub returns-then-v-d : goal.returns-then-v-d
returns-then-v-d c =
    let q : c.is_of_site.result ≡ true = search rules in
    below_short c.args.vars.now c.args.j c.args.d c.args.v _ c.is_of_site.result (omega arith) c.is_of_site.ensures q (search rules)

pub returns : goal.returns
returns c =
    let q : c.is_of_site.result ≡ true = search rules in
    below_there c.args.vars.now c.args.j c.args.d c.args.v _ c.is_of_site.result c.is_of_site-2.result (omega arith) c.is_of_site.ensures q (search rules)
    c.is_of_site-2.ensures
