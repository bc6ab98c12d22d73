use Rattle.std.proofs.Common.{◌≡◌, true, false, arith, rules}
use Rattle.ln_stage.proofs.Testing.Variables.{above_missing, above_none, above_there}
use Rattle.ln_stage.proofs.symmetry.has_above.Goals as goal

pub returns-then-not-is_of_site : goal.returns-then-not-is_of_site
returns-then-not-is_of_site c =
    let q : c.is_of_site.result ≡ false = search rules in
    above_none c.args.vars.now c.args.j c.args.d c.args.v c.is_of_site.result c.is_of_site.ensures q

pub returns-then-not-is_of_site-2 : goal.returns-then-not-is_of_site-2
returns-then-not-is_of_site-2 c =
    let q : c.is_of_site.result ≡ true = search rules in
    let r : c.is_of_site-2.result ≡ false = search rules in
    above_missing c.args.vars.now c.args.j c.args.d c.args.v _ c.is_of_site.result c.is_of_site-2.result (omega arith) c.is_of_site.ensures q
    c.is_of_site-2.ensures r

pub returns : goal.returns
returns c =
    let q : c.is_of_site.result ≡ true = search rules in
    let r : c.is_of_site-2.result ≡ true = search rules in
    above_there c.args.vars.now c.args.j c.args.d c.args.v _ c.is_of_site.result c.is_of_site-2.result c.same_range.result c.range_at.result
    c.range_at-2.result (omega arith) c.is_of_site.ensures q c.is_of_site-2.ensures r c.range_at.ensures c.range_at-2.ensures c.same_range.ensures
