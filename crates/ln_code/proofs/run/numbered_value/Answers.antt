use Rattle.std.proofs.Common.{FitsSigned, rules}
use Rattle.std.proofs.lemmas.Int.{to_z-of_z}
use mir.Syntax.{w128}
use Rattle.ln_code.proofs.Verdicts.Calls.{the_block}
use Rattle.ln_code.proofs.run.numbered_value.Goals as goal

pub returns-clause-value : goal.returns-clause-value
returns-clause-value c =
    let f : FitsSigned w128 c.value_of.result = search rules in
    rw (to_z-of_z w128 c.value_of.result f) (the_block c.args.values.now c.args.p.now.blocks c.args.number c.index-blocks-number.result
    c.value_of.result c.requires.number (rw c.blocks-2.ensures.value at c.index-blocks-number.is) c.value_of.ensures.value)
