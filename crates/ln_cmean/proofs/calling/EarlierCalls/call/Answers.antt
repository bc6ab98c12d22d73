use Rattle.std.proofs.Common.{◌∙◌, sym, arith}
use Rattle.std.proofs.lemmas.Option.{slice_get-get_or}
use Rattle.ln_cmean.specs.Answered.{tally}
use Rattle.ln_cmean.proofs.Places.{called_none, called_first, need_at}
use Rattle.ln_cmean.proofs.calling.EarlierCalls.call.Goals as goal

pub call_one-requires : goal.call_one-requires
call_one-requires c =
    let fs = c.args.inputs.now.before.funs.now in
    let g = slice_get-get_or fs c.in-Some.at c.index-inputs-at.result c.in-Some.ensures.within in
    record { based = c.requires.based; fit = omega (arith, c.requires.fit, need_at fs c.in-Some.at _ g) }

pub returns-in-Some-clause-meaning : goal.returns-in-Some-clause-meaning
returns-in-Some-clause-meaning c =
    let fs = c.args.inputs.now.before.funs.now in
    let g = slice_get-get_or fs c.in-Some.at c.index-inputs-at.result c.in-Some.ensures.within in
    c.call_one.ensures.meaning
    ∙ sym (called_first fs c.in-Some.at _ c.args.inputs.now.values.now c.args.name.now (tally c.args.counts.now) g c.in-Some.ensures.some)

pub returns-in-None-clause-meaning : goal.returns-in-None-clause-meaning
returns-in-None-clause-meaning c =
    sym (called_none c.args.inputs.now.before.funs.now c.args.inputs.now.values.now c.args.name.now (tally c.args.counts.now) c.in-None.ensures.none)
