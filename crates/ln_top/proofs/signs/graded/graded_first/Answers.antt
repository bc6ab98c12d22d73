use Rattle.ln_top.proofs.SignsLemmas.GradedLaws.{first_few, first_kept}
use Rattle.ln_top.proofs.signs.graded.graded_first.Goals as goal

pub graded_program-requires : goal.graded_program-requires
graded_program-requires c = c.requires.within 0 0 c.in-len1-up.len_at_least

pub name_at-requires : goal.name_at-requires
name_at-requires c = c.requires.within 0 0 c.in-len1-up.len_at_least

pub returns-in-Ok-clause-kept : goal.returns-in-Ok-clause-kept
returns-in-Ok-clause-kept c = first_kept _ c.args.numbers.now _ c.in-Ok.ensures.program

pub returns-in-Ok-clause-few : goal.returns-in-Ok-clause-few
returns-in-Ok-clause-few c = λ preds a. first_few _ c.args.numbers.now preds c.in-len1-up.len_at_least c.in-Ok.ensures.program a
