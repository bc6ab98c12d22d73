use Rattle.std.proofs.lemmas.Slice.Zip.{all_zipped_more}
use Rattle.ln_top.specs.Target.Factors.{IsMadeOf}
use Rattle.ln_top.proofs.TargetLemmas.FactorsLaws.{new_made, new_name}
use Rattle.ln_top.proofs.target.factors.add.Goals as goal

pub push-requires-clause-name : goal.push-requires-clause-name
push-requires-clause-name c =
    new_name c.args.c.now.table c.args.numbers.now.items c.args.programs.now c.args.i c.in_ok-program.program c.requires.made
    c.requires.new
    (new_made c.args.c.now.table.preds c.args.i _ c.requires.within c.in_ok-program.ensures.program c.blocks-blocks.ensures.kept)

pub returns-clause-made : goal.returns-clause-made
returns-clause-made c =
    rw (c.in_ok-push-2.ensures.items, c.in_ok-push.ensures.ok) (all_zipped_more (IsMadeOf _) c.args.numbers.now.items c.args.programs.now c.args.i
    c.in_ok-program.program c.requires.made
    (new_made c.args.c.now.table.preds c.args.i _ c.requires.within c.in_ok-program.ensures.program c.blocks-blocks.ensures.kept))
