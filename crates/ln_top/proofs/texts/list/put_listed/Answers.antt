-- Answers to the goals of `put_listed` in src/texts/list.rt.
use Rattle.ln_top.proofs.TextsLemmas.ListLaws.{more, then_both}
use Rattle.ln_top.proofs.texts.list.put_listed.Goals as goal

pub returns : goal.returns
returns c =
    then_both c.put_program.result _ _ _ (λ x h l. more c.args.source.now.table.preds c.args.i c.in_ok-program.program
    c.args.text.now.items c.put_program.new.out.items c.requires c.in_ok-program.ensures.program c.blocks-blocks.ensures.kept l h)
    c.put_program.ensures.ok c.put_program.ensures.listable
