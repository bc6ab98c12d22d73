-- Answers to the goals of `put_written` in src/texts/written.rt.
use Rattle.std.proofs.lemmas.Result.{IfOk-weaker}
use Rattle.ln_top.proofs.TextsLemmas.WrittenLaws.{more}
use Rattle.ln_top.proofs.texts.written.put_written.Goals as goal

pub returns : goal.returns
returns c =
    IfOk-weaker c.put_program_as-done.result _ _ (λ x h. more c.args.style c.args.source.now.table.preds c.args.i
    (record { entry = c.entry_in-entry.result; part = c.in_ok-program.program }) c.args.text.now.items c.put_program_as-done.new.out.items c.requires
    c.entry_in-entry.ensures c.in_ok-program.ensures h) c.put_program_as-done.ensures.ok
