-- Answers to the goals of `put_block_head` in src/write.rt.
use Rattle.std.proofs.lemmas.Result.{IfOk-weaker}
use Rattle.ln_cert.proofs.Writing.Programmed.{head_wrote}
use Rattle.ln_cert.proofs.write.put_block_head.Goals as goal

pub returns-clause-wrote : goal.returns-clause-wrote
returns-clause-wrote c = IfOk-weaker c.put_block.result _ _ (λ _ p. head_wrote c.args.out.now.items c.put_block.new.out.items c.args.n c.pairs.result.now
    c.args.exps.now c.requires.number c.pairs.ensures.rising c.requires.of_vars c.pairs.ensures.value p) c.put_block.ensures

pub returns-clause-rising : goal.returns-clause-rising
returns-clause-rising c = IfOk-weaker c.put_block.result _ _ (λ _ _. c.pairs.ensures.rising) c.put_block.ensures
