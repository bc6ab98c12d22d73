-- Answers to the goals of `put_blocks` in src/file.rt.
use Rattle.std.proofs.Common.{arith}
use Rattle.ln_cemit.proofs.Writing.Loops.{blocks_done, blocks_next}
use Rattle.ln_cemit.proofs.file.put_blocks.Goals as goal

pub all-preserved : goal.all-preserved
all-preserved c = blocks_next c.args.name.now c.args.blocks.now c.all.number c.index-blocks-number.result _
    (omega arith) c.index-blocks-number.is c.all.invariant c.in_ok-put_numbered_block.ensures

pub returns : goal.returns
returns c = blocks_done c.args.name.now c.args.blocks.now c.all.number (omega arith) c.all.invariant
