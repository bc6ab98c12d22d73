-- Answers to the goals of `put_blocks` in src/write.rt.
use Rattle.std.proofs.Common.{arith}
use Rattle.ln_cert.proofs.Writing.Programmed.{all_listable, block_at, more_blocks, more_listable, no_blocks}
use Rattle.ln_cert.proofs.write.put_blocks.Goals as goal

pub numbered-init : goal.numbered-init
numbered-init c = (λ d w. w, λ h. h)

pub put_block_lines-requires-clause-rules : goal.put_block_lines-requires-clause-rules
put_block_lines-requires-clause-rules c =
    block_at c.args.blocks.now c.numbered.i c.index-blocks-i.result c.numbered-test.true c.index-blocks-i.is c.requires.rules

pub numbered-preserved : goal.numbered-preserved
numbered-preserved c = (
  more_blocks c.args.out.now.items c.numbered.out.items c.put_block_lines.new.out.items c.args.blocks.now c.numbered.i
      c.index-blocks-i.result c.numbered-test.true c.index-blocks-i.is c.numbered.invariant.0 c.in_ok-put_block_lines.ensures.wrote,
  more_listable c.args.blocks.now c.numbered.i c.index-blocks-i.result c.numbered-test.true c.index-blocks-i.is c.numbered.invariant.1
      c.in_ok-put_block_lines.ensures.listable,
)

pub returns-clause-wrote : goal.returns-clause-wrote
returns-clause-wrote c = no_blocks c.args.out.now.items c.numbered.out.items c.args.blocks.now c.numbered.i (omega arith) c.numbered.invariant.0

pub returns-clause-listable : goal.returns-clause-listable
returns-clause-listable c = all_listable c.args.blocks.now c.numbered.i (omega arith) c.numbered.invariant.1
