use Rattle.std.proofs.Common.{take}
use Rattle.ln_due.specs.Blocks.{AreBlocksOf}
use Rattle.ln_due.proofs.maker.blocks_after.Given as goal

abbrev pub invariant-blocks-2 : goal.invariant-blocks-2
invariant-blocks-2 g l = AreBlocksOf (g.M.BlockMaker.makes l.s.vars l.f) l.s.vars l.f l.fn.first (take l.i l.exps) l.blocks
