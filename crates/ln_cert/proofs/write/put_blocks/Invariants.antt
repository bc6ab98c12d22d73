-- The loop of `put_blocks` in src/write.rt.
use Rattle.std.proofs.Common.{drop}
use Rattle.ln_cert.specs.Written.{AreListableBlocks, blocks_lines}
use Rattle.ln_cert.proofs.Writing.Wrote.{Left}
use Rattle.ln_cert.proofs.write.put_blocks.Given as goal

abbrev pub invariant-numbered : goal.invariant-numbered
invariant-numbered l =
    Left l.fn.out.items l.out.items (blocks_lines l.i (drop l.i l.blocks)) (blocks_lines 0 l.blocks)
    × (AreListableBlocks (drop l.i l.blocks) → AreListableBlocks l.blocks)
