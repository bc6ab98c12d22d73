-- Answers to the goals of `put_range_lines` in src/write.rt.
use Rattle.std.proofs.Common.{arith, map}
use Rattle.ln_interval.specs.View.{range}
use Rattle.ln_cert.specs.Written.{range_line}
use Rattle.ln_cert.proofs.Writing.Wrote.{more_lines, no_lines, range_at, range_wrote}
use Rattle.ln_cert.proofs.write.put_range_lines.Goals as goal

pub ops-init : goal.ops-init
ops-init c = λ d w. w

pub put_range_line-requires : goal.put_range_line-requires
put_range_line-requires c =
    range_at c.args.ops.now c.args.pairs.now c.ops.i _ c.index-pairs-i.result c.ops-test.true (omega arith) c.index-pairs-i.is c.requires.rules

pub ops-preserved : goal.ops-preserved
ops-preserved c = more_lines range_line c.args.out.now.items c.ops.out.items c.put_range_line.new.out.items c.args.ops.now
    (map range c.args.pairs.now) c.ops.i c.ops.invariant
    (range_wrote c.ops.out.items c.put_range_line.new.out.items c.args.ops.now c.args.pairs.now c.ops.i _ c.index-pairs-i.result c.ops-test.true
    (omega arith) c.index-pairs-i.is c.in_ok-put_range_line.ensures)

pub returns : goal.returns
returns c = no_lines range_line c.args.out.now.items c.ops.out.items c.args.ops.now (map range c.args.pairs.now) c.ops.i (omega arith) c.ops.invariant
