-- Answers to the goals of `put_filter_lines` in src/write.rt.
use Rattle.std.proofs.Common.{arith}
use Rattle.ln_cert.specs.Written.{InFilter, filter_line}
use Rattle.ln_cert.proofs.Writing.Wrote.{each_at, more_lines, no_lines}
use Rattle.ln_cert.proofs.write.put_filter_lines.Goals as goal

pub ops-init : goal.ops-init
ops-init c = λ d w. w

pub put_filter_line-requires : goal.put_filter_line-requires
put_filter_line-requires c = each_at InFilter c.args.ops.now c.args.triples.now c.ops.i _ _ c.ops-test.true (omega arith) c.requires.rules

pub ops-preserved : goal.ops-preserved
ops-preserved c = more_lines filter_line c.args.out.now.items c.ops.out.items c.put_filter_line.new.out.items c.args.ops.now c.args.triples.now
    c.ops.i c.ops.invariant
    (record { op = _; bound = _; op_there = c.ops-test.true; bound_there = omega arith; wrote = c.in_ok-put_filter_line.ensures })

pub returns : goal.returns
returns c = no_lines filter_line c.args.out.now.items c.ops.out.items c.args.ops.now c.args.triples.now c.ops.i (omega arith) c.ops.invariant
