-- The loop of `put_range_lines` in src/write.rt.
use Rattle.std.proofs.Common.{map}
use Rattle.ln_interval.specs.View.{range}
use Rattle.ln_cert.specs.Written.{range_line}
use Rattle.ln_cert.proofs.Writing.Wrote.{LinesLeft}
use Rattle.ln_cert.proofs.write.put_range_lines.Given as goal

abbrev pub invariant-ops : goal.invariant-ops
invariant-ops l = LinesLeft range_line l.fn.out.items l.out.items l.ops (map range l.pairs) l.i
