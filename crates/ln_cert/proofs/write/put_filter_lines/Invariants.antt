-- The loop of `put_filter_lines` in src/write.rt.
use Rattle.ln_cert.specs.Written.{filter_line}
use Rattle.ln_cert.proofs.Writing.Wrote.{LinesLeft}
use Rattle.ln_cert.proofs.write.put_filter_lines.Given as goal

abbrev pub invariant-ops : goal.invariant-ops
invariant-ops l = LinesLeft filter_line l.fn.out.items l.out.items l.ops l.triples l.i
