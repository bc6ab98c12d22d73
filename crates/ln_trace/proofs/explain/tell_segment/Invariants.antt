use Rattle.std.proofs.Common.{ℕ, List, ◌++◌, drop}
use Rattle.ln_code.specs.Memory.{MadeFor}
use Rattle.ln_code.specs.RowOf.{row_of}
use Rattle.ln_trace.specs.Explain.{TellOn}
use Rattle.ln_trace.proofs.explain.tell_segment.Given as goal

abbrev pub invariant-numbers : goal.invariant-numbers
invariant-numbers l = record {
  made : MadeFor l.p l.s;
  on : (rest : List ℕ)
      → TellOn l.p (row_of l.p.shape.sites l.p.shape.vars l.r).values (l.segment ++ rest) (drop l.number-index l.segment ++ rest) l.fn.out.items l.out.items;
}
