use Rattle.std.proofs.Common.{length, map}
use Rattle.ln_csyn.specs.View.{fun_tree}
use Rattle.ln_cmean.specs.Room.{MadeFor}
use Rattle.ln_cmean.proofs.Carrying.CallLaws.{AreCalls, Written}
use Rattle.ln_cmean.proofs.program.meaning.lines.Given as goal

abbrev pub invariant-lines : goal.invariant-lines
invariant-lines l = record {
  made : MadeFor (map fun_tree l.file.funs) l.scratch;
  written : Written (map fun_tree l.file.funs) l.calls l.out.items l.rest;
  calls : AreCalls l.calls l.n l.rest;
}

abbrev pub decreases-lines : goal.decreases-lines
decreases-lines l = length l.rest
