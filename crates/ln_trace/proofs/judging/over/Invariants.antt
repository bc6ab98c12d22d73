-- In the loop of `over` the lines so far lead to the place that the state of the judge stands for, and the other lines are left.
use Rattle.std.proofs.Common.{List}
use Rattle.ln_algebra.specs.Tree.{Tree}
use Rattle.ln_base.proofs.Forms.Judging.{Midway}
use Rattle.ln_trace.specs.declared.line.TraceLine.{TraceLine}
use Rattle.ln_trace.specs.Here.{HasPoly, Holds, IsHere, subject_of}
use Rattle.ln_trace.specs.Judge.{judge_of}
use Rattle.ln_trace.specs.Trace.{Between}
use Rattle.ln_trace.proofs.judging.over.Given as goal

abbrev pub invariant-lines : goal.invariant-lines
invariant-lines g l = record {
  holds : Holds l.grounds.pred.now.shape l.grounds.stages.now l.state;
  midway : (e : Tree) (ls : List TraceLine) → HasPoly l.grounds.pred.now.shape e l.grounds.poly.now → g.S.Source.left l.initial.source ls
      → Midway (judge_of (subject_of l.grounds.pred.now.shape e)) (Between 0 l.initial.rows) (λ (xs : List TraceLine). xs)
      (IsHere l.grounds.pred.now.shape e l.grounds.stages.now l.rows l.state) (g.S.Source.left l.source) ls (g.S.Source.next l.source);
}

abbrev pub decreases-lines : goal.decreases-lines
decreases-lines g l = g.S.Source.size l.source
