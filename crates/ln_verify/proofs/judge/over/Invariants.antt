-- States the invariant of the loop of `over`, that the lines so far lead to a place that the judge's state stands for, and why it ends.
use Rattle.std.proofs.Common.{List, []}
use Rattle.ln_base.proofs.Forms.Judging.{Midway}
use Rattle.ln_cert.specs.declared.part.Entry.{Entry}
use Rattle.ln_cert.specs.Listing.{parts_of}
use Rattle.ln_verify.specs.Here.{IsHere, subjects_of}
use Rattle.ln_verify.specs.Judge.{judge_of}
use Rattle.ln_verify.specs.Line.{Outside}
use Rattle.ln_verify.specs.Versions.{version_of}
use Rattle.ln_verify.proofs.judge.over.Given as goal

abbrev pub invariant-lines : goal.invariant-lines
invariant-lines g l = (es : List Entry) → g.S.Source.left l.initial.source es
    → Midway (judge_of (version_of l.version) (subjects_of l.cases)) (Outside []) parts_of
    (IsHere (subjects_of l.cases) l.state) (g.S.Source.left l.source) es (g.S.Source.next l.source)

abbrev pub decreases-lines : goal.decreases-lines
decreases-lines g l = g.S.Source.size l.source
