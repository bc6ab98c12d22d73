use Rattle.std.proofs.Common.{ap, arith, length, ◌∙◌}
use Rattle.std.proofs.lemmas.Result.{IfOk-weaker}
use Rattle.ln_trace.specs.Here.{subject_of}
use Rattle.ln_trace.proofs.Walking.{fault-answer, fault-signs, few-lines}
use Rattle.ln_trace.proofs.judging.judge.Goals as goal

pub of-lines-requires : goal.of-lines-requires
of-lines-requires c = omega (arith, ap length c.lines.ensures.value, few-lines c.args.t.now c.lines.ensures.kept)

pub returns-clause-answer : goal.returns-clause-answer
returns-clause-answer c = IfOk-weaker c.fault_of.result _ _ (λ o w e p. fault-answer (subject_of c.args.p.now.shape e) c.args.rows.now
    c.args.t.now w.0 o w.2 ((rw w.1 at c.judged.ensures) e c.args.t.now p (c.of-lines.ensures.lines ∙ c.lines.ensures.value))) c.fault_of.ensures

pub returns-clause-signs : goal.returns-clause-signs
returns-clause-signs c = IfOk-weaker c.fault_of.result _ _ (λ o w e p. fault-signs c.args.p.now.shape e c.args.f.now c.args.rows.now
    c.args.t.now w.0 o p w.2 ((rw w.1 at c.judged.ensures) e c.args.t.now p (c.of-lines.ensures.lines ∙ c.lines.ensures.value))) c.fault_of.ensures
