use Rattle.std.proofs.lemmas.Result.{IfOk-weaker}
use Rattle.ln_trace.proofs.Walking.{judged-answer, judged-count, judged-signs}
use Rattle.ln_trace.proofs.judging.judge_lines.Goals as goal

pub returns-clause-answer : goal.returns-clause-answer
returns-clause-answer c = IfOk-weaker c.judged.result _ _ (λ j h e ls p l. judged-answer _ _ ls _ (h e ls p l)) c.judged.ensures

pub returns-clause-count : goal.returns-clause-count
returns-clause-count c = IfOk-weaker c.judged.result _ _ (λ j h e ls n p l. judged-count _ _ ls _ n (h e ls p l)) c.judged.ensures

pub returns-clause-signs : goal.returns-clause-signs
returns-clause-signs c = IfOk-weaker c.judged.result _ _
    (λ j h e ls n p l. judged-signs c.args.p.now.shape e c.args.f.now _ ls _ n p (h e ls p l)) c.judged.ensures
