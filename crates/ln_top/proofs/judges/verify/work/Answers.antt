-- Answers to the goals of `work` in src/judges/verify.rt.
use Rattle.ln_top.proofs.JudgesLemmas.VerifyLaws.{valid_carried, fault_carried}
use Rattle.ln_top.proofs.judges.verify.work.Goals as goal

pub returns-in_default : goal.returns-in_default
returns-in_default g c =
    λ given s. valid_carried given _ _ _ _ _ c.in_default.not-Some (c.in_ok-fault.ensures given s) c.put_text.ensures

pub returns : goal.returns
returns g c =
    λ given s. fault_carried given _ _ _ _ _ _ _ c.in-Some.is (c.in_ok-fault.ensures given s) c.in_ok-text.ensures
    (rw c.deref.ensures.value at c.put_text-2.ensures)
