use Rattle.std.proofs.lemmas.Result.{IfOk-weaker}
use Rattle.ln_trial_bounds.proofs.sources.poly_of.Goals as goal
use Rattle.ln_trial_bounds.proofs.sources.poly_of.Goals.{in-Ok, in-Err}

pub returns : goal.returns
returns c = elim c.match-weigh.branch [
  | in-Ok w ↦ rw w.result-is (IfOk-weaker w.normal.result _ _ (λ f p. p.below) w.normal.ensures.normal)
  | in-Err w ↦ rw w.result-is tt
]
