use Rattle.ln_poly.proofs.Derivations.Deriving.{derived-light}
use Rattle.ln_trial_bounds.proofs.poly.is_derived.Goals as goal

pub derive-requires-clause-small : goal.derive-requires-clause-small
derive-requires-clause-small c = derived-light c.args.s.now.vars _ c.args.f.now c.requires.light
