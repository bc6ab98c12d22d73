-- Answers to the goals of `filter` in src/kinds.rt.
use Rattle.ln_verify.proofs.Engines.AtSpots.{named-filter}
use Rattle.ln_verify.proofs.Engines.Steps.{empty-state}
use Rattle.ln_verify.specs.Rules.{in_triple}
use Rattle.ln_verify.specs.Values.{IsFor}
use Rattle.ln_verify.proofs.kinds.filter.Goals as goal

pub returns : goal.returns
returns c v p = named-filter v p c.args.state.now c.in_ok-state.field-0
    (λ n. empty-state (IsFor in_triple n) c.in_ok-state.field-0.values.items c.in_ok-state.field-0.locals.items
    c.in_ok-state.ensures.values c.in_ok-state.ensures.locals)
