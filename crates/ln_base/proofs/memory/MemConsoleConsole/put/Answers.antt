use Rattle.std.proofs.Common.{inr, refl, sym, ◌∙◌, true≢false}
use Rattle.ln_base.proofs.Kept.{some_taken, through}
use Rattle.ln_base.proofs.memory.MemConsoleConsole.put.Goals as goal

pub returns-then-is_refused-clause-exact : goal.returns-then-is_refused-clause-exact
returns-then-is_refused-clause-exact c =
    let why = through (rw c.deref.ensures.value at c.is_listed-listed.ensures.listed)
    (rw (c.saturating_sub-left.ensures, c.bytes.ensures, ← c.self.view_is) at c.is_refused.ensures) in
    rw (← c.self.view_is) (λ e. why.0 c.if-is_refused.true, λ h. refl)

pub returns-clause-exact : goal.returns-clause-exact
returns-clause-exact c =
    let why = through (rw c.deref.ensures.value at c.is_listed-listed.ensures.listed)
    (rw (c.saturating_sub-left.ensures, c.bytes.ensures, ← c.self.view_is) at c.is_refused.ensures) in
    rw (← c.self.view_is, c.add.ensures.counts.0) (λ e. why.0 (c.if-is_refused.false ∙ e), λ h. sym c.if-is_refused.false ∙ why.1 h)

pub returns-then-is_refused-clause-bound : goal.returns-then-is_refused-clause-bound
returns-then-is_refused-clause-bound c = tt

pub returns-then-is_refused-clause-some : goal.returns-then-is_refused-clause-some
returns-then-is_refused-clause-some c = tt

pub returns-then-is_refused-clause-ok : goal.returns-then-is_refused-clause-ok
returns-then-is_refused-clause-ok c = tt

pub returns-then-is_refused-clause-fine : goal.returns-then-is_refused-clause-fine
returns-then-is_refused-clause-fine c = tt

pub returns-then-is_refused-clause-taken : goal.returns-then-is_refused-clause-taken
returns-then-is_refused-clause-taken c = tt

pub returns-then-is_refused-clause-err : goal.returns-then-is_refused-clause-err
returns-then-is_refused-clause-err c = rw (← c.self.view_is) refl

pub returns-then-is_refused-clause-limits : goal.returns-then-is_refused-clause-limits
returns-then-is_refused-clause-limits c = rw (← c.self.view_is) (refl, refl, refl)

pub returns-then-is_refused-clause-calls : goal.returns-then-is_refused-clause-calls
returns-then-is_refused-clause-calls c = rw (← c.self.view_is) c.is_listed-listed.ensures.calls

pub returns-clause-err : goal.returns-clause-err
returns-clause-err c = tt

pub returns-clause-cause : goal.returns-clause-cause
returns-clause-cause c = tt

pub returns-clause-step : goal.returns-clause-step
returns-clause-step c = tt

pub returns-clause-some : goal.returns-clause-some
returns-clause-some c h =
    some_taken _ _ _ _ _ c.min.ensures c.min-n.ensures c.self.invariant.2 h
    (λ e. true≢false (sym (c.is_refused.ensures.1 (inr (h, e))) ∙ c.if-is_refused.false))
