use Rattle.std.proofs.Common.{sym, ◌∙◌, true≢false}
use Rattle.ln_trace.proofs.Premises.{case-numbers, size-staged}
use Rattle.ln_trace.proofs.Steps.{sign-goes, sign-outside, sign-too-soon, sign-unsaid}
use Rattle.ln_trace.proofs.rules.sign.Goals as goal

pub returns-then-not-state : goal.returns-then-not-state
returns-then-not-state c = λ rows. sign-outside _ _ _ rows c.args.state.now c.args.t rows _ c.if-not-state.true

pub returns-then-not-is_said : goal.returns-then-not-is_said
returns-then-not-is_said c = λ rows. sign-unsaid _ _ _ rows c.args.state.now c.args.t rows _
    (λ h. true≢false (sym (sym c.if-not-is_said.true ∙ c.is_said.ensures.1 h)))

pub is_whole-requires-clause-order : goal.is_whole-requires-clause-order
is_whole-requires-clause-order c = size-staged _ _ _ c.args.state.now c.requires.case (c.requires.holds c.if-not-state.false)

pub is_whole-requires-clause-spot : goal.is_whole-requires-clause-spot
is_whole-requires-clause-spot c = (c.requires.holds c.if-not-state.false).spot

pub is_whole-requires-clause-numbers : goal.is_whole-requires-clause-numbers
is_whole-requires-clause-numbers c = case-numbers _ _ _ c.requires.case

pub returns-then-not-is_whole : goal.returns-then-not-is_whole
returns-then-not-is_whole c = λ rows. sign-too-soon _ _ _ rows c.args.state.now c.args.t rows _
    (c.requires.holds c.if-not-state.false) (λ h. true≢false (sym (sym c.if-not-is_whole.true ∙ c.is_whole.ensures.1 h)))

pub returns : goal.returns
returns c =
    let h = c.is_said.ensures.0 c.if-not-is_said.false in
    λ rows. sign-goes _ _ _ rows c.args.state.now c.args.t
    (c.requires.holds c.if-not-state.false) c.if-not-state.false h.0 h.1 (c.is_whole.ensures.0 c.if-not-is_whole.false)
