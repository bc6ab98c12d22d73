-- Answers to the goals of `stands` in src/rules.rt.
use Rattle.std.proofs.Common.{FitsSigned, ap, false, rules, subst, sym, true, ◌∙◌}
use Rattle.std.proofs.lemmas.Int.{to_z-of_z}
use mir.Syntax.{w128}
use Rattle.ln_algebra.specs.Sign.{sign_of}
use Rattle.ln_tree.specs.Row.{AreWithin}
use Rattle.ln_order.specs.Places.{order_places}
use Rattle.ln_code.proofs.Exponents.{sites-above}
use Rattle.ln_trace.proofs.Premises.{case-above, case-numbers, size-at, size-staged}
use Rattle.ln_trace.proofs.Steps.{at-goes, at-refused, tests-of}
use Rattle.ln_trace.proofs.rules.stands.Goals as goal

pub is_next_at-requires-clause-sites : goal.is_next_at-requires-clause-sites
is_next_at-requires-clause-sites c = size-at _ _ _ c.requires.at

pub is_next_at-requires-clause-order : goal.is_next_at-requires-clause-order
is_next_at-requires-clause-order c = size-staged _ _ _ _ c.requires.case c.requires.at

pub is_next_at-requires-clause-spot : goal.is_next_at-requires-clause-spot
is_next_at-requires-clause-spot c = c.requires.at.spot

pub is_next_at-requires-clause-numbers : goal.is_next_at-requires-clause-numbers
is_next_at-requires-clause-numbers c = case-numbers _ _ _ c.requires.case

pub is_next_at-requires-clause-above : goal.is_next_at-requires-clause-above
is_next_at-requires-clause-above c = sites-above _ _ c.requires.of_sites

pub is_next_at-requires-clause-below : goal.is_next_at-requires-clause-below
is_next_at-requires-clause-below c = c.requires.case.below

pub is_next_at-requires-clause-light : goal.is_next_at-requires-clause-light
is_next_at-requires-clause-light c = c.requires.case.light

pub is_next_at-requires-clause-row : goal.is_next_at-requires-clause-row
is_next_at-requires-clause-row c = subst (AreWithin c.args.grounds.now.pred.now.shape.vars) (sym c.values_of-row.ensures) c.requires.at.range.values

pub returns-then-not-is_next_at : goal.returns-then-not-is_next_at
returns-then-not-is_next_at c =
    let fits : FitsSigned w128 c.args.z = search rules in
    λ rows. at-refused _ _ _ rows c.args.state.now c.args.a c.args.z rows _ c.requires.at c.requires.of_sites
    (tests-of c.args.grounds.now.pred.now.shape _ c.args.grounds.now.stages.now rows c.args.state.now c.is_next_at.result false c.args.a _
    c.args.z c.values_of-row.result.now _ c.if-not-is_next_at.true (to_z-of_z w128 c.args.z fits) c.values_of-row.ensures
    c.is_next_at.ensures)

pub passed-spot-requires-clause-sites : goal.passed-spot-requires-clause-sites
passed-spot-requires-clause-sites c = size-at _ _ _ c.requires.at

pub passed-spot-requires-clause-order : goal.passed-spot-requires-clause-order
passed-spot-requires-clause-order c = size-staged _ _ _ _ c.requires.case c.requires.at

pub passed-spot-requires-clause-spot : goal.passed-spot-requires-clause-spot
passed-spot-requires-clause-spot c = c.requires.at.spot

pub passed-spot-requires-clause-numbers : goal.passed-spot-requires-clause-numbers
passed-spot-requires-clause-numbers c = case-numbers _ _ _ c.requires.case

pub passed-spot-requires-clause-above : goal.passed-spot-requires-clause-above
passed-spot-requires-clause-above c = sites-above _ _ c.requires.of_sites

pub passed-spot-requires-clause-all : goal.passed-spot-requires-clause-all
passed-spot-requires-clause-all c = case-above _ _ _ c.requires.case (order_places c.args.state.now.order)

pub returns : goal.returns
returns c =
    let fits : FitsSigned w128 c.args.z = search rules in
    λ rows. at-goes _ _ _ rows c.args.state.now c.args.a c.args.z c.passed-spot.result
    c.stood.new.state.last.zero c.stood.new.state.sign c.stood.new.state c.requires.at c.requires.rising c.requires.of_sites
    (tests-of c.args.grounds.now.pred.now.shape _ c.args.grounds.now.stages.now rows c.args.state.now c.is_next_at.result true c.args.a _
    c.args.z c.values_of-row.result.now _ c.if-not-is_next_at.false (to_z-of_z w128 c.args.z fits) c.values_of-row.ensures
    c.is_next_at.ensures)
    c.passed-spot.ensures.spot c.passed-spot.ensures.left c.stood.ensures.zero
    (c.stood.ensures.sign ∙ ap sign_of (to_z-of_z w128 c.args.z fits)) c.requires.inside c.stood.ensures.held
