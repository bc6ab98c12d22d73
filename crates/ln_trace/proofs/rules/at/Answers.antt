-- Answers to the goals of `at` in src/rules.rt.
use Rattle.std.proofs.Common.{FitsSigned, List, rules, subst, sym}
use Rattle.std.proofs.lemmas.Int.{to_z-of_z}
use mir.Syntax.{w128}
use Rattle.ln_code.specs.Kept.{AreOfSites}
use Rattle.ln_tree.specs.declared.shape.VarInfo.{VarInfo}
use Rattle.ln_trace.proofs.Premises.{was-read}
use Rattle.ln_trace.proofs.Steps.{at-of, at-outside, at-unread}
use Rattle.ln_trace.proofs.rules.at.Goals as goal

pub returns-then-not-state : goal.returns-then-not-state
returns-then-not-state c = λ rows. at-outside _ _ _ rows c.args.state.now c.args.a.now c.args.z rows _ c.if-not-state.true

pub returns-in_default : goal.returns-in_default
returns-in_default c =
    let none = rw c.in_default.is at c.in_ok-e.ensures in
    λ rows. at-unread _ _ _ rows c.args.state.now c.args.a.now c.args.z rows _
    (λ r o. none r (subst (λ (vs : List VarInfo). AreOfSites vs c.args.a.now) (sym c.as_slice.ensures) o))

pub stands-ok-requires-clause-at : goal.stands-ok-requires-clause-at
stands-ok-requires-clause-at c = c.requires.holds c.if-not-state.false

pub stands-ok-requires-clause-rising : goal.stands-ok-requires-clause-rising
stands-ok-requires-clause-rising c =
    (was-read c.as_slice.result.now c.args.grounds.now.pred.now.shape.vars c.args.a.now c.in-Some.e _ c.as_slice.ensures c.in-Some.is c.in_ok-e.ensures).rising

pub stands-ok-requires-clause-of_sites : goal.stands-ok-requires-clause-of_sites
stands-ok-requires-clause-of_sites c =
    (was-read c.as_slice.result.now c.args.grounds.now.pred.now.shape.vars c.args.a.now c.in-Some.e _ c.as_slice.ensures c.in-Some.is c.in_ok-e.ensures).sites

pub returns : goal.returns
returns c =
    let fits : FitsSigned w128 c.args.z = search rules in
    λ rows. at-of _ _ _ rows c.args.state.now c.args.a.now c.in-Some.e _ c.args.z c.stands-ok.result c.stands-ok.new.state
    (was-read c.as_slice.result.now c.args.grounds.now.pred.now.shape.vars c.args.a.now c.in-Some.e _ c.as_slice.ensures c.in-Some.is c.in_ok-e.ensures).same
    (to_z-of_z w128 c.args.z fits) (c.stands-ok.ensures rows)
