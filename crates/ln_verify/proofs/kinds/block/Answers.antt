-- Answers to the goals of `block` in src/kinds.rt.
use Rattle.std.proofs.Common.{◌∙◌, List, subst, ◌≡◌, ◌++◌, ◌∷◌, [], ap, sym}
use Rattle.std.specs.Prelude.{MatchOption, Option}
use Rattle.ln_tree.specs.declared.shape.VarInfo.{VarInfo}
use Rattle.ln_tree.specs.Exps.{IsRising, Pairs}
use Rattle.ln_code.specs.Kept.{AreOfSites}
use Rattle.ln_verify.specs.Here.{subject_of}
use Rattle.ln_verify.specs.Rules.{in_range}
use Rattle.ln_verify.specs.Values.{IsFor}
use Rattle.ln_verify.proofs.Engines.AtSpots.{block-refused, opened}
use Rattle.ln_verify.proofs.Engines.Steps.{empty-state}
use Rattle.ln_verify.proofs.Values.Ranges.{not-true}
use Rattle.ln_verify.proofs.kinds.block.Goals as goal

pub returns-then-k-len : goal.returns-then-k-len
returns-then-k-len c v =
    block-refused v (subject_of c.args.case.now) c.args.state.now c.args.k c.args.a.now (λ l o r. c.if-k-len.true (l ∙ sym c.len.ensures))

pub returns-then-not-are_of_sites : goal.returns-then-not-are_of_sites
returns-then-not-are_of_sites c v =
    block-refused v (subject_of c.args.case.now) c.args.state.now c.args.k c.args.a.now
    (λ l o r. not-true _ (sym c.if-not-are_of_sites.true
    ∙ c.are_of_sites.ensures.1 (subst (λ (vs : List VarInfo). AreOfSites vs c.args.a.now) (sym c.as_slice.ensures) o)))

pub returns-in_default : goal.returns-in_default
returns-in_default c v =
    let none = rw c.in_default.is at c.in_ok-e.ensures in
    block-refused v (subject_of c.args.case.now) c.args.state.now c.args.k c.args.a.now (λ l o r. none r)

pub returns : goal.returns
returns c v =
    let m : (c.in-Some.e ≡ c.args.a.now) × IsRising c.args.a.now =
    subst (λ (o : Option Pairs). MatchOption o (IsRising c.args.a.now → ⊥) (λ e. (e ≡ c.args.a.now) × IsRising c.args.a.now)) c.in-Some.is c.in_ok-e.ensures in
    opened v (subject_of c.args.case.now) c.args.state.now c.args.k c.args.a.now c.push.new.self c.in_ok-state.field-0
    (c.if-k-len.false ∙ c.len.ensures)
    (subst (λ (vs : List VarInfo). AreOfSites vs c.args.a.now) c.as_slice.ensures (c.are_of_sites.ensures.0 c.if-not-are_of_sites.false)) m.1
    (c.in_ok-push.ensures.ok ∙ ap (λ (e : Pairs). c.args.state.now.exps ++ e ∷ []) m.0)
    (λ n. empty-state (IsFor in_range n) c.in_ok-state.field-0.values.items c.in_ok-state.field-0.locals.items
    c.in_ok-state.ensures.values c.in_ok-state.ensures.locals)
