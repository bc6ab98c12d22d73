-- Answers to the goals of `order` in src/kinds.rt.
use Rattle.std.proofs.Common.{arith, sym, ◌∙◌, subst, List, length}
use Rattle.std.proofs.lemmas.Option.{slice_get_within}
use Rattle.ln_order.specs.Orders.{orders_of}
use Rattle.ln_tree.specs.Exps.{Pairs}
use Rattle.ln_verify.specs.Line.{IsNextList}
use Rattle.ln_verify.specs.Here.{AreAbove, subject_of}
use Rattle.ln_verify.proofs.Engines.AtSpots.{order-not, ordered}
use Rattle.ln_verify.proofs.Judging.Places.{case-orders}
use Rattle.ln_verify.proofs.Values.Ranges.{not-true}
use Rattle.ln_verify.proofs.kinds.order.Goals as goal

pub returns-then-state-len : goal.returns-then-state-len
returns-then-state-len c v =
    let p = subject_of c.args.case.now in
    let o = case-orders c.args.case.now c.requires in
    order-not v p c.args.state.now c.args.places.now c.args.list.now
    (λ a h.
    let w = slice_get_within (orders_of p.sites) c.args.state.now.lists c.args.places.now h.order in
    omega (arith, w, o, c.len.ensures, c.if-state-len.true))

pub returns-then-not-branch : goal.returns-then-not-branch
returns-then-not-branch c v =
    let p = subject_of c.args.case.now in
    order-not v p c.args.state.now c.args.places.now c.args.list.now
    (λ a h. not-true _ (sym c.if-not-branch.true ∙ (c.in_ok-is_next.ensures (subst (AreAbove (length p.vars)) (sym c.as_slice.ensures) a)).1
    (subst (λ (es : List Pairs). IsNextList p es c.args.state.now.lists c.args.places.now c.args.list.now) (sym c.as_slice.ensures) h)))

pub returns : goal.returns
returns c v =
    let p = subject_of c.args.case.now in
    ordered v p c.args.state.now c.args.places.now c.args.list.now
    (λ a. subst (λ (es : List Pairs). IsNextList p es c.args.state.now.lists c.args.places.now c.args.list.now) c.as_slice.ensures
    ((c.in_ok-is_next.ensures (subst (AreAbove (length p.vars)) (sym c.as_slice.ensures) a)).0 c.if-not-branch.false))
