-- Answers to the goals of `is_next` in src/orders.rt.
use Rattle.std.proofs.Common.{◌≡◌, ◌∙◌, ◌↔◌, ℕ, List, arith, length, map, subst, sym, true, false, ◌≤◌, ◌<◌}
use Rattle.std.proofs.lemmas.Bool.Decides.{nat_tests}
use Rattle.std.proofs.lemmas.Option.{get_or_from_slice_get, slice_get_within}
use Rattle.std.specs.Prelude.{All, nat_lt, Some, slice_get}
use Rattle.ln_tree.specs.Exps.{IsAbove, Pairs}
use Rattle.ln_order.specs.declared.order.Order.{Order}
use Rattle.ln_order.specs.Orders.{orders_of}
use Rattle.ln_order.specs.Places.{order_places}
use Rattle.ln_order.proofs.Listing.OrdersLemmas.{member-is}
use Rattle.ln_verify.specs.Here.{subject_of}
use Rattle.ln_verify.specs.Orders.{SameStages}
use Rattle.ln_verify.proofs.Judging.Wholes.{numbers-are, order-at, order-none, tested}
use Rattle.ln_verify.proofs.Values.Ranges.{not-true}
use Rattle.ln_verify.proofs.orders.is_next.Goals as goal

below : (k m : ℕ) → true ≡ nat_lt k m → k < m
below k m h = grind (arith, nat_tests)

past : (k m : ℕ) → false ≡ nat_lt k m → m ≤ k
past k m h = grind (arith, nat_tests)

order-size : (sites before : ℕ) (o : List ℕ) → slice_get (orders_of sites) before ≡ Some o → length o ≡ sites
order-size sites before o at =
    (member-is sites o (before, slice_get_within (orders_of sites) before o at, get_or_from_slice_get (orders_of sites) before o o at)).size

one-order : (o p : List ℕ) → Some o ≡ Some p → o ≡ p
one-order o p e = cc

pub returns-in_default : goal.returns-in_default
returns-in_default c a =
    let e = subst (λ (xs : List Order). map order_places xs ≡ orders_of c.args.case.now.shape.now.sites) (sym c.as_slice.ensures) c.requires.ordered in (
      λ h. not-true _ h,
      λ h. absurd (order-none c.as_slice.result.now c.args.case.now.shape.now.sites c.args.before c.args.places.now e
          (past _ _ c.in_default.ensures.lookup.0) h.order),
    )

pub returns-then-not-is_order : goal.returns-then-not-is_order
returns-then-not-is_order c a =
    let case = c.args.case.now in
    let o = c.in-Some.o.now in
    let l = c.in-Some.ensures.lookup in
    let e = subst (λ (xs : List Order). map order_places xs ≡ orders_of c.args.case.now.shape.now.sites) (sym c.as_slice.ensures) c.requires.ordered in
    let at = order-at c.as_slice.result.now case.shape.now.sites c.args.before o e (below _ _ l.0) (l.3.1 o) in (
      λ h. not-true _ h,
      λ h. absurd (not-true _ (sym c.if-not-is_order.true ∙ c.is_order.ensures.1 (one-order (order_places o) c.args.places.now (sym at ∙ h.order)))),
    )

pub stage_list-requires : goal.stage_list-requires
stage_list-requires c =
    let case = c.args.case.now in
    let o = c.in-Some.o.now in
    let l = c.in-Some.ensures.lookup in
    let e = subst (λ (xs : List Order). map order_places xs ≡ orders_of c.args.case.now.shape.now.sites) (sym c.as_slice.ensures) c.requires.ordered in
    let at = order-at c.as_slice.result.now case.shape.now.sites c.args.before o e (below _ _ l.0) (l.3.1 o) in
    order-size case.shape.now.sites c.args.before (order_places o) at ∙ sym c.requires.staged.sites

pub same_stages-requires : goal.same_stages-requires
same_stages-requires c =
    let case = c.args.case.now in
    let o = c.in-Some.o.now in
    let l = c.in-Some.ensures.lookup in
    let e = subst (λ (xs : List Order). map order_places xs ≡ orders_of c.args.case.now.shape.now.sites) (sym c.as_slice.ensures) c.requires.ordered in
    let at = order-at c.as_slice.result.now case.shape.now.sites c.args.before o e (below _ _ l.0) (l.3.1 o) in
    let v = c.as_slice-2.ensures.value ∙ c.in_ok-numbers.ensures in
    subst (λ (xs : List ℕ). All (λ i. i < length c.args.case.now.stages.now.exps) xs) (sym v)
    (numbers-are (subject_of case) case.stages.now case.shape.now.kept c.requires.staged c.args.before (order_places o) at)

pub returns : goal.returns
returns c above =
    let case = c.args.case.now in
    let o = c.in-Some.o.now in
    let l = c.in-Some.ensures.lookup in
    let e = subst (λ (xs : List Order). map order_places xs ≡ orders_of c.args.case.now.shape.now.sites) (sym c.as_slice.ensures) c.requires.ordered in
    let at = order-at c.as_slice.result.now case.shape.now.sites c.args.before o e (below _ _ l.0) (l.3.1 o) in
    let v = c.as_slice-2.ensures.value ∙ c.in_ok-numbers.ensures in
    let t = subst
    (λ (xs : List ℕ). (n : ℕ) → All (λ (x : Pairs). IsAbove x n) c.args.exps.now → All (λ (x : Pairs). IsAbove x n) c.args.case.now.stages.now.exps
    → (c.same_stages.result ≡ true) ↔ SameStages n c.args.exps.now c.args.case.now.stages.now.exps c.args.list.now xs)
    v c.same_stages.ensures in
    tested (subject_of case) case.stages.now case.shape.now.kept c.requires.staged c.args.before (order_places o) at c.args.exps.now c.args.list.now
    c.args.places.now c.same_stages.result (c.is_order.ensures.0 c.if-not-is_order.false) above t
